use Rattle.std.proofs.Common.{◌≡◌, ◌+◌, ◌||◌, false, suc, true, ap, arith, drop, refl, sym, take, ◌∙◌}
use Rattle.latex2mathml_elements.specs.{Columns.Centered, Columns.Column, Columns.any_lined, Columns.are_lined, Columns.unlined, Lines.is_drawn}
use Rattle.latex2mathml_attributes.specs.{Columns.columns_in, Columns.columns_with, Lines.line_of}
use Rattle.latex2mathml_attributes.proofs.ColumnPlaces.{line_among}
use Rattle.latex2mathml_attributes.proofs.columns.Columns.are_lined.Goals.{in-Listed, in_default}
use Rattle.latex2mathml_attributes.proofs.columns.Columns.are_lined.Goals as goal

pub returns-then-is_drawn-2 : goal.returns-then-is_drawn-2
returns-then-is_drawn-2 c =
    let self = c.args.self.now in
    let listed = take self.len (columns_in self.listed) in
    let one = ap (λ (k : Column). is_drawn k.after) (sym c.listed_at.ensures) ∙ ap is_drawn (sym c.line.ensures) ∙ sym c.if-is_drawn-2.ensures in
    let all = sym c.columns.invariant ∙ line_among (columns_in self.listed) self.len c.columns.place (unlined Centered) true (omega (arith, c.columns-test.true)) refl one in
    elim c.match-matches.branch [
      | in-Listed w ↦
          let kind = ap (λ k. are_lined (columns_with k (line_of self.before) listed)) w.in-Listed.is in
          let either = ap (λ b. b || any_lined listed) (sym c.if-is_drawn.ensures) in
          sym (kind ∙ either ∙ all)
      | in_default w ↦ grind (arith, w.matches-is, c.if-not-matches.false)
    ]

pub columns-preserved : goal.columns-preserved
columns-preserved c =
    let self = c.args.self.now in
    let none = ap (λ (k : Column). is_drawn k.after) (sym c.listed_at.ensures) ∙ ap is_drawn (sym c.line.ensures) ∙ sym c.if-is_drawn-2.ensures in
    let next : c.columns.place + 1 ≡ suc c.columns.place = omega arith in
    ap (λ n. any_lined (drop n (take self.len (columns_in self.listed)))) next
    ∙ sym (line_among (columns_in self.listed) self.len c.columns.place (unlined Centered) false (omega (arith, c.columns-test.true)) refl none)
    ∙ c.columns.invariant
