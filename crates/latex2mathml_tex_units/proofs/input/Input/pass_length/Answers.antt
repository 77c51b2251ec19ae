use Rattle.std.proofs.Common.{◌≡◌, None, ap, arith, of_z, string_bytes, subst, sym, to_z, w32, ◌∙◌}
use Rattle.std.proofs.lemmas.Int.{ints}
use Rattle.latex2mathml_attributes.specs.Columns.{IsSmall}
use Rattle.latex2mathml_tex_grammar.specs.{Lengths.width_of, RowGaps.space_of}
use Rattle.latex2mathml_tex_grammar.specs.Scanning.{BeforeLength, scan}
use Rattle.latex2mathml_tex_units.specs.Left.{units_at}
use Rattle.latex2mathml_tex_units.proofs.Scanned.{small_space, space_taken, width_is}
use Rattle.latex2mathml_tex_units.proofs.input.Input.pass_length.Goals as goal

pub returns-clause-space : goal.returns-clause-space
returns-clause-space c =
    let same : to_z w32 (of_z w32 c.space_of.result) ≡ c.space_of.result = omega (arith, ints) in
    let none : c.in_ok-scan.field-0 ≡ None = grind (arith, c.is_some.ensures, c.if-is_some.false) in
    same
    ∙ c.space_of.ensures
    ∙ ap space_of (sym (width_is c.width_of.result c.as_str.result.now c.width_of.ensures) ∙ ap width_of c.as_str.ensures.value)
    ∙ sym (space_taken c.in_ok-scan.field-0 (string_bytes c.scan.new.text) _ (units_at c.args.self.now) _ none c.new-text.ensures.bytes c.in_ok-scan.ensures.found)

pub returns-clause-small : goal.returns-clause-small
returns-clause-small c =
    subst IsSmall (sym (returns-clause-space c)) (small_space (scan 0 (units_at c.args.self.now) BeforeLength))
