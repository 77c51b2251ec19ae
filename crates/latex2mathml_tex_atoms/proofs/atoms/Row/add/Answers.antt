use Rattle.std.proofs.Common.{rules, ◌≡◌, ◌∙◌, ◌+◌, ◌==◌, ◌&&◌, false, suc, ap, arith, drop, refl, pos, sym, take}
use Rattle.latex2mathml_elements.specs.Element.{Element}
use Rattle.latex2mathml_tex_grammar.specs.Atoms
use Rattle.latex2mathml_tex_grammar.specs.Rows
use Rattle.latex2mathml_tex_commands.specs.Meanings.{class_of, style_of}
use Rattle.latex2mathml_tex_atoms.specs.Models.{before_of, height_of, kind_of, restyled_with, settled_count, top, under_with}
use Rattle.latex2mathml_tex_atoms.proofs.Shaping.{put_as_it_is, put_at_any_height, same_below, same_far_below, same_row}
use Rattle.latex2mathml_tex_atoms.proofs.atoms.Row.add.Goals as goal

pub returns-clause-added : goal.returns-clause-added
returns-clause-added c = λ t.
    let row = c.args.self.now in
    let style = style_of c.args.style in
    let before = before_of row.before in
    let kind = kind_of c.args.core.kind in
    let longer : c.in-Some.count ≡ row.count + 1 = omega (arith, c.in-Some.ensures.1) in
    let next : row.count + 1 ≡ suc row.count = omega arith in
    let joining = Rows.joining (kind_of row.last) kind in
    let apart : joining ≡ Rows.Apart = search rules in
    let none : Atoms.gap style before kind ≡ pos 0 = search rules in
    let stays : (x : Element) → Atoms.element_there style (row.count == 0) before kind x ≡ x = λ x. search rules in
    let whole : (Atoms.awaits_second (kind_of row.last) before && Atoms.kind_ends_operand kind) ≡ false = search rules in
    record {
      row = λ xs enough. rw whole (same_row _ _ _ _ _ _ _ _ _ _ _ _ _ _
          (ap (λ n. take n xs) (longer ∙ next) ∙ put_as_it_is joining row.count style before kind xs (omega (arith, enough)) apart none stays ∙ put_at_any_height joining style before kind (height_of c.args.core.height) (top xs) (take row.count (drop 1 xs)))
          c.past-self.ensures
          refl
          c.larger-height.ensures
          (c.class_after-self.ensures xs enough ∙ ap (λ b. Rows.class_with b (class_of row.class) (take row.count (drop 1 xs)) kind) (sym apart))
          (ap (restyled_with row.restyled row.settled) (same_below row.count c.in-Some.count xs xs (ap (λ n. drop n xs) longer)))
          (ap (under_with row.under) (same_far_below row.count c.in-Some.count xs xs (ap (λ n. drop n xs) longer) (settled_count row.restyled row.settled))));
      count = longer;
      rest = refl;
    }
