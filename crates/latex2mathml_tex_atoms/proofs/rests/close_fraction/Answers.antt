use Rattle.std.proofs.Common.{◌≡◌, ◌∙◌, ◌+◌, ap, drop, refl, sym}
use Rattle.std.proofs.lemmas.List.{drop-drop}
use Rattle.latex2mathml_builder.specs.Built.{elements_in}
use Rattle.latex2mathml_tex_atoms.specs.Models.{row_count}
use Rattle.latex2mathml_tex_atoms.proofs.rests.close_fraction.Goals as goal

pub returns-clause-below : goal.returns-clause-below
returns-clause-below c =
    let row = c.args.row in
    let ys = elements_in c.args.builder.now in
    let count : row_count row ≡ row.count + 1 = rw (c.requires.none, c.in-Some.is) refl in
    ap (drop 1) c.in_ok-put_fraction.ensures ∙ ap (drop 2) c.in_ok-put_row.ensures ∙ drop-drop 1 row.count ys ∙ ap (λ n. drop n ys) (sym count)
