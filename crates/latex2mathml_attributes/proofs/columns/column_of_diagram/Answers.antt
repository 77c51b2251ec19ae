use Rattle.std.proofs.Common.{◌≡◌, ◌%◌, ◌∙◌, arith, sym}
use Rattle.latex2mathml_attributes.proofs.ColumnPlaces.{arrows_at, objects_at}
use Rattle.latex2mathml_attributes.proofs.columns.column_of_diagram.Goals as goal

pub returns-then-place-eq0 : goal.returns-then-place-eq0
returns-then-place-eq0 c = c.spaced.ensures ∙ sym (objects_at c.args.place c.if-place-eq0.true)

pub returns : goal.returns
returns c =
    let odd : c.args.place % 2 ≡ 1 = omega (arith, c.if-place-eq0.false) in
    c.spaced-2.ensures ∙ sym (arrows_at c.args.place odd)
