use Rattle.std.proofs.Common.{◌≡◌, ◌%◌, ◌∙◌, arith, sym}
use Rattle.latex2mathml_attributes.proofs.ColumnPlaces.{later_pair, second_of_pair}
use Rattle.latex2mathml_attributes.proofs.columns.column_of_pair.Goals as goal

pub returns-then-place-eq0-2 : goal.returns-then-place-eq0-2
returns-then-place-eq0-2 c =
    c.spaced-then-place-eq0-2.ensures ∙ sym (later_pair c.args.place (omega (arith, c.if-place-eq0.false)) c.if-place-eq0-2.true)

pub returns : goal.returns
returns c =
    let odd : c.args.place % 2 ≡ 1 = omega (arith, c.if-place-eq0-2.false) in
    c.spaced-2.ensures ∙ sym (second_of_pair c.args.place odd)
