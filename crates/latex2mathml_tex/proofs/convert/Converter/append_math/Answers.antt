use Rattle.std.proofs.Common.{refl}
use Rattle.latex2mathml_tex_units.specs.MacroTables.{macros_in}
use Rattle.latex2mathml_tex.proofs.Answering.{answered, answered_with_source}
use Rattle.latex2mathml_tex.proofs.convert.Converter.append_math.Goals as goal

pub put_row-requires : goal.put_row-requires
put_row-requires c = (rw c.in-Some.is at c.in_ok-count.ensures (macros_in c.args.macros.now) (λ name. refl)).2.all

pub write_math-requires : goal.write_math-requires
write_math-requires c = (rw c.in-Some.is at c.in_ok-count.ensures (macros_in c.args.macros.now) (λ name. refl)).2.all

pub returns-then-is_annotated-clause-read : goal.returns-then-is_annotated-clause-read
returns-then-is_annotated-clause-read c = λ table same.
    rw c.if-is_annotated.true
    (answered_with_source table c.args.tex.now _ _ _ _ _ _ (rw c.in-Some.is at c.in_ok-count.ensures table same) c.in_ok-put_row.ensures c.in_ok-write_annotated_math.ensures)

pub returns-clause-read : goal.returns-clause-read
returns-clause-read c = λ table same.
    rw c.if-is_annotated.false (answered table c.args.tex.now _ _ _ _ _ (rw c.in-Some.is at c.in_ok-count.ensures table same) c.in_ok-write_math.ensures)
