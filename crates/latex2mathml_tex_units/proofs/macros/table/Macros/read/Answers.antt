use Rattle.latex2mathml_tex_units.proofs.DefinedTables.{text_defined, text_refused}
use Rattle.latex2mathml_tex_units.proofs.macros.table.Macros.read.Goals as goal

pub returns-in-Ok-clause-answer : goal.returns-in-Ok-clause-answer
returns-in-Ok-clause-answer c = text_defined _ c.in-Ok.scope c.in-Ok.ensures

pub returns-in-Ok-clause-defined : goal.returns-in-Ok-clause-defined
returns-in-Ok-clause-defined c =
    let (table, defines, same) = text_defined _ c.in-Ok.scope c.in-Ok.ensures in
    (_, table, defines, same)

pub returns-in-Err-Refused-clause-refusal : goal.returns-in-Err-Refused-clause-refusal
returns-in-Err-Refused-clause-refusal c =
    let read = rw c.in-Err-Refused.field-0-is at c.in-Err-Refused.ensures in
    rw c.of_fault.ensures (text_refused _ c.in-Err-Refused.fault c.in-Err-Refused.place read)
