use Rattle.std.proofs.Common.{◌≡◌, ◌∙◌, string_bytes}
use Rattle.latex2mathml_program.specs.Serving.{unconverted_line}
use Rattle.latex2mathml_program.proofs.Lines.{put_same}
use Rattle.latex2mathml_program.proofs.serving.put_unconverted.Goals as goal

pub returns-in-Ok-clause-put : goal.returns-in-Ok-clause-put
returns-in-Ok-clause-put g c =
    let said : string_bytes c.in-Ok.line ≡ unconverted_line c.args.unconverted.now = rw c.as_str-path.ensures.value at c.in-Ok.ensures.ok in
    put_same _ _ _ _ (c.as_str.ensures.value ∙ said) c.put_line.ensures.put
