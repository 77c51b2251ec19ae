use Rattle.std.proofs.Common.{◌≡◌, ◌∙◌, rules, string_bytes}
use Rattle.latex2mathml_program.specs.Serving.{fault_line}
use Rattle.latex2mathml_program.proofs.Lines.{put_same}
use Rattle.latex2mathml_program.proofs.serving.put_fault.Goals as goal

pub returns-in-Ok : goal.returns-in-Ok
returns-in-Ok g c =
    let said : string_bytes c.in-Ok.line ≡ fault_line c.args.fault.now = search rules in
    record { put = put_same _ _ _ _ (c.as_str.ensures.value ∙ said) c.put_line.ensures.put }
