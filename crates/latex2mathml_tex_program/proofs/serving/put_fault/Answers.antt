use Rattle.std.proofs.Common.{◌≡◌, ◌∙◌, rules, string_bytes}
use Rattle.std.proofs.KnownBytes.{Keeps-refl}
use Rattle.latex2mathml_tex_program.specs.{Exits.LeftOut, Faults.fault_line}
use Rattle.latex2mathml_tex_program.proofs.Lines.{printed_as}
use Rattle.latex2mathml_tex_program.proofs.serving.put_fault.Goals as goal

pub returns-in-Ok : goal.returns-in-Ok
returns-in-Ok g c =
    let said : string_bytes c.in-Ok.line ≡ fault_line c.args.fault.now = search rules in
    record {
      put = printed_as _ _ _ _ c.write_text.result (c.as_str.ensures.value ∙ said)
          c.write_text.ensures.taken c.write_text.ensures.ready c.write_text.ensures.stopped;
    }

pub returns-in_default : goal.returns-in_default
returns-in_default g c = record { put = LeftOut (c.requires, Keeps-refl _) }
