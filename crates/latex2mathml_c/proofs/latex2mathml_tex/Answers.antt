use Rattle.std.proofs.Common.{subst}
use Rattle.latex2mathml_c.specs.Call.{IsLength, Room}
use Rattle.latex2mathml_c.specs.TexTexts.{Given, HasTexText, IsTexText}
use Rattle.latex2mathml_c.proofs.{Calls.needed_length, Calls.outcome_weaker, TexTexts.one_tex_text}
use Rattle.latex2mathml_c.proofs.latex2mathml_tex.Goals as goal

pub returns-clause-length : goal.returns-clause-length
returns-clause-length c some =
    let given : Given = record { definitions = c.args.definitions.now; tex = c.args.tex.now; display = c.display.result; flags = c.args.flags } in
    let room : Room = record { old = c.args.out.now; new = c.call_tex.new.out; needed = c.call_tex.new.needed } in
    let outcome = outcome_weaker (IsTexText given c.call_tex.new.place) (HasTexText given) c.call_tex.result room (λ status text is. (c.call_tex.new.place, is)) c.call_tex.ensures.outcome in
    let length = needed_length (HasTexText given) (one_tex_text c.one_reading.ensures c.one_table_of_text.ensures given) c.call_tex.result c.code.result room c.code.ensures outcome some in
    subst (λ d. IsLength (HasTexText (record { definitions = c.args.definitions.now; tex = c.args.tex.now; display = d; flags = c.args.flags })) c.call_tex.new.needed) c.display.ensures length
