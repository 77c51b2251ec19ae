use Rattle.std.proofs.Common.{refl, rules, string_bytes, subst}
use Rattle.std.specs.Prelude.{IsUtf8}
use Rattle.latex2mathml.specs.Inputs.{IsWholeText}
use Rattle.latex2mathml_tex_program.specs.Definitions.{Hold}
use Rattle.latex2mathml_tex_program.specs.Runs.{IsPut, converted, unread}
use Rattle.latex2mathml_tex_program.proofs.Runs.{undefined_passed, unread_passed}
use Rattle.latex2mathml_tex_program.proofs.serving.run.Goals as goal

pub returns-in_err-definitions-clause-outcome : goal.returns-in_err-definitions-clause-outcome
returns-in_err-definitions-clause-outcome g c =
    unread_passed _ c.args.request _ _ c.in_err-definitions.field-0.0 c.from_residual.result c.from_residual.ensures.1
    c.in_err-definitions.ensures.fault

pub returns-in_err-macros-clause-outcome : goal.returns-in_err-macros-clause-outcome
returns-in_err-macros-clause-outcome g c =
    undefined_passed _ c.args.request _ _ c.in_err-macros.field-0.0 (string_bytes c.in_ok-definitions.definitions) c.as_str.result.now
    c.from_residual-in_err-macros.result c.from_residual-in_err-macros.ensures.1
    c.in_ok-definitions.ensures.whole c.as_str.ensures.value c.in_err-macros.ensures.fault

pub returns-in-Err-clause-outcome : goal.returns-in-Err-clause-outcome
returns-in-Err-clause-outcome g c =
    let hold = c.in_ok-macros.ensures.hold in
    let read = c.in-Err.ensures.fault in
    unread (string_bytes c.in_ok-definitions.definitions) read.0 hold.0 c.in-Err.fault
    c.in_ok-definitions.ensures.whole (subst (λ t. Hold c.args.request.definitions t hold.0) c.as_str.ensures.value hold.1)
    read.1 read.2 refl refl

pub returns-clause-outcome : goal.returns-clause-outcome
returns-clause-outcome g c =
    let hold = c.in_ok-macros.ensures.hold in
    let read = c.in-Ok.ensures.whole in
    let text : IsUtf8 (string_bytes c.in-Ok.text) = search rules in
    let whole : IsWholeText (string_bytes c.in-Ok.text) (g.R.Source.state c.read_text.new.source) =
    record { is_unfailed = read.1.0; is_ended = read.1.1; is_text = text } in
    converted (string_bytes c.in_ok-definitions.definitions) (string_bytes c.in-Ok.text) hold.0
    c.in_ok-definitions.ensures.whole (subst (λ t. Hold c.args.request.definitions t hold.0) c.as_str.ensures.value hold.1)
    read.0 whole
    (subst (λ t. IsPut hold.0 t c.args.request (g.W.Sink.state c.args.output.now) (g.W.Sink.state c.put_product.new.output) c.put_product.result)
    c.as_str-2.ensures.value (c.put_product.ensures.put hold.0 hold.2))
