use Rattle.std.proofs.Common.{string_bytes}
use Rattle.std.proofs.lemmas.Result.{IfOk-weaker}
use Rattle.latex2mathml_tex_units.specs.Errors.{refusal_of}
use Rattle.latex2mathml_tex.specs.Answers.{IsAnswer, IsAnswerWithSource, IsRefusal, style_in}
use Rattle.latex2mathml_tex_program.specs.Replies.{IsMarkup, IsNoMarkup}
use Rattle.latex2mathml_tex_program.proofs.Refusals.{refusals_weaker}
use Rattle.latex2mathml_tex_program.proofs.reply.markup.Goals as goal

pub returns-then-format-clause-markup : goal.returns-then-format-clause-markup
returns-then-format-clause-markup c = λ table same.
    let tex = c.formula_in-display.result.0.now in
    let display = c.formula_in-display.result.1 in
    IfOk-weaker c.tex_to_mathml_with_source.result
    (λ markup. IsAnswerWithSource table tex (style_in display) (string_bytes markup))
    (λ markup. IsMarkup table c.args.text.now c.args.format (string_bytes markup))
    (λ markup is. (display, tex, c.formula_in-display.ensures, rw c.if-format.true is))
    (c.tex_to_mathml_with_source.ensures.answer table same)

pub returns-then-format-clause-refusal : goal.returns-then-format-clause-refusal
returns-then-format-clause-refusal c = λ table same.
    let tex = c.formula_in-display.result.0.now in
    let display = c.formula_in-display.result.1 in
    refusals_weaker refusal_of (IsRefusal table tex (style_in display)) (IsNoMarkup table c.args.text.now c.args.format) c.tex_to_mathml_with_source.result
    (λ r is. (display, tex, c.formula_in-display.ensures, is)) (c.tex_to_mathml_with_source.ensures.refusal table same)

pub returns-else-format-clause-markup : goal.returns-else-format-clause-markup
returns-else-format-clause-markup c = λ table same.
    let tex = c.formula_in-display.result.0.now in
    let display = c.formula_in-display.result.1 in
    IfOk-weaker c.tex_to_mathml.result
    (λ markup. IsAnswer table tex (style_in display) (string_bytes markup))
    (λ markup. IsMarkup table c.args.text.now c.args.format (string_bytes markup))
    (λ markup is. (display, tex, c.formula_in-display.ensures, rw c.if-format.false is))
    (c.tex_to_mathml.ensures.answer table same)

pub returns-else-format-clause-refusal : goal.returns-else-format-clause-refusal
returns-else-format-clause-refusal c = λ table same.
    let tex = c.formula_in-display.result.0.now in
    let display = c.formula_in-display.result.1 in
    refusals_weaker refusal_of (IsRefusal table tex (style_in display)) (IsNoMarkup table c.args.text.now c.args.format) c.tex_to_mathml.result
    (λ r is. (display, tex, c.formula_in-display.ensures, is)) (c.tex_to_mathml.ensures.refusal table same)
