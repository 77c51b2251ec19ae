use Rattle.std.proofs.lemmas.Result.{on_ok_weaker}
use Rattle.latex2mathml_tex_units.specs.Errors.{refusal_of}
use Rattle.latex2mathml_tex.specs.Answers.{IsRefusal, style_in}
use Rattle.latex2mathml_tex_program.specs.Replies.{IsNoMarkup}
use Rattle.latex2mathml_tex_program.proofs.Refusals.{refusals_weaker}
use Rattle.latex2mathml_tex_program.proofs.reply.append_markup.Goals as goal

pub returns-then-format-clause-markup : goal.returns-then-format-clause-markup
returns-then-format-clause-markup c = λ table same.
    on_ok_weaker c.append_with_source.result
    (λ put. (put.0, (c.formula_in-display.result.1, c.formula_in-display.result.0.now, c.formula_in-display.ensures, rw c.if-format.true put.1), put.2))
    (c.append_with_source.ensures.answer table same)

pub returns-then-format-clause-refusal : goal.returns-then-format-clause-refusal
returns-then-format-clause-refusal c = λ table same.
    let tex = c.formula_in-display.result.0.now in
    let display = c.formula_in-display.result.1 in
    refusals_weaker refusal_of (IsRefusal table tex (style_in display)) (IsNoMarkup table c.args.text.now c.args.format) c.append_with_source.result
    (λ r is. (display, tex, c.formula_in-display.ensures, is)) (c.append_with_source.ensures.refusal table same)

pub returns-else-format-clause-markup : goal.returns-else-format-clause-markup
returns-else-format-clause-markup c = λ table same.
    on_ok_weaker c.append.result
    (λ put. (put.0, (c.formula_in-display.result.1, c.formula_in-display.result.0.now, c.formula_in-display.ensures, rw c.if-format.false put.1), put.2))
    (c.append.ensures.answer table same)

pub returns-else-format-clause-refusal : goal.returns-else-format-clause-refusal
returns-else-format-clause-refusal c = λ table same.
    let tex = c.formula_in-display.result.0.now in
    let display = c.formula_in-display.result.1 in
    refusals_weaker refusal_of (IsRefusal table tex (style_in display)) (IsNoMarkup table c.args.text.now c.args.format) c.append.result
    (λ r is. (display, tex, c.formula_in-display.ensures, is)) (c.append.ensures.refusal table same)
