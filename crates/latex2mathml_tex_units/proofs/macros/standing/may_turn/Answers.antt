use Rattle.std.proofs.Common.{◌∙◌, ap, not, sym, rules}
use Rattle.latex2mathml_tex_units.proofs.TurningForms.{no_first, no_second, no_usual, turns_more, turns_none, turns_one}
use Rattle.latex2mathml_tex_units.proofs.macros.standing.may_turn.Goals as goal

pub returns-in-empty-clause-usual : goal.returns-in-empty-clause-usual
returns-in-empty-clause-usual c = λ none. no_usual c.args.name.now (turns_none c.args.name.now _ c.as_bytes.ensures.value c.in-empty.len_below)

pub returns-in_default-clause-usual : goal.returns-in_default-clause-usual
returns-in_default-clause-usual c = λ none. no_usual c.args.name.now (turns_one c.args.name.now _ c.as_bytes.ensures.value c.in-len1.len_at_least c.in-len1.len_below ∙ search rules)

pub returns-in_default-2-clause-usual : goal.returns-in_default-2-clause-usual
returns-in_default-2-clause-usual c = λ none. no_usual c.args.name.now (turns_one c.args.name.now _ c.as_bytes.ensures.value c.in-len1.len_at_least c.in-len1.len_below ∙ search rules)

pub returns-then-is_turning_form-clause-usual : goal.returns-then-is_turning_form-clause-usual
returns-then-is_turning_form-clause-usual c = λ none.
    no_usual c.args.name.now (turns_more c.args.name.now _ c.as_bytes.ensures.value c.in-len2-up.len_at_least ∙ no_second _ _ (ap not (sym c.is_frequent.ensures) ∙ none))

pub returns-else-is_turning_form-clause-usual : goal.returns-else-is_turning_form-clause-usual
returns-else-is_turning_form-clause-usual c = λ none.
    no_usual c.args.name.now (turns_more c.args.name.now _ c.as_bytes.ensures.value c.in-len2-up.len_at_least ∙ no_first _ _ (sym c.is_turning_form.ensures ∙ none))
