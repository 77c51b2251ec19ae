use Rattle.std.proofs.Common.{◌∙◌, sym}
use Rattle.latex2mathml_tex_program.proofs.Formulas.{all_without_nul, begins_after_nul, begins_at_nul, split_at_nul}
use Rattle.latex2mathml_tex_program.proofs.texts.first_text.Goals as goal

pub split_at-requires : goal.split_at-requires
split_at-requires c = begins_at_nul c.args.texts.now c.in-Some.place (sym c.first_nul.ensures ∙ c.in-Some.is)

pub split_at-requires-in-Some : goal.split_at-requires-in-Some
split_at-requires-in-Some c =
    begins_after_nul c.args.texts.now c.split_at.result.1.now c.in-Some.place c.utf8.texts (sym c.first_nul.ensures ∙ c.in-Some.is) c.split_at.ensures.back

pub returns-in-Some : goal.returns-in-Some
returns-in-Some c =
    split_at_nul c.args.texts.now c.split_at.result.0.now c.split_at.result.1.now c.split_at-in-Some.result.1.now c.in-Some.place
    (sym c.first_nul.ensures ∙ c.in-Some.is) c.split_at.ensures.front c.split_at.ensures.back c.split_at-in-Some.ensures.back

pub returns-in-None : goal.returns-in-None
returns-in-None c = all_without_nul c.args.texts.now (sym c.first_nul.ensures ∙ c.in-None.is)
