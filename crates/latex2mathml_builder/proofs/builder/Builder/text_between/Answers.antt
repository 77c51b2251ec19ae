use Rattle.std.proofs.Common.{ap, subst, sym, ◌∙◌}
use Rattle.latex2mathml_builder.specs.Built.{IsCut}
use Rattle.latex2mathml_builder.proofs.Parts.{boundary}
use Rattle.latex2mathml_builder.proofs.builder.Builder.text_between.Goals as goal

pub range-requires-clause-start_boundary : goal.range-requires-clause-start_boundary
range-requires-clause-start_boundary c = λ some.
    boundary c.as_str.result.now c.args.start c.as_str.utf8 (subst (λ l. IsCut l c.args.start) (sym (c.as_str.ensures.value ∙ ap (λ b. b.texts) c.self.view_is)) c.requires.1.0)

pub range-requires-clause-end_boundary : goal.range-requires-clause-end_boundary
range-requires-clause-end_boundary c =
    boundary c.as_str.result.now c.args.end c.as_str.utf8 (subst (λ l. IsCut l c.args.end) (sym (c.as_str.ensures.value ∙ ap (λ b. b.texts) c.self.view_is)) c.requires.1.1)
