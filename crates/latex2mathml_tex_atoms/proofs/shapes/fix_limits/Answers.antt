use Rattle.std.proofs.Common.{◌∙◌, sym}
use Rattle.latex2mathml_builder.specs.Built.{elements_in}
use Rattle.latex2mathml_attributes.specs.Names.{attributes_of, token_of}
use Rattle.latex2mathml_tex_grammar.specs.Makes
use Rattle.latex2mathml_tex_grammar.specs.Meaning
use Rattle.latex2mathml_tex_atoms.proofs.Shaping.{given_changed, no_base, no_operator, unchanged_at}
use Rattle.latex2mathml_tex_atoms.proofs.shapes.fix_limits.Goals as goal

pub returns-in_default : goal.returns-in_default
returns-in_default c =
    sym (unchanged_at (Makes.fixed_base Meaning.Stacked) c.args.depth (elements_in c.args.builder.now) (λ x e. no_base x (e ∙ c.in_default.ensures)))

pub returns-in-Mo : goal.returns-in-Mo
returns-in-Mo c =
    c.give.ensures.elements
    ∙ given_changed (Makes.fixed_base Meaning.Stacked) (token_of c.in-Some.tag) (attributes_of c.in-Some.attributes) _ (λ text. rw c.in-Mo.is) c.args.depth (elements_in c.args.builder.now) c.in-Some.ensures

pub returns-in_default-tag : goal.returns-in_default-tag
returns-in_default-tag c =
    sym (unchanged_at (Makes.fixed_base Meaning.Stacked) c.args.depth (elements_in c.args.builder.now) (λ x e. no_operator c.in-Some.tag c.in_default-tag.not-Mo x (attributes_of c.in-Some.attributes) (e ∙ c.in-Some.ensures)))
