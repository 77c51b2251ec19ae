use Rattle.std.proofs.Common.{◌∙◌, refl, sym}
use Rattle.latex2mathml_builder.specs.Built.{elements_in}
use Rattle.latex2mathml_attributes.specs.Names.{attributes_of, token_of}
use Rattle.latex2mathml_tex_grammar.specs.Atoms
use Rattle.latex2mathml_tex_atoms.proofs.Shaping.{given_changed, no_space_after, unchanged_at}
use Rattle.latex2mathml_tex_atoms.proofs.signs.remove_space_after.Goals as goal

pub returns-in-Some : goal.returns-in-Some
returns-in-Some c =
    c.give.ensures.elements
    ∙ given_changed Atoms.without_space_after (token_of c.in-Some.field-0-0) (attributes_of c.in-Some.attributes) _ (λ text. rw (sym c.only_before.ensures) refl) c.args.depth (elements_in c.args.builder.now) c.in-Some.ensures

pub returns-in_default : goal.returns-in_default
returns-in_default c = sym (unchanged_at Atoms.without_space_after c.args.depth (elements_in c.args.builder.now) (λ x e. no_space_after x (e ∙ c.in_default.ensures)))
