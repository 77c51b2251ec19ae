use Rattle.std.proofs.Common.{◌∙◌, sym}
use Rattle.latex2mathml_builder.specs.Built.{elements_in}
use Rattle.latex2mathml_attributes.specs.Names.{attributes_of, token_of}
use Rattle.latex2mathml_tex_grammar.specs.Atoms
use Rattle.latex2mathml_tex_commands.specs.Meanings.{class_of, style_of}
use Rattle.latex2mathml_tex_atoms.proofs.Shaping.{given_changed, no_operator_alone, no_sign_alone, unchanged_at}
use Rattle.latex2mathml_tex_atoms.proofs.shapes.free_sign.Goals as goal

pub returns-in_default : goal.returns-in_default
returns-in_default c =
    let style = style_of c.args.style in
    let class = class_of c.args.class in
    sym (unchanged_at (Atoms.lone_sign style class) 0 (elements_in c.args.builder.now) (λ x e. no_sign_alone style class x (e ∙ c.in_default.ensures)))

pub returns-in-Mo : goal.returns-in-Mo
returns-in-Mo c =
    let style = style_of c.args.style in
    let class = class_of c.args.class in
    c.give.ensures.elements
    ∙ given_changed (Atoms.lone_sign style class) (token_of c.in-Some.tag) (attributes_of c.in-Some.attributes) _ (λ text. rw (c.in-Mo.is, c.form_as.ensures, c.space_as.ensures)) 0 (elements_in c.args.builder.now) c.in-Some.ensures

pub returns-in_default-tag : goal.returns-in_default-tag
returns-in_default-tag c =
    let style = style_of c.args.style in
    let class = class_of c.args.class in
    sym (unchanged_at (Atoms.lone_sign style class) 0 (elements_in c.args.builder.now) (λ x e. no_operator_alone c.in-Some.tag c.in_default-tag.not-Mo style class x (attributes_of c.in-Some.attributes) (e ∙ c.in-Some.ensures)))
