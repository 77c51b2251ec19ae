use Rattle.std.proofs.Common.{◌∙◌, Some, ap}
use Rattle.latex2mathml_builder.specs.Built.{elements_in}
use Rattle.latex2mathml_attributes.specs.Names.{attributes_of, token_of}
use Rattle.latex2mathml_tex_atoms.proofs.LikeSigns.{is_sign_at, no_sign_at, no_token}
use Rattle.latex2mathml_tex_atoms.proofs.rows.is_spaced_sign.Goals as goal

pub returns-in_default : goal.returns-in_default
returns-in_default c = no_token c.args.depth (elements_in c.args.builder.now) c.in_default.ensures

pub returns-in_default-tag : goal.returns-in_default-tag
returns-in_default-tag c =
    no_sign_at c.args.depth (elements_in c.args.builder.now) c.in-Some.tag (attributes_of c.in-Some.attributes) c.in_default-tag.not-Mo c.in-Some.ensures

pub returns : goal.returns
returns c =
    let a = attributes_of c.in-Some.attributes in
    let found = c.in-Some.ensures ∙ ap (λ t. Some (token_of t, a)) c.in-Mo.is in
    c.has_space.ensures ∙ is_sign_at c.args.depth (elements_in c.args.builder.now) a found
