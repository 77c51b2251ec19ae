use Rattle.std.proofs.Common.{ap, length, refl, sym, ◌∙◌}
use Rattle.latex2mathml_builder.specs.Built.{elements_in}
use Rattle.latex2mathml_attributes.specs.Names.{attributes_of, token_of}
use Rattle.latex2mathml_tex_grammar.specs.Makes
use Rattle.latex2mathml_tex_commands.specs.Meanings.{class_of}
use Rattle.latex2mathml_tex_atoms.proofs.Shaping.{given_changed, length_changed, no_operator_spaced, no_space_alone, unchanged_at}
use Rattle.latex2mathml_tex_atoms.proofs.shapes.space_sign.Goals as goal

pub returns-in_default : goal.returns-in_default
returns-in_default c =
    let class = class_of c.args.class in
    let own = class_of c.args.own in
    record {
      elements = sym (unchanged_at (Makes.spaced_as class own) 0 (elements_in c.args.builder.now) (λ x e. no_space_alone class own x (e ∙ c.in_default.ensures)));
      length = refl;
    }

pub returns-in-Mo : goal.returns-in-Mo
returns-in-Mo c =
    let class = class_of c.args.class in
    let own = class_of c.args.own in
    let changed = c.give.ensures.elements
    ∙ given_changed (Makes.spaced_as class own) (token_of c.in-Some.tag) (attributes_of c.in-Some.attributes) _ (λ text. rw (c.in-Mo.is, c.class_space.ensures)) 0 (elements_in c.args.builder.now) c.in-Some.ensures in
    record {
      elements = changed;
      length = ap length changed ∙ length_changed (Makes.spaced_as class own) 0 (elements_in c.args.builder.now);
    }

pub returns-in_default-tag : goal.returns-in_default-tag
returns-in_default-tag c =
    let class = class_of c.args.class in
    let own = class_of c.args.own in
    record {
      elements = sym (unchanged_at (Makes.spaced_as class own) 0 (elements_in c.args.builder.now) (λ x e. no_operator_spaced c.in-Some.tag c.in_default-tag.not-Mo class own x (attributes_of c.in-Some.attributes) (e ∙ c.in-Some.ensures)));
      length = refl;
    }
