use Rattle.std.proofs.Common.{rules, ◌≡◌, ◌∙◌, None, sym}
use Rattle.latex2mathml_builder.specs.{Built.elements_in, Stacks.token_at}
use Rattle.latex2mathml_attributes.specs.Names.{attributes_of, token_of}
use Rattle.latex2mathml_tex_grammar.specs.Makes
use Rattle.latex2mathml_tex_atoms.proofs.Shaping.{given_changed, no_divider, no_fence, unchanged_at}
use Rattle.latex2mathml_tex_atoms.proofs.delimiters.lower_divider.Goals as goal
use Rattle.latex2mathml_tex_atoms.proofs.delimiters.lower_divider.Goals.{in_default-via-in-None-1, in_default-via-in-Some+else-attributes}

pub returns-then-attributes : goal.returns-then-attributes
returns-then-attributes c =
    c.give.ensures.elements
    ∙ given_changed Makes.lowered_divider (token_of c.in-Some.field-0-0) (attributes_of c.in-Some.attributes) _ (λ text. rw c.if-attributes.true) c.args.depth (elements_in c.args.builder.now) c.in-Some.ensures

pub returns-in_default : goal.returns-in_default
returns-in_default c =
    let elements = elements_in c.args.builder.now in
    elim c.in_default.branch [
      | in_default-via-in-None-1 w ↦
          let missing : token_at c.args.depth elements ≡ None = search rules in
          sym (unchanged_at Makes.lowered_divider c.args.depth elements (λ x e. no_divider x (e ∙ missing)))
      | in_default-via-in-Some+else-attributes w ↦
          sym (unchanged_at Makes.lowered_divider c.args.depth elements (λ x e. no_fence x _ (attributes_of w.in-Some.attributes) (e ∙ w.in-Some.ensures) w.if-attributes.false))
    ]
