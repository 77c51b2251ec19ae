use Rattle.std.proofs.Common.{rules, ◌≡◌, ◌∙◌, None, sym}
use Rattle.latex2mathml_builder.specs.{Built.elements_in, Stacks.token_at}
use Rattle.latex2mathml_attributes.specs.Names.{attributes_of, token_of}
use Rattle.latex2mathml_tex_grammar.specs.Atoms
use Rattle.latex2mathml_tex_atoms.proofs.Shaping.{given_changed, no_infix, unchanged, unchanged_at}
use Rattle.latex2mathml_tex_atoms.proofs.signs.make_infix.Goals as goal
use Rattle.latex2mathml_tex_atoms.proofs.signs.make_infix.Goals.{else-first-via-else-first, else-first-via-then-first+in-None-1}

pub returns-in-Some : goal.returns-in-Some
returns-in-Some c =
    c.give.ensures.elements
    ∙ given_changed (Atoms.as_infix c.args.first) (token_of c.in-Some.field-0-0) (attributes_of c.in-Some.attributes) _ (λ text. rw c.if-first.true) c.args.depth (elements_in c.args.builder.now) c.in-Some.ensures

pub returns-else-first : goal.returns-else-first
returns-else-first c =
    let elements = elements_in c.args.builder.now in
    let put = Atoms.as_infix c.args.first in
    elim c.else-first.branch [
      | else-first-via-else-first w ↦ sym (unchanged put c.args.depth elements (λ x. rw w.if-first.false))
      | else-first-via-then-first+in-None-1 w ↦
          let missing : token_at c.args.depth elements ≡ None = search rules in
          sym (unchanged_at put c.args.depth elements (λ x e. no_infix c.args.first x (e ∙ missing)))
    ]
