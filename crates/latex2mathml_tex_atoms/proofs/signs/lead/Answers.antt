use Rattle.std.proofs.Common.{rules, ◌≡◌, ◌∙◌, None, refl, sym}
use Rattle.latex2mathml_builder.specs.{Built.elements_in, Stacks.token_at}
use Rattle.latex2mathml_attributes.specs.Names.{attributes_of, token_of}
use Rattle.latex2mathml_tex_grammar.specs.Atoms
use Rattle.latex2mathml_tex_atoms.proofs.Shaping.{given_changed, no_lead, unchanged, unchanged_at}
use Rattle.latex2mathml_tex_atoms.proofs.signs.lead.Goals as goal
use Rattle.latex2mathml_tex_atoms.proofs.signs.lead.Goals.{else-leads-via-else-leads, else-leads-via-then-leads+in-None-1}

pub returns-in-Some : goal.returns-in-Some
returns-in-Some c =
    c.give.ensures.elements
    ∙ given_changed (Atoms.led c.args.leads) (token_of c.in-Some.field-0-0) (attributes_of c.in-Some.attributes) _ (λ text. rw (c.if-leads.true, sym c.only_after.ensures) refl) c.args.depth (elements_in c.args.builder.now) c.in-Some.ensures

pub returns-else-leads : goal.returns-else-leads
returns-else-leads c =
    let elements = elements_in c.args.builder.now in
    let put = Atoms.led c.args.leads in
    elim c.else-leads.branch [
      | else-leads-via-else-leads w ↦ sym (unchanged put c.args.depth elements (λ x. rw w.if-leads.false refl))
      | else-leads-via-then-leads+in-None-1 w ↦
          let missing : token_at c.args.depth elements ≡ None = search rules in
          sym (unchanged_at put c.args.depth elements (λ x e. rw w.if-leads.true (no_lead x (e ∙ missing))))
    ]
