use Rattle.std.proofs.Common.{◌∙◌, ap, refl, sym}
use Rattle.latex2mathml_builder.specs.Built.{elements_in}
use Rattle.latex2mathml_tex_grammar.specs.Atoms
use Rattle.latex2mathml_tex_commands.specs.Meanings.{class_of, style_of}
use Rattle.latex2mathml_tex_atoms.specs.{Models.before_of, Shapes.changed_at}
use Rattle.latex2mathml_tex_atoms.proofs.Shaping.{changed_twice, spaced_sign, unchanged}
use Rattle.latex2mathml_tex_atoms.proofs.signs.adapt_sign.Goals as goal

pub returns-in-Relation : goal.returns-in-Relation
returns-in-Relation c =
    let before = before_of c.args.before in
    c.tighten.ensures
    ∙ ap (changed_at (Atoms.tight (style_of c.args.style)) c.args.depth) c.lead.ensures
    ∙ changed_twice (Atoms.led c.leads_relation.result) (Atoms.tight (style_of c.args.style)) c.args.depth (elements_in c.args.builder.now)
    ∙ rw (c.in-Relation.is, c.leads_relation.ensures) refl

pub returns-in_default : goal.returns-in_default
returns-in_default c =
    let style = style_of c.args.style in
    let before = before_of c.args.before in
    let none = c.in_default in
    sym (unchanged (Atoms.element_there style c.args.first before (Atoms.SignOf (class_of c.args.class))) c.args.depth (elements_in c.args.builder.now) (spaced_sign style c.args.first before c.args.class none.not-Binary none.not-Relation none.not-Punctuation none.not-Operator))
