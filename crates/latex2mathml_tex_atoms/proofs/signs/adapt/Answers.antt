use Rattle.std.proofs.Common.{◌∙◌, ap, sym}
use Rattle.latex2mathml_builder.specs.Built.{elements_in}
use Rattle.latex2mathml_tex_grammar.specs.Atoms
use Rattle.latex2mathml_tex_commands.specs.Meanings.{style_of}
use Rattle.latex2mathml_tex_atoms.specs.Models.{before_of, kind_of}
use Rattle.latex2mathml_tex_atoms.specs.Shapes.{changed_at}
use Rattle.latex2mathml_tex_atoms.proofs.Shaping.{infix_there, no_sign, unchanged}
use Rattle.latex2mathml_tex_atoms.proofs.signs.adapt.Goals as goal

pub returns-else-begins_operand : goal.returns-else-begins_operand
returns-else-begins_operand c =
    let style = style_of c.args.style in
    rw c.in-PlusOrMinus.is
    (c.tighten.ensures
    ∙ ap (changed_at (Atoms.tight style) c.args.depth) c.make_infix.ensures
    ∙ infix_there c.args.depth style c.args.first (before_of c.args.before) (elements_in c.args.builder.now) (sym c.begins_operand.ensures ∙ c.if-begins_operand.false))

pub returns-in_default : goal.returns-in_default
returns-in_default c =
    let style = style_of c.args.style in
    let before = before_of c.args.before in
    sym (unchanged (Atoms.element_there style c.args.first before (kind_of c.args.kind)) c.args.depth (elements_in c.args.builder.now) (no_sign style c.args.first before c.args.kind c.in_default.not-SignOf c.in_default.not-PlusOrMinus c.in_default.not-Plain))

pub returns-in-Plain : goal.returns-in-Plain
returns-in-Plain c = rw c.in-Plain.is (c.adapt_plain.ensures (style_of c.args.style) c.args.first)
