use Rattle.std.proofs.Common.{ap, length, refl, sym, ◌∙◌}
use Rattle.latex2mathml_builder.specs.Built.{elements_in}
use Rattle.latex2mathml_tex_grammar.specs.Atoms
use Rattle.latex2mathml_tex_commands.specs.Meanings.{class_of, style_of}
use Rattle.latex2mathml_tex_atoms.proofs.Shaping.{length_changed, no_base_changed, unchanged}
use Rattle.latex2mathml_tex_atoms.proofs.shapes.make_base.Goals as goal

pub returns-in-Binary-clause-length : goal.returns-in-Binary-clause-length
returns-in-Binary-clause-length c =
    ap length c.free_sign.ensures ∙ length_changed (Atoms.lone_sign (style_of c.args.style) (class_of c.args.class)) 0 (elements_in c.args.builder.now)

pub returns-in_default : goal.returns-in_default
returns-in_default c =
    let style = style_of c.args.style in
    let class = class_of c.args.class in
    let own = c.args.own in
    record {
      elements = sym (unchanged (Atoms.element_as style class (class_of own)) 0 (elements_in c.args.builder.now) (no_base_changed style class own c.in_default.not-Binary c.in_default.not-Relation));
      length = refl;
    }
