use Rattle.std.proofs.Common.{sym}
use Rattle.latex2mathml_builder.specs.Built.{elements_in}
use Rattle.latex2mathml_tex_grammar.specs.Atoms
use Rattle.latex2mathml_tex_commands.specs.Meanings.{class_of}
use Rattle.latex2mathml_tex_atoms.specs.Models.{before_of}
use Rattle.latex2mathml_tex_atoms.proofs.Shaping.{no_operator_there, unchanged}
use Rattle.latex2mathml_tex_atoms.proofs.signs.adapt_plain.Goals as goal

pub returns-in_default : goal.returns-in_default
returns-in_default c = λ style first.
    let before = before_of c.args.before in
    sym (unchanged (Atoms.element_there style first before (Atoms.Plain (class_of c.args.class))) c.args.depth (elements_in c.args.builder.now) (no_operator_there style first before c.args.class c.in_default.not-Operator))
