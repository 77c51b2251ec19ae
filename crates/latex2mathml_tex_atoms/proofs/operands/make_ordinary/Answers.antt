use Rattle.std.proofs.Common.{◌∙◌, ◌+◌, ap, arith, drop, length, take}
use Rattle.latex2mathml_builder.specs.Built.{elements_in}
use Rattle.latex2mathml_tex_grammar.specs.Atoms
use Rattle.latex2mathml_tex_atoms.specs.Models.{row_with}
use Rattle.latex2mathml_tex_atoms.specs.declared.atoms.Before.TheVariants as before
use Rattle.latex2mathml_tex_commands.specs.declared.meaning.Class.TheVariants as class
use Rattle.latex2mathml_tex_atoms.proofs.LastSigns.{changed_below, kept_above, kept_below, made_ordinary}
use Rattle.latex2mathml_tex_atoms.proofs.Shaping.{length_changed}
use Rattle.latex2mathml_tex_atoms.proofs.operands.make_ordinary.Goals as goal

pub returns-then-row-gt0-clause-row : goal.returns-then-row-gt0-clause-row
returns-then-row-gt0-clause-row c =
    let xs = elements_in c.args.builder.now in
    ap (row_with (record c.args.row { before = before.After class.Ordinary })) (ap (drop c.args.depth) c.remove_space.ensures ∙ changed_below Atoms.without_space c.args.depth xs)
    ∙ made_ordinary c.args.row (drop c.args.depth xs) c.if-row-gt0.true

pub returns-then-row-gt0-clause-above : goal.returns-then-row-gt0-clause-above
returns-then-row-gt0-clause-above c = ap (take c.args.depth) c.remove_space.ensures ∙ kept_above Atoms.without_space c.args.depth (elements_in c.args.builder.now)

pub returns-then-row-gt0-clause-below : goal.returns-then-row-gt0-clause-below
returns-then-row-gt0-clause-below c = λ n enough.
    ap (drop (c.args.depth + n)) c.remove_space.ensures
    ∙ kept_below Atoms.without_space c.args.depth n (elements_in c.args.builder.now) (omega (arith, enough, c.if-row-gt0.true))

pub returns-then-row-gt0-clause-length : goal.returns-then-row-gt0-clause-length
returns-then-row-gt0-clause-length c = ap length c.remove_space.ensures ∙ length_changed Atoms.without_space c.args.depth (elements_in c.args.builder.now)
