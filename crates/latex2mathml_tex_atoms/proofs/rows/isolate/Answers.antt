use Rattle.std.proofs.Common.{rules, ◌≡◌, ◌∙◌, ◌<◌, ap, arith, false, length, sym, take}
use Rattle.latex2mathml_builder.specs.Built.{elements_in}
use Rattle.latex2mathml_tex_grammar.specs.Atoms
use Rattle.latex2mathml_tex_grammar.specs.Rows
use Rattle.latex2mathml_tex_atoms.specs.Models.{kind_of}
use Rattle.latex2mathml_tex_atoms.proofs.Shaping.{last_sign, length_changed, no_lone_sign}
use Rattle.latex2mathml_tex_atoms.proofs.rows.isolate.Goals as goal
use Rattle.latex2mathml_tex_atoms.proofs.rows.isolate.Goals.{else-count-eq1-via-then-count-eq1+else-is_spaced, else-count-eq1-via-else-count-eq1}
use Rattle.latex2mathml_tex_atoms.proofs.rows.isolate.Goals.{else-count-gt1-via-then-count-gt1+else-leaves_space, else-count-gt1-via-else-count-gt1}

pub returns-then-is_spaced-clause-length : goal.returns-then-is_spaced-clause-length
returns-then-is_spaced-clause-length c = ap length c.remove_space.ensures ∙ length_changed Atoms.without_space 0 (elements_in c.args.builder.now)

pub returns-then-leaves_space-clause-row : goal.returns-then-leaves_space-clause-row
returns-then-leaves_space-clause-row c =
    ap (take c.args.count) c.remove_space_after.ensures
    ∙ last_sign (kind_of c.args.last) c.args.count (elements_in c.args.builder.now) (sym c.if-leaves_space.ensures) (omega (arith, c.if-count-gt1.true)) (omega (arith, c.requires))

pub returns-then-leaves_space-clause-length : goal.returns-then-leaves_space-clause-length
returns-then-leaves_space-clause-length c = ap length c.remove_space_after.ensures ∙ length_changed Atoms.without_space_after 0 (elements_in c.args.builder.now)

pub returns-else-count-gt1-clause-row : goal.returns-else-count-gt1-clause-row
returns-else-count-gt1-clause-row c =
    let xs = elements_in c.args.builder.now in
    let other : length (take c.args.count xs) ≡ 1 → Rows.is_spaced (kind_of c.args.last) ≡ false = λ one.
    elim c.else-count-eq1.branch [
      | else-count-eq1-via-then-count-eq1+else-is_spaced w ↦ search rules
      | else-count-eq1-via-else-count-eq1 w ↦ search rules
    ]
    in
    let still : 1 < length (take c.args.count xs) → Rows.leaves_space (kind_of c.args.last) ≡ false = λ several.
    elim c.else-count-gt1.branch [
      | else-count-gt1-via-then-count-gt1+else-leaves_space w ↦ search rules
      | else-count-gt1-via-else-count-gt1 w ↦ search rules
    ]
    in
    no_lone_sign (kind_of c.args.last) (take c.args.count xs) other still
