use Rattle.std.proofs.Common.{◌≡◌, ◌∙◌, ◌+◌, ◌-ℤ◌, Some, ap, arith, of_z, option_map, refl, sym, to_z, w32}
use Rattle.std.proofs.lemmas.Int.{ints}
use Rattle.latex2mathml_tex_grammar.specs.Atoms
use Rattle.latex2mathml_tex_grammar.specs.SpaceTable
use Rattle.latex2mathml_tex_commands.specs.Meanings.{class_of, style_of}
use Rattle.latex2mathml_tex_atoms.specs.Models.{before_of, kind_of}
use Rattle.latex2mathml_tex_atoms.proofs.Shaping.{gap_there}
use Rattle.latex2mathml_tex_atoms.proofs.atoms.Before.gap.Goals as goal

pub returns : goal.returns
returns c =
    let style = style_of c.args.style in
    let before = before_of c.args.self in
    let kind = kind_of c.args.kind in
    let own = Atoms.own_after style before + Atoms.own_before style before kind in
    let left : Atoms.class_before before ≡ Some (class_of c.in-Some-Some.left) = sym c.class.ensures ∙ ap (option_map class_of) c.in-Some-Some.is-0 in
    let right : Atoms.class_before (Atoms.past before kind) ≡ Some (class_of c.in-Some-Some.right) =
    ap Atoms.class_before (sym c.past.ensures) ∙ sym c.class-2.ensures ∙ ap (option_map class_of) c.in-Some-Some.is-1 in
    let space : Atoms.table_space style (Atoms.class_before before) (Atoms.class_before (Atoms.past before kind)) ≡ Some c.in-Some.width =
    rw (left, right) (ap (SpaceTable.width style) (sym c.of.ensures) ∙ sym c.width.ensures ∙ c.in-Some.is) in
    let same : to_z w32 (of_z w32 (to_z w32 (of_z w32 c.from.result) -ℤ to_z w32 (of_z w32 c.from-2.result))) ≡ c.from.result -ℤ c.from-2.result = omega (arith, ints) in
    same
    ∙ rw (c.from.ensures, c.from-2.ensures, c.own_after.ensures.width, c.own_before.ensures.width, sym (gap_there style before c.args.kind c.in_default.not-Blank), space) refl
