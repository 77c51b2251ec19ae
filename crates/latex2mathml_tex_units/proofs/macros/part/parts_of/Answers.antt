use Rattle.std.proofs.Common.{◌∙◌, ap, sym}
use Rattle.std.specs.Prelude.{option_map}
use Rattle.latex2mathml_tex_units.specs.Bodies.{part_of}
use Rattle.latex2mathml_tex_units.proofs.Bodies.{argument_found, piece_found, sign_found}
use Rattle.latex2mathml_tex_units.proofs.macros.part.parts_of.Goals as goal
use Rattle.latex2mathml_tex_units.proofs.macros.part.parts_of.Goals.{then-behind_sign+in-Some+in_ok-push, else-behind_sign+then-is_character, else-behind_sign+else-is_character+in_ok-push-2}

pub loop-unit-preserved : goal.loop-unit-preserved
loop-unit-preserved c =
    elim c.if-behind_sign.branch [
      | then-behind_sign+in-Some+in_ok-push w ↦ argument_found c.args.arity c.args.units.now c.loop-unit.unit-index _ _ _ c.loop-unit.parts.items _ w.in-Some.part _ c.loop-unit.invariant c.loop-unit-test.true w.if-behind_sign.true (sym w.parameter_part.ensures ∙ ap (option_map part_of) w.in-Some.is) (ap (λ v. v.items) w.parts-is ∙ w.in_ok-push.ensures.items) w.behind_sign-is
      | else-behind_sign+then-is_character w ↦ sign_found c.args.arity c.args.units.now c.loop-unit.unit-index _ _ _ c.loop-unit.parts.items _ _ c.loop-unit.invariant c.loop-unit-test.true w.if-behind_sign.false (sym w.is_character.ensures ∙ w.if-is_character.true) (ap (λ v. v.items) w.parts-is) w.behind_sign-is
      | else-behind_sign+else-is_character+in_ok-push-2 w ↦ piece_found c.args.arity c.args.units.now c.loop-unit.unit-index _ _ _ c.loop-unit.parts.items _ _ c.loop-unit.invariant c.loop-unit-test.true w.if-behind_sign.false (sym w.is_character.ensures ∙ w.if-is_character.false) (ap (λ v. v.items) w.parts-is ∙ w.in_ok-push-2.ensures.items) w.behind_sign-is
    ]
