use Rattle.std.proofs.Common.{◌≡◌, ◌∙◌, suc, true, false, ap, sym, arith}
use Rattle.std.specs.Str.{byte}
use Rattle.latex2mathml_tex_grammar.specs.{Arguments.is_character, Definitions.is_brace, Definitions.is_number}
use Rattle.latex2mathml_tex_units.specs.Pending.{pending_units}
use Rattle.latex2mathml_tex_units.proofs.Parameters.{few, past_number, past_number_sign, past_sign, taken_unit}
use Rattle.latex2mathml_tex_units.proofs.macros.pending.Pending.take_parameter_text.Goals as goal
use Rattle.latex2mathml_tex_units.proofs.macros.pending.Pending.take_parameter_text.Goals.{then-behind_number_sign+else-not-is_number+in_ok-push, else-behind_number_sign+then-is_character, else-behind_number_sign+else-is_character+else-is_brace+in_ok-push-2}

pub units-preserved : goal.units-preserved
units-preserved c =
    let (u, here, same) = taken_unit c.take.result (pending_units c.units.self) (pending_units c.take.new.self) c.in-Some.piece c.in-Some.ensures c.take.ensures in
    let most = c.units.invariant.most in
    elim c.if-behind_number_sign.branch [
      | then-behind_number_sign+else-not-is_number+in_ok-push w ↦
          let number : is_number c.units.count u.piece ≡ true = ap (is_number c.units.count) same ∙ sym w.is_number.ensures ∙ w.if-not-is_number.false in
          let less = few c.units.count u.piece number in
          let next : c.if-behind_number_sign.count ≡ suc c.units.count = omega (arith, w.count-is) in
          record {
            most = omega (arith, less, next);
            same = past_number c.args.place _ _ _ u here c.units.takes.items c.units.behind_number_sign c.units.count c.units.invariant.same c.if-behind_number_sign.takes.items c.if-behind_number_sign.behind_number_sign c.if-behind_number_sign.count
                w.if-behind_number_sign.true number (ap (λ v. v.items) w.takes-is ∙ w.in_ok-push.ensures.items) w.behind_number_sign-is next;
          }
      | else-behind_number_sign+then-is_character w ↦
          let number : is_character (byte "#") u.piece ≡ true = ap (is_character (byte "#")) same ∙ sym w.is_character.ensures ∙ w.if-is_character.true in
          record {
            most = omega (arith, most, w.count-is);
            same = past_number_sign c.args.place _ _ _ u here c.if-behind_number_sign.takes.items c.units.behind_number_sign c.units.count (rw (w.takes-is) c.units.invariant.same) c.if-behind_number_sign.behind_number_sign c.if-behind_number_sign.count
                w.if-behind_number_sign.false number w.behind_number_sign-is w.count-is;
          }
      | else-behind_number_sign+else-is_character+else-is_brace+in_ok-push-2 w ↦
          let number : is_character (byte "#") u.piece ≡ false = ap (is_character (byte "#")) same ∙ sym w.is_character.ensures ∙ w.if-is_character.false in
          let brace : is_brace u.piece ≡ false = ap is_brace same ∙ sym w.is_brace.ensures ∙ w.if-is_brace.false in
          record {
            most = omega (arith, most, w.count-is);
            same = past_sign c.args.place _ _ _ u here c.units.takes.items c.units.behind_number_sign c.units.count c.units.invariant.same c.in-Some.piece c.if-behind_number_sign.takes.items c.if-behind_number_sign.behind_number_sign c.if-behind_number_sign.count
                w.if-behind_number_sign.false number brace same (ap (λ v. v.items) w.takes-is ∙ w.in_ok-push-2.ensures.items) (w.behind_number_sign-is ∙ w.if-behind_number_sign.false) w.count-is;
          }
    ]
