use Rattle.std.proofs.Common.{◌≡◌, None, inl, inr, suc, ap, ◌∙◌, sym, arith}
use Rattle.latex2mathml_tex_grammar.specs.{Next.past_space, Starts.mark_of}
use Rattle.latex2mathml_tex_units.specs.{Left.put_back, Left.unit_count, Left.units_at, Taking.piece_of}
use Rattle.latex2mathml_tex.specs.Steps.{left_of}
use Rattle.latex2mathml_tex_units.specs.declared.unit.Unit.{Unit}
use Rattle.latex2mathml_tex_units.specs.declared.unit.Next.TheVariants as next
use Rattle.latex2mathml_tex_grammar.proofs.Shrinking.{no_more_past_space}
use Rattle.latex2mathml_tex_units.proofs.Nexts.{passed}
use Rattle.latex2mathml_tex.proofs.Rows.{scripts_made, step_within}
use Rattle.latex2mathml_tex.proofs.Spaced.{made_spaced}
use Rattle.latex2mathml_tex.proofs.parse.Parser.go_on.Goals as goal
use Rattle.latex2mathml_tex.proofs.parse.Parser.go_on.Goals.{in-Unit+in_default, in-End}

pub returns-in-Some-clause-step : goal.returns-in-Some-clause-step
returns-in-Some-clause-step c =
    let p = c.args.self.now in
    let behind = units_at c.advance.new.self in
    let taken : past_space (left_of p) ≡ put_back c.peek.result behind = sym c.skip_space.ensures.left ∙ passed c.peek.result c.skip_space.new.self c.advance.new.self c.peek.ensures c.advance.ensures.left in
    let one : unit_count (past_space (left_of p)) ≡ suc (unit_count behind) = ap unit_count (taken ∙ ap (λ n. put_back n behind) c.in-Unit.is) in
    let space = no_more_past_space (left_of p) in
    step_within p (record p { input = c.advance.new.self }) c.take_mark.new.self c.take_mark.new.next c.take_mark.result 13 2 (omega (arith, one, space)) c.take_mark.ensures.step

pub returns-clause-step : goal.returns-clause-step
returns-clause-step c =
    let p = c.args.self.now in
    let less = no_more_past_space (left_of p) in
    let skipped : unit_count (units_at c.skip_space.new.self) ≡ unit_count (past_space (left_of p)) = ap unit_count c.skip_space.ensures.left in
    step_within p (record p { input = c.skip_space.new.self; builder = c.scripted.new.builder }) c.put.new.self c.put.new.next c.put.result 2 2 (omega (arith, skipped, less)) c.put.ensures.step

pub returns-clause-holds : goal.returns-clause-holds
returns-clause-holds c = λ s g.
    let p = c.args.self.now in
    let none : (u : Unit) → c.peek.result ≡ next.Unit u → mark_of (piece_of u.piece) ≡ None = λ u e. elim c.match-peek.branch [
      | in-Unit+in_default w ↦ (let same : u ≡ w.in-Unit.unit = cc (e, w.in-Unit.is) in ap (λ x. mark_of (piece_of x.piece)) same ∙ sym w.in_default.ensures)
      | in-End w ↦ elim w.in-End.is [
        | inl is ↦ (let other = is.1 in absurd (cc (other, e)))
        | inr is ↦ (let other = is.2 in absurd (cc (other, e)))
      ]
    ] in
    c.put.ensures.holds s (made_spaced s (record p { builder = c.scripted.new.builder }) c.in_ok-core.core c.skip_space.new.self c.skip_space.ensures.left (scripts_made s p c.scripted.new.builder c.args.core c.in_ok-core.core c.args.scripts c.position-style.ensures.0 c.position-style.result.0 c.position-style.result.1 c.peek.result _ c.position-style.ensures.1.1.1.0 c.position-style.ensures.1.1.1.1 (c.position-style.ensures.1.0, c.position-style.ensures.1.1.0) (sym c.skip_space.ensures.left ∙ c.peek.ensures) none c.in_ok-core.ensures.atom c.in_ok-core.ensures.below g))
