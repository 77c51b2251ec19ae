use Rattle.std.proofs.Common.{◌≡◌, ◌∙◌, ◌+◌, None, inl, inr, ap, refl, sym}
use Rattle.latex2mathml_tex_grammar.specs.Starts.{mark_of}
use Rattle.latex2mathml_tex_units.specs.Taking.{piece_of}
use Rattle.latex2mathml_tex_units.specs.declared.unit.Unit.{Unit}
use Rattle.latex2mathml_tex_units.specs.declared.unit.Next.TheVariants as next
use Rattle.latex2mathml_tex.specs.RowSymbols.{added_state}
use Rattle.latex2mathml_tex.specs.Steps.{Follows, Holds, to_do}
use Rattle.latex2mathml_tex.proofs.Unmarked.{added_follow, added_held, by_test, marks_follow, marks_held}
use Rattle.latex2mathml_tex.proofs.parse.Parser.add_unmarked.Goals as goal
use Rattle.latex2mathml_tex.proofs.parse.Parser.add_unmarked.Goals.{in-Unit+in_default, in-End}

pub returns-in-Some-clause-holds : goal.returns-in-Some-clause-holds
returns-in-Some-clause-holds c = λ s h.
    marks_held c.args.self.now c.args.core c.skip_space.new.self c.skip_space.ensures.left c.args.self.now.frames refl s h

pub returns-in-Some-clause-step : goal.returns-in-Some-clause-step
returns-in-Some-clause-step c =
    marks_follow c.args.self.now c.args.core c.skip_space.new.self c.skip_space.ensures.left c.args.self.now.frames refl c.requires

pub returns-clause-holds : goal.returns-clause-holds
returns-clause-holds c = λ s h.
    let p = c.args.self.now in
    let core = c.args.core in
    let i = c.skip_space.new.self in
    let none : (u : Unit) → c.peek.result ≡ next.Unit u → mark_of (piece_of u.piece) ≡ None = λ u e. elim c.match-peek.branch [
      | in-Unit+in_default w ↦ (let same : u ≡ w.in-Unit.unit = cc (e, w.in-Unit.is) in ap (λ x. mark_of (piece_of x.piece)) same ∙ sym w.in_default.ensures)
      | in-End w ↦ elim w.in-End.is [
        | inl is ↦ (let other = is.1 in absurd (cc (other, e)))
        | inr is ↦ (let other = is.2 in absurd (cc (other, e)))
      ]
    ] in
    by_test (λ b. Holds s (record p { input = i; frames = c.add.new.self }) (added_state b core)) c.add.result
    (λ t. added_held p core i c.skip_space.ensures.left c.add.new.self (c.add.ensures.added t) c.requires s c.peek.result c.peek.ensures none h)
    (λ f. marks_held p core i c.skip_space.ensures.left c.add.new.self (c.add.ensures.unchanged f) s h)

pub returns-clause-step : goal.returns-clause-step
returns-clause-step c =
    let p = c.args.self.now in
    let core = c.args.core in
    let i = c.skip_space.new.self in
    by_test (λ b. Follows (to_do p + 3) (record p { input = i; frames = c.add.new.self }) (added_state b core)) c.add.result
    (λ t. added_follow p core i c.skip_space.ensures.left c.add.new.self (c.add.ensures.added t) c.requires)
    (λ f. marks_follow p core i c.skip_space.ensures.left c.add.new.self (c.add.ensures.unchanged f) c.requires)
