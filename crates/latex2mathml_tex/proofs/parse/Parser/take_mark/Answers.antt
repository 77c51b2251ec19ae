use Rattle.std.proofs.Common.{◌≡◌, arith, sym, ap, ◌∙◌}
use Rattle.latex2mathml_builder.specs.Built.{Built, elements_in}
use Rattle.latex2mathml_attributes.specs.declared.attributes.Side.TheVariants as side
use Rattle.latex2mathml_tex_commands.specs.Meanings.{style_of}
use Rattle.latex2mathml_tex.specs.{Frames.Start, Levels.Leads}
use Rattle.latex2mathml_tex.specs.Steps.{left_of, level_within}
use Rattle.latex2mathml_tex_commands.specs.declared.meaning.Style.TheVariants as style
use Rattle.latex2mathml_tex_atoms.specs.declared.atoms.Context.{Context}
use Rattle.latex2mathml_tex.specs.declared.parse.Parser.{Parser}
use Rattle.latex2mathml_tex.specs.declared.parse.frames.Frame.TheVariants as frame
use Rattle.latex2mathml_tex.proofs.Rows.{refused_step}
use Rattle.latex2mathml_tex.proofs.Marks.{MarkPut, TookIt, above_put, below_put, limits_refused, limits_taken, prime_refused, prime_taken, primes_are_put, script_opened, script_refused}
use Rattle.latex2mathml_tex.proofs.parse.Parser.take_mark.Goals as goal
use Rattle.latex2mathml_tex.proofs.parse.Parser.take_mark.Goals.{in-Above+then-scripts-gt0+in_ok-put_primes-in-Script, in_default, in_default-via-in-Below-1, in_default-via-in-Above+else-scripts-gt0}

pub returns-then-not-scripts-clause-holds : goal.returns-then-not-scripts-clause-holds
returns-then-not-scripts-clause-holds c = λ s g.
    rw (c.refuse.ensures.state, c.refuse.ensures.parser) (limits_refused s c.args.self.now c.args.core c.args.scripts c.args.mark c.args.place c.in-Limits.limits c.in-Limits.is (grind (arith, c.if-not-scripts.true)) g)

pub returns-else-not-scripts-clause-holds : goal.returns-else-not-scripts-clause-holds
returns-else-not-scripts-clause-holds c = λ s g.
    limits_taken s c.args.self.now c.args.core c.args.scripts c.args.mark c.args.place c.in-Limits.limits c.in-Limits.is (grind (arith, c.if-not-scripts.false)) g

pub returns-then-scripts-clause-holds : goal.returns-then-scripts-clause-holds
returns-then-scripts-clause-holds c = λ s g.
    rw (c.refuse-then-scripts.ensures.state, c.refuse-then-scripts.ensures.parser) (prime_refused s c.args.self.now c.args.core c.args.scripts c.args.mark c.args.place c.in-Prime.is c.if-scripts.true g)

pub returns-in-Some-clause-holds : goal.returns-in-Some-clause-holds
returns-in-Some-clause-holds c = λ s g.
    prime_taken s c.args.self.now c.args.core c.args.scripts c.args.mark c.args.place c.in-Some.primes c.in-Prime.is c.if-scripts.false (omega (arith, c.in-Some.ensures.1)) g

pub returns-then-has-clause-holds : goal.returns-then-has-clause-holds
returns-then-has-clause-holds c = λ s g.
    rw (c.refuse-then-has.ensures.state, c.refuse-then-has.ensures.parser, c.second_on.ensures) (script_refused s c.args.self.now c.args.core c.args.scripts c.args.mark c.args.place c.in-Script.side c.in-Script.is (sym c.has.ensures ∙ c.if-has.true) g)

-- the script is due within its frame
abbrev IsDue : goal.After-begin_script → Start → Type 0
IsDue c s =
    let p : Parser = c.match-side.self in
    (s.style ≡ style_of p.style) × Leads (level_within (frame.Script c.args.core c.args.scripts c.in-Script.side c.args.place c.styled-context.result) 0 s p) (left_of p)

is_due : (c : goal.After-begin_script) (s : Start) (b : Built) → c.match-side.self ≡ record c.args.self.now { builder = b } → MarkPut s c.args.self.now c.args.core c.args.scripts c.args.mark c.args.place c.in-Script.side (elements_in b) → TookIt s c.args.self.now c.args.core c.args.scripts c.args.mark c.args.place → IsDue c s
is_due c s b same put g =
    script_opened s c.args.self.now c.args.core c.args.scripts c.args.mark c.args.place c.match-side.self b same c.in-Script.side c.innermost.result c.styled-context.result c.in-Script.is (sym c.has.ensures ∙ c.if-has.false) (c.styled-context.ensures ∙ ap {A = Context} {B = Context} (λ k. record k { style = style.InScript }) c.context.ensures) put g c.innermost.ensures

pub returns-after-side-clause-holds : goal.returns-after-side-clause-holds
returns-after-side-clause-holds c = λ s g.
    let p : Parser = c.args.self.now in
    let due : IsDue c s = elim c.match-side.branch [
      | in-Above+then-scripts-gt0+in_ok-put_primes-in-Script w ↦ is_due c s w.put_primes.new.builder w.self-is (rw w.in-Above.is (primes_are_put s p c.args.core c.args.scripts c.args.mark c.args.place (elements_in w.put_primes.new.builder) (omega (arith, w.if-scripts-gt0.true)) w.in_ok-put_primes-in-Script.ensures)) g
      | in_default w ↦ elim w.in_default.branch [
        | in_default-via-in-Below-1 v ↦ (
            let below : c.in-Script.side ≡ side.Below = search in
            is_due c s p.builder w.self-is (rw below (below_put s p c.args.core c.args.scripts c.args.mark c.args.place)) g)
        | in_default-via-in-Above+else-scripts-gt0 v ↦ is_due c s p.builder w.self-is (rw v.in-Above.is (above_put s p c.args.core c.args.scripts c.args.mark c.args.place (omega (arith, v.if-scripts-gt0.false)))) g
      ]
    ] in
    c.begin_script.ensures.holds s due.0 due.1

pub returns-then-not-scripts-clause-step : goal.returns-then-not-scripts-clause-step
returns-then-not-scripts-clause-step c =
    refused_step c.args.self.now c.refuse.new.self c.args.self.now.input _ c.refuse.result c.refuse.ensures.parser c.refuse.ensures.state (omega arith) (omega (arith, c.requires.elements))

pub returns-then-scripts-clause-step : goal.returns-then-scripts-clause-step
returns-then-scripts-clause-step c =
    refused_step c.args.self.now c.refuse-then-scripts.new.self c.args.self.now.input _ c.refuse-then-scripts.result c.refuse-then-scripts.ensures.parser c.refuse-then-scripts.ensures.state (omega arith) (omega (arith, c.requires.elements))

pub returns-then-has-clause-step : goal.returns-then-has-clause-step
returns-then-has-clause-step c =
    refused_step c.args.self.now c.refuse-then-has.new.self c.args.self.now.input _ c.refuse-then-has.result c.refuse-then-has.ensures.parser c.refuse-then-has.ensures.state (omega arith) (omega (arith, c.requires.elements))

pub returns-else-not-scripts-clause-step : goal.returns-else-not-scripts-clause-step
returns-else-not-scripts-clause-step c = record { ready = record { elements = c.requires.elements; may_come = c.requires.awaits }; falls = omega arith }

pub returns-in-Some-clause-step : goal.returns-in-Some-clause-step
returns-in-Some-clause-step c = record { ready = record { elements = c.requires.elements; may_come = c.requires.awaits }; falls = omega arith }
