use Rattle.std.proofs.Common.{arith}
use Rattle.latex2mathml_tex.specs.Steps.{core_made, elements_of}
use Rattle.latex2mathml_tex.specs.declared.parse.frames.Frame.TheVariants as frame
use Rattle.latex2mathml_tex.proofs.Opening.{pushed}
use Rattle.latex2mathml_tex.proofs.Rows.{step_within}
use Rattle.latex2mathml_tex.proofs.Taken.{pushed_can, pushed_weight}
use Rattle.latex2mathml_tex.proofs.parse.Parser.open_words.Goals as goal

pub text-requires : goal.text-requires
text-requires c =
    let p = c.args.self.now in
    record { begin = pushed_can p c.push.new.self (frame.Last c.args.last c.args.place c.args.context) c.in_ok-push.ensures core_made 0 0 (omega (arith, c.requires.alone)) c.requires.begin search }

pub returns-clause-holds : goal.returns-clause-holds
returns-clause-holds c = λ s e k.
    let p = c.args.self.now in
    let around = pushed s p.frames.stack.items (frame.Last c.args.last c.args.place c.args.context) (elements_of p) in
    c.text.ensures.holds s (record { style = e; leads = rw (c.in_ok-push.ensures, around) k })

pub returns-clause-step : goal.returns-clause-step
returns-clause-step c =
    let p = c.args.self.now in
    let weight = pushed_weight p c.push.new.self (frame.Last c.args.last c.args.place c.args.context) c.in_ok-push.ensures in
    step_within p (record p { frames = c.push.new.self }) c.text.new.self c.text.new.next c.text.result 6 10 (omega (arith, weight)) c.text.ensures.step
