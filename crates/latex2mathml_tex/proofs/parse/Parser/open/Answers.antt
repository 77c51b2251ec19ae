use Rattle.std.proofs.Common.{arith}
use Rattle.latex2mathml_tex.specs.Steps.{core_made}
use Rattle.latex2mathml_tex.proofs.Taken.{pushed_can, pushed_weight}
use Rattle.latex2mathml_tex.proofs.parse.Parser.open.Goals as goal

pub returns-clause-step : goal.returns-clause-step
returns-clause-step c =
    let p = c.args.self.now in
    let fr = c.push.new.self in
    let f = c.args.frame in
    let can = pushed_can p fr f c.in_ok-push.ensures core_made 0 _ (omega arith) c.requires.can c.requires.accepts in
    let brought = pushed_weight p fr f c.in_ok-push.ensures in
    record { ready = record { elements = can.elements; may_come = can.awaits }; falls = omega (arith, brought) }
