use Rattle.std.proofs.Common.{arith}
use Rattle.latex2mathml_tex.proofs.Marks.{script_above, script_behind, script_below}
use Rattle.latex2mathml_tex.proofs.parse.Parser.with_script.Goals as goal

pub returns-in-Below-clause-holds : goal.returns-in-Below-clause-holds
returns-in-Below-clause-holds c = λ s g. script_below s c.args.self.now c.args.core c.args.scripts c.args.height c.args.side c.in-Below.is g

pub returns-in_ok-put_row-in-Above-clause-holds : goal.returns-in_ok-put_row-in-Above-clause-holds
returns-in_ok-put_row-in-Above-clause-holds c = λ s g.
    script_behind s c.args.self.now c.args.core c.args.scripts c.args.height c.put_row.new.builder c.args.side c.in-Above.is (omega (arith, c.if-scripts-gt0.true)) (omega (arith, c.requires.elements)) c.in_ok-put_row-in-Above.ensures g

pub returns-else-scripts-gt0-clause-holds : goal.returns-else-scripts-gt0-clause-holds
returns-else-scripts-gt0-clause-holds c = λ s g.
    script_above s c.args.self.now c.args.core c.args.scripts c.args.height c.args.side c.in-Above.is (omega (arith, c.if-scripts-gt0.false)) g
