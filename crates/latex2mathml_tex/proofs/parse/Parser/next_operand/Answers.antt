use Rattle.std.proofs.Common.{arith}
use Rattle.latex2mathml_tex.proofs.Rows.{step_within}
use Rattle.latex2mathml_tex.proofs.SymbolOperands.{operand_follows, operand_held}
use Rattle.latex2mathml_tex.proofs.parse.Parser.next_operand.Goals as goal

pub deliver_operand-requires : goal.deliver_operand-requires
deliver_operand-requires c =
    let took = rw c.in-Some.is at c.in_ok-put.ensures in
    (operand_follows c.args.self.now c.args.place c.in-Some.operand c.context-context.result c.put_symbol_operand.new.input c.put_symbol_operand.new.builder c.requires.due took c.requires.ready).ready

pub returns-in-Some-clause-holds : goal.returns-in-Some-clause-holds
returns-in-Some-clause-holds c = λ s g.
    let took = rw c.in-Some.is at c.in_ok-put.ensures in
    c.deliver_operand.ensures.holds s (operand_held s c.args.self.now c.args.place c.in-Some.operand c.context-context.result c.innermost.result c.put_symbol_operand.new.input c.put_symbol_operand.new.builder c.requires.due c.context-context.ensures c.innermost.ensures took g)

pub returns-in-Some-clause-step : goal.returns-in-Some-clause-step
returns-in-Some-clause-step c =
    let p = c.args.self.now in
    let took = rw c.in-Some.is at c.in_ok-put.ensures in
    step_within p (record p { input = c.put_symbol_operand.new.input; builder = c.put_symbol_operand.new.builder }) c.deliver_operand.new.self c.deliver_operand.new.next c.deliver_operand.result 2 1 (omega (arith, took.fewer)) c.deliver_operand.ensures.step

pub returns-clause-holds : goal.returns-clause-holds
returns-clause-holds c = λ s g.
    let same = rw c.in_default.is at c.in_ok-put.ensures in
    c.other_operand.ensures.holds s (rw (same.0, same.1) g)
