use Rattle.latex2mathml_tex.proofs.SymbolOperands.{script_read}
use Rattle.latex2mathml_tex.proofs.parse.Parser.begin_script.Goals as goal

pub returns-in-Some-clause-holds : goal.returns-in-Some-clause-holds
returns-in-Some-clause-holds c = λ s style leads.
    let took = rw c.in-Some.is at c.in_ok-put.ensures in
    c.with_script.ensures.holds s (script_read s c.args.self.now c.put_symbol_operand.new.input c.put_symbol_operand.new.builder c.args.core c.args.scripts c.args.side c.args.place c.args.context _ style took leads)

pub returns-clause-holds : goal.returns-clause-holds
returns-clause-holds c = λ s style leads.
    let same = rw c.in_default.is at c.in_ok-put.ensures in
    c.open.ensures.holds s style (rw (same.0, same.1) leads)
