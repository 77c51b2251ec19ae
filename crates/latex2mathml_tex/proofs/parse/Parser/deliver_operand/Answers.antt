use Rattle.std.proofs.Common.{arith}
use Rattle.latex2mathml_tex.specs.declared.parse.frames.Frame.TheVariants as frame
use Rattle.latex2mathml_tex.proofs.{Operands.first_taken, Operands.last_taken, Operands.script_taken, Taken.taken_can, Taken.taken_step}
use Rattle.latex2mathml_tex.proofs.parse.Parser.deliver_operand.Goals as goal

pub returns-in-Script-clause-holds : goal.returns-in-Script-clause-holds
returns-in-Script-clause-holds c = λ s g.
    c.with_script.ensures.holds s (script_taken s c.args.self.now c.take.new.self c.in-Script.core c.in-Script.scripts c.in-Script.side c.in-Script.field-3 c.in-Script.field-4 c.args.operand c.in-Script.ensures g)

pub returns-in-Last-clause-holds : goal.returns-in-Last-clause-holds
returns-in-Last-clause-holds c = λ s g.
    c.make.ensures.holds s (last_taken s c.args.self.now c.take.new.self c.in-Last.last c.in-Last.field-1 c.in-Last.field-2 c.args.operand c.in-Last.ensures g)

pub returns-in-First-clause-holds : goal.returns-in-First-clause-holds
returns-in-First-clause-holds c = λ s g.
    let first = c.in-First in
    c.after_first.ensures.holds s (first_taken s c.args.self.now c.take.new.self first.first first.place first.context c.args.operand first.ensures g)

pub after_first-requires : goal.after_first-requires
after_first-requires c =
    let first = c.in-First in
    taken_can c.args.self.now c.take.new.self (frame.First first.first first.place first.context) first.ensures 1 _ c.requires.elements c.requires.may_come.nested (omega arith)

pub make-requires : goal.make-requires
make-requires c =
    let last = c.in-Last in
    taken_can c.args.self.now c.take.new.self (frame.Last last.last last.field-1 last.field-2) last.ensures 1 _ c.requires.elements c.requires.may_come.nested (omega arith)

pub returns-in-Last-clause-step : goal.returns-in-Last-clause-step
returns-in-Last-clause-step c =
    let last = c.in-Last in
    taken_step c.args.self.now c.take.new.self (frame.Last last.last last.field-1 last.field-2) last.ensures 4 2 c.make.new.self c.make.new.next c.make.result (omega arith) c.make.ensures.step

pub returns-in-First-clause-step : goal.returns-in-First-clause-step
returns-in-First-clause-step c =
    let first = c.in-First in
    taken_step c.args.self.now c.take.new.self (frame.First first.first first.place first.context) first.ensures 10 2 c.after_first.new.self c.after_first.new.next c.after_first.result (omega arith) c.after_first.ensures.step

pub returns-in-Script-clause-step : goal.returns-in-Script-clause-step
returns-in-Script-clause-step c =
    let script = c.in-Script in
    taken_step c.args.self.now c.take.new.self (frame.Script script.core script.scripts script.side script.field-3 script.field-4) script.ensures 3 2 c.with_script.new.self c.with_script.new.next c.with_script.result (omega arith) c.with_script.ensures.step
