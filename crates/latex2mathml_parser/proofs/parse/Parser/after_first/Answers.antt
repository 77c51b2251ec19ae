use Rattle.latex2mathml_parts.specs.Forests.{trees_in}
use Rattle.latex2mathml_parser.proofs.Combining.{arity_of_one, arity_of_two, first_operand, last_operand}
use Rattle.latex2mathml_parser.proofs.Levels.{signed, unsigned}
use Rattle.latex2mathml_parser.proofs.parse.Parser.after_first.Goals as goal

pub returns-then-take_if-clause-holds : goal.returns-then-take_if-clause-holds
returns-then-take_if-clause-holds c = λ input k.
    let stands = rw (c.if-take_if.true, c.sign.ensures) at c.take_if.ensures.list in
    c.put_back.ensures.holds input (rw (c.two.ensures, arity_of_two c.args.pair) (simp (← first_operand) at (signed stands k)))

pub returns-clause-holds : goal.returns-clause-holds
returns-clause-holds c = λ input k.
    let absent = rw (c.if-take_if.false, c.sign.ensures) at c.take_if.ensures.list in
    c.put.ensures.holds input
    (rw (c.one.ensures, arity_of_one c.args.pair, last_operand _ (trees_in c.args.self.now.parts)) (unsigned absent k))
