use Rattle.std.proofs.Common.{false, arith, refl}
use Rattle.latex2mathml_parser.proofs.Sights.{no_end_begun}
use Rattle.latex2mathml_parser.proofs.Starts.{command_taken, none_left, nothing_taken, taken_uncounted, token_taken}
use Rattle.latex2mathml_parser.proofs.lexer.Lexer.take_any.Goals as goal

pub returns-in_default : goal.returns-in_default
returns-in_default c = rw (← c.self.view_is) (nothing_taken _ _ _ (none_left _ _ _ _ c.find_start-start.ensures.start (rw c.in_default.is at c.find_start-start.ensures.first)))

-- a command

pub invariant_of-self : goal.invariant_of-self
invariant_of-self c = (command_taken _ _ _ _ _ c.in-Some.c _ _ _ c.self.inside.tokens c.self.inside.comparisons _ c.find_start-start.ensures.start (rw c.in-Some.is at c.find_start-start.ensures.first) c.if-c-eq92.true c.command.ensures.lexeme c.command.ensures.alone (no_end_begun _ _ _ _ (c.command.ensures.lexeme false)) c.command.ensures.at_least c.command.ensures.at_most c.self.invariant).0

pub returns-then-c-eq92 : goal.returns-then-c-eq92
returns-then-c-eq92 c = rw (← c.self.view_is) (command_taken _ _ _ _ _ c.in-Some.c _ _ _ c.self.inside.tokens c.self.inside.comparisons _ c.find_start-start.ensures.start (rw c.in-Some.is at c.find_start-start.ensures.first) c.if-c-eq92.true c.command.ensures.lexeme c.command.ensures.alone (no_end_begun _ _ _ _ (c.command.ensures.lexeme false)) c.command.ensures.at_least c.command.ensures.at_most c.self.invariant).1

-- any other slice
pub returns : goal.returns
returns c =
    let taken = taken_uncounted _ _ _ _ c.in-Some.c _ _ _ c.find_start-start.ensures.start (rw c.in-Some.is at c.find_start-start.ensures.first) c.if-c-eq92.false c.slice_at-self-inside.ensures.lexeme c.slice_at-self-inside.ensures.no_digit in
    rw (← c.self.view_is) (token_taken _ _ _ _ _ _ _ _ c.self.inside.comparisons _ taken (no_end_begun _ _ _ _ c.slice_at-self-inside.ensures.lexeme) refl (omega arith))
