use Rattle.std.proofs.Common.{◌∙◌, [], ◌∷◌, false, arith, refl, sym, ap}
use Rattle.latex2mathml_grammar.specs.Characters.{is_space}
use Rattle.latex2mathml_parser.proofs.Sights.{no_end, no_end_begun}
use Rattle.latex2mathml_parser.proofs.Starts.{command_taken, starts_here, taken_character, taken_digit, token_taken}
use Rattle.latex2mathml_parser.proofs.lexer.Lexer.take_other.Goals as goal

-- a command

pub invariant_of-self : goal.invariant_of-self
invariant_of-self c =
    let starts = starts_here c.self.inside.takes_digit _ c.in-Some.c _ c.in-Some.ensures.first (ap is_space c.if-c-eq92.true) in
    (command_taken _ _ _ _ _ c.in-Some.c _ _ _ c.self.inside.tokens c.self.inside.comparisons _ starts c.in-Some.ensures.first c.if-c-eq92.true c.command.ensures.lexeme c.command.ensures.alone (no_end_begun _ _ _ _ (c.command.ensures.lexeme false)) c.command.ensures.at_least c.command.ensures.at_most c.self.invariant).0

pub returns-then-c-eq92 : goal.returns-then-c-eq92
returns-then-c-eq92 c =
    let starts = starts_here c.self.inside.takes_digit _ c.in-Some.c _ c.in-Some.ensures.first (ap is_space c.if-c-eq92.true) in
    rw (← c.self.view_is) (command_taken _ _ _ _ _ c.in-Some.c _ _ _ c.self.inside.tokens c.self.inside.comparisons _ starts c.in-Some.ensures.first c.if-c-eq92.true c.command.ensures.lexeme c.command.ensures.alone (no_end_begun _ _ _ _ (c.command.ensures.lexeme false)) c.command.ensures.at_least c.command.ensures.at_most c.self.invariant).1

-- a character that is a token by itself
pub returns-then-stands_alone : goal.returns-then-stands_alone
returns-then-stands_alone c =
    let taken = taken_character _ _ c.in-Some.c _ _ c.in-Some.ensures.first (cc) c.character.ensures.lexeme c.character.ensures.no_digit in
    rw (← c.self.view_is) (token_taken _ _ _ _ _ _ _ _ c.self.inside.comparisons _ taken (λ e. no_end c.in-Some.c (sym c.character.ensures.lexeme ∙ e)) refl (omega arith))

-- a digit that is a number by itself

pub before-requires : goal.before-requires
before-requires c = (c.in-Some.c ∷ [], c.in-Some.ensures.first)

pub returns-then-is_lone : goal.returns-then-is_lone
returns-then-is_lone c =
    let taken = taken_digit c.self.inside.takes_digit _ c.in-Some.c _ _ c.in-Some.ensures.first (cc) (cc) c.before-then-is_lone.ensures in
    rw (← c.self.view_is) (token_taken _ _ _ _ _ _ _ _ c.self.inside.comparisons _ taken (λ e. absurd cc) refl (omega arith))
