use Rattle.std.proofs.Common.{arith, refl, sym, ◌∙◌}
use Rattle.latex2mathml_parser.proofs.Starts.{taken_letter, token_taken}
use Rattle.latex2mathml_parser.proofs.lexer.Lexer.take_letter.Goals as goal

pub returns : goal.returns
returns c =
    let taken = taken_letter _ _ c.in_ok-c.c _ c.in_ok-c.ensures.first (sym c.is_ascii_alphabetic.ensures.value ∙ c.if-not-is_ascii_alphabetic.false) in
    rw (← c.self.view_is) (token_taken _ _ _ _ _ _ _ _ c.self.inside.comparisons _ taken (λ e. absurd cc) refl (omega arith))
