-- Counts that go on from step to step.
use Rattle.std.proofs.Common.{◌≡◌, ℕ, ◌+◌, ◌≤◌, ◌∷◌, length, ap, ◌∙◌, arith}
use Rattle.std.proofs.lemmas.List.Sums.{sum_by-cons}
use Rattle.latex2mathml_grammar.specs.Openers.{openers, opens}
use Rattle.latex2mathml_parser.specs.{Unread.GoesOn, Unread.OpensFor, Unread.Unread}
use Rattle.latex2mathml_tokens.specs.Tok.{Tok}

-- a token opens at most one frame
pub opens-≤ : (t : Tok) → opens t ≤ 1
opens-≤ t = grind (arith)

pub GoesOn-trans : (a b c : Unread) → GoesOn a b → GoesOn b c → GoesOn a c
GoesOn-trans a b c h i = record {
  tokens = omega arith;
  more = omega arith;
  openers = omega arith;
  rest = λ slices stands. i.rest slices (h.rest slices stands);
  at_least = omega arith;
  at_most = omega arith;
}

-- a token is taken, and a frame is opened for the one before it
pub OpensFor-one : (t : Tok) (a b : Unread) (m n : ℕ) → a.list ≡ t ∷ b.list → GoesOn a b → n ≤ m → OpensFor a b m (n + opens t)
OpensFor-one t a b m n stood counts h =
    let shorter : length a.list ≡ 1 + length b.list = ap length stood ∙ omega arith in
    let fewer : openers a.list ≡ opens t + openers b.list = ap openers stood ∙ sum_by-cons opens t b.list in
    let one = opens-≤ t in
    record { taken = omega arith; openers = omega arith }
