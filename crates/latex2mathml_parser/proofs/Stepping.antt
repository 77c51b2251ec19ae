-- The steps of the parser: what they answer, and what they count.
use Rattle.std.proofs.Common.{◌≡◌, ℕ, ◌+◌, ◌≤◌, ◌∷◌, Result, Ok, Err, ap, arith}
use Rattle.std.specs.Prelude.{IfOk, sum_by}
use Rattle.std.specs.declared.alloc.AllocError.{AllocError}
use Rattle.latex2mathml_grammar.specs.Openers.{opens}
use Rattle.latex2mathml_parser.specs.{Steps.Counted, Steps.Follows, Steps.IsStep, Steps.StacksWithin, Steps.frame_weight, Unread.GoesOn}
use Rattle.latex2mathml_tokens.specs.Tok.{Tok}
use Rattle.latex2mathml_parser.specs.{declared.parse.Parser.Parser, declared.parse.State.State}
use Rattle.latex2mathml_parser.proofs.{Levels.unprimed, Levels.unscripted, Progress.GoesOn-trans, Progress.OpensFor-one}

-- what is counted from step to step
pub counted_on : (p q r : Parser) → Counted 0 p q → Counted 0 q r → Counted 0 p r
counted_on p q r h i = record {
  counts = GoesOn-trans _ _ _ h.counts i.counts;
  frames = record { taken = omega arith; openers = omega arith };
}

pub counted_none : (p : Parser) → Counted 0 p p
counted_none p = record {
  counts = record {
    tokens = omega arith;
    more = omega arith;
    openers = omega arith;
    rest = λ slices stands. stands;
    at_least = omega arith;
    at_most = omega arith;
  };
  frames = record { taken = omega arith; openers = omega arith };
}

-- the greatest number of frames bounds the stack
pub stacks_within : (p q : Parser) → Counted 0 p q → StacksWithin p q
stacks_within p q h = omega (arith, h.frames.taken, q.frames.covered)

-- a token is taken, which may open a frame
pub counted_taken : (t : Tok) (p q r : Parser) → p.lexer.list ≡ t ∷ q.lexer.list → GoesOn p.lexer q.lexer → q.frames.greatest ≡ p.frames.greatest → Counted (opens t) q r → Counted 0 p r
counted_taken t p q r stood counts same h =
    let opened = OpensFor-one t p.lexer q.lexer (p.frames.greatest + 0) q.frames.greatest stood counts (omega arith) in
    record { counts = GoesOn-trans _ _ _ counts h.counts; frames = record { taken = omega arith; openers = omega arith } }

-- less is left to do than a greater bound
follows_within : {a b : ℕ} (p : Parser) (r : Result State AllocError) → IfOk r (Follows a p) → a ≤ b → IfOk r (Follows b p)
follows_within p (Ok s) h within = record { trees = h.trees; falls = omega arith }
follows_within p (Err e) h within = tt

-- a step after tokens that are passed over
pub step_after : {n a b : ℕ} (p q r : Parser) (answer : Result State AllocError) → IsStep n a q r answer → GoesOn p.lexer q.lexer → q.frames ≡ p.frames → a ≤ b → IsStep n b p r answer
step_after p q r answer h counts same within =
    let greatest = ap (λ f. f.greatest) same in
    record {
      counted = record {
        counts = GoesOn-trans _ _ _ counts h.counted.counts;
        frames = record { taken = omega arith; openers = omega arith };
      };
      follows = follows_within _ answer h.follows (omega (arith, ap (λ f. sum_by frame_weight f.stack.items) same));
    }

-- what the step after a core needs
pub ruleset steps_after_core = (unprimed, unscripted, step_after)
