-- Refusals that errors report.
use Rattle.std.proofs.Common.{Option, Some, None, Result, Ok, Err, IfErr, IfSome}

some_weaker : {A : Type 0} (P Q : A → Type 0) (found : Option A) → ((a : A) → P a → Q a) → IfSome found P → IfSome found Q
some_weaker P Q (Some a) h p = h a p
some_weaker P Q None h p = p

-- what follows from P for each refusal holds for the refusal that the error reports
pub refusals_weaker : {A B E : Type 0} (reported : E → Option B) (P Q : B → Type 0) (result : Result A E)
    → ((b : B) → P b → Q b)
    → IfErr result (λ error. IfSome (reported error) P)
    → IfErr result (λ error. IfSome (reported error) Q)
refusals_weaker reported P Q (Ok a) h p = p
refusals_weaker reported P Q (Err error) h p = some_weaker P Q (reported error) h p
