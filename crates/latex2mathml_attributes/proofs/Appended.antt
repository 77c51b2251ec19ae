-- Texts that are appended one after another.
use Rattle.std.proofs.Common.{◌≡◌, ◌∙◌, ℕ, List, ◌++◌, ap, append_assoc}

-- a text is appended, and the rest after it
pub then : (old new part rest whole : List ℕ) → new ≡ old ++ part → whole ≡ new ++ rest → whole ≡ old ++ (part ++ rest)
then old new part rest whole pushed others = others ∙ ap (λ l. l ++ rest) pushed ∙ append_assoc old part rest
