-- Runs that grow by one character.
use Rattle.std.proofs.Common.{◌≡◌, ℕ, Bool, true, List, [], ◌∷◌, ◌++◌, sym, ap, ◌∙◌, append_assoc}
use Rattle.std.specs.{List.AllByRecursion, Prelude.IsTrue}

pub passes_push : (p : ℕ → Bool) (w : List ℕ) (c : ℕ) → AllByRecursion (λ x. IsTrue (p x)) w → p c ≡ true → AllByRecursion (λ x. IsTrue (p x)) (w ++ c ∷ [])
passes_push p [] c all h = (h, tt)
passes_push p (x ∷ w) c all h = (all.0, passes_push p w c all.1 h)

pub whole_push : (text w rest after : List ℕ) (c : ℕ) → text ≡ w ++ rest → rest ≡ c ∷ after → text ≡ (w ++ c ∷ []) ++ after
whole_push text w rest after c e f = e ∙ ap (λ k. w ++ k) f ∙ sym (append_assoc w (c ∷ []) after)
