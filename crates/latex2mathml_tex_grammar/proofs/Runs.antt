-- Runs of characters that pass a test.
use Rattle.std.proofs.Common.{◌≡◌, ℕ, Bool, List, [], ◌∷◌, ◌++◌, refl, ap, inl, inr}
use Rattle.std.proofs.lemmas.Bool.{cases_Bool}
use Rattle.latex2mathml_tex_grammar.specs.Cutting.{run_of, behind_run}
use Rattle.latex2mathml_tex_grammar.specs.Units.{IsRun}

-- the text is a run, and the rest
abbrev pub Split : (ℕ → Bool) → List ℕ → Type 0
Split p text = (w : List ℕ) × (rest : List ℕ) × (text ≡ w ++ rest) × IsRun p w rest

-- each text splits after its longest run
pub split : (p : ℕ → Bool) (text : List ℕ) → Split p text
split p [] = ([], [], refl, record { passes = tt; ends = tt })
split p (c ∷ cs) = elim (cases_Bool (p c)) [
  | inl h ↦ (let (w, rest, whole, run) = split p cs in
      (c ∷ w, rest, ap (λ k. c ∷ k) whole, record { passes = (h, run.passes); ends = run.ends }))
  | inr h ↦ ([], c ∷ cs, refl, record { passes = tt; ends = h })
]

-- a run at the front of a text is the one that is computed, and so is what follows it
pub run_is : (p : ℕ → Bool) (w rest : List ℕ) → IsRun p w rest → (run_of p (w ++ rest) ≡ w) × (behind_run p (w ++ rest) ≡ rest)
run_is p [] [] run = (refl, refl)
run_is p [] (c ∷ rest) run = (rw run.ends refl, rw run.ends refl)
run_is p (c ∷ w) rest run =
    let more = run_is p w rest (record { passes = run.passes.1; ends = run.ends }) in
    (rw run.passes.0 (ap (λ k. c ∷ k) more.0), rw run.passes.0 more.1)
