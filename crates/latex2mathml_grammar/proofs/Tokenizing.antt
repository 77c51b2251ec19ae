-- No slice begins with white space or is empty, so each slice takes something from the text.
use Rattle.std.proofs.Common.{◌≡◌, ℕ, ◌<◌, Bool, false, List, [], ◌∷◌, length, Option, arith, length-append}
use Rattle.std.proofs.lemmas.Bool.Decides.{nat_tests}
use Rattle.latex2mathml_grammar.specs.Characters.{is_space}
use Rattle.latex2mathml_grammar.specs.Spelling.{SpellsAt, Slice, IsFirstSlice, number}
use Rattle.latex2mathml_tokens.specs.Tok.{Tok}

-- the list begins with a character that is not white space
abbrev pub Dark : List ℕ → Type 0
Dark [] = ⊥
Dark (c ∷ cs) = is_space c ≡ false

-- no slice begins with white space
pub spells_dark : (alone : Bool) (w : List ℕ) (next : Option ℕ) (t : Tok) → SpellsAt alone w next t → Dark w
spells_dark alone [] next t (number a n f) = absurd n.begins
spells_dark alone (c ∷ w) next t (number a n f) = (let digit = n.begins in grind (arith, nat_tests, digit))
spells_dark alone w next t spells = grind (arith, nat_tests)

-- so a step leaves less of the text
pub step_shortens : (takes : Bool) (text rest : List ℕ) (s : Slice) → IsFirstSlice takes text s rest → length rest < length text
step_shortens takes text rest s step =
    let dark = spells_dark _ _ _ _ step.3 in grind (arith, length-append {A = ℕ}, dark, step.1)
