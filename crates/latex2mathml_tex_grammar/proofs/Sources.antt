-- A source, as it is written, holds no character that XML forbids.
use Rattle.std.proofs.Common.{◌≡◌, ℕ, Bool, true, false, List, [], ◌∷◌, cond, map, refl}
use Rattle.std.specs.Str.{NonePass}
use Rattle.latex2mathml_elements.specs.Characters.{IsAllowed}
use Rattle.latex2mathml_tex_grammar.specs.{Formulas.source_character, Formulas.source_text, Units.is_forbidden}

replaced : (c : ℕ) (b : Bool) → is_forbidden c ≡ b → is_forbidden (cond b 0xFFFD c) ≡ false
replaced c true h = refl
replaced c false h = h

none_forbidden : (text : List ℕ) → NonePass is_forbidden (map source_character text)
none_forbidden [] = tt
none_forbidden (c ∷ text) = (replaced c (is_forbidden c) refl, none_forbidden text)

pub source_allowed : (text : List ℕ) → IsAllowed (source_text text)
source_allowed text = (map source_character text, refl, none_forbidden text)
