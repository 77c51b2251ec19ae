-- A text has one rendering, and a map that is given only renderings holds nothing else.
use Rattle.std.proofs.Common.{◌≡◌, ℕ, Bool, true, false, cond, List, Option, Some, None, String, Bor, refl, sym, subst, string_bytes}
use Rattle.std.specs.{Prelude.IfSome, Prelude.option_map, Prelude.option_copied, Cmp.Lexicographic.bytes_decides}
use Rattle.std.specs.{HashMap.HashMap, HashMap.get_by_text, Map.update, Str.bytes_eq}
use Rattle.latex2mathml.specs.Formulas.{DisplayStyle, IsRendering, HasOneRendering}
use Rattle.latex2mathml_uses.specs.Cached.{HoldsRenderings, IsOnlyRendering}

-- a rendering of a text with one rendering is the only one
pub only_rendering : (text : List ℕ) (display : DisplayStyle) (markup : List ℕ) → HasOneRendering text display → IsRendering text display markup → IsOnlyRendering text display markup
only_rendering text display markup one is =
    record { rendering = is; no_other = λ other also. one.one_rendering other markup also is }

-- what holds of an entry in a map holds of the entry that the map lends
pub lent : {Y : Type 0} (P : List ℕ → Type 0) (o : Option (Bor (String Y))) (m : Option (String Y)) → option_copied o ≡ m → IfSome (option_map string_bytes m) P → IfSome o (λ x. P (string_bytes x.now))
lent P None m e h = tt
lent P (Some x) m e h = subst (λ v. IfSome (option_map string_bytes v) P) (sym e) h

-- with one more rendering the map still holds only renderings
pub one_more : {K V S : Type 0} (old new : HashMap (String K) (String V) S) (text : List ℕ) (markup : String V) (display : DisplayStyle) → HoldsRenderings display old → IsOnlyRendering text display (string_bytes markup) → ((q : List ℕ) → get_by_text new q ≡ update bytes_eq (get_by_text old) text (Some markup) q) → HoldsRenderings display new
one_more old new text markup display sound only sets q =
    subst (λ o. IfSome (option_map string_bytes o) (λ m. IsOnlyRendering q display m)) (sym (sets q)) (at (bytes_eq text q) refl)
  where
    at : (b : Bool) → bytes_eq text q ≡ b → IfSome (option_map string_bytes (cond b (Some markup) (get_by_text old q))) (λ m. IsOnlyRendering q display m)
    at true same = subst (λ t. IsOnlyRendering t display (string_bytes markup)) ((bytes_decides text q).0 same) only
    at false differs = sound q
