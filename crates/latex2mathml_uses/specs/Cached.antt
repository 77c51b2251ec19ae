-- What a map of renderings holds.
use Rattle.std.specs.Prelude.{◌≡◌, ℕ, List, Option, String, IfSome, option_map, string_bytes}
use Rattle.std.specs.HashMap.{HashMap, get_by_text}
use Rattle.latex2mathml.specs.Formulas.{DisplayStyle, IsRendering}

-- the markup is a rendering of the text, and the text has no other rendering
pub record IsOnlyRendering (text : List ℕ) (display : DisplayStyle) (markup : List ℕ) : Type 0 where
  pub rendering : IsRendering text display markup
  pub no_other : (other : List ℕ) → IsRendering text display other → other ≡ markup

-- what a map holds at a text, if anything
abbrev pub text_at : {K V S : Type 0} → HashMap (String K) (String V) S → List ℕ → Option (List ℕ)
text_at m text = option_map string_bytes (get_by_text m text)

-- whatever the map holds at a text is its rendering
abbrev pub HoldsRenderings : {K V S : Type 0} → DisplayStyle → HashMap (String K) (String V) S → Type 0
HoldsRenderings display m = (text : List ℕ) → IfSome (text_at m text) (λ markup. IsOnlyRendering text display markup)
