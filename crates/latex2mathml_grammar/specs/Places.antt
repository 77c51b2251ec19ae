-- Places in a text between two tokens, where white space may be inserted. A place is two texts, the one before it and the
-- one after it. Between two tokens, the one before consists of slices and white space, and the one after begins with
-- white space and a slice: nothing scans.
use Rattle.std.specs.Prelude.{◌≡◌, ◌↔◌, ℕ, Bool, false, ◌&&◌, IsTrue, List, [], ◌∷◌, ◌++◌, Some, None}
use Rattle.std.specs.{Char.is_ascii_digit, List.AllPass, Str.chars}
use Rattle.latex2mathml_grammar.specs.Characters.{Begins, head, is_empty, is_space}
use Rattle.latex2mathml_grammar.specs.Rendering.{IsRendering, IsFormulaRefusal}
use Rattle.latex2mathml_grammar.specs.Spelling.{Slice, SpellsAt, HasSlices, HasTokens}
use Rattle.latex2mathml_tokens.specs.{Refusal.Refusal, Tok.Tok, Tok.takes_digit, declared.DisplayStyle.DisplayStyle}

-- the text w, after which the text `behind` follows, is these slices in turn, with or without white space before each
abbrev pub AreSlices : Bool → List ℕ → List ℕ → List Slice → Type 0
AreSlices takes w behind [] = w ≡ []
AreSlices takes w behind (s ∷ ss) =
    (space : List ℕ) × (more : List ℕ)
    × (w ≡ space ++ (s.text ++ more))
    × AllPass is_space space
    × SpellsAt (takes && is_empty space) s.text (head (more ++ behind)) s.token
    × AreSlices (takes_digit (Some s.token)) more behind ss

-- the place between `before` and `after` lies between two tokens of the text that they make together: it is inside no
-- slice, and there is a slice on each side
pub record IsBetweenTokens (before after : List ℕ) : Type 0 where
  -- the text of the slices before the place, and the white space between them and the place
  pub front : List ℕ
  pub left : List ℕ
  -- the slices before it: all but the last, and the last
  pub earlier : List Slice
  pub last : Slice
  -- the white space after the place, the slice that follows it, and the rest of the text
  pub right : List ℕ
  pub next : Slice
  pub rest : List ℕ
  pub before_is : before ≡ front ++ left
  pub after_is : after ≡ right ++ (next.text ++ rest)
  pub slices : AreSlices false front (left ++ after) (earlier ++ last ∷ [])
  pub space : AllPass is_space (left ++ right)
  pub spells : SpellsAt (takes_digit (Some last.token) && is_empty (left ++ right)) next.text (head rest) next.token

-- both slices touch the place, a digit that directly follows the first is a number of its own, and the second begins with
-- a digit
pub record IsDigitPlace {before after : List ℕ} (place : IsBetweenTokens before after) : Type 0 where
  pub touching : place.left ++ place.right ≡ []
  pub takes : IsTrue (takes_digit (Some place.last.token))
  pub digit : Begins is_ascii_digit place.next.text

-- the two texts have the same tokens, and so the same renderings and the same refusals. A text is its bytes here.
pub record IsReadAlike (text other : List ℕ) : Type 0 where
  pub tokens : (ts : List Tok) → HasTokens None (chars text) ts ↔ HasTokens None (chars other) ts
  pub renderings : (display : DisplayStyle) (markup : List ℕ) → IsRendering text display markup ↔ IsRendering other display markup
  pub refusals : (refusal : Refusal) → IsFormulaRefusal text refusal ↔ IsFormulaRefusal other refusal

-- white space changes nothing at a place between two tokens that is not a digit place
abbrev pub SpaceChangesNothing : List ℕ → List ℕ → List ℕ → Type 0
SpaceChangesNothing before space after =
    (place : IsBetweenTokens (chars before) (chars after)) → ¬ (IsDigitPlace place) → AllPass is_space (chars space)
    → IsReadAlike (before ++ after) (before ++ (space ++ after))

-- between two adjacent slices of the text there is a place: white space that separates them may be cut anywhere, and
-- where there is none, the place is where they touch
abbrev pub HasPlaces : List ℕ → Type 0
HasPlaces text =
    (earlier later : List Slice) (last next : Slice) → HasSlices false text (earlier ++ last ∷ next ∷ later)
    → (front space behind : List ℕ)
    × (text ≡ front ++ (space ++ behind))
    × ((left right : List ℕ) → space ≡ left ++ right
    → (place : IsBetweenTokens (front ++ left) (right ++ behind)) × (place.last ≡ last) × (place.next ≡ next))
