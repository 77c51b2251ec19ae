-- The units of a text: its slices in turn, each with the byte where it begins. Nothing here scans: a slice, followed by the
-- rest of the text, is a unit, or it is nothing, or the text is refused there.
use Rattle.std.specs.Prelude.{◌≡◌, ℕ, ◌+◌, Bool, ◌||◌, ◌==◌, IsTrue, IsFalse, not, List, [], ◌∷◌, ◌++◌, length, codes, Option, Some, None, ⊤, if◌then◌else◌}
use Rattle.std.specs.{Char.is_ascii_alphabetic, List.AllByRecursion, Str.byte, Str.encode_utf8_all}
pub use Rattle.latex2mathml_elements.specs.Characters.{is_forbidden}
use Rattle.latex2mathml_tex_grammar.specs.Refusal.{LoneBackslash, ForbiddenCharacter, Refusal, refusal_at}

-- what a unit is
pub data Piece : Type 0 where
  -- white space of any length
  Space : Piece
  -- the braces
  Open : Piece
  Close : Piece
  -- a command; its name is its bytes, without the backslash
  Command : List ℕ → Piece
  -- any other character
  Character : ℕ → Piece

-- a unit, and the byte where it begins
pub record Unit : Type 0 where
  pub piece : Piece
  pub place : ℕ

-- a unit of its two parts
abbrev pub unit : Piece → ℕ → Unit
unit piece place = record { piece = piece; place = place }

-- units in turn, and how they end
pub data Units : Type 0 where
  -- a unit, and those after it
  Next : Unit → Units → Units
  -- the end of the text, at this place
  End : ℕ → Units
  -- what is here is not a unit, and is refused
  Stop : Refusal → Units

-- the white space: space, tab, line feed and carriage return
abbrev pub is_space : ℕ → Bool
is_space c = c == byte " " || c == byte "\t" || c == byte "\n" || c == byte "\r"

-- what ends a comment
abbrev pub is_line_feed : ℕ → Bool
is_line_feed c = c == byte "\n"

-- what a comment may hold
abbrev pub is_in_line : ℕ → Bool
is_in_line c = not (is_line_feed c)

-- what begins a unit that is not a character
abbrev pub is_special : ℕ → Bool
is_special c = is_space c || c == byte "{" || c == byte "}" || c == byte "%" || c == byte "\\"

-- the first character, where there is one
abbrev pub head : List ℕ → Option ℕ
head [] = None
head (c ∷ cs) = Some c

-- the character fails the test, or there is none
abbrev pub Stops : (ℕ → Bool) → Option ℕ → Type 0
Stops p None = ⊤
Stops p (Some c) = IsFalse (p c)

-- the slice is the longest run of characters that pass the test, where the rest follows it
pub record IsRun (p : ℕ → Bool) (w rest : List ℕ) : Type 0 where
  pub passes : AllByRecursion (λ c. IsTrue (p c)) w
  pub ends : Stops p (head rest)

-- the name of a command that is a backslash and this character, which is not a letter. A backslash before the end of a line
-- or before a tab counts as one before a space.
abbrev pub symbol_name : ℕ → List ℕ
symbol_name c = if is_space c then codes " " else encode_utf8_all (c ∷ [])

-- the slice w, where the rest follows it, is this piece, or nothing
pub data Spells (w rest : List ℕ) (piece : Option Piece) : Type 0 where
  -- white space, all that is there
  white_space : (c : ℕ) (cs : List ℕ)
      → w ≡ c ∷ cs
      → IsTrue (is_space c)
      → IsRun is_space cs rest
      → piece ≡ Some Space
      → Spells w rest piece
  opening : w ≡ codes "{"
      → piece ≡ Some Open
      → Spells w rest piece
  closing : w ≡ codes "}"
      → piece ≡ Some Close
      → Spells w rest piece
  -- a comment ends with its line
  comment : (cs : List ℕ)
      → w ≡ byte "%" ∷ (cs ++ codes "\n")
      → IsRun is_in_line cs (byte "\n" ∷ rest)
      → piece ≡ None
      → Spells w rest piece
  -- or with the text
  last_comment : (cs : List ℕ)
      → w ≡ byte "%" ∷ cs
      → IsRun is_in_line cs rest
      → rest ≡ []
      → piece ≡ None
      → Spells w rest piece
  -- a backslash and one character that is not a letter
  symbol_command : (c : ℕ)
      → IsFalse (is_ascii_alphabetic c)
      → IsFalse (is_forbidden c)
      → w ≡ byte "\\" ∷ c ∷ []
      → piece ≡ Some (Command (symbol_name c))
      → Spells w rest piece
  -- a backslash and all letters that follow it. The white space after them is part of the slice.
  letter_command : (c : ℕ) (cs space : List ℕ)
      → w ≡ byte "\\" ∷ c ∷ (cs ++ space)
      → IsTrue (is_ascii_alphabetic c)
      → IsRun is_ascii_alphabetic cs (space ++ rest)
      → IsRun is_space space rest
      → piece ≡ Some (Command (encode_utf8_all (c ∷ cs)))
      → Spells w rest piece
  -- any other character
  character : (c : ℕ)
      → IsFalse (is_special c)
      → IsFalse (is_forbidden c)
      → w ≡ c ∷ []
      → piece ≡ Some (Character c)
      → Spells w rest piece

-- the text, which begins at this place, does not begin with a unit, and is refused
pub data IsRefusedAt (place : ℕ) (text : List ℕ) (refusal : Refusal) : Type 0 where
  lone_backslash : text ≡ codes "\\"
      → refusal ≡ refusal_at LoneBackslash place
      → IsRefusedAt place text refusal
  forbidden : (c : ℕ) (rest : List ℕ)
      → IsTrue (is_forbidden c)
      → text ≡ c ∷ rest
      → refusal ≡ refusal_at (ForbiddenCharacter c) place
      → IsRefusedAt place text refusal
  forbidden_name : (c : ℕ) (rest : List ℕ)
      → IsTrue (is_forbidden c)
      → text ≡ byte "\\" ∷ c ∷ rest
      → refusal ≡ refusal_at (ForbiddenCharacter c) (place + 1)
      → IsRefusedAt place text refusal

-- the place after a slice that begins at this one
abbrev pub behind : ℕ → List ℕ → ℕ
behind place w = place + length (encode_utf8_all w)

-- the text, which begins at this place, has these units
pub data HasUnits : ℕ → List ℕ → Units → Type 0 where
  at_end : {place : ℕ} {text : List ℕ} {units : Units}
      → text ≡ []
      → units ≡ End place
      → HasUnits place text units
  refused : {place : ℕ} {text : List ℕ} {units : Units} (refusal : Refusal)
      → IsRefusedAt place text refusal
      → units ≡ Stop refusal
      → HasUnits place text units
  begins_with : {place : ℕ} {text : List ℕ} {units : Units} (w rest : List ℕ) (piece : Piece) (more : Units)
      → text ≡ w ++ rest
      → Spells w rest (Some piece)
      → HasUnits (behind place w) rest more
      → units ≡ Next (unit piece place) more
      → HasUnits place text units
  begins_with_nothing : {place : ℕ} {text : List ℕ} {units : Units} (w rest : List ℕ)
      → text ≡ w ++ rest
      → Spells w rest None
      → HasUnits (behind place w) rest units
      → HasUnits place text units
