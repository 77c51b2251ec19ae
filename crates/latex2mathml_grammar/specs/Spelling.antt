-- How a text spells its tokens. Nothing here scans: `SpellsAt` relates a slice of the text, and the character that follows it,
-- to the token that the slice spells.
use Rattle.std.specs.Prelude.{◌≡◌, ℕ, ◌≤◌, Bool, ◌&&◌, ◌||◌, ◌==◌, IsTrue, IsFalse, List, [], ◌∷◌, ◌++◌, map, count_by, codes, Option, Some, None, if◌then◌else◌}
use Rattle.std.specs.{Char.is_ascii_digit, Char.is_ascii_alphabetic, List.AllPass, Str.byte, Str.encode_utf8_all}
use Rattle.latex2mathml_grammar.specs.Characters.{◌∈◌, Begins, Stops, head, is_empty, is_space}
use Rattle.latex2mathml_tokens.specs.Commands.{command_token}
use Rattle.latex2mathml_tokens.specs.Tok.{Tok, Illegal, Ampersand, Paren, LBrace, RBrace, Underscore, Circumflex, Operator, Letter, Number, Command, takes_digit}
use Rattle.latex2mathml_tokens.specs.declared.attribute.Variant.TheVariants.{Normal, Italic}

-- the character is an operator by itself
abbrev pub is_operator : ℕ → Bool
is_operator c = c ∈ "=;,.'+-*/!<>"

-- the character is a parenthesis by itself
abbrev pub is_paren : ℕ → Bool
is_paren c = c ∈ "()[]|"

-- what may begin a longer slice: a digit, the backslash, the colon
abbrev pub begins_longer : ℕ → Bool
begins_longer c = is_ascii_digit c || c ∈ "\\:"

-- the token of any other character
abbrev pub character_token : ℕ → Tok
character_token c =
    if is_operator c then Operator c
    else if is_paren c then Paren (c ∷ [])
    else if c ∈ "{" then LBrace
    else if c ∈ "}" then RBrace
    else if c ∈ "_" then Underscore
    else if c ∈ "^" then Circumflex
    else if c ∈ "&" then Ampersand
    else if c == 0 then Illegal 0  -- NUL
    else if is_ascii_alphabetic c then Letter c Italic
    else Letter c Normal

-- whether a character is a period
abbrev pub is_period : ℕ → Bool
is_period c = c ∈ "."

-- whether a character is an equals sign
abbrev pub is_equals_sign : ℕ → Bool
is_equals_sign c = c ∈ "="

-- whether a character may be in a number
abbrev pub is_digit_or_period : ℕ → Bool
is_digit_or_period c = is_ascii_digit c || is_period c

-- a number: it begins with a digit, holds digits and at most one period, and could not be longer
pub record IsNumber (w : List ℕ) (next : Option ℕ) : Type 0 where
  pub begins : Begins is_ascii_digit w
  pub holds : AllPass is_digit_or_period w
  pub at_most_one : count_by is_period w ≤ 1
  pub ends : Stops is_ascii_digit next
  pub longest : count_by is_period w ≡ 0 → Stops is_period next

-- the slice w, before the character `next` or the end of the text, spells the token t. `alone` says that a digit here is a
-- number of its own.
pub data SpellsAt (alone : Bool) (w : List ℕ) (next : Option ℕ) (t : Tok) : Type 0 where
  -- a character that is a token by itself
  character : (c : ℕ)
      → IsFalse (begins_longer c)
      → IsFalse (is_space c)
      → w ≡ c ∷ []
      → t ≡ character_token c
      → SpellsAt alone w next t
  -- a colon with no equals sign after it
  colon : Stops is_equals_sign next
      → w ≡ codes ":"
      → t ≡ Operator (byte ":")
      → SpellsAt alone w next t
  -- a colon and an equals sign
  colon_equals : w ≡ codes ":="
      → t ≡ Paren (codes ":=")
      → SpellsAt alone w next t
  -- a number, as long as possible
  number : IsFalse alone
      → IsNumber w next
      → t ≡ Number (encode_utf8_all w)
      → SpellsAt alone w next t
  -- one digit, where a digit is a number of its own
  digit : (c : ℕ)
      → IsTrue alone
      → IsTrue (is_ascii_digit c)
      → w ≡ c ∷ []
      → t ≡ Number (encode_utf8_all w)
      → SpellsAt alone w next t
  -- a backslash and any one character that is not an ASCII letter
  symbol_command : (c : ℕ)
      → IsFalse (is_ascii_alphabetic c)
      → w ≡ byte "\\" ∷ c ∷ []
      → t ≡ command_token (encode_utf8_all (c ∷ []))
      → SpellsAt alone w next t
  -- a backslash and all ASCII letters that follow it
  letter_command : (c : ℕ) (cs : List ℕ)
      → w ≡ byte "\\" ∷ c ∷ cs
      → AllPass is_ascii_alphabetic (c ∷ cs)
      → Stops is_ascii_alphabetic next
      → t ≡ command_token (encode_utf8_all (c ∷ cs))
      → SpellsAt alone w next t
  -- a backslash that ends the text
  lone_backslash : w ≡ codes "\\"
      → next ≡ None
      → t ≡ Command []
      → SpellsAt alone w next t

-- a slice of a text, and the token that it spells
pub record Slice : Type 0 where
  pub text : List ℕ
  pub token : Tok

-- the text is white space, a slice that spells its token, and the rest. `takes` says that a digit directly after the previous
-- token is a number of its own.
abbrev pub IsFirstSlice : Bool → List ℕ → Slice → List ℕ → Type 0
IsFirstSlice takes text s rest =
    (space : List ℕ) × (text ≡ space ++ (s.text ++ rest)) × AllPass is_space space × SpellsAt (takes && is_empty space) s.text (head rest) s.token

-- the text is these slices in turn, with or without white space before each of them and at the end
abbrev pub HasSlices : Bool → List ℕ → List Slice → Type 0
HasSlices takes text [] = AllPass is_space text
HasSlices takes text (s ∷ ss) = (rest : List ℕ) × IsFirstSlice takes text s rest × HasSlices (takes_digit (Some s.token)) rest ss

-- after the previous token, the text has these tokens: those of its slices
abbrev pub HasTokens : Option Tok → List ℕ → List Tok → Type 0
HasTokens previous text ts = (slices : List Slice) × HasSlices (takes_digit previous) text slices × (ts ≡ map (λ s. s.token) slices)
