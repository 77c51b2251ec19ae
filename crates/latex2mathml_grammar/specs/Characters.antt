-- Texts as lists of characters. A character is its code point.
use Rattle.std.specs.Prelude.{ℕ, Bool, true, false, IsTrue, IsFalse, List, [], ◌∷◌, Option, Some, None, codes, ⊤}
use Prim.Native.String.{String}
use Rattle.latex2mathml_tokens.specs.Among.{is_among}

-- the character is one of these
infix 60 ◌∈◌
-- whether a character is in a text
abbrev pub ◌∈◌ : ℕ → String → Bool
c ∈ s = is_among c (codes s)

-- the white space between tokens: space, tab, line feed and carriage return, and no other character
abbrev pub is_space : ℕ → Bool
is_space c = c ∈ " \t\n\r"

-- the text begins with a character that passes the test
abbrev pub Begins : (ℕ → Bool) → List ℕ → Type 0
Begins p [] = ⊥
Begins p (c ∷ cs) = IsTrue (p c)

-- the first character, where there is one
abbrev pub head : List ℕ → Option ℕ
head [] = None
head (c ∷ cs) = Some c

-- the character fails the test, or there is none
abbrev pub Stops : (ℕ → Bool) → Option ℕ → Type 0
Stops p None = ⊤
Stops p (Some c) = IsFalse (p c)

-- whether a text is empty
abbrev pub is_empty : List ℕ → Bool
is_empty [] = true
is_empty (c ∷ cs) = false
