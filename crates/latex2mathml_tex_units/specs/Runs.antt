-- Runs of characters, by class.
use Rattle.std.specs.Prelude.{◌≡◌, ◌<◌, ℕ, Bool, List, ◌++◌, IsTrue, get_or}
use Rattle.std.specs.{Char.is_ascii_alphabetic, Str.encode_utf8_all}
use Rattle.latex2mathml_tex_grammar.specs.Units.{IsRun, is_in_line, is_space}
use Rattle.latex2mathml_tex_units.specs.declared.lexer.characters.Class.{Class}
use Rattle.latex2mathml_tex_units.specs.declared.lexer.characters.Class.TheVariants as class

-- the test of a class of characters
abbrev pub in_class : Class → ℕ → Bool
in_class class.Space c = is_space c
in_class class.Line c = is_in_line c

-- the text is w followed by the rest, and w is the longest run of characters of the class
abbrev pub IsLongestRun : Class → List ℕ → List ℕ → List ℕ → Type 0
IsLongestRun kind text w rest = (text ≡ w ++ rest) × IsRun (in_class kind) w rest

-- the first n bytes are letters
abbrev pub AreLetters : List ℕ → ℕ → Type 0
AreLetters bytes n = (i : ℕ) → i < n → IsTrue (is_ascii_alphabetic (get_or bytes i 0))

-- the text is w followed by the rest, w is the longest run of letters, and the name is its bytes
pub record IsName (text w name rest : List ℕ) : Type 0 where
  pub whole : text ≡ w ++ rest
  pub run : IsRun is_ascii_alphabetic w rest
  pub bytes : name ≡ encode_utf8_all w
