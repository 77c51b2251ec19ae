-- What the lexer's functions return, in the words of the spelling.
use Rattle.std.specs.Prelude.{◌≡◌, ℕ, ◌&&◌, ◌||◌, Bool, true, not, List, [], ◌∷◌, ◌++◌}
use Rattle.std.specs.{Char.is_ascii_digit, Char.is_ascii_alphabetic, Str.byte, Str.encode_utf8_all}
use Rattle.latex2mathml_grammar.specs.{Beginnings.IsLongestRun, Characters.head, Characters.is_empty, Characters.is_space, Spelling.SpellsAt, Spelling.is_digit_or_period}
use Rattle.latex2mathml_parser.specs.declared.lexer.characters.Class.{Class}
use Rattle.latex2mathml_tokens.specs.Commands.{command_token}
use Rattle.latex2mathml_parser.specs.declared.lexer.characters.Class.TheVariants.{Space, Digit, Letter}

-- the test of a class of characters
abbrev pub in_class : Class → ℕ → Bool
in_class Space c = is_space c
in_class Digit c = is_ascii_digit c
in_class Letter c = is_ascii_alphabetic c

-- the text is white space, and then a start that does not begin with white space. `takes` says that a digit at the front of the
-- text is a number of its own, and `alone` that a digit at the start is.
abbrev pub IsStart : Bool → List ℕ → List ℕ → Bool → Type 0
IsStart takes text start alone =
    (space : List ℕ) × IsLongestRun is_space text space start × (alone ≡ (takes && is_empty space))

-- whether a digit is a number by itself, where this text follows it. `alone` says that any digit is one.
abbrev pub is_lone : Bool → List ℕ → Bool
is_lone alone [] = true
is_lone alone (c ∷ cs) = alone || not (is_digit_or_period c)

-- the text is what follows the backslash of a command, and then the rest
abbrev pub BeginsWithName : List ℕ → List ℕ → Type 0
BeginsWithName text rest =
    (w : List ℕ) × (text ≡ w ++ rest) × ((alone : Bool) → SpellsAt alone (byte "\\" ∷ w) (head rest) (command_token (encode_utf8_all w)))
