-- Ligatures: characters in words that are set as one if nothing is between them, such as two dashes.
use Rattle.std.specs.Prelude.{ℕ, ◌==◌, ◌&&◌, ◌||◌, Bool, Option, Some, None, if◌then◌else◌}
use Rattle.std.specs.Str.{byte}
use Rattle.latex2mathml_tex_grammar.specs.{Symbols.Alphabet, Words.Font, Words.Usual, Words.Typewriter, Words.font_in}
use Rattle.latex2mathml_tex_grammar.specs.Units.{Piece, Character, Units, Next}

-- the character that two are set as, if they are set as one: dashes, or quotation marks
abbrev pub ligature : ℕ → ℕ → Option ℕ
ligature first second =
    if second == byte "-" && first == byte "-" then Some 0x2013  -- –
    else if second == byte "-" && first == 0x2013 then Some 0x2014  -- —
    else if second == byte "`" && first == byte "`" then Some 0x201C  -- “
    else if second == byte "'" && first == byte "'" then Some 0x201D  -- ”
    else None

-- whether a ligature can begin with the character
abbrev pub begins_ligature : ℕ → Bool
begins_ligature c = c == byte "-" || c == byte "`" || c == byte "'"

-- the character, if a ligature can begin with it. A typewriter has no ligatures, and a character with an accent joins no other.
abbrev pub first_in : Option ℕ → Font → ℕ → Option ℕ
first_in (Some accent) font c = None
first_in None Typewriter c = None
first_in None Usual c = if begins_ligature c then Some c else None

-- the character that a unit is in words in this alphabet, if a ligature can begin with it; the accent is the one that it gets
abbrev pub ligature_start : Option ℕ → Option Alphabet → Piece → Option ℕ
ligature_start accent alphabet (Character c) = first_in accent (font_in alphabet) c
ligature_start accent alphabet piece = None

-- the character that one and this unit are set as, if they are set as one
abbrev pub joint : ℕ → Piece → Option ℕ
joint c (Character d) = ligature c d
joint c piece = None

-- what follows a joint, if there is one, and otherwise this
abbrev pub behind_joint : Option ℕ → ℕ × Units → (ℕ → ℕ × Units) → ℕ × Units
behind_joint (Some c) here behind = behind c
behind_joint None here behind = here

-- what a character and the units that join it are set as, and the units after them
abbrev pub joined : ℕ → Units → ℕ × Units
joined c (Next u l) = behind_joint (joint c u.piece) (c, Next u l) (λ d. joined d l)
joined c l = (c, l)
