-- The slices of a text, computed, so that what is left of a text can be seen as a list. `HasSlices` says what they are:
-- no promise rests on how they are found here.
use Rattle.std.specs.Prelude.{ℕ, zero, suc, Bool, ◌&&◌, List, [], ◌∷◌, length, drop, Some, codes, if◌then◌else◌}
use Rattle.std.specs.{Char.is_ascii_digit, Char.is_ascii_alphabetic, Str.byte, Str.encode_utf8_all}
use Rattle.latex2mathml_grammar.specs.Characters.{◌∈◌, is_empty, is_space}
use Rattle.latex2mathml_tokens.specs.Commands.{command_token}
use Rattle.latex2mathml_grammar.specs.Spelling.{Slice, is_period, is_equals_sign, character_token}
use Rattle.latex2mathml_tokens.specs.Tok.{Tok, EOF, Number, Command, Paren, Operator, takes_digit}

-- the longest run of characters that pass the test
abbrev pub run_of : (ℕ → Bool) → List ℕ → List ℕ
run_of p [] = []
run_of p (c ∷ cs) = if p c then c ∷ run_of p cs else []

-- what follows the longest run
abbrev pub behind_run : (ℕ → Bool) → List ℕ → List ℕ
behind_run p [] = []
behind_run p (c ∷ cs) = if p c then behind_run p cs else c ∷ cs

-- the longest run of digits with at most one period
abbrev pub number_of : List ℕ → List ℕ
number_of [] = []
number_of (c ∷ cs) = if is_ascii_digit c then c ∷ number_of cs else if is_period c then c ∷ run_of is_ascii_digit cs else []

-- a slice of its two parts
abbrev pub slice : List ℕ → Tok → Slice
slice w t = record { text = w; token = t }

-- the slice of a number
abbrev pub numbered : List ℕ → Slice
numbered w = slice w (Number (encode_utf8_all w))

-- the slice of a command of this name
abbrev pub named : List ℕ → Slice
named w = slice (byte "\\" ∷ w) (command_token (encode_utf8_all w))

-- the slice that begins with a backslash: all letters that follow, or one other character
abbrev pub behind_backslash : List ℕ → Slice
behind_backslash [] = slice (codes "\\") (Command [])
behind_backslash (c ∷ cs) = if is_ascii_alphabetic c then named (c ∷ run_of is_ascii_alphabetic cs) else named (c ∷ [])

-- the slice that begins with a colon
abbrev pub behind_colon : List ℕ → Slice
behind_colon [] = slice (codes ":") (Operator (byte ":"))
behind_colon (c ∷ cs) = if is_equals_sign c then slice (codes ":=") (Paren (codes ":=")) else slice (codes ":") (Operator (byte ":"))

-- the slice at the front of a text
abbrev pub first_slice : Bool → List ℕ → Slice
first_slice alone [] = slice [] EOF
first_slice alone (c ∷ cs) =
    if is_ascii_digit c then (if alone then numbered (c ∷ []) else numbered (c ∷ number_of cs))
    else if c ∈ "\\" then behind_backslash cs
    else if c ∈ ":" then behind_colon cs
    else slice (c ∷ []) (character_token c)

-- the slices of a text that is shorter than the bound
unfoldable pub slices_within : ℕ → Bool → List ℕ → List Slice
slices_within zero takes text = []
slices_within (suc n) takes text =
    let start = behind_run is_space text in
    let s = first_slice (takes && is_empty (run_of is_space text)) start in
    if is_empty start then [] else s ∷ slices_within n (takes_digit (Some s.token)) (drop (length s.text) start)

-- the slices of a text
unfoldable pub slices_of : Bool → List ℕ → List Slice
slices_of takes text = slices_within (suc (length text)) takes text
