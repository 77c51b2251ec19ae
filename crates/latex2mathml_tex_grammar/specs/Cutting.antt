-- The units of a text, computed, so that the rest of a text can be seen as its units. `HasUnits` says what they are, and a law
-- says that these are the ones. The usual macros are computed with them.
use Rattle.std.specs.Prelude.{ℕ, zero, suc, ◌+◌, ◌==◌, Bool, List, [], ◌∷◌, ◌++◌, length, Option, Some, None, codes, if◌then◌else◌}
use Rattle.std.specs.{Char.is_ascii_alphabetic, Str.byte, Str.encode_utf8_all}
use Rattle.latex2mathml_tex_grammar.specs.Refusal.{Kind, LoneBackslash, ForbiddenCharacter, refusal_at}
use Rattle.latex2mathml_tex_grammar.specs.Units.{Piece, Space, Open, Close, Command, Character, Units, Next, End, Stop, unit, behind, is_space, is_in_line, is_forbidden, symbol_name}

-- the longest run of characters that pass the test
abbrev pub run_of : (ℕ → Bool) → List ℕ → List ℕ
run_of p [] = []
run_of p (c ∷ cs) = if p c then c ∷ run_of p cs else []

-- what follows that run
abbrev pub behind_run : (ℕ → Bool) → List ℕ → List ℕ
behind_run p [] = []
behind_run p (c ∷ cs) = if p c then behind_run p cs else c ∷ cs

-- what is at the front of a text
pub data Front : Type 0 where
  -- nothing: the text is empty
  Empty : Front
  -- a slice, what follows it, and its piece
  Slice : List ℕ → List ℕ → Option Piece → Front
  -- what is refused, and how many bytes after the front
  Unreadable : Kind → ℕ → Front

-- a comment of these characters, and what follows them
abbrev pub comment_front : List ℕ → List ℕ → Front
comment_front cs [] = Slice (byte "%" ∷ cs) [] None
comment_front cs (c ∷ rest) = Slice (byte "%" ∷ (cs ++ codes "\n")) rest None

-- a command of these letters, and what follows them
abbrev pub letters_front : List ℕ → List ℕ → Front
letters_front cs rest = Slice (byte "\\" ∷ (cs ++ run_of is_space rest)) (behind_run is_space rest) (Some (Command (encode_utf8_all cs)))

-- what a backslash before this text is
abbrev pub command_front : List ℕ → Front
command_front [] = Unreadable LoneBackslash 0
command_front (c ∷ cs) =
    if is_ascii_alphabetic c then letters_front (c ∷ run_of is_ascii_alphabetic cs) (behind_run is_ascii_alphabetic cs)
    else if is_forbidden c then Unreadable (ForbiddenCharacter c) 1
    else Slice (byte "\\" ∷ c ∷ []) cs (Some (Command (symbol_name c)))

-- the front of a text
abbrev pub front : List ℕ → Front
front [] = Empty
front (c ∷ cs) =
    if is_space c then Slice (c ∷ run_of is_space cs) (behind_run is_space cs) (Some Space)
    else if c == byte "{" then Slice (c ∷ []) cs (Some Open)
    else if c == byte "}" then Slice (c ∷ []) cs (Some Close)
    else if c == byte "%" then comment_front (run_of is_in_line cs) (behind_run is_in_line cs)
    else if c == byte "\\" then command_front cs
    else if is_forbidden c then Unreadable (ForbiddenCharacter c) 0
    else Slice (c ∷ []) cs (Some (Character c))

-- what a piece adds before the units that follow it
abbrev pub adds : Option Piece → ℕ → Units → Units
adds None place more = more
adds (Some piece) place more = Next (unit piece place) more

-- the units of a text with this front, where `more` gives those of what follows a slice
abbrev pub units_from : ℕ → Front → (ℕ → List ℕ → Units) → Units
units_from place Empty more = End place
units_from place (Slice w rest piece) more = adds piece place (more (behind place w) rest)
units_from place (Unreadable kind bytes) more = Stop (refusal_at kind (place + bytes))

-- the units of a text that is shorter than the bound, and begins at this place
unfoldable pub units_within : ℕ → ℕ → List ℕ → Units
units_within zero place text = End place
units_within (suc n) place text = units_from place (front text) (units_within n)

-- the units of a text that begins at this place
unfoldable pub units_of : ℕ → List ℕ → Units
units_of place text = units_within (suc (length text)) place text
