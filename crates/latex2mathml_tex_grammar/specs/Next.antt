-- What comes next among units, where white space is ignored.
use Rattle.std.specs.Prelude.{ℕ, Bool, true, false, List, [], ◌∷◌, ◌++◌, Option, Some, None, if◌then◌else◌}
use Rattle.latex2mathml_tex_grammar.specs.{Refusal.Kind, Refusal.Refusal, Refusal.refusal_at, Rules.a_digit}
use Rattle.latex2mathml_tex_grammar.specs.Units.{Piece, Space, Units, Next, End, Stop}

-- whether a unit is a space
abbrev pub is_space_piece : Piece → Bool
is_space_piece Space = true
is_space_piece piece = false

-- the units from the first one on that is not white space
abbrev pub past_space : Units → Units
past_space (Next u us) = if is_space_piece u.piece then past_space us else Next u us
past_space (End place) = End place
past_space (Stop refusal) = Stop refusal

-- the first unit passes the test
abbrev pub begins_with : (Piece → Bool) → Units → Bool
begins_with test (Next u us) = test u.piece
begins_with test (End place) = false
begins_with test (Stop refusal) = false

-- the next unit, white space aside, passes the test
abbrev pub follows : (Piece → Bool) → Units → Bool
follows test l = begins_with test (past_space l)

-- the refusal of this kind where these units begin; if what is there is not a unit, its own refusal takes precedence
abbrev pub refusal_here : Kind → Units → Refusal
refusal_here kind (Next u us) = refusal_at kind u.place
refusal_here kind (End place) = refusal_at kind place
refusal_here kind (Stop refusal) = refusal

-- Units that pass tests, which answer with texts

-- what was found, after this text
abbrev pub with_text : List ℕ → Option (List ℕ × Units) → Option (List ℕ × Units)
with_text first (Some found) = Some (first ++ found.0, found.1)
with_text first None = None

-- what the other tests find, after what the first one found
abbrev pub first_passes : Option (List ℕ) → Option (List ℕ × Units) → Option (List ℕ × Units)
first_passes (Some first) others = with_text first others
first_passes None others = None

-- the first unit passes the test, and the others theirs
abbrev pub first_is : (Piece → Option (List ℕ)) → (Units → Option (List ℕ × Units)) → Units → Option (List ℕ × Units)
first_is test others (Next u us) = first_passes (test u.piece) (others us)
first_is test others (End place) = None
first_is test others (Stop refusal) = None

-- units that pass these tests come next, one for each: their texts, and the units after them
abbrev pub next_are : List (Piece → Option (List ℕ)) → Units → Option (List ℕ × Units)
next_are [] l = Some ([], l)
next_are (test ∷ tests) l = first_is test (next_are tests) (past_space l)

-- what a unit that is white space or a digit adds to the digits after it; any other unit ends them
abbrev pub digits_here : Bool → Option (List ℕ) → Units → List ℕ × Units → List ℕ × Units
digits_here true digit l behind = behind
digits_here false (Some digit) l behind = (digit ++ behind.0, behind.1)
digits_here false None l behind = ([], l)

-- the digits that come next, white space aside, and the units after them
abbrev pub digits_next : Units → List ℕ × Units
digits_next (Next u us) = digits_here (is_space_piece u.piece) (a_digit u.piece) (Next u us) (digits_next us)
digits_next (End place) = ([], End place)
digits_next (Stop refusal) = ([], Stop refusal)
