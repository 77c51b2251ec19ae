-- Which units are alike but for white space. Between the units of a formula it is ignored; within words it counts.
use Rattle.std.specs.Prelude.{◌≡◌, ◌==◌, ℕ, Bool, true, false, List, if◌then◌else◌}
use Rattle.std.specs.Str.{byte}
use Rattle.latex2mathml_tex_grammar.specs.{Commands.meaning_of, Meaning.takes_words, Reading.Outcome, Reading.Read, Reading.Refused}
use Rattle.latex2mathml_tex_grammar.specs.Refusal.{Refusal}
use Rattle.latex2mathml_tex_grammar.specs.Units.{Piece, Space, Open, Close, Command, Character, Unit, Units, Next, End, Stop, HasUnits}

-- Where a unit is. The standing that another one has in it says where the units after that part are.
pub data Standing : Type 0 where
  -- in the formula that is the whole text
  InFormula : Standing
  -- after a command that takes words, before the words
  BeforeWords : Standing → Standing
  -- in words in braces: here white space counts
  InWords : Standing → Standing
  -- in a formula between dollar signs, which is a part of words
  BetweenDollars : Standing → Standing

-- where words are due, one unit is all of them
abbrev pub behind_unit : Standing → Standing
behind_unit InFormula = InFormula
behind_unit (BeforeWords at) = at
behind_unit (InWords at) = InWords at
behind_unit (BetweenDollars at) = BetweenDollars at

-- but a brace begins words that end with their closing brace
abbrev pub behind_open : Standing → Standing
behind_open InFormula = InFormula
behind_open (BeforeWords at) = InWords at
behind_open (InWords at) = InWords (InWords at)
behind_open (BetweenDollars at) = BetweenDollars at

-- where the units after a closing brace are
abbrev pub behind_close : Standing → Standing
behind_close InFormula = InFormula
behind_close (BeforeWords at) = at
behind_close (InWords at) = at
behind_close (BetweenDollars at) = BetweenDollars at

-- and a dollar sign begins a formula, which ends with the next dollar sign
abbrev pub behind_dollar : Standing → Standing
behind_dollar InFormula = InFormula
behind_dollar (BeforeWords at) = BetweenDollars at
behind_dollar (InWords at) = BetweenDollars (InWords at)
behind_dollar (BetweenDollars at) = at

-- where the unit is that follows this piece
abbrev pub standing_behind : Piece → Standing → Standing
standing_behind Space at = at
standing_behind Open at = behind_open at
standing_behind Close at = behind_close at
standing_behind (Command name) at = if takes_words (meaning_of name) then BeforeWords (behind_unit at) else behind_unit at
standing_behind (Character c) at = if c == byte "$" then behind_dollar at else behind_unit at

-- whether units are in words, where spaces count
abbrev pub is_in_words : Standing → Bool
is_in_words (InWords at) = true
is_in_words at = false

-- Both have the same pieces in turn, at whatever places, apart from white space that is not in words. Where one ends, so
-- does the other, and where one is refused, so is the other, for the same reason.
pub data AreAlike : Standing → Units → Units → Type 0 where
  both_end : {at : Standing} {place other : ℕ} → AreAlike at (End place) (End other)
  both_stop : {at : Standing} {r q : Refusal} → r.kind ≡ q.kind → AreAlike at (Stop r) (Stop q)
  same_piece : {at : Standing} {u v : Unit} {l m : Units}
      → u.piece ≡ v.piece
      → AreAlike (standing_behind u.piece at) l m
      → AreAlike at (Next u l) (Next v m)
  space_before : {at : Standing} {u : Unit} {l m : Units}
      → is_in_words at ≡ false
      → u.piece ≡ Space
      → AreAlike at l m
      → AreAlike at (Next u l) m
  space_behind : {at : Standing} {u : Unit} {l m : Units}
      → is_in_words at ≡ false
      → u.piece ≡ Space
      → AreAlike at l m
      → AreAlike at l (Next u m)

-- units of two formulas
abbrev pub Alike : Units → Units → Type 0
Alike = AreAlike InFormula

-- units of two texts
abbrev pub HaveAlikeUnits : List ℕ → List ℕ → Type 0
HaveAlikeUnits text other = (l : Units) × (m : Units) × HasUnits 0 text l × HasUnits 0 other m × Alike l m

-- both are read as the same, or both are refused for the same reason
abbrev pub AreAlikeOutcomes : {A : Type 0} → Outcome A → Outcome A → Type 0
AreAlikeOutcomes (Read x l) (Read y m) = x ≡ y
AreAlikeOutcomes (Refused r) (Refused q) = r.kind ≡ q.kind
AreAlikeOutcomes o p = ⊥
