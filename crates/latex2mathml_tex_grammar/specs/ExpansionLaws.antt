-- Laws of expansion.
use Rattle.std.specs.{List.AllByRecursion, Str.byte}
use Rattle.std.specs.Prelude.{Bool, IsTrue, Option, Some, None, codes, ◌≡◌, ℕ, ◌+◌, ◌≤◌, List, [], ◌∷◌, ◌++◌, ⊤}
use Rattle.latex2mathml_tex_grammar.specs.Arguments.{Opening, Closing, NoBrace, brace_of, group, first_sign, arguments}
use Rattle.latex2mathml_tex_grammar.specs.{Bars.divider, Bars.double_bar}
use Rattle.latex2mathml_tex_grammar.specs.Definitions.{Word, definition_of, meaning_now}
use Rattle.latex2mathml_tex_grammar.specs.{DefinitionTexts.ReadsDefinitions, Reading.Outcome, Reading.Read}
use Rattle.latex2mathml_tex_grammar.specs.{Expansion.Expands, Expansion.Stands, Expansion.Turns, Expansion.role_of, Expansion.turn, Macros.Part, Macros.Fixed, Macros.Argument, Macros.Split, Macros.Taken, Macros.Parameter, Macros.Macro, Macros.macro_of, Macros.Table, Macros.with_macro, Macros.before, Macros.unit_count, Operands.Due}
use Rattle.latex2mathml_tex_grammar.specs.Units.{Piece, Space, Open, Close, Command, Character, Unit, Units, Next}

-- among the units no macro is used, and no definition begins
abbrev pub AllStand : Table → Units → Type 0
AllStand table (Next u l) = (role_of table u.piece ≡ Stands u.piece) × AllStand table l
AllStand table l = ⊤

-- Units have exactly one expansion, whatever macros hold, however many macros can be used and units can be put, and whatever
-- operands are still to come.
pub record HasOneExpansion (table : Table) (uses room : ℕ) (d : Due) (l : Units) : Type 0 where
  pub some : (m : Units) × Expands table uses room d l m
  pub one : (m n : Units) → Expands table uses room d l m → Expands table uses room d l n → m ≡ n

-- so it is for all units
abbrev pub HaveOneExpansion : Type 0
HaveOneExpansion = (table : Table) (uses room : ℕ) (d : Due) (l : Units) → HasOneExpansion table uses room d l

-- Definitions have exactly one outcome: a table of macros, or a refusal.
pub record HasOneTable (table : Table) (l : Units) : Type 0 where
  pub some : (o : Outcome Table) × ReadsDefinitions table l o
  pub one : (o p : Outcome Table) → ReadsDefinitions table l o → ReadsDefinitions table l p → o ≡ p

-- so it is for all units
abbrev pub HaveOneTable : Type 0
HaveOneTable = (table : Table) (l : Units) → HasOneTable table l

-- what another name means here is no macro
abbrev pub AliasesStand : Table → Type 0
AliasesStand table = (name : List ℕ) (m : Macro) (piece : Piece) → table name ≡ Some m → m.alias ≡ Some piece → macro_of table piece ≡ None

-- What is in an expansion.
pub record AreExpanded : Type 0 where
  -- units among which no macro is used and no definition begins are their own expansion
  pub own : (table : Table) (uses room : ℕ) (d : Due) (l : Units) → AllStand table l → Expands table uses room d l l
  -- in an expansion no macro is used that held before it, and no definition begins, unless a macro had another name before it
  pub done : (table : Table) (uses room : ℕ) (d : Due) (l m : Units) → AliasesStand table → Expands table uses room d l m → AllStand table m
  -- nor is one used that was defined by what comes first
  pub behind : (table next : Table) (uses room uses_left room_left : ℕ) (d : Due) (u : Unit) (l n m : Units)
      → AliasesStand next
      → turn table uses room d u l ≡ Turns next uses_left room_left n
      → Expands table uses room d (Next u l) m
      → AllStand next m
  -- so an expansion is its own expansion
  pub again : (table : Table) (uses room : ℕ) (d : Due) (l m : Units) → AliasesStand table → Expands table uses room d l m → Expands table uses room d m m
  -- it has no more units than there were before, plus those that can be put
  pub most : (table : Table) (uses room : ℕ) (d : Due) (l m : Units) → Expands table uses room d l m → unit_count m ≤ unit_count l + room
  -- after `\let`, the new name is to a text what the piece was
  pub named : (table : Table) (name : List ℕ) (piece : Piece)
      → role_of (with_macro name (meaning_now table piece) table) (Command name) ≡ role_of table piece

-- each piece of the units passes
abbrev pub EachPiece : (Piece → Type 0) → Units → Type 0
EachPiece P (Next u l) = P u.piece × EachPiece P l
EachPiece P l = ⊤

-- each fixed piece of a body passes, and each that takes the place of a bar
abbrev pub EachFixed : (Piece → Type 0) → List Part → Type 0
EachFixed P [] = ⊤
EachFixed P (Fixed p ∷ parts) = P p × EachFixed P parts
EachFixed P (Argument k ∷ parts) = EachFixed P parts
EachFixed P (Split bars k ∷ parts) = AllByRecursion P (divider bars double_bar) × EachFixed P parts

-- each fixed piece passes, if there are parts
abbrev pub EachIfSome : (Piece → Type 0) → Option (List Part) → Type 0
EachIfSome P (Some parts) = EachFixed P parts
EachIfSome P None = ⊤

-- the piece passes, if there is one
abbrev pub IfPiece : (Piece → Type 0) → Option Piece → Type 0
IfPiece P (Some piece) = P piece
IfPiece P None = ⊤

-- each piece of a macro passes: the one that has its name, or the fixed ones
abbrev pub EachInMacro : (Piece → Type 0) → Macro → Type 0
EachInMacro P m = EachFixed P m.body × EachIfSome P m.default × EachIfSome P m.starred × IfPiece P m.alias

-- each piece of the macros passes
abbrev pub EachInTable : (Piece → Type 0) → Table → Type 0
EachInTable P table = (name : List ℕ) (m : Macro) → table name ≡ Some m → EachInMacro P m

-- the pieces that a definition of an operator or of delimiters adds
abbrev pub added_pieces : List Piece
added_pieces =
    Open ∷ Close ∷ Character (byte "*") ∷ Command (codes "operatorname")
    ∷ Command (codes "mathopen") ∷ Command (codes "mathclose") ∷ Command (codes "left") ∷ Command (codes "right") ∷ []

-- What holds of each piece of the units and of the macros holds of each piece of the expansion, if it holds of the pieces
-- that definitions add. Braces around a macro that is taken whole are among these.
abbrev pub AddsNothing : Type 0
AddsNothing = (test : Piece → Bool) (table : Table) (uses room : ℕ) (d : Due) (l m : Units)
    → AllByRecursion (λ p. IsTrue (test p)) added_pieces
    → EachInTable (λ p. IsTrue (test p)) table
    → EachPiece (λ p. IsTrue (test p)) l
    → Expands table uses room d l m
    → EachPiece (λ p. IsTrue (test p)) m

-- braces in pairs, and whatever is between them
pub data IsBalanced : List Unit → Type 0 where
  empty : IsBalanced []
  piece : {u : Unit} {us : List Unit}
      → brace_of u.piece ≡ NoBrace
      → IsBalanced us
      → IsBalanced (u ∷ us)
  braces : (o c : Unit) (us vs : List Unit)
      → brace_of o.piece ≡ Opening
      → IsBalanced us
      → brace_of c.piece ≡ Closing
      → IsBalanced vs
      → IsBalanced (o ∷ (us ++ c ∷ vs))

-- The units of a group are those up to the brace that closes it: among them, braces come in pairs.
pub record AreBetweenBraces : Type 0 where
  pub taken : (place : ℕ) (l m : Units) (us : List Unit)
      → group place l 0 ≡ Read us m
      → (c : Unit) × (brace_of c.piece ≡ Closing) × IsBalanced us × (l ≡ before us (Next c m))
  pub found : (place : ℕ) (m : Units) (us : List Unit) (c : Unit)
      → brace_of c.piece ≡ Closing
      → IsBalanced us
      → group place (before us (Next c m)) 0 ≡ Read us m

-- White space is ignored after the word of a definition, and before an argument that ends before no sign.
pub record IsSpacePassed : Type 0 where
  pub behind_word : (word : Word) (place : ℕ) (u : Unit) (l : Units) → u.piece ≡ Space → definition_of word place (Next u l) ≡ definition_of word place l
  pub before_argument : (place : ℕ) (takes : List Taken) (u : Unit) (l : Units) → u.piece ≡ Space → first_sign takes ≡ None
      → arguments place (Parameter ∷ takes) (Next u l) ≡ arguments place (Parameter ∷ takes) l
