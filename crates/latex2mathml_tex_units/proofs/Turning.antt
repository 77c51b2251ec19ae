-- The turns of an expansion, in the code and in the grammar.
use Rattle.std.proofs.Common.{◌≡◌, Bool, ℕ, suc, ◌+◌, ◌<◌, ◌≤◌, List, Option, Some, None, refl, sym, ap, subst, ◌∙◌, arith}
use Rattle.std.specs.Prelude.{option_map, Err, ⊤}
use Rattle.latex2mathml_tex_grammar.specs.Definitions.{behind_definition, definition_of}
use Rattle.latex2mathml_tex_grammar.specs.Definitions as definitions
use Rattle.latex2mathml_tex_grammar.specs.Expanding.{expansion}
use Rattle.latex2mathml_tex_grammar.specs.Expansion.{Stands, Stays, Turn, Turns, Uses, defined, found_role, macro_role, own_role, role_as, role_of, turn, turn_of, used, word_role}
use Rattle.latex2mathml_tex_grammar.specs.Operands.{Due, due_behind, is_due, used_as}
use Rattle.latex2mathml_tex_grammar.specs.{Macros.Macro, Macros.SameMacros, Macros.Table, Macros.unit_count, Reading.Read, UsualMacros.usual_macros}
use Rattle.latex2mathml_tex_grammar.specs.Units as units
use Rattle.latex2mathml_tex_grammar.specs.Units.{Units}
use Rattle.latex2mathml_tex_grammar.proofs.Expanding.{Shrinks, expansion_end, expansion_fails, expansion_stays, expansion_stop, expansion_turns, turn_shrinks}
use Rattle.latex2mathml_tex_grammar.proofs.SameTables.{expansion_same}
use Rattle.latex2mathml_tex_units.specs.{Bodies.macro_of, Expanded.IsHalted, Expanded.Turned, Expanded.after_refusal, MacroTables.defined_in, MacroTables.or_usual, MacroTables.table_of, Putting.Replaces, Taking.Takes, Taking.piece_of, Taking.unit_of}
use Rattle.latex2mathml_tex_units.specs.declared.macros.{expander.Expander.Expander, halt.Halt.Halt, scope.Scope.Scope}
use Rattle.latex2mathml_tex_units.specs.declared.macros.part.Macro.{Macro as CodeMacro}
use Rattle.latex2mathml_tex_units.specs.declared.unit.{Fault.Fault, Next.Next, Piece.Piece, Unit.Unit}
use Rattle.latex2mathml_tex_units.specs.declared.macros.halt.Halt.TheVariants as halt
use Rattle.latex2mathml_tex_units.specs.declared.unit.Next.TheVariants as next
use Rattle.latex2mathml_tex_units.specs.declared.unit.Piece.TheVariants as piece

-- the use of a command at a place
abbrev named : List ℕ → ℕ → units.Unit
named name place = units.unit (units.Command name) place

-- A turn of the code

abbrev pub TurnsTo : Table → ℕ → ℕ → Due → List ℕ → ℕ → Units → ℕ → ℕ → Units → Table → Type 0
TurnsTo table uses room d name place l uses_left room_left m new =
    (next : Table) × (turn table uses room d (named name place) l ≡ Turns next uses_left room_left m) × SameMacros next new

-- what a command is, by what its name means

role_used : (table : Table) (name : List ℕ) (m : Macro) → table name ≡ Some m → m.alias ≡ None → role_of table (units.Command name) ≡ Uses m
role_used table name m e none = ap (λ found. found_role found (units.Command name)) e ∙ ap (macro_role m) none

role_named : (table : Table) (name : List ℕ) (m : Macro) (p : units.Piece) → table name ≡ Some m → m.alias ≡ Some p → role_of table (units.Command name) ≡ own_role p
role_named table name m p e some = ap (λ found. found_role found (units.Command name)) e ∙ ap (macro_role m) some

role_alone : (table : Table) (name : List ℕ) → table name ≡ None → role_of table (units.Command name) ≡ own_role (units.Command name)
role_alone table name e = ap (λ found. found_role found (units.Command name)) e

-- what is no macro is the same as an operand
own_as : (whole : Bool) (word : Option definitions.Word) (p : units.Piece) → role_as whole (word_role word p) ≡ word_role word p
own_as whole (Some word) p = refl
own_as whole None p = refl

-- what a name that was not defined means
undefined : (m : Scope) (name : List ℕ) (x : Option Macro) → None ≡ defined_in m name → x ≡ usual_macros name → table_of m name ≡ x
undefined m name x e f = ap (λ y. or_usual y name) (sym e) ∙ sym f

pub defined_there : (m : Scope) (name : List ℕ) (found : Macro) → Some found ≡ defined_in m name → table_of m name ≡ Some found
defined_there m name found e = ap (λ y. or_usual y name) (sym e)

pub usual_there : (m : Scope) (name : List ℕ) (o : Option CodeMacro) (found : CodeMacro) → None ≡ defined_in m name → option_map macro_of o ≡ usual_macros name → o ≡ Some found → table_of m name ≡ Some (macro_of found)
usual_there m name o found none usual is = undefined m name (Some (macro_of found)) none (ap (option_map macro_of) (sym is) ∙ usual)

-- the turn of a command is that of a macro
pub turn_used : (m : Scope) (name : List ℕ) (place uses room : ℕ) (d : Due) (whole : Bool) (l : Units) (found : Macro) → whole ≡ is_due d → table_of m name ≡ Some found → found.alias ≡ None
    → turn (table_of m) uses room d (named name place) l ≡ used (table_of m) uses room (named name place) (used_as whole found) l
turn_used m name place uses room d whole l found due e none =
    ap (λ role. turn_of (role_as (is_due d) role) (table_of m) uses room (named name place) l) (role_used (table_of m) name found e none)
    ∙ ap (λ b. used (table_of m) uses room (named name place) (used_as b found) l) (sym due)

-- or its own
pub turn_alone : (m : Scope) (name : List ℕ) (place uses room : ℕ) (d : Due) (l : Units) → None ≡ defined_in m name → usual_macros name ≡ None
    → turn (table_of m) uses room d (named name place) l ≡ turn_of (own_role (units.Command name)) (table_of m) uses room (named name place) l
turn_alone m name place uses room d l none usual =
    ap (λ role. turn_of (role_as (is_due d) role) (table_of m) uses room (named name place) l) (role_alone (table_of m) name (undefined m name None none (sym usual)))
    ∙ ap (λ role. turn_of role (table_of m) uses room (named name place) l) (own_as (is_due d) (definitions.word_of (units.Command name)) (units.Command name))

pub replaced_by : (m : Scope) (name : List ℕ) (place uses room uses_left room_left : ℕ) (d : Due) (whole : Bool) (l k : Units) (found : Macro)
    → whole ≡ is_due d
    → table_of m name ≡ Some found
    → found.alias ≡ None
    → used (table_of m) uses room (named name place) (used_as whole found) l ≡ Turns (table_of m) uses_left room_left k
    → TurnsTo (table_of m) uses room d name place l uses_left room_left k (table_of m)
replaced_by m name place uses room uses_left room_left d whole l k found due e none is = (table_of m, turn_used m name place uses room d whole l found due e none ∙ is, λ other. refl)

-- a use that is refused
pub refused_by : (h : Halt) (t u : Turn) (table : Table) (uses room : ℕ) (l : Units) (old new : Expander) → t ≡ u → Replaces {A = ⊤} (Err h) u table uses room l → Turned (Err h) t old new
refused_by (halt.Refused fault place) t u table uses room l old new e d = e ∙ d
refused_by halt.OutOfMemory t u table uses room l old new e d = tt

-- the turn of a word, whatever name it has
pub word_turn : (m n : Scope) (piece written : units.Piece) (place uses room : ℕ) (l k : Units) (word : definitions.Word) (d : definitions.Definition)
    → Some word ≡ definitions.word_of piece
    → definition_of word place l ≡ Read d k
    → SameMacros (table_of n) (behind_definition word d (table_of m))
    → (next : Table) × (turn_of (own_role piece) (table_of m) uses room (units.unit written place) l ≡ Turns next uses room k) × SameMacros next (table_of n)
word_turn m n piece written place uses room l k word d is read same = (
  behind_definition word d (table_of m),
  ap (λ w. turn_of (word_role w piece) (table_of m) uses room (units.unit written place) l) (sym is)
      ∙ ap (λ x. defined (table_of m) uses room word x) read,
  λ other. sym (same other),
)

-- Taking the next unit

-- nothing was refused
pub takes_left : (taken : Next) (r q : Option (Fault × ℕ)) (l m : Units) → r ≡ None → q ≡ None → Takes taken l m → Takes taken (after_refusal r l) (after_refusal q m)
takes_left taken r q l m e f d = subst (λ x. Takes taken (after_refusal x l) (after_refusal q m)) (sym e) (subst (λ x. Takes taken l (after_refusal x m)) (sym f) d)

-- the end, or what is no unit
pub ended : (taken : Next) (table : Table) (uses room : ℕ) (d : Due) (l k start : Units) → expansion table uses room d l ≡ start → ((u : Unit) → taken ≡ next.Unit u → ⊥) → Takes taken l k → Takes taken start (expansion table uses room d k)
ended (next.Unit u) table uses room d l k start same apart e = absurd (apart u refl)
ended (next.End place) table uses room d l k start same apart (is, left) = (sym same ∙ ap (expansion table uses room d) is ∙ expansion_end table uses room d place, ap (expansion table uses room d) left ∙ same)
ended (next.Fault fault place) table uses room d l k start same apart (is, left) = (sym same ∙ ap (expansion table uses room d) is ∙ expansion_stop table uses room d _, ap (expansion table uses room d) left ∙ same)

-- a unit that stays, as this piece
pub stood : (taken : Next) (table : Table) (uses room : ℕ) (d : Due) (u : Unit) (v : units.Unit) (l k start x : Units) → taken ≡ next.Unit u → expansion table uses room d l ≡ start → l ≡ units.Next v k
    → turn table uses room d v k ≡ Stays (piece_of u.piece) → u.place ≡ v.place → x ≡ expansion table uses room (due_behind (piece_of u.piece) d) k → Takes taken start x
stood taken table uses room d u v l k start x e same is stays place rest =
    let whole : start ≡ units.Next (unit_of u) x =
    sym same ∙ ap (expansion table uses room d) is ∙ expansion_stays table uses room d v (piece_of u.piece) k stays
    ∙ ap (λ at. units.Next (units.unit (piece_of u.piece) at) (expansion table uses room (due_behind (piece_of u.piece) d) k)) (sym place) ∙ ap (units.Next (unit_of u)) (sym rest) in
    subst (λ n. Takes n start x) (sym e) whole

pub no_command : (table : Table) (uses room : ℕ) (d : Due) (u : Unit) (k : Units) → ((name : _) → u.piece ≡ piece.Command name → ⊥) → turn table uses room d (unit_of u) k ≡ Stays (piece_of u.piece)
no_command table uses room d u k apart = ap (λ role. turn_of (role_as (is_due d) role) table uses room (unit_of u) k) (stands u.piece apart)
  where
    stands : (p : Piece) → ((name : _) → p ≡ piece.Command name → ⊥) → role_of table (piece_of p) ≡ Stands (piece_of p)
    stands piece.Space apart = refl
    stands piece.Open apart = refl
    stands piece.Close apart = refl
    stands (piece.Command name) apart = absurd (apart name refl)
    stands (piece.Character c) apart = refl

-- a unit that is replaced
pub turned_on : (table new : Table) (uses room uses_left room_left : ℕ) (d : Due) (u v : units.Unit) (l k m start : Units) → expansion table uses room d l ≡ start → l ≡ units.Next u k → u ≡ v
    → (next : Table) × (turn table uses room d v k ≡ Turns next uses_left room_left m) × SameMacros next new
    → expansion new uses_left room_left d m ≡ start
turned_on table new uses room uses_left room_left d u v l k m start same is v_is (next, turns, tables) =
    sym (expansion_same next new uses_left room_left d m tables) ∙ sym (expansion_turns table uses room d v k next uses_left room_left m turns)
    ∙ ap (expansion table uses room d) (sym (is ∙ ap (λ w. units.Next w k) v_is)) ∙ same

pub turned_smaller : (table new : Table) (uses room uses_left room_left : ℕ) (d : Due) (u v : units.Unit) (l k m : Units) → l ≡ units.Next u k
    → (next : Table) × (turn table uses room d v k ≡ Turns next uses_left room_left m) × SameMacros next new
    → unit_count m + room_left < unit_count l + room
turned_smaller table new uses room uses_left room_left d u v l k m is (next, turns, tables) =
    let less : unit_count m + room_left ≤ unit_count k + room = subst (Shrinks (unit_count k + room)) turns (turn_shrinks (role_as (is_due d) (role_of table v.piece)) table uses room v k) in
    let more : unit_count l ≡ suc (unit_count k) = ap unit_count is in
    omega (arith, less, more)

-- what is refused
pub is_halted : (h : Halt) (old new : Expander) (table : Table) (uses room : ℕ) (d : Due) (u v : units.Unit) (l k start : Units) → expansion table uses room d l ≡ start → l ≡ units.Next u k → u ≡ v
    → Turned (Err h) (turn table uses room d v k) old new → IsHalted h start
is_halted (halt.Refused fault place) old new table uses room d u v l k start same is v_is fails =
    sym same ∙ ap (expansion table uses room d) (is ∙ ap (λ w. units.Next w k) v_is) ∙ expansion_fails table uses room d v k _ fails
is_halted halt.OutOfMemory old new table uses room d u v l k start same is v_is fails = tt

pub halted_left : (h : Halt) (r : Option (Fault × ℕ)) (l : Units) → r ≡ None → IsHalted h l → IsHalted h (after_refusal r l)
halted_left h r l e d = subst (λ x. IsHalted h (after_refusal x l)) (sym e) d
