-- Tables in which each name means the same expand units to the same.
use Rattle.std.proofs.Common.{ℕ, zero, suc, ◌+◌, ◌-◌, ◌≡◌, Bool, true, false, List, length, Option, Some, None, refl, ap, ◌∙◌}
use Rattle.std.specs.Prelude.{nat_lt, if◌then◌else◌}
use Rattle.std.specs.{Option.unwrap_or, Str.bytes_eq}
use Rattle.latex2mathml_tex_grammar.specs.Arguments.{macro_arguments}
use Rattle.latex2mathml_tex_grammar.specs.Definitions.{Word, NewCommand, ProvideCommand, Def, DeclareOperator, DeclareDelimiters, Let, Definition, definition_of, provided, resolved, behind_definition}
use Rattle.latex2mathml_tex_grammar.specs.Expanding.{turned, expansion_within, expansion}
use Rattle.latex2mathml_tex_grammar.specs.Expansion.{form_of, used_form, Role, Uses, Defines, Stands, found_role, role_of, Turn, Turns, Fails, with_arguments, used, defined, turn_of, role_as}
use Rattle.latex2mathml_tex_grammar.specs.Macros.{Part, Macro, alias, macro_of, SameMacros, Table, with_macro, put, before, unit_count}
use Rattle.latex2mathml_tex_grammar.specs.{Operands.Due, Operands.due_behind, Operands.is_due, Reading.Outcome, Reading.Read, Reading.Refused, Refusal.Refusal, Refusal.TooManyExpansions, Refusal.refusal_at}
use Rattle.latex2mathml_tex_grammar.specs.Units.{Piece, Space, Open, Close, Command, Character, Unit, unit, Units, Next, End, Stop}

pub with_macro_same : (name : List ℕ) (m : Macro) (t v : Table) → SameMacros t v → SameMacros (with_macro name m t) (with_macro name m v)
with_macro_same name m t v h other = ap (λ (x : Option Macro). if bytes_eq name other then Some m else x) (h other)

provided_same : (d : Definition) (found other : Option Macro) (t v : Table) → found ≡ other → SameMacros t v → SameMacros (provided d found t) (provided d other v)
provided_same d (Some m) (Some m') t v e h = h
provided_same d None None t v e h = with_macro_same d.name d.stands_for t v h
provided_same d (Some m) None t v e h = absurd (cc)
provided_same d None (Some m) t v e h = absurd (cc)

macro_of_same : (p : Piece) (t v : Table) → SameMacros t v → macro_of t p ≡ macro_of v p
macro_of_same (Command name) t v h = h name
macro_of_same Space t v h = refl
macro_of_same Open t v h = refl
macro_of_same Close t v h = refl
macro_of_same (Character c) t v h = refl

resolved_same : (m : Macro) (piece : Option Piece) (t v : Table) → SameMacros t v → resolved t m piece ≡ resolved v m piece
resolved_same m (Some p) t v h = ap (λ found. unwrap_or found (alias p)) (macro_of_same p t v h)
resolved_same m None t v h = refl

pub behind_same : (word : Word) (d : Definition) (t v : Table) → SameMacros t v → SameMacros (behind_definition word d t) (behind_definition word d v)
behind_same ProvideCommand d t v h = provided_same d (t d.name) (v d.name) t v (h d.name) h
behind_same NewCommand d t v h = with_macro_same d.name d.stands_for t v h
behind_same Def d t v h = with_macro_same d.name d.stands_for t v h
behind_same DeclareOperator d t v h = with_macro_same d.name d.stands_for t v h
behind_same DeclareDelimiters d t v h = with_macro_same d.name d.stands_for t v h
behind_same Let d t v h =
    rw (resolved_same d.stands_for d.stands_for.alias t v h) (with_macro_same d.name (resolved v d.stands_for d.stands_for.alias) t v h)

role_same : (p : Piece) (t v : Table) → SameMacros t v → role_of t p ≡ role_of v p
role_same p t v h = ap (λ found. found_role found p) (macro_of_same p t v h)

-- what is expanded from here on is the same
abbrev SameFrom : ℕ → Type 0
SameFrom n = (t v : Table) (uses room : ℕ) (d : Due) (l : Units) → SameMacros t v → expansion_within n t uses room d l ≡ expansion_within n v uses room d l

-- the outcomes of a turn are the same
abbrev SameTurns : ℕ → Table → Table → ℕ → ℕ → Due → Unit → Units → Turn → Turn → Type 0
SameTurns n t v uses room d u l a b = turned a t uses room d u l (expansion_within n) ≡ turned b v uses room d u l (expansion_within n)

either_same : (n : ℕ) (t v : Table) (uses room uses_left room_left : ℕ) (d : Due) (u : Unit) (l m : Units) (b : Bool) (r : Refusal) → SameFrom n → SameMacros t v
    → SameTurns n t v uses room d u l (if b then Fails r else Turns t uses_left room_left m) (if b then Fails r else Turns v uses_left room_left m)
either_same n t v uses room uses_left room_left d u l m true r more h = refl
either_same n t v uses room uses_left room_left d u l m false r more h = more t v uses_left room_left d m h

arguments_same : (n : ℕ) (t v : Table) (uses room uses_left : ℕ) (d : Due) (u : Unit) (l : Units) (parts : List Part) (o : Outcome (List (List Unit))) → SameFrom n → SameMacros t v
    → SameTurns n t v uses room d u l (with_arguments t uses_left room u parts o) (with_arguments v uses_left room u parts o)
arguments_same n t v uses room uses_left d u l parts (Read args rest) more h =
    either_same n t v uses room uses_left (room - length (put args u.place parts)) d u l (before (put args u.place parts) rest) (nat_lt room (length (put args u.place parts))) (refusal_at TooManyExpansions u.place) more h
arguments_same n t v uses room uses_left d u l parts (Refused r) more h = refl

form_same : (n : ℕ) (t v : Table) (uses room uses_left : ℕ) (d : Due) (u : Unit) (l : Units) (f : Macro × Units) → SameFrom n → SameMacros t v
    → SameTurns n t v uses room d u l (used_form t uses_left room u f) (used_form v uses_left room u f)
form_same n t v uses room uses_left d u l (m, k) more h = arguments_same n t v uses room uses_left d u l m.body (macro_arguments m u.place k) more h

used_same : (n : ℕ) (t v : Table) (uses room : ℕ) (d : Due) (u : Unit) (l : Units) (m : Macro) → SameFrom n → SameMacros t v → SameTurns n t v uses room d u l (used t uses room u m l) (used v uses room u m l)
used_same n t v zero room d u l m more h = refl
used_same n t v (suc uses) room d u l m more h = form_same n t v (suc uses) room uses d u l (form_of m l) more h

defined_same : (n : ℕ) (t v : Table) (uses room : ℕ) (d : Due) (u : Unit) (l : Units) (word : Word) (o : Outcome Definition) → SameFrom n → SameMacros t v → SameTurns n t v uses room d u l (defined t uses room word o) (defined v uses room word o)
defined_same n t v uses room d u l word (Read x rest) more h = more (behind_definition word x t) (behind_definition word x v) uses room d rest (behind_same word x t v h)
defined_same n t v uses room d u l word (Refused r) more h = refl

turn_same : (n : ℕ) (t v : Table) (uses room : ℕ) (d : Due) (u : Unit) (l : Units) (role : Role) → SameFrom n → SameMacros t v → SameTurns n t v uses room d u l (turn_of role t uses room u l) (turn_of role v uses room u l)
turn_same n t v uses room d u l (Uses m) more h = used_same n t v uses room d u l m more h
turn_same n t v uses room d u l (Defines word) more h = defined_same n t v uses room d u l word (definition_of word u.place l) more h
turn_same n t v uses room d u l (Stands piece) more h = ap (Next (unit piece u.place)) (more t v uses room (due_behind piece d) l h)

same_within : (n : ℕ) → SameFrom n
unfolding expansion_within
same_within zero t v uses room d l h = refl
same_within (suc n) t v uses room d (Next u l) h =
    turn_same n t v uses room d u l (role_as (is_due d) (role_of t u.piece)) (same_within n) h
    ∙ ap (λ role. turned (turn_of (role_as (is_due d) role) v uses room u l) v uses room d u l (expansion_within n)) (role_same u.piece t v h)
same_within (suc n) t v uses room d (End place) h = refl
same_within (suc n) t v uses room d (Stop r) h = refl

pub expansion_same : (t v : Table) (uses room : ℕ) (d : Due) (l : Units) → SameMacros t v → expansion t uses room d l ≡ expansion v uses room d l
unfolding expansion
expansion_same t v uses room d l h = same_within (suc (unit_count l + room)) t v uses room d l h
