-- What is in an expansion.
use Rattle.std.proofs.Common.{ℕ, zero, suc, ◌+◌, ◌-◌, ◌≤◌, ◌≡◌, Bool, true, false, List, length, Option, Some, None, refl, ap, subst, ◌∙◌, arith}
use Rattle.std.proofs.lemmas.Slice.Eq.{bytes_eq-Decides}
use Rattle.std.specs.Prelude.{⊤, nat_lt, if◌then◌else◌}
use Rattle.std.specs.{Option.unwrap_or, Str.byte, Str.bytes_eq}
use Rattle.latex2mathml_tex_grammar.specs.Definitions.{Word, NewCommand, ProvideCommand, Def, DeclareOperator, DeclareDelimiters, Let, Definition, any_piece, body, command_definition, default_of, definition_of, meaning_now, name_of, number_of, parameter_count, parameter_text, provided, resolved, sign, word_of, behind_definition}
use Rattle.latex2mathml_tex_grammar.specs.Arguments.{and_then, macro_arguments}
use Rattle.latex2mathml_tex_grammar.specs.Expansion.{form_of, used_form, Role, Uses, Defines, Stands, word_role, own_role, macro_role, found_role, role_of, Turn, Stays, Turns, Fails, replaced, with_arguments, used, defined, turn_of, role_as, turn, Expands, at_end, at_stop, stays, turns, fails}
use Rattle.latex2mathml_tex_grammar.specs.Expanding.{expansion}
use Rattle.latex2mathml_tex_grammar.specs.ExpansionLaws.{AliasesStand, AllStand, HaveOneExpansion, AreExpanded, IsSpacePassed}
use Rattle.latex2mathml_tex_grammar.specs.Macros.{Part, Macro, Table, alias, macro_of, macro_with_default, with_macro, put, before, unit_count}
use Rattle.latex2mathml_tex_grammar.specs.{Next.past_space, Operands.Due, Operands.due_behind, Operands.is_due, Reading.Outcome, Reading.Read, Reading.Refused, Refusal.Refusal, Refusal.TooManyExpansions, Refusal.refusal_at}
use Rattle.latex2mathml_tex_grammar.specs.Units.{Piece, Space, Open, Close, Command, Character, Unit, Units, Next, End, Stop}
use Rattle.latex2mathml_tex_grammar.proofs.{Choices.of_found, MacrosUsed.of_used_macro}
use Rattle.latex2mathml_tex_grammar.proofs.Expanding.{expands_once, is_expanded, Shrinks, turn_shrinks}

stays_standing : (table : Table) (uses room : ℕ) (d : Due) (u : Unit) (l : Units) → role_of table u.piece ≡ Stands u.piece → turn table uses room d u l ≡ Stays u.piece
stays_standing table uses room d u l e = ap (λ role. turn_of (role_as (is_due d) role) table uses room u l) e

pub own : (table : Table) (uses room : ℕ) (d : Due) (l : Units) → AllStand table l → Expands table uses room d l l
own table uses room d (Next u l) h = stays (stays_standing table uses room d u l h.0) (own table uses room (due_behind u.piece d) l h.1)
own table uses room d (End place) h = at_end
own table uses room d (Stop r) h = at_stop

-- what stays is neither a macro nor a definition, here as the piece p

no_stay_either : (b : Bool) (r : Refusal) (table : Table) (uses room : ℕ) (l : Units) {p : Piece} → (if b then Fails r else Turns table uses room l) ≡ Stays p → ⊥
no_stay_either true r table uses room l e = cc
no_stay_either false r table uses room l e = cc

no_stay : (table : Table) (uses room : ℕ) (u : Unit) (us : List Unit) (l : Units) {p : Piece} → replaced table uses room u us l ≡ Stays p → ⊥
no_stay table uses room u us l e = no_stay_either (nat_lt room (length us)) (refusal_at TooManyExpansions u.place) table uses (room - length us) (before us l) e

no_stay_arguments : (table : Table) (uses room : ℕ) (u : Unit) (parts : List Part) (o : Outcome (List (List Unit))) {p : Piece} → with_arguments table uses room u parts o ≡ Stays p → ⊥
no_stay_arguments table uses room u parts (Read args l) e = no_stay table uses room u (put args u.place parts) l e
no_stay_arguments table uses room u parts (Refused r) e = cc

no_stay_form : (table : Table) (uses room : ℕ) (u : Unit) (f : Macro × Units) {p : Piece} → used_form table uses room u f ≡ Stays p → ⊥
no_stay_form table uses room u (m, l) e = no_stay_arguments table uses room u m.body (macro_arguments m u.place l) e

no_stay_used : (table : Table) (uses room : ℕ) (u : Unit) (m : Macro) (l : Units) {p : Piece} → used table uses room u m l ≡ Stays p → ⊥
no_stay_used table zero room u m l e = cc
no_stay_used table (suc uses) room u m l e = no_stay_form table uses room u (form_of m l) e

no_stay_defined : (table : Table) (uses room : ℕ) (word : Word) (o : Outcome Definition) {p : Piece} → defined table uses room word o ≡ Stays p → ⊥
no_stay_defined table uses room word (Read d l) e = cc
no_stay_defined table uses room word (Refused r) e = cc

stands_staying : (role : Role) (table : Table) (uses room : ℕ) (u : Unit) (l : Units) {p : Piece} → turn_of role table uses room u l ≡ Stays p → role ≡ Stands p
stands_staying (Uses m) table uses room u l e = absurd (no_stay_used table uses room u m l e)
stands_staying (Defines word) table uses room u l e = absurd (no_stay_defined table uses room word (definition_of word u.place l) e)
stands_staying (Stands q) table uses room u l {p} e = let same : q ≡ p = cc in ap Stands same

-- whether it is taken whole or not
stands_so : (whole : Bool) (role : Role) {p : Piece} → role_as whole role ≡ Stands p → role ≡ Stands p
stands_so whole (Uses m) e = cc
stands_so whole (Defines word) e = cc
stands_so whole (Stands q) e = e

-- a name that means a macro goes on to do so

abbrev Grows : Table → Table → Type 0
Grows old new = (name : List ℕ) → new name ≡ None → old name ≡ None

some_or : (b : Bool) (m : Macro) (x : Option Macro) → (if b then Some m else x) ≡ None → x ≡ None
some_or true m x e = cc
some_or false m x e = e

with_macro_grows : (name : List ℕ) (m : Macro) (first table : Table) → Grows first table → Grows first (with_macro name m table)
with_macro_grows name m first table h other e = h other (some_or (bytes_eq name other) m (table other) e)

piece_grows : (first table : Table) (piece : Piece) → Grows first table → macro_of table piece ≡ None → macro_of first piece ≡ None
piece_grows first table (Command name) h e = h name e
piece_grows first table Space h e = refl
piece_grows first table Open h e = refl
piece_grows first table Close h e = refl
piece_grows first table (Character c) h e = refl

-- no macro that held first has another name

-- the macro is no other name for one that held first
abbrev IsNoName : Table → Macro → Type 0
IsNoName first m = (piece : Piece) → m.alias ≡ Some piece → macro_of first piece ≡ None

abbrev AreNoNames : Table → Table → Type 0
AreNoNames first table = (name : List ℕ) (m : Macro) → table name ≡ Some m → IsNoName first m

-- macros that may hold after these
record Later (first table : Table) : Type 0 where
  grows : Grows first table
  no_names : AreNoNames first table

later_macro : (name : List ℕ) (m : Macro) (first table : Table) → IsNoName first m → Later first table → Later first (with_macro name m table)
later_macro name m first table h t = record {
  grows = with_macro_grows name m first table t.grows;
  no_names = λ other found e. of_found (IsNoName first) (bytes_eq name other) m found (table other) h (t.no_names other) e;
}

-- what is read passes
abbrev IfRead : {A : Type 0} → (A → Type 0) → Outcome A → Type 0
IfRead P (Read x l) = P x
IfRead P (Refused r) = ⊤

read_then : {A B : Type 0} (P : B → Type 0) (o : Outcome A) (more : A → Units → Outcome B) → ((x : A) (l : Units) → IfRead P (more x l)) → IfRead P (and_then o more)
read_then P (Read x l) more h = h x l
read_then P (Refused r) more h = tt

-- only `\let` gives another name
abbrev IsNameByLet : Word → Definition → Type 0
IsNameByLet Let d = ⊤
IsNameByLet word d = d.stands_for.alias ≡ None

with_default : (default : Option (List Part)) (n : ℕ) (parts : List Part) → (macro_with_default default n parts).alias ≡ None
with_default None n parts = refl
with_default (Some default) n parts = refl

command_names : (place : ℕ) (l : Units) → IfRead (λ d. d.stands_for.alias ≡ None) (command_definition place l)
command_names place l =
    read_then _ (name_of place (sign (byte "*") l).1) _ (λ name m. read_then _ (number_of place m) _ (λ n k. read_then _ (default_of place n k) _ (λ default j. read_then _ (body place n j) _ (λ parts rest. with_default default n parts))))

definition_names : (word : Word) (place : ℕ) (l : Units) → IfRead (IsNameByLet word) (definition_of word place l)
definition_names NewCommand place l = command_names place l
definition_names ProvideCommand place l = command_names place l
definition_names Def place l = read_then _ (name_of place l) _ (λ name m. read_then _ (parameter_text place m) _ (λ takes k. read_then _ (body place (parameter_count takes) k) _ (λ parts rest. refl)))
definition_names DeclareOperator place l = read_then _ (name_of place (sign (byte "*") l).1) _ (λ name m. read_then _ (body place 0 m) _ (λ parts rest. refl))
definition_names DeclareDelimiters place l = read_then _ (name_of place l) _ (λ name m. read_then _ (body place 0 m) _ (λ left k. read_then _ (body place 0 k) _ (λ right rest. refl)))
definition_names Let place l = read_then _ (name_of place l) _ (λ name m. read_then _ (any_piece place (past_space (sign (byte "=") m).1)) _ (λ piece rest. tt))

no_name : (first : Table) (m : Macro) → m.alias ≡ None → IsNoName first m
no_name first m e piece f = absurd (cc)

found_now : (first : Table) (piece : Piece) (found : Option Macro) → (found ≡ None → macro_of first piece ≡ None) → ((m : Macro) → found ≡ Some m → IsNoName first m) → IsNoName first (unwrap_or found (alias piece))
found_now first piece (Some m) none some = some m refl
found_now first piece None none some = λ other e. (let same : piece ≡ other = cc in subst (λ p. macro_of first p ≡ None) same (none refl))

resolved_now : (first table : Table) (m : Macro) (named : Option Piece) → m.alias ≡ named → Later first table → IsNoName first (resolved table m named)
resolved_now first table m (Some piece) e t = found_now first piece (macro_of table piece) (piece_grows first table piece t.grows) (of_used_macro (IsNoName first) piece table t.no_names)
resolved_now first table m None e t = no_name first m e

later_provided : (d : Definition) (found : Option Macro) (first table : Table) → d.stands_for.alias ≡ None → Later first table → Later first (provided d found table)
later_provided d (Some m) first table e t = t
later_provided d None first table e t = later_macro d.name d.stands_for first table (no_name first d.stands_for e) t

later : (word : Word) (d : Definition) (first table : Table) → IsNameByLet word d → Later first table → Later first (behind_definition word d table)
later ProvideCommand d first table e t = later_provided d (table d.name) first table e t
later NewCommand d first table e t = later_macro d.name d.stands_for first table (no_name first d.stands_for e) t
later Def d first table e t = later_macro d.name d.stands_for first table (no_name first d.stands_for e) t
later DeclareOperator d first table e t = later_macro d.name d.stands_for first table (no_name first d.stands_for e) t
later DeclareDelimiters d first table e t = later_macro d.name d.stands_for first table (no_name first d.stands_for e) t
later Let d first table e t = later_macro d.name (resolved table d.stands_for d.stands_for.alias) first table (resolved_now first table d.stands_for d.stands_for.alias refl t) t

-- the macros that hold after a turn
abbrev LaterBy : Table → Turn → Type 0
LaterBy first (Stays piece) = ⊤
LaterBy first (Turns next uses room l) = Later first next
LaterBy first (Fails r) = ⊤

arguments_later : (first table : Table) (uses room : ℕ) (u : Unit) (parts : List Part) (o : Outcome (List (List Unit))) → Later first table → LaterBy first (with_arguments table uses room u parts o)
arguments_later first table uses room u parts (Read args l) t = either (nat_lt room (length (put args u.place parts))) uses _ _ _
  where
    either : (b : Bool) (uses room : ℕ) (r : Refusal) (l : Units) → LaterBy first (if b then Fails r else Turns table uses room l)
    either true uses room r l = tt
    either false uses room r l = t
arguments_later first table uses room u parts (Refused r) t = tt

form_later : (first table : Table) (uses room : ℕ) (u : Unit) (f : Macro × Units) → Later first table → LaterBy first (used_form table uses room u f)
form_later first table uses room u (m, l) t = arguments_later first table uses room u m.body (macro_arguments m u.place l) t

used_later : (first table : Table) (uses room : ℕ) (u : Unit) (m : Macro) (l : Units) → Later first table → LaterBy first (used table uses room u m l)
used_later first table zero room u m l t = tt
used_later first table (suc uses) room u m l t = form_later first table uses room u (form_of m l) t

defined_later : (first table : Table) (uses room : ℕ) (word : Word) (o : Outcome Definition) → IfRead (IsNameByLet word) o → Later first table → LaterBy first (defined table uses room word o)
defined_later first table uses room word (Read d l) e t = later word d first table e t
defined_later first table uses room word (Refused r) e t = tt

turn_later : (role : Role) (first table : Table) (uses room : ℕ) (u : Unit) (l : Units) → Later first table → LaterBy first (turn_of role table uses room u l)
turn_later (Uses m) first table uses room u l t = used_later first table uses room u m l t
turn_later (Defines word) first table uses room u l t = defined_later first table uses room word (definition_of word u.place l) (definition_names word u.place l) t
turn_later (Stands piece) first table uses room u l t = tt

-- what stands later stands among the first macros

own_piece : (word : Option Word) (p q : Piece) → word_role word p ≡ Stands q → p ≡ q
own_piece (Some word) p q e = cc
own_piece None p q e = cc

own_stands : (first : Table) (p q : Piece) → macro_of first p ≡ None → own_role p ≡ Stands q → role_of first q ≡ Stands q
own_stands first p q none e = subst (λ x. role_of first x ≡ Stands q) (own_piece (word_of p) p q e) (ap (λ found. found_role found p) none ∙ e)

named_stands : (first : Table) (m : Macro) (named : Option Piece) (q : Piece) → m.alias ≡ named → IsNoName first m → macro_role m named ≡ Stands q → role_of first q ≡ Stands q
named_stands first m (Some piece) q e h stands = own_stands first piece q (h piece e) stands
named_stands first m None q e h stands = cc

found_stands : (first : Table) (found : Option Macro) (p q : Piece) → (found ≡ None → macro_of first p ≡ None) → ((m : Macro) → found ≡ Some m → IsNoName first m) → found_role found p ≡ Stands q → role_of first q ≡ Stands q
found_stands first (Some m) p q none some stands = named_stands first m m.alias q refl (some m refl) stands
found_stands first None p q none some stands = own_stands first p q (none refl) stands

done : {table : Table} {uses room : ℕ} {d : Due} {l m : Units} (first : Table) → Later first table → Expands table uses room d l m → AllStand first m
done first t at_end = tt
done first t at_stop = tt
done first t (stays {table = table} {uses = uses} {room = room} {d = d} {u = u} {piece = piece} {l = l} e x) =
    (found_stands first (macro_of table u.piece) u.piece piece (piece_grows first table u.piece t.grows) (of_used_macro (IsNoName first) u.piece table t.no_names) (stands_so (is_due d) (role_of table u.piece) (stands_staying (role_as (is_due d) (role_of table u.piece)) table uses room u l e)), done first t x)
done first t (turns {table = table} {next = next} {uses = uses} {room = room} {d = d} {u = u} {l = l} e x) =
    done first (subst (LaterBy first) e (turn_later (role_as (is_due d) (role_of table u.piece)) first table uses room u l t)) x
done first t (fails e) = tt

now : (table : Table) → AliasesStand table → Later table table
now table h = record { grows = λ name e. e; no_names = λ name m e piece f. h name m piece e f }

behind : (table next : Table) (uses room uses_left room_left : ℕ) (d : Due) (u : Unit) (l n m : Units) → AliasesStand next → turn table uses room d u l ≡ Turns next uses_left room_left n → Expands table uses room d (Next u l) m → AllStand next m
behind table next uses room uses_left room_left d u l n m h e x =
    let rest : Expands next uses_left room_left d n (expansion next uses_left room_left d n) = is_expanded next uses_left room_left d n in
    subst (AllStand next) (expands_once (turns e rest) x) (done next (now next h) rest)

most : {table : Table} {uses room : ℕ} {d : Due} {l m : Units} → Expands table uses room d l m → unit_count m ≤ unit_count l + room
most at_end = omega arith
most at_stop = omega arith
most (stays e x) = omega (arith, most x)
most (turns {table = table} {uses = uses} {room = room} {d = d} {u = u} {l = l} e x) =
    let less = subst (Shrinks (unit_count l + room)) e (turn_shrinks (role_as (is_due d) (role_of table u.piece)) table uses room u l) in
    omega (arith, less, most x)
most (fails e) = omega arith

-- another name

now_role : (found : Option Macro) (piece other : Piece) → found_role (Some (unwrap_or found (alias piece))) other ≡ found_role found piece
now_role (Some m) piece other = refl
now_role None piece other = refl

named : (table : Table) (name : List ℕ) (piece : Piece) → role_of (with_macro name (meaning_now table piece) table) (Command name) ≡ role_of table piece
named table name piece =
    let found : with_macro name (meaning_now table piece) table name ≡ Some (meaning_now table piece) = rw ((bytes_eq-Decides name name).1 refl) refl in
    ap (λ m. found_role m (Command name)) found ∙ now_role (macro_of table piece) piece (Command name)

pub have_one : HaveOneExpansion
have_one = λ table uses room d l. record { some = (_, is_expanded table uses room d l); one = λ m n x y. expands_once x y }

pub are_expanded : AreExpanded
are_expanded = record {
  own = own;
  done = λ table uses room d l m h x. done table (now table h) x;
  behind = behind;
  again = λ table uses room d l m h x. own table uses room d m (done table (now table h) x);
  most = λ table uses room d l m x. most x;
  named = named;
}

pub space_passed : IsSpacePassed
space_passed = record { behind_word = passed; before_argument = λ place takes u l e none. rw (none, e) refl }
  where
    passed : (word : Word) (place : ℕ) (u : Unit) (l : Units) → u.piece ≡ Space → definition_of word place (Next u l) ≡ definition_of word place l
    passed NewCommand place u l e = rw e refl
    passed ProvideCommand place u l e = rw e refl
    passed Def place u l e = rw e refl
    passed DeclareOperator place u l e = rw e refl
    passed DeclareDelimiters place u l e = rw e refl
    passed Let place u l e = rw e refl
