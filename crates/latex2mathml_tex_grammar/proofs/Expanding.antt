-- Units have one expansion, and it is the one that is computed.
use Rattle.std.proofs.Common.{ℕ, zero, suc, ◌+◌, ◌<◌, ◌≤◌, ◌≡◌, List, length, refl, sym, ap, subst, ◌∙◌, arith}
use Rattle.std.proofs.{lemmas.Bool.Decides.nat_tests}
use Rattle.std.specs.Prelude.{⊤, nat_lt}
use Rattle.latex2mathml_tex_grammar.specs.Arguments.{macro_arguments}
use Rattle.latex2mathml_tex_grammar.specs.Definitions.{Word, Definition, definition_of}
use Rattle.latex2mathml_tex_grammar.specs.Expanding.{turned, expansion_within, expansion}
use Rattle.latex2mathml_tex_grammar.specs.Expansion.{form_of, used_form, Role, Uses, Defines, Stands, role_of, Turn, Stays, Turns, Fails, replaced, with_arguments, used, defined, turn_of, role_as, turn, Expands, at_end, at_stop, stays, turns, fails}
use Rattle.latex2mathml_tex_grammar.specs.{Macros.Part, Macros.Macro, Macros.Table, Macros.put, Macros.unit_count, Operands.Due, Operands.due_behind, Operands.is_due}
use Rattle.latex2mathml_tex_grammar.specs.{Reading.Outcome, Reading.Read, Reading.Refused, Refusal.Refusal}
use Rattle.latex2mathml_tex_grammar.specs.Units.{Piece, Unit, unit, Units, Next, End, Stop}
use Rattle.latex2mathml_tex_grammar.proofs.Choices.{of_chosen}
use Rattle.latex2mathml_tex_grammar.proofs.Shrinking.{Leaves, form_leaves, macro_arguments_leave, definition_leaves, count-before}

-- what is expanded instead, with what can still be put, is at most n units
abbrev pub Shrinks : ℕ → Turn → Type 0
Shrinks n (Stays piece) = ⊤
Shrinks n (Turns table uses room l) = unit_count l + room ≤ n
Shrinks n (Fails r) = ⊤

replaced_shrinks : (n : ℕ) (table : Table) (uses room : ℕ) (u : Unit) (us : List Unit) (l : Units) → unit_count l + room ≤ n → Shrinks n (replaced table uses room u us l)
replaced_shrinks n table uses room u us l h = of_chosen (Shrinks n) (nat_lt room (length us)) (λ e. tt) (λ e.
    let fits : length us ≤ room = grind (arith, nat_tests) in
    omega (arith, h, fits, count-before us l))

with_arguments_shrinks : (n k : ℕ) (table : Table) (uses room : ℕ) (u : Unit) (parts : List Part) (o : Outcome (List (List Unit))) → Leaves k o → k + room ≤ n → Shrinks n (with_arguments table uses room u parts o)
with_arguments_shrinks n k table uses room u parts (Read args l) left h = replaced_shrinks n table uses room u (put args u.place parts) l (omega (arith, left, h))
with_arguments_shrinks n k table uses room u parts (Refused r) left h = tt

form_shrinks : (n : ℕ) (table : Table) (uses room : ℕ) (u : Unit) (f : Macro × Units) → unit_count f.1 + room ≤ n → Shrinks n (used_form table uses room u f)
form_shrinks n table uses room u (m, l) h = with_arguments_shrinks n (unit_count l) table uses room u m.body (macro_arguments m u.place l) (macro_arguments_leave m u.place l) h

used_shrinks : (table : Table) (uses room : ℕ) (u : Unit) (m : Macro) (l : Units) → Shrinks (unit_count l + room) (used table uses room u m l)
used_shrinks table zero room u m l = tt
used_shrinks table (suc uses) room u m l = form_shrinks (unit_count l + room) table uses room u (form_of m l) (omega (arith, form_leaves m l))

defined_shrinks : (n k : ℕ) (table : Table) (uses room : ℕ) (word : Word) (o : Outcome Definition) → Leaves k o → k + room ≤ n → Shrinks n (defined table uses room word o)
defined_shrinks n k table uses room word (Read d l) left h = omega (arith, left, h)
defined_shrinks n k table uses room word (Refused r) left h = tt

pub turn_shrinks : (role : Role) (table : Table) (uses room : ℕ) (u : Unit) (l : Units) → Shrinks (unit_count l + room) (turn_of role table uses room u l)
turn_shrinks (Uses m) table uses room u l = used_shrinks table uses room u m l
turn_shrinks (Defines word) table uses room u l = defined_shrinks (unit_count l + room) (unit_count l) table uses room word (definition_of word u.place l) (definition_leaves word u.place l) (omega arith)
turn_shrinks (Stands piece) table uses room u l = tt

-- Units have an expansion

turned_expands : (n : ℕ) (table : Table) (uses room : ℕ) (d : Due) (u : Unit) (l : Units) (t : Turn) → turn table uses room d u l ≡ t → Shrinks (unit_count l + room) t → unit_count l + room < n
    → ((table : Table) (uses room : ℕ) (d : Due) (l : Units) → unit_count l + room < n → Expands table uses room d l (expansion_within n table uses room d l))
    → Expands table uses room d (Next u l) (turned t table uses room d u l (expansion_within n))
turned_expands n table uses room d u l (Stays piece) e s h more = stays e (more table uses room (due_behind piece d) l h)
turned_expands n table uses room d u l (Turns next uses_left room_left m) e s h more = turns e (more next uses_left room_left d m (omega (arith, s, h)))
turned_expands n table uses room d u l (Fails r) e s h more = fails e

expands_within : (n : ℕ) (table : Table) (uses room : ℕ) (d : Due) (l : Units) → unit_count l + room < n → Expands table uses room d l (expansion_within n table uses room d l)
unfolding expansion_within
expands_within zero table uses room d l h = absurd (omega (arith, h))
expands_within (suc n) table uses room d (Next u l) h = turned_expands n table uses room d u l (turn table uses room d u l) refl (turn_shrinks (role_as (is_due d) (role_of table u.piece)) table uses room u l) (omega (arith, h)) (expands_within n)
expands_within (suc n) table uses room d (End place) h = at_end
expands_within (suc n) table uses room d (Stop r) h = at_stop

pub is_expanded : (table : Table) (uses room : ℕ) (d : Due) (l : Units) → Expands table uses room d l (expansion table uses room d l)
unfolding expansion
is_expanded table uses room d l = expands_within (suc (unit_count l + room)) table uses room d l (omega arith)

-- Units have no other expansion

turns_moved : (t : Turn) {table next : Table} {uses room uses_left room_left : ℕ} {d : Due} {l m n : Units} → t ≡ Turns table uses room l → t ≡ Turns next uses_left room_left m → Expands next uses_left room_left d m n → Expands table uses room d l n
turns_moved t {table} {next} {uses} {room} {uses_left} {room_left} {d} {l} {m} {n} e f x =
    let tables : next ≡ table = cc in
    let uses_same : uses_left ≡ uses = cc in
    let rooms : room_left ≡ room = cc in
    let units : m ≡ l = cc in
    subst (λ k. Expands table uses room d k n) units (subst (λ k. Expands table uses k d m n) rooms (subst (λ k. Expands table k room_left d m n) uses_same (subst (λ k. Expands k uses_left room_left d m n) tables x)))

pub expands_once : {table : Table} {uses room : ℕ} {d : Due} {l m n : Units} → Expands table uses room d l m → Expands table uses room d l n → m ≡ n
expands_once at_end at_end = refl
expands_once at_stop at_stop = refl
expands_once {table} {uses} {room} {d} (stays {u = u} {piece = p} {l = l} e x) (stays {piece = q} {m = n} f y) =
    let same : q ≡ p = cc in
    ap (Next (unit p u.place)) (expands_once x (subst (λ piece. Expands table uses room (due_behind piece d) l n) same y)) ∙ ap (λ piece. Next (unit piece u.place) n) (sym same)
expands_once (stays e d) (turns f d') = cc
expands_once (stays e d) (fails f) = cc
expands_once (turns e d) (stays f d') = cc
expands_once (turns {table = table} {uses = uses} {room = room} {d = d} {u = u} {l = l} e x) (turns f y) = expands_once x (turns_moved (turn table uses room d u l) e f y)
expands_once (turns e d) (fails f) = cc
expands_once (fails e) (stays f d') = cc
expands_once (fails e) (turns f d') = cc
expands_once (fails {r = r} e) (fails {r = q} f) = let same : r ≡ q = cc in ap Stop same

pub expansion_is : {table : Table} {uses room : ℕ} {d : Due} {l m : Units} → Expands table uses room d l m → expansion table uses room d l ≡ m
expansion_is {table} {uses} {room} {d} {l} x = expands_once (is_expanded table uses room d l) x

-- The expansion, step by step

pub expansion_end : (table : Table) (uses room : ℕ) (d : Due) (place : ℕ) → expansion table uses room d (End place) ≡ End place
expansion_end table uses room d place = expansion_is at_end

pub expansion_stop : (table : Table) (uses room : ℕ) (d : Due) (r : Refusal) → expansion table uses room d (Stop r) ≡ Stop r
expansion_stop table uses room d r = expansion_is at_stop

pub expansion_stays : (table : Table) (uses room : ℕ) (d : Due) (u : Unit) (piece : Piece) (l : Units) → turn table uses room d u l ≡ Stays piece → expansion table uses room d (Next u l) ≡ Next (unit piece u.place) (expansion table uses room (due_behind piece d) l)
expansion_stays table uses room d u piece l e = expansion_is (stays e (is_expanded table uses room (due_behind piece d) l))

pub expansion_turns : (table : Table) (uses room : ℕ) (d : Due) (u : Unit) (l : Units) (next : Table) (uses_left room_left : ℕ) (m : Units) → turn table uses room d u l ≡ Turns next uses_left room_left m → expansion table uses room d (Next u l) ≡ expansion next uses_left room_left d m
expansion_turns table uses room d u l next uses_left room_left m e = expansion_is (turns e (is_expanded next uses_left room_left d m))

pub expansion_fails : (table : Table) (uses room : ℕ) (d : Due) (u : Unit) (l : Units) (r : Refusal) → turn table uses room d u l ≡ Fails r → expansion table uses room d (Next u l) ≡ Stop r
expansion_fails table uses room d u l r e = expansion_is (fails e)
