-- The expansion of units, computed, so that the rest of a text can be seen as what it expands to. `Expands` says what it
-- is: no promise depends on how it is found here.
use Rattle.std.specs.Prelude.{ℕ, zero, suc, ◌+◌}
use Rattle.latex2mathml_tex_grammar.specs.Expansion.{Turn, Stays, Turns, Fails, turn}
use Rattle.latex2mathml_tex_grammar.specs.{Macros.Table, Macros.unit_count, Operands.Due, Operands.due_behind}
use Rattle.latex2mathml_tex_grammar.specs.Units.{Unit, unit, Units, Next, End, Stop}

-- what a turn leads to: a unit and what follows it, only what follows, or a refusal
abbrev pub turned : Turn → Table → ℕ → ℕ → Due → Unit → Units → (Table → ℕ → ℕ → Due → Units → Units) → Units
turned (Stays piece) table uses room d u l more = Next (unit piece u.place) (more table uses room (due_behind piece d) l)
turned (Turns next uses_left room_left m) table uses room d u l more = more next uses_left room_left d m
turned (Fails r) table uses room d u l more = Stop r

-- the expansion, where this many steps are enough
unfoldable pub expansion_within : ℕ → Table → ℕ → ℕ → Due → Units → Units
expansion_within zero table uses room d l = l
expansion_within (suc n) table uses room d (Next u l) = turned (turn table uses room d u l) table uses room d u l (expansion_within n)
expansion_within (suc n) table uses room d (End place) = End place
expansion_within (suc n) table uses room d (Stop r) = Stop r

-- the expansion of units after which these operands are to come
unfoldable pub expansion : Table → ℕ → ℕ → Due → Units → Units
expansion table uses room d l = expansion_within (suc (unit_count l + room)) table uses room d l
