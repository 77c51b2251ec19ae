-- The units so far stay, and the place is counted from the end.
use Rattle.std.proofs.Common.{◌-◌, ◌≤◌, length}
use denote.Shadow.{shadow}
use denote.Text.{Utf8}
use Rattle.std.specs.Str.{chars}
use Rattle.latex2mathml_tex_grammar.specs.{Cutting.units_of, Macros.unit_count}
use Rattle.latex2mathml_tex_units.specs.{Left.units_left, Standing.AreStanding, Standing.Moves}
use Rattle.latex2mathml_tex_units.proofs.lexer.Lexer.take_standing.Given as goal

abbrev pub invariant-units : goal.invariant-units
invariant-units l = record {
  utf8 : shadow (Utf8 l.rest);
  within : length l.rest ≤ l.end;
  moved : Moves l.fn.units.items l.units.items (λ taken. AreStanding l.usual taken (units_left l.fn.self) (units_of (l.end - length l.rest) (chars l.rest)));
}

abbrev pub decreases-units : goal.decreases-units
decreases-units l = unit_count (units_of (l.end - length l.rest) (chars l.rest))
