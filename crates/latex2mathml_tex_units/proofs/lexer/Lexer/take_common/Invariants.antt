-- The units so far stay, and the text may be cut where the next one begins.
use Rattle.std.proofs.Common.{◌+◌, ◌≤◌, drop, length}
use Rattle.std.specs.Str.{chars, IsCharBoundary}
use Rattle.latex2mathml_tex_grammar.specs.{Cutting.units_of, Macros.unit_count}
use Rattle.latex2mathml_tex_units.specs.{Left.units_left, Standing.AreStanding, Standing.Moves}
use Rattle.latex2mathml_tex_units.proofs.lexer.Lexer.take_common.Given as goal

abbrev pub invariant-units : goal.invariant-units
invariant-units l = record {
  within : l.at ≤ length l.fn.self.rest.now;
  cut : IsCharBoundary l.fn.self.rest.now l.at;
  moved : Moves l.fn.units.items l.units.items (λ taken. AreStanding l.usual taken (units_left l.fn.self) (units_of (l.fn.self.place + l.at) (chars (drop l.at l.fn.self.rest.now))));
}

abbrev pub decreases-units : goal.decreases-units
decreases-units l = unit_count (units_of (l.fn.self.place + l.at) (chars (drop l.at l.fn.self.rest.now)))
