-- What is found from here on, after the text so far, is what was to be found.
use Rattle.std.proofs.Common.{◌≡◌, ◌≤◌, string_bytes}
use Rattle.latex2mathml_tex_grammar.specs.Scanning.{scan}
use Rattle.latex2mathml_tex_units.specs.Left.{SameUnits, unit_count, units_at}
use Rattle.latex2mathml_tex_units.specs.Scans.{behind_text, spot_of}
use Rattle.latex2mathml_tex_units.proofs.input.Input.scan.Given as goal

abbrev pub invariant-units : goal.invariant-units
invariant-units l = record {
  found : behind_text (string_bytes l.text) (scan l.place (units_at l.self) (spot_of l.spot))
      ≡ behind_text (string_bytes l.fn.text) (scan l.place (units_at l.fn.self) (spot_of l.fn.spot));
  fewer : unit_count (units_at l.self) ≤ unit_count (units_at l.fn.self);
  same : SameUnits l.fn.self l.self;
}

abbrev pub decreases-units : goal.decreases-units
decreases-units l = unit_count (units_at l.self)
