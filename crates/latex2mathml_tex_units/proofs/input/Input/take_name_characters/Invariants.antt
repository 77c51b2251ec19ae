-- What is found in the name, after the characters so far, stays the same.
use Rattle.std.proofs.Common.{◌≡◌, ℕ, ◌≤◌, string_bytes}
use Rattle.latex2mathml_tex_grammar.specs.Scanning.{scan}
use Rattle.latex2mathml_tex_units.specs.Left.{SameUnits, unit_count, units_at}
use Rattle.latex2mathml_tex_units.specs.Scans.{behind_text, spot_of}
use Rattle.latex2mathml_tex_units.proofs.input.Input.take_name_characters.Given as goal

abbrev pub invariant-characters : goal.invariant-characters
invariant-characters l = record {
  found : (place : ℕ) → behind_text (string_bytes l.text) (scan place (units_at l.self) (spot_of l.fn.spot))
      ≡ behind_text (string_bytes l.fn.text) (scan place (units_at l.fn.self) (spot_of l.fn.spot));
  fewer : unit_count (units_at l.self) ≤ unit_count (units_at l.fn.self);
  same : SameUnits l.fn.self l.self;
}

abbrev pub decreases-characters : goal.decreases-characters
decreases-characters l = unit_count (units_at l.self)
