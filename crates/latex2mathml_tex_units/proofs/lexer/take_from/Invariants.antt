-- Comments are nothing, so the units that are left are those of the text.
use Rattle.std.proofs.Common.{◌≡◌, ◌+◌, length}
use denote.Shadow.{shadow}
use denote.Text.{Utf8}
use Rattle.std.specs.Str.{chars}
use Rattle.latex2mathml_tex_grammar.specs.Cutting.{units_of}
use Rattle.latex2mathml_tex_units.proofs.lexer.take_from.Given as goal

abbrev pub invariant-text : goal.invariant-text
invariant-text l = record {
  utf8 : shadow (Utf8 l.text);
  same : units_of l.place (chars l.text) ≡ units_of l.fn.start (chars l.fn.text);
  end : l.place + length l.text ≡ l.fn.start + length l.fn.text;
}

abbrev pub decreases-text : goal.decreases-text
decreases-text l = length (chars l.text)
