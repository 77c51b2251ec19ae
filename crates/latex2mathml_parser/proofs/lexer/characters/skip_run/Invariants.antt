use Rattle.std.proofs.Common.{◌≡◌, ℕ, List, ◌++◌, length}
use denote.Shadow.{shadow}
use denote.Text.{Utf8}
use Rattle.std.specs.{List.AllPass, Str.chars}
use Rattle.latex2mathml_parser.specs.Lexing.{in_class}
use Rattle.latex2mathml_parser.proofs.lexer.characters.skip_run.Given as goal

abbrev pub invariant-loop-after : goal.invariant-loop-after
invariant-loop-after l = record {
  utf8 : shadow (Utf8 l.rest);
  front : (front : List ℕ) × (chars l.fn.text ≡ front ++ chars l.rest) × AllPass (in_class l.class) front;
}

abbrev pub decreases-loop-after : goal.decreases-loop-after
decreases-loop-after l = length (chars l.rest)
