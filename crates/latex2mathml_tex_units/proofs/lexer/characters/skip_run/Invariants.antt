-- What was skipped is of the class.
use Rattle.std.proofs.Common.{◌≡◌, ℕ, List, ◌++◌, length}
use denote.Shadow.{shadow}
use denote.Text.{Utf8}
use Rattle.std.specs.{List.AllByRecursion, Prelude.IsTrue, Str.chars}
use Rattle.latex2mathml_tex_units.specs.Runs.{in_class}
use Rattle.latex2mathml_tex_units.proofs.lexer.characters.skip_run.Given as goal

abbrev pub invariant-loop-c : goal.invariant-loop-c
invariant-loop-c l = record {
  utf8 : shadow (Utf8 l.rest);
  skipped : (w : List ℕ) × (chars l.fn.text ≡ w ++ chars l.rest) × AllByRecursion (λ x. IsTrue (in_class l.class x)) w;
}

abbrev pub decreases-loop-c : goal.decreases-loop-c
decreases-loop-c l = length (chars l.rest)
