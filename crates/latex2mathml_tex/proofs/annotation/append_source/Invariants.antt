-- The characters so far were appended.
use Rattle.std.proofs.Common.{◌≡◌, ◌++◌, string_bytes}
use Rattle.std.specs.List.{flat_map}
use Rattle.latex2mathml_tokens.specs.Escape.{content_char}
use Rattle.latex2mathml_tex_grammar.specs.Formulas.{source_character}
use Rattle.latex2mathml_tex.proofs.annotation.append_source.Given as goal

abbrev pub invariant-loop-c : goal.invariant-loop-c
invariant-loop-c l = string_bytes l.out ≡ string_bytes l.initial.out ++ flat_map (λ c. content_char (source_character c)) l.yielded
