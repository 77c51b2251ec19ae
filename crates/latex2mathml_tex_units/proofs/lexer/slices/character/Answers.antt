use Rattle.std.proofs.Common.{[], ◌∷◌, refl}
use Rattle.latex2mathml_tex_grammar.specs.Units.{character}
use Rattle.latex2mathml_tex_units.proofs.Starts.{forbidden_here}
use Rattle.latex2mathml_tex_units.proofs.lexer.slices.character.Goals as goal

pub returns-then-is_forbidden-clause-start : goal.returns-then-is_forbidden-clause-start
returns-then-is_forbidden-clause-start c = forbidden_here c.args.c _ (cc)

pub returns-else-is_forbidden-clause-start : goal.returns-else-is_forbidden-clause-start
returns-else-is_forbidden-clause-start c = (c.args.c ∷ [], refl, character c.args.c c.requires (cc) refl refl)
