use Rattle.latex2mathml_tex_units.proofs.Starts.{forbidden_named, letters_named, no_letters, symbol_named}
use Rattle.latex2mathml_tex_units.proofs.lexer.slices.command.Goals as goal

pub returns-then-not-is_empty-clause-start : goal.returns-then-not-is_empty-clause-start
returns-then-not-is_empty-clause-start c = letters_named _ _ _ _ c.split_letters.ensures (cc) c.skip_space.ensures

pub returns-then-is_forbidden-clause-start : goal.returns-then-is_forbidden-clause-start
returns-then-is_forbidden-clause-start c = forbidden_named c.in-Some.c _ _ c.in-Some.ensures (cc)

pub returns-clause-start : goal.returns-clause-start
returns-clause-start c = symbol_named c.in-Some.c _ _ _ c.in-Some.ensures (no_letters _ _ _ _ c.in-Some.c c.split_letters.ensures (cc) c.in-Some.ensures) (cc) c.symbol_name.ensures
