use Rattle.std.proofs.Common.{refl, codes}
use Rattle.latex2mathml_tex_grammar.specs.Units.{opening, closing}
use Rattle.latex2mathml_tex_units.proofs.Starts.{byte_begins, comment_begins, space_begins}
use Rattle.latex2mathml_tex_units.proofs.lexer.slices.front.Goals as goal

pub returns-in-123-clause-start : goal.returns-in-123-clause-start
returns-in-123-clause-start c = (codes "{", byte_begins c.in-Some.c _ _ _ c.in-Some.ensures c.in-123.is, opening refl refl)

pub returns-in-125-clause-start : goal.returns-in-125-clause-start
returns-in-125-clause-start c = (codes "}", byte_begins c.in-Some.c _ _ _ c.in-Some.ensures c.in-125.is, closing refl refl)

pub returns-in-37-clause-start : goal.returns-in-37-clause-start
returns-in-37-clause-start c = comment_begins _ _ _ (byte_begins c.in-Some.c _ _ _ c.in-Some.ensures c.in-37.is) c.skip_comment.ensures

pub returns-then-is_space-clause-start : goal.returns-then-is_space-clause-start
returns-then-is_space-clause-start c = space_begins c.in-Some.c _ _ _ c.in-Some.ensures (cc) c.skip_space.ensures
