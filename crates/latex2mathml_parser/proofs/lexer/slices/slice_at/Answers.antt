use Rattle.std.proofs.Common.{[], ◌∷◌}
use Rattle.latex2mathml_parser.proofs.Spellings.{colon_with_equals, lone_colon, lone_digit, not_longer, one_character}
use Rattle.latex2mathml_parser.proofs.lexer.slices.slice_at.Goals as goal

pub before-requires : goal.before-requires
before-requires c = (c.args.c ∷ [], c.requires.starts)

pub returns-then-is_lone-clause-lexeme : goal.returns-then-is_lone-clause-lexeme
returns-then-is_lone-clause-lexeme c = lone_digit _ _ c.args.c _ _ c.requires.starts (cc) (cc) c.before-then-is_lone.ensures

pub returns-in-Some-clause-lexeme : goal.returns-in-Some-clause-lexeme
returns-in-Some-clause-lexeme c = colon_with_equals _ _ c.args.c _ _ c.requires.starts c.if-c-eq58.true c.in-Some.ensures

pub returns-in-None-clause-lexeme : goal.returns-in-None-clause-lexeme
returns-in-None-clause-lexeme c = lone_colon _ _ c.args.c _ c.requires.starts c.if-c-eq58.true c.in-None.ensures

pub returns-clause-lexeme : goal.returns-clause-lexeme
returns-clause-lexeme c = one_character _ _ c.args.c _ _ c.requires.starts (not_longer c.args.c (cc) c.requires.no_backslash c.if-c-eq58.false) c.requires.no_space (cc)
