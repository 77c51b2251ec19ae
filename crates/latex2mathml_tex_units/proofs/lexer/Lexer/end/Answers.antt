use Rattle.std.proofs.Common.{sym, ◌∙◌}
use Rattle.latex2mathml_tex_units.proofs.Taken.{ended_there}
use Rattle.latex2mathml_tex_units.proofs.lexer.Lexer.end.Goals as goal

pub returns-then-is_empty : goal.returns-then-is_empty
returns-then-is_empty c = ended_there _ _ (sym c.is_empty.ensures ∙ c.if-is_empty.true)
