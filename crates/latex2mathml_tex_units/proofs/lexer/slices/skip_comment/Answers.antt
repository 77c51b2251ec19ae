use Rattle.latex2mathml_tex_units.proofs.Starts.{comment_ends, comment_ends_text}
use Rattle.latex2mathml_tex_units.proofs.lexer.slices.skip_comment.Goals as goal

pub returns-in-Some : goal.returns-in-Some
returns-in-Some c = comment_ends _ _ _ _ c.skip_run-end.ensures c.in-Some.ensures

pub returns-in-None : goal.returns-in-None
returns-in-None c = comment_ends_text _ _ c.skip_run-end.ensures c.in-None.ensures
