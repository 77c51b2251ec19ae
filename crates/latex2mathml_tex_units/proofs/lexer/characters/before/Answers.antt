use Rattle.std.proofs.Common.{◌∙◌}
use Rattle.latex2mathml_tex_units.proofs.Texts.{ends_at}
use Rattle.latex2mathml_tex_units.proofs.lexer.characters.before.Goals as goal

pub overflow_sub-text : goal.overflow_sub-text
overflow_sub-text c = (ends_at _ _ _ c.utf8.text c.utf8.rest c.requires.1).0

pub split_at-requires : goal.split_at-requires
split_at-requires c = (ends_at _ _ _ c.utf8.text c.utf8.rest c.requires.1).1

pub returns : goal.returns
returns c = λ w e. c.split_at.ensures.front ∙ (ends_at _ _ _ c.utf8.text c.utf8.rest e).2
