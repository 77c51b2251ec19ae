use Rattle.latex2mathml_tex_grammar.specs.{Makes.boxed_atom, Makes.core, Rows.as_base, Symbols.Ordinary}
use Rattle.latex2mathml_tex_commands.specs.Meanings.{box_of, style_of}
use Rattle.latex2mathml_tex.proofs.Leading.{words_operand_due}
use Rattle.latex2mathml_tex.proofs.parse.Parser.open_word_box.Goals as goal

pub returns-clause-holds : goal.returns-clause-holds
returns-clause-holds c = λ s g.
    c.open_words.ensures.holds s g.style (words_operand_due (λ x. core (boxed_atom (box_of c.args.operand_box) (as_base (style_of c.args.context.style) Ordinary x))) g.leads)
