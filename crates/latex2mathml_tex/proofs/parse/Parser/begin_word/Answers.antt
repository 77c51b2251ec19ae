use Rattle.std.proofs.Common.{ap}
use Rattle.latex2mathml_tex_grammar.specs.{Words.font_in, Words.word_rule, Words.word_space}
use Rattle.latex2mathml_tex_atoms.specs.Models.{context_of}
use Rattle.latex2mathml_tex_units.specs.Taking.{piece_of}
use Rattle.latex2mathml_tex.proofs.{WordRules.group_begun, Wording.stands}
use Rattle.latex2mathml_tex.proofs.parse.Parser.begin_word.Goals as goal

pub returns-in-Open-clause-holds : goal.returns-in-Open-clause-holds
returns-in-Open-clause-holds c = λ s g. c.words_in_braces.ensures.holds s (group_begun s c.args.self.now c.args.words c.args.unit.place (rw c.in-Open.is at g))

pub returns-in-Space-clause-holds : goal.returns-in-Space-clause-holds
returns-in-Space-clause-holds c = λ s g.
    let k = context_of c.args.context in
    let rule = ap (λ piece. word_rule k.alphabet (piece_of piece)) c.in-Space.is in
    c.show.ensures.holds s (stands s c.args.self.now c.args.words (piece_of c.args.unit.piece) c.args.unit.place k (word_space (font_in k.alphabet)) rule g)

pub returns-in-Character-clause-holds : goal.returns-in-Character-clause-holds
returns-in-Character-clause-holds c = λ s g. c.character_in_words.ensures.holds s (rw c.in-Character.is at g)

pub returns-in-Command-clause-holds : goal.returns-in-Command-clause-holds
returns-in-Command-clause-holds c = λ s g. c.word_command.ensures.holds s (rw c.in-Command.is at g)
