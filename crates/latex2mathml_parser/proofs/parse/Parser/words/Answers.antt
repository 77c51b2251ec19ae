use Rattle.latex2mathml_grammar.specs.Grammar.{gives}
use Rattle.latex2mathml_trees.specs.Tree.{words}
use Rattle.latex2mathml_parser.proofs.Levels.{named}
use Rattle.latex2mathml_parser.proofs.parse.Parser.words.Goals as goal

pub returns-clause-holds : goal.returns-clause-holds
returns-clause-holds c = λ input k.
    rw c.in_ok-put_words.ensures (named (λ name. gives (words name)) c.in_ok-text.ensures.name k)
