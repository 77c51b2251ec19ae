use Rattle.latex2mathml_grammar.specs.Grammar.{gives}
use Rattle.latex2mathml_trees.specs.Tree.{function}
use Rattle.latex2mathml_parser.proofs.Levels.{named}
use Rattle.latex2mathml_parser.proofs.parse.Parser.function.Goals as goal

pub returns-clause-holds : goal.returns-clause-holds
returns-clause-holds c = λ input k.
    rw c.in_ok-put_function.ensures (named (λ name. gives (function name)) c.in_ok-name.ensures.name k)
