use Rattle.latex2mathml_grammar.specs.Grammar.{after_environment_members, reads_members}
use Rattle.latex2mathml_tokens.specs.Tok.{End}
use Rattle.latex2mathml_parser.proofs.Levels.{named}
use Rattle.latex2mathml_parser.proofs.parse.Parser.begin_environment.Goals as goal

pub returns-clause-holds : goal.returns-clause-holds
returns-clause-holds c = λ input k.
    c.open.ensures.holds input
    (rw c.in_ok-put_words.ensures (named (λ name. reads_members End (after_environment_members name)) c.in_ok-name.ensures.name k))
