use Rattle.latex2mathml_parser.proofs.Spellings.{command_spelled}
use Rattle.latex2mathml_parser.proofs.lexer.slices.command.Goals as goal

pub returns-clause-lexeme : goal.returns-clause-lexeme
returns-clause-lexeme c = λ alone. command_spelled alone _ _ _ _ c.skip_command_name-behind.ensures c.before-name.ensures c.of_command-compared.ensures.lexeme
