use Rattle.latex2mathml_parser.proofs.Spellings.{letters_named, nothing_named, symbol_named}
use Rattle.latex2mathml_parser.proofs.lexer.slices.skip_command_name.Goals as goal

pub returns-in-Some : goal.returns-in-Some
returns-in-Some c = let (x, found, letter) = c.in-Some.ensures in letters_named _ x _ _ found letter c.skip_run.ensures

pub returns-in-Some-first_char : goal.returns-in-Some-first_char
returns-in-Some-first_char c = symbol_named _ c.in-Some-first_char.field-0-0 _ c.in-Some-first_char.ensures (rw c.in-Some-first_char.ensures at c.in_default.ensures)

pub returns-in-None : goal.returns-in-None
returns-in-None c = nothing_named _ c.in-None.ensures
