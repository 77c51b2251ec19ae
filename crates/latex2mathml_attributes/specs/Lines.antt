-- The lines of the code, as values of the definitions.
use Rattle.latex2mathml_elements.specs.Lines as defined
use Rattle.latex2mathml_attributes.specs.declared.line.Line.{Line}
use Rattle.latex2mathml_attributes.specs.declared.line.Line.TheVariants as line

abbrev pub line_of : Line → defined.Line
line_of line.Nothing = defined.NoLine
line_of line.One = defined.OneLine
line_of line.Two = defined.TwoLines
line_of line.Dashes = defined.Dashes
