-- The arrows of the code, as the definitions have them.
use Rattle.std.specs.Prelude.{ℕ, List, codes}
use Rattle.latex2mathml_tex_grammar.specs.Diagrams as diagrams
use Rattle.latex2mathml_tex_commands.specs.declared.diagrams.{DiagramArrow.DiagramArrow, Direction.Direction}
use Rattle.latex2mathml_tex_commands.specs.declared.diagrams.DiagramArrow.TheVariants as arrow
use Rattle.latex2mathml_tex_commands.specs.declared.diagrams.Direction.TheVariants as direction

abbrev pub direction_of : Direction → diagrams.Direction
direction_of direction.Rightwards = diagrams.Rightwards
direction_of direction.Leftwards = diagrams.Leftwards
direction_of direction.Upwards = diagrams.Upwards
direction_of direction.Downwards = diagrams.Downwards

abbrev pub diagram_arrow : DiagramArrow → diagrams.DiagramArrow
diagram_arrow (arrow.Labeled d) = diagrams.Labeled (direction_of d)
diagram_arrow arrow.LongEquals = diagrams.LongEquals
diagram_arrow arrow.HighBars = diagrams.HighBars
diagram_arrow arrow.Nothing = diagrams.NoArrow

-- the sign of an arrow, as a text
abbrev pub arrow_sign : DiagramArrow → List ℕ
arrow_sign (arrow.Labeled direction.Rightwards) = codes ">"
arrow_sign (arrow.Labeled direction.Leftwards) = codes "<"
arrow_sign (arrow.Labeled direction.Upwards) = codes "A"
arrow_sign (arrow.Labeled direction.Downwards) = codes "V"
arrow_sign arrow.LongEquals = codes "="
arrow_sign arrow.HighBars = codes "|"
arrow_sign arrow.Nothing = codes "."
