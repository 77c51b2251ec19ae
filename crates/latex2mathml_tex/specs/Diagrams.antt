-- What holds of the parser in diagrams.
use Rattle.std.specs.Prelude.{◌≡◌, ℕ, ◌+◌}
use Rattle.latex2mathml_tex_commands.specs.{Diagrams.diagram_arrow, Meanings.style_of, declared.diagrams.DiagramArrow.DiagramArrow}
use Rattle.latex2mathml_tex_grammar.specs.{Rules.arrow_rule}
use Rattle.latex2mathml_tex.specs.Frames.{Start, context_at}
use Rattle.latex2mathml_tex.specs.Levels.{CoreMade, RuleLeads}
use Rattle.latex2mathml_tex.specs.Steps.{elements_of, left_of, level}
use Rattle.latex2mathml_tex.specs.Tables.{ArrowMade, cell_context, cells_of, rows_of}
use Rattle.latex2mathml_tex.specs.declared.parse.{Parser.Parser, endings.Table.Table}

-- An arrow is due, whose sign was taken and whose at sign was at this place. It is the next cell of a table.
pub record MakesArrow (arrow : DiagramArrow) (t : Table) (place at : ℕ) (s : Start) (p : Parser) : Type 0 where
  pub style : s.style ≡ style_of p.style
  pub leads : RuleLeads (arrow_rule at (cell_context t (context_at (level (t.cells + t.rows) s p))) (diagram_arrow arrow))
      (ArrowMade t place (rows_of t (elements_of p)) (cells_of t (elements_of p)) (context_at (level (t.cells + t.rows) s p)) (CoreMade (level (t.cells + t.rows) s p)))
      (left_of p)
