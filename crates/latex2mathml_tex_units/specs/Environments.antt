-- The environments of the code, as the definitions describe them.
use Rattle.std.specs.Prelude.{ℕ, List, option_map, Option}
use Rattle.latex2mathml_elements.specs.Columns.{Centered, LeftAligned, Dense, Usual, Stretched, Opened, Columns, Alike, InPairs, AroundRelation, InDiagram, Broken}
use Rattle.latex2mathml_tex_grammar.specs.Environments as environments
use Rattle.latex2mathml_tex_commands.specs.{Delimiters.delimiter_text, Meanings.style_of}
use Rattle.latex2mathml_tex_units.specs.Scans.{argument_of}
use Rattle.latex2mathml_tex_units.specs.declared.environments.{Bracket.Bracket, Environment.Environment, Layout.Layout}
use Rattle.latex2mathml_tex_units.specs.declared.environments.Bracket.TheVariants as bracket
use Rattle.latex2mathml_tex_units.specs.declared.environments.Layout.TheVariants as layout

abbrev pub layout_of : Layout → Columns
layout_of layout.Matrix = Alike Usual Centered
layout_of layout.Cases = Alike Stretched LeftAligned
layout_of layout.Lines = Alike Opened Centered
layout_of layout.Broken = Broken
layout_of layout.Small = Alike Dense Centered
layout_of layout.InPairs = InPairs
layout_of layout.AroundRelation = AroundRelation
layout_of layout.Diagram = InDiagram

abbrev pub bracket_of : Bracket → environments.Bracket
bracket_of bracket.Nothing = environments.NoBracket
bracket_of bracket.Position = environments.Position
bracket_of bracket.Alignment = environments.Alignment

abbrev pub delimiter_texts : Option ℕ × Option ℕ → List ℕ × List ℕ
delimiter_texts d = (delimiter_text d.0, delimiter_text d.1)

abbrev pub environment_of : Environment → environments.Environment
environment_of e = record {
  delimiters = option_map delimiter_texts e.delimiters;
  columns = layout_of e.layout;
  style = style_of e.style;
  bracket = bracket_of e.bracket;
  argument = option_map argument_of e.argument;
}

abbrev pub entry_of : Environment → List ℕ × environments.Environment
entry_of e = (e.name.now, environment_of e)
