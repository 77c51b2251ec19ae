-- How authors specify that fractions are drawn, as the definitions have it.
use Rattle.std.specs.Prelude.{option_map}
use Rattle.latex2mathml_tex_grammar.specs.Makes as makes
use Rattle.latex2mathml_tex_commands.specs.{Delimiters.delimiter_text, Meanings.style_of}
use Rattle.latex2mathml_tex_atoms.specs.declared.outlines.Outline.{Outline}

abbrev pub outline_of : Outline → makes.Outline
outline_of o = record {
  opening = delimiter_text o.opening;
  closing = delimiter_text o.closing;
  has_line = o.has_line;
  own = option_map style_of o.own;
}
