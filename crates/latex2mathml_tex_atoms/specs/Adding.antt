-- A row to which an atom is added in place.
use Rattle.std.specs.Prelude.{◌≡◌, ◌+◌, ◌≤◌, List, drop, length}
use Rattle.latex2mathml_elements.specs.Element.{Element}
use Rattle.latex2mathml_tex_grammar.specs.Rows.{with_atom}
use Rattle.latex2mathml_tex_commands.specs.Meanings.{style_of}
use Rattle.latex2mathml_tex_commands.specs.declared.meaning.Style.{Style}
use Rattle.latex2mathml_tex_atoms.specs.Models.{core_with, row_rest, row_with, top}
use Rattle.latex2mathml_tex_atoms.specs.declared.atoms.{Core.Core, Row.Row}

-- An atom is added to a row, whose elements stay as they are. The element of the atom is on top of them.
pub record IsAdded (style : Style) (core : Core) (old new : Row) : Type 0 where
  pub row : (xs : List Element) → old.count + 1 ≤ length xs
      → row_with new xs ≡ with_atom (style_of style) (row_with old (drop 1 xs)) (core_with core (top xs)).atom
  pub count : new.count ≡ old.count + 1
  pub rest : row_rest new ≡ row_rest old
