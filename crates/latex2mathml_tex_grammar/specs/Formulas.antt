-- What a formula is read as: the row of the atoms that its text expands to, or its refusal; and what a row is written as.
-- Here a text is given as its characters.
use Rattle.std.specs.Prelude.{ℕ, Bool, true, false, IsTrue, IsFalse, List, None, map, reverse, if◌then◌else◌}
use Rattle.std.specs.Str.{encode_utf8_all}
use Rattle.latex2mathml_elements.specs.{Annotated.annotated_print, Element.Element, Element.children, Print.formula_print}
use Rattle.latex2mathml_tex_grammar.specs.{Expansion.Expands, Expansion.most_units, Expansion.most_uses, Macros.Table, Operands.none_due}
use Rattle.latex2mathml_tex_grammar.specs.{Makes.Core, Makes.is_display, Reading.Outcome, Reading.Read, Reading.Refused, Reading.ReadsAtoms, Reading.ReadsRule, Refusal.Kind, Refusal.OutsideTable, Refusal.Refusal, Rests.finished, Rows.Row, Rows.lone, Rows.row_element, Rows.with_atom, Rules.Context, Rules.in_context, Rules.begun, Rules.rows_of_text, Rules.WholeText, Symbols.Style}
use Rattle.latex2mathml_tex_grammar.specs.Separators.{text_columns}
use Rattle.latex2mathml_tex_grammar.specs.Units.{Units, End, HasUnits, is_forbidden}

-- a formula has no alphabet of its own
abbrev pub formula_context : Style → Context
formula_context style = in_context style None

-- the text expands to these units where these macros hold
pub record IsExpansion (macros : Table) (text : List ℕ) (expanded : Units) : Type 0 where
  pub units : Units
  pub spelled : HasUnits 0 text units
  pub expands : Expands macros most_uses most_units none_due units expanded

-- whether a formula is refused because `&` or `\\` occurs outside of all tables
abbrev pub is_outside : Kind → Bool
is_outside OutsideTable = true
is_outside kind = false

-- whether atoms are refused for what is only between cells: then the text is read as rows
abbrev pub asks_for_rows : Outcome Row → Bool
asks_for_rows (Read row l) = false
asks_for_rows (Refused r) = is_outside r.kind

-- a row of one atom, which has no scripts
abbrev pub alone : Style → Outcome Core → Outcome Row
alone style (Read x l) = Read (finished style (with_atom style (begun WholeText) x.atom)) l
alone style (Refused r) = Refused r

-- The outcome of the units of a formula. They are read as atoms, unless `&` or `\\` occurs outside of all tables. Then they
-- are read as if they were in `aligned`, or in `gathered` if no `&` occurs there, and the outcome is that of these rows, whatever it
-- is.
pub data ReadsFormula (style : Style) (l : Units) : Outcome Row → Type 0 where
  as_atoms : {o : Outcome Row}
      → ReadsAtoms WholeText (formula_context style) (begun WholeText) l o
      → IsFalse (asks_for_rows o)
      → ReadsFormula style l o
  as_rows : {o : Outcome Row} {p : Outcome Core}
      → ReadsAtoms WholeText (formula_context style) (begun WholeText) l o
      → IsTrue (asks_for_rows o)
      → ReadsRule (rows_of_text (text_columns l) (formula_context style)) l p
      → ReadsFormula style l (alone style p)

-- the row is a reading of the text in this style, where these macros hold
unfoldable pub IsReading : Table → List ℕ → Style → Row → Type 0
IsReading macros text style row = (units : Units) × IsExpansion macros text units × ((end : ℕ) × ReadsFormula style units (Read row (End end)))

-- the text is refused
unfoldable pub IsRefusal : Table → List ℕ → Style → Refusal → Type 0
IsRefusal macros text style refusal = (units : Units) × IsExpansion macros text units × ReadsFormula style units (Refused refusal)

-- the elements that are shown of a row that a formula is read as
abbrev pub shown : Row → List Element
shown row = lone row.last row.elements

-- the markup of a row that a formula is read as
abbrev pub row_print : Style → Row → List ℕ
row_print style row = formula_print (is_display style) (children (reverse (shown row)))

-- a character of a source, or U+FFFD for one that XML forbids. Only comments hold such characters; XML cannot write them.
abbrev pub source_character : ℕ → ℕ
source_character c = if is_forbidden c then 0xFFFD else c

-- the source of a formula as it is written next to what is shown
abbrev pub source_text : List ℕ → List ℕ
source_text text = encode_utf8_all (map source_character text)

-- the markup of a row that this text is read as, with the text as an annotation
abbrev pub row_print_with_source : Style → List ℕ → Row → List ℕ
row_print_with_source style text row = annotated_print (is_display style) (row_element (shown row)) (source_text text)
