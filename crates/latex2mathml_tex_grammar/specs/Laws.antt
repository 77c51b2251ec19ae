-- Laws of the definitions.
use Rattle.std.specs.Prelude.{◌≡◌, ◌⊎◌, ℕ, List, IsTrue}
use Rattle.std.specs.List.{AllByRecursion}
use Rattle.latex2mathml_elements.specs.{Characters.HasAllowedTexts, Characters.IsAllowed, Dollars.IsDollarFree}
use Rattle.latex2mathml_tex_grammar.specs.{Commands.command_entries, Environments.environments, Signs.sign_entries, Sorted.ascending, Sorted.ascending_numbers}
use Rattle.latex2mathml_tex_grammar.specs.{DefinitionTexts.Defines, ExpansionLaws.AllStand, Macros.SameMacros, Macros.Table}
use Rattle.latex2mathml_tex_grammar.specs.{Formulas.IsExpansion, Formulas.IsReading, Formulas.IsRefusal, Formulas.row_print, Formulas.row_print_with_source, Refusal.Refusal, Symbols.Style}
use Rattle.latex2mathml_tex_grammar.specs.{Reading.Outcome, Reading.ReadsAtoms, Rows.Row, Rules.Context, Rules.Ending, Rules.WholeText}
use Rattle.latex2mathml_tex_grammar.specs.Spacing.{Alike, AreAlikeOutcomes, HaveAlikeUnits}
use Rattle.latex2mathml_tex_grammar.specs.Units.{Units, HasUnits}

-- the text has exactly one list of units, which ends with the text or with the refusal of what is not a unit
pub record HasOneListOfUnits (text : List ℕ) : Type 0 where
  pub some : (units : Units) × HasUnits 0 text units
  pub one : (units others : Units) → HasUnits 0 text units → HasUnits 0 text others → units ≡ others

-- the tables are sorted, so no name and no character has two entries
pub record AreTablesSorted : Type 0 where
  pub commands : IsTrue (ascending command_entries)
  pub signs : IsTrue (ascending_numbers sign_entries)
  pub environments : IsTrue (ascending environments)

-- units in a context have exactly one outcome after a row: a longer row, or a refusal
pub record HasOneOutcome (ending : Ending) (c : Context) (row : Row) (l : Units) : Type 0 where
  pub some : (o : Outcome Row) × ReadsAtoms ending c row l o
  pub one : (o p : Outcome Row) → ReadsAtoms ending c row l o → ReadsAtoms ending c row l p → o ≡ p

-- so it is for every ending, context, row and list of units
abbrev pub HaveOneOutcome : Type 0
HaveOneOutcome = (ending : Ending) (c : Context) (row : Row) (l : Units) → HasOneOutcome ending c row l

-- where these macros hold, the text has exactly one reading in this style, or exactly one refusal
pub record HasOneReading (macros : Table) (text : List ℕ) (style : Style) : Type 0 where
  -- it has a reading or a refusal
  pub some : ((row : Row) × IsReading macros text style row) ⊎ ((r : Refusal) × IsRefusal macros text style r)
  -- two readings are the same row
  pub one_reading : (row other : Row) → IsReading macros text style row → IsReading macros text style other → row ≡ other
  -- two refusals are the same refusal
  pub one_refusal : (r q : Refusal) → IsRefusal macros text style r → IsRefusal macros text style q → r ≡ q
  -- what has a reading is not refused
  pub never_both : (row : Row) (r : Refusal) → IsReading macros text style row → IsRefusal macros text style r → ⊥

-- so it is for every table, text and style
abbrev pub HaveOneReading : Type 0
HaveOneReading = (macros : Table) (text : List ℕ) (style : Style) → HasOneReading macros text style

-- all that matters about macros is what each name means
pub record AreMacrosTheirNames : Type 0 where
  pub readings : (macros others : Table) (text : List ℕ) (style : Style) (row : Row)
      → SameMacros macros others
      → IsReading macros text style row
      → IsReading others text style row
  pub refusals : (macros others : Table) (text : List ℕ) (style : Style) (r : Refusal)
      → SameMacros macros others
      → IsRefusal macros text style r
      → IsRefusal others text style r

-- what a text is read as holds no character that XML forbids, whatever text defines the macros
pub record ReadingsAreAllowed : Type 0 where
  -- no text of an element holds one
  pub elements : (definitions : List ℕ) (macros : Table) (text : List ℕ) (style : Style) (row : Row)
      → Defines definitions macros
      → IsReading macros text style row
      → AllByRecursion HasAllowedTexts row.elements
  -- so the markup does not hold one either, nor does it hold a dollar sign
  pub markup : (definitions : List ℕ) (macros : Table) (text : List ℕ) (style : Style) (row : Row)
      → Defines definitions macros
      → IsReading macros text style row
      → IsAllowed (row_print style row) × IsDollarFree (row_print style row)
  -- and neither does the markup that has the text as an annotation
  pub markup_with_source : (definitions : List ℕ) (macros : Table) (text : List ℕ) (style : Style) (row : Row)
      → Defines definitions macros
      → IsReading macros text style row
      → IsAllowed (row_print_with_source style text row) × IsDollarFree (row_print_with_source style text row)

-- no macro is used in the text, and none is defined
abbrev pub StandsByItself : Table → List ℕ → Type 0
StandsByItself macros text = (units : Units) × HasUnits 0 text units × AllStand macros units

-- the texts expand to units that are alike
abbrev pub HaveAlikeExpansions : Table → List ℕ → List ℕ → Type 0
HaveAlikeExpansions macros text other =
    (l : Units) × (m : Units) × IsExpansion macros text l × IsExpansion macros other m × Alike l m

-- White space between the units of a formula is ignored.
pub record IsSpaceNothing : Type 0 where
  -- units are alike to themselves, and being alike goes both ways
  pub itself : (l : Units) → Alike l l
  pub turned : (l m : Units) → Alike l m → Alike m l
  -- formulas of units that are alike but for white space have alike outcomes, in each context, after whatever row
  pub outcomes : (c : Context) (row : Row) (l m : Units) (o p : Outcome Row)
      → Alike l m
      → ReadsAtoms WholeText c row l o
      → ReadsAtoms WholeText c row m p
      → AreAlikeOutcomes o p
  -- texts that expand to alike units have the same reading, in each style
  pub readings : (macros : Table) (text other : List ℕ) (style : Style) (row : Row)
      → HaveAlikeExpansions macros text other
      → IsReading macros text style row
      → IsReading macros other style row
  -- or are both refused, for the same reason
  pub refusals : (macros : Table) (text other : List ℕ) (style : Style) (r : Refusal)
      → HaveAlikeExpansions macros text other
      → IsRefusal macros text style r
      → (q : Refusal) × (r.kind ≡ q.kind) × IsRefusal macros other style q
  -- Texts of alike units expand to alike units, where no macro is used and none is defined. An argument of a macro may end up
  -- in words, where white space counts.
  pub expansions : (macros : Table) (text other : List ℕ)
      → HaveAlikeUnits text other
      → StandsByItself macros text
      → HaveAlikeExpansions macros text other
