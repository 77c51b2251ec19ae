-- A row that was read, and its elements in a builder, the uppermost first.
use Rattle.std.specs.Prelude.{◌≡◌, ◌≤◌, ℕ, IfSome, List, None, Option, Some, length, take}
use Rattle.latex2mathml_elements.specs.Element.{Element}
use Rattle.latex2mathml_tex_grammar.specs.{Formulas.shown, Reading.Outcome, Reading.Read, Reading.Refused, Rows.Row, Units.End}
use Rattle.latex2mathml_tex_units.specs.{Errors.refusal_of, declared.error.TexError.TexError}

-- the elements that are shown of the row are the `count` uppermost ones
pub record AreUppermost (row : Row) (count : ℕ) (xs : List Element) : Type 0 where
  pub elements : shown row ≡ take count xs
  pub all : count ≤ length xs

-- the outcome of units is a row that ends where they end, and its elements are the `count` uppermost ones
abbrev pub HasRead : (Outcome Row → Type 0) → ℕ → List Element → Type 0
HasRead ComesTo count xs = (row : Row) × ((at : ℕ) × ComesTo (Read row (End at)) × AreUppermost row count xs)

-- the outcome of units is such a row, if there is a count, and otherwise the refusal that the error reports
abbrev pub HasCome : (Outcome Row → Type 0) → Option ℕ → TexError → List Element → Type 0
HasCome ComesTo (Some count) error xs = HasRead ComesTo count xs
HasCome ComesTo None error xs = IfSome (refusal_of error) (λ r. ComesTo (Refused r))
