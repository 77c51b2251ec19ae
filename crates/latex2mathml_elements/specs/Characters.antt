-- The characters that XML allows, and elements whose texts hold no others.
use Rattle.std.specs.Prelude.{ℕ, Bool, not, ◌&&◌, ◌||◌, ◌==◌, nat_lt, List, ⊤}
use Rattle.std.specs.Str.{NoCharPasses, byte}
use Rattle.latex2mathml_elements.specs.Element.{Element, Elements, Rows, Cells, token, space, rectangle, container, pair, triple, table, none, more, one_row, more_rows, one_cell, more_cells}

-- a character that XML forbids. No text holds the others that it forbids, the surrogates.
abbrev pub is_forbidden : ℕ → Bool
is_forbidden c =
    (nat_lt c 0x20 && not (c == byte "\t" || c == byte "\n" || c == byte "\r")) || c == 0xFFFE || c == 0xFFFF

-- the text, as its bytes, consists of characters that XML does not forbid
abbrev pub IsAllowed : List ℕ → Type 0
IsAllowed = NoCharPasses is_forbidden

abbrev mutual
  -- each text of the element is of this kind
  pub EachText : (List ℕ → Type 0) → Element → Type 0
  EachText P (token t a text) = P text
  EachText P (space width) = ⊤
  EachText P (rectangle e) = ⊤
  EachText P (container c a xs) = EachTextOf P xs
  EachText P (pair p a x y) = EachText P x × EachText P y
  EachText P (triple t a x y z) = EachText P x × EachText P y × EachText P z
  EachText P (table a rows) = EachTextOfRows P rows

  -- each text of several elements is of this kind
  pub EachTextOf : (List ℕ → Type 0) → Elements → Type 0
  EachTextOf P none = ⊤
  EachTextOf P (more x xs) = EachText P x × EachTextOf P xs

  pub EachTextOfRows : (List ℕ → Type 0) → Rows → Type 0
  EachTextOfRows P (one_row lines cells) = EachTextOfCells P cells
  EachTextOfRows P (more_rows lines cells rows) = EachTextOfCells P cells × EachTextOfRows P rows

  pub EachTextOfCells : (List ℕ → Type 0) → Cells → Type 0
  EachTextOfCells P (one_cell column xs) = EachTextOf P xs
  EachTextOfCells P (more_cells column xs cells) = EachTextOf P xs × EachTextOfCells P cells

-- no text of the element holds a character that XML forbids
abbrev pub HasAllowedTexts : Element → Type 0
HasAllowedTexts = EachText IsAllowed
