-- Elements of MathML. Each constructor takes as many children as MathML Core requires.
use Rattle.std.specs.Prelude.{ℕ, ℤ, Bool, true, false, List, [], ◌∷◌}
use Rattle.latex2mathml_elements.specs.{Attributes.Attributes, Columns.Column, Extents.Extent, Lines.RowLines}

-- the elements that hold a text
pub data Token : Type 0 where
  Mi : Token
  Mn : Token
  Mo : Token
  Mtext : Token

-- the elements that hold any number of elements
pub data Container : Type 0 where
  Mrow : Container
  Msqrt : Container
  Mstyle : Container
  Mpadded : Container
  Mphantom : Container

-- the elements that hold two elements
pub data Pair : Type 0 where
  Mfrac : Pair
  Mroot : Pair
  Msub : Pair
  Msup : Pair
  Munder : Pair
  Mover : Pair

-- the elements that hold three elements
pub data Triple : Type 0 where
  Msubsup : Triple
  Munderover : Triple

mutual
  pub data Element : Type 0 where
    -- a text, as its bytes
    token : Token → Attributes → List ℕ → Element
    -- a space, in eighteenths of an em
    space : ℤ → Element
    -- a rectangle, which is empty or black
    rectangle : Extent → Element
    container : Container → Attributes → Elements → Element
    pair : Pair → Attributes → Element → Element → Element
    triple : Triple → Attributes → Element → Element → Element → Element
    table : Attributes → Rows → Element

  pub data Elements : Type 0 where
    none : Elements
    more : Element → Elements → Elements

  -- at least one row
  pub data Rows : Type 0 where
    one_row : RowLines → Cells → Rows
    more_rows : RowLines → Cells → Rows → Rows

  -- at least one cell
  pub data Cells : Type 0 where
    one_cell : Column → Elements → Cells
    more_cells : Column → Elements → Cells → Cells

-- whether MathML takes an element as space: words, and spaces
abbrev pub is_space_like : Element → Bool
is_space_like (token Mtext a text) = true
is_space_like (space width) = true
is_space_like (rectangle e) = true
is_space_like x = false

-- a list of elements as the children of an element
abbrev pub children : List Element → Elements
children [] = none
children (x ∷ xs) = more x (children xs)
