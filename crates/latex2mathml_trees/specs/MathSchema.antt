-- The child table: which elements there are in the markup of a formula, what each may hold, and where it may be. The counts
-- are those of MathML 3.
use Rattle.std.specs.Prelude.{ℕ, Bool, true, false, not, ◌&&◌, ◌==◌, List, [], ◌∷◌, length, Option, Some, None, if◌then◌else◌, codes}
use Rattle.std.specs.{Str.bytes_eq, List.list_all}
use Rattle.latex2mathml_trees.specs.Markup.{Name, Schema, IsElement}

-- what an element may hold
pub data Holding : Type 0 where
  -- characters and references, or nothing, and no element; no other element holds characters or references
  text : Holding
  -- nothing at all
  nothing : Holding
  -- this many elements
  exactly : ℕ → Holding
  -- any number of elements
  elements : Holding
  -- at least one element, and each is of this name
  all_of : Name → Holding

-- what each element may hold
abbrev pub holding_table : List (Name × Holding)
holding_table =
    (codes "mi", text) ∷
    (codes "mn", text) ∷
    (codes "mo", text) ∷
    (codes "mtext", text) ∷
    (codes "mspace", nothing) ∷
    (codes "mfrac", exactly 2) ∷
    (codes "mroot", exactly 2) ∷
    (codes "msub", exactly 2) ∷
    (codes "msup", exactly 2) ∷
    (codes "mover", exactly 2) ∷
    (codes "munder", exactly 2) ∷
    (codes "msubsup", exactly 3) ∷
    (codes "munderover", exactly 3) ∷
    (codes "msqrt", elements) ∷
    (codes "mstyle", elements) ∷
    (codes "mrow", elements) ∷
    (codes "mpadded", elements) ∷
    (codes "mphantom", elements) ∷
    (codes "mtd", elements) ∷
    (codes "math", elements) ∷
    (codes "mtable", all_of (codes "mtr")) ∷
    (codes "mtr", all_of (codes "mtd")) ∷
    []

-- what an element of this name may hold, if there is one
abbrev pub holding : List (Name × Holding) → Name → Option Holding
holding [] name = None
holding (entry ∷ entries) name = if bytes_eq entry.0 name then Some entry.1 else holding entries name

-- whether there are children
abbrev pub has_some : List Name → Bool
has_some [] = false
has_some (name ∷ names) = true

-- whether an element for which the table says this may have these children, and text if there is any
abbrev pub holds : Option Holding → List Name → Bool → Bool
holds None children has_text = false
holds (Some text) children has_text = not (has_some children)
holds (Some nothing) children has_text = not (has_some children) && not has_text
holds (Some (exactly count)) children has_text = length children == count && not has_text
holds (Some elements) children has_text = not has_text
holds (Some (all_of name)) children has_text = has_some children && (not has_text && list_all (bytes_eq name) children)

-- whether the parent has this name
abbrev pub is_parent : Name → Option Name → Bool
is_parent name None = false
is_parent name (Some parent) = bytes_eq name parent

-- whether there is no parent
abbrev pub is_outermost : Option Name → Bool
is_outermost None = true
is_outermost (Some parent) = false

-- whether an element of this name may be in that parent: `mtr` only in `mtable`, `mtd` only in `mtr`, and `math` only where
-- `takes_math` says so
abbrev pub may_be_in : (Option Name → Bool) → Option Name → Name → Bool
may_be_in takes_math parent name =
    if bytes_eq (codes "mtr") name then is_parent (codes "mtable") parent
    else if bytes_eq (codes "mtd") name then is_parent (codes "mtr") parent
    else if bytes_eq (codes "math") name then takes_math parent
    else true

-- the schema of the markup of formulas, in which `math` is in no element
abbrev pub child_table : Schema
child_table parent name children has_text = may_be_in is_outermost parent name && holds (holding holding_table name) children has_text

-- one element that obeys the child table
abbrev pub IsOneElement : List ℕ → Type 0
IsOneElement bytes = (name : Name) × IsElement child_table name bytes

-- one `math` element that obeys the child table
unfoldable pub IsMathElement : List ℕ → Type 0
IsMathElement bytes = IsElement child_table (codes "math") bytes
