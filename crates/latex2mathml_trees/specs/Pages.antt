-- Markup that is composed: balanced markup one after the other and in elements, and pages with `math` elements in them.
use Rattle.std.specs.Prelude.{ℕ, Bool, true, not, ◌&&◌, IsTrue, List, [], ◌++◌, Option, Some, None, is_some, if◌then◌else◌, codes}
use Rattle.std.specs.{List.list_all}
use Rattle.latex2mathml_trees.specs.Markup.{Name, Attribute, OpenElements, Schema, Runs, IsBalanced, add, any_element, at_start, lowest, name_of, open_tag, close_tag, spell_event, is_attribute, is_name}
use Rattle.latex2mathml_trees.specs.MathSchema.{IsMathElement, holding, holding_table, holds, may_be_in}

-- the child table names the element
abbrev pub is_in_table : Name → Bool
is_in_table name = is_some (holding holding_table name)

-- `math` may be outermost, or in any element that the table does not name
abbrev pub takes_math : Option Name → Bool
takes_math None = true
takes_math (Some parent) = not (is_in_table parent)

-- the schema of a page: each element that the table names holds what the table says, and is where the table says, except for
-- `math`. Any other element may hold anything.
abbrev pub page_schema : Schema
page_schema parent name children has_text =
    if is_in_table name then may_be_in takes_math parent name && holds (holding holding_table name) children has_text else true

-- each element is closed, and those of the table obey it
abbrev pub IsPage : List ℕ → Type 0
IsPage bytes = (children : List Name) × ((has_text : Bool) × Runs page_schema bytes at_start (lowest children has_text))

-- what is composed of balanced markup is balanced
pub record JoinsBalanced : Type 0 where
  pub nothing : IsBalanced []
  -- one after the other
  pub joined : (markup other : List ℕ) → IsBalanced markup → IsBalanced other → IsBalanced (markup ++ other)
  -- within an element
  pub wrapped : (name : Name) (attributes : List Attribute) (markup : List ℕ) → IsTrue (is_name name) → IsTrue (list_all is_attribute attributes) → IsBalanced markup → IsBalanced (spell_event (open_tag name attributes) ++ (markup ++ spell_event (close_tag name)))
  -- a page, and so a `math` element
  pub page : (markup : List ℕ) → IsPage markup → IsBalanced markup
  -- a `math` element is a child of whatever element it is in
  pub inserted : (markup : List ℕ) (levels : OpenElements) → IsMathElement markup → Runs any_element markup levels (add (codes "math") levels)

-- what is composed of pages is a page
pub record JoinsPages : Type 0 where
  pub nothing : IsPage []
  pub joined : (page other : List ℕ) → IsPage page → IsPage other → IsPage (page ++ other)
  -- within an element that the table does not name
  pub wrapped : (name : Name) (attributes : List Attribute) (page : List ℕ) → IsTrue (is_name name) → IsTrue (list_all is_attribute attributes) → IsTrue (not (is_in_table name)) → IsPage page → IsPage (spell_event (open_tag name attributes) ++ (page ++ spell_event (close_tag name)))
  pub element : (markup : List ℕ) → IsMathElement markup → IsPage markup
  -- a `math` element is a child of whatever element it is in, where it may be there
  pub inserted : (markup : List ℕ) (levels : OpenElements) → IsTrue (takes_math (name_of levels)) → IsMathElement markup → Runs page_schema markup levels (add (codes "math") levels)

-- the laws of composed markup
pub record JoinsMarkup : Type 0 where
  -- the empty text leaves the levels as they are, and one run continues where another ends
  pub nowhere : (schema : Schema) (levels : OpenElements) → Runs schema [] levels levels
  pub onwards : (schema : Schema) (markup other : List ℕ) (start middle end : OpenElements) → Runs schema markup start middle → Runs schema other middle end → Runs schema (markup ++ other) start end
  pub balanced : JoinsBalanced
  pub pages : JoinsPages
