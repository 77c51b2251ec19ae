-- Formulas with an annotation: what is shown is followed by the text that it was read from. The same text is their
-- alternative text, for software that cannot show them.
use Rattle.std.specs.Prelude.{ℕ, ◌==◌, Bool, true, false, not, ◌&&◌, List, [], ◌∷◌, ◌++◌, if◌then◌else◌, codes}
use Rattle.std.specs.{List.flat_map, Str.byte, Str.bytes_eq}
use Rattle.latex2mathml_elements.specs.{Element.Element, Print.print}
use Rattle.latex2mathml_tokens.specs.Escape.{content, content_byte}
use Rattle.latex2mathml_trees.specs.Markup.{Name, Schema, IsElement}
use Rattle.latex2mathml_trees.specs.MathSchema.{child_table, has_some, is_parent}

-- an annotation that declares its text to be TeX
abbrev pub annotation_print : List ℕ → List ℕ
annotation_print tex = codes "<annotation encoding=\"application/x-tex\">" ++ (content tex ++ codes "</annotation>")

-- a byte of an alternative text, which is the value of an attribute: the quotation mark is escaped as well
abbrev pub alternative_byte : ℕ → List ℕ
alternative_byte b = if b == byte "\"" then codes "&quot;" else content_byte b

-- a text in an attribute, where bytes that have a meaning in XML are references
abbrev pub alternative : List ℕ → List ℕ
alternative = flat_map alternative_byte

-- the start tag of a formula with an alternative text, up to that text
abbrev pub alternative_start : Bool → List ℕ
alternative_start true = codes "<math xmlns=\"http://www.w3.org/1998/Math/MathML\" display=\"block\" alttext=\""
alternative_start false = codes "<math xmlns=\"http://www.w3.org/1998/Math/MathML\" display=\"inline\" alttext=\""

-- the start tag of a formula with this alternative text
abbrev pub alternative_tag : Bool → List ℕ → List ℕ
alternative_tag is_display tex = alternative_start is_display ++ (alternative tex ++ codes "\">")

-- the formula of this element, with an annotation
abbrev pub annotated_print : Bool → Element → List ℕ → List ℕ
annotated_print is_display x tex =
    alternative_tag is_display tex ++ (codes "<semantics>" ++ (print x ++ (annotation_print tex ++ codes "</semantics></math>")))

-- an element that is not an annotation, and then only annotations. The last one is first in the list.
abbrev pub are_annotated : List Name → Bool
are_annotated [] = false
are_annotated (name ∷ []) = not (bytes_eq (codes "annotation") name)
are_annotated (name ∷ names) = bytes_eq (codes "annotation") name && are_annotated names

-- The child table with two more elements: `semantics`, which may be only in `math`, and `annotation`, which holds a text
-- and may be only in `semantics`.
abbrev pub annotated_child_table : Schema
annotated_child_table parent name children has_text =
    if bytes_eq (codes "semantics") name then is_parent (codes "math") parent && (are_annotated children && not has_text)
    else if bytes_eq (codes "annotation") name then is_parent (codes "semantics") parent && not (has_some children)
    else child_table parent name children has_text

-- one `math` element that obeys this table
unfoldable pub IsAnnotatedMathElement : List ℕ → Type 0
IsAnnotatedMathElement bytes = IsElement annotated_child_table (codes "math") bytes
