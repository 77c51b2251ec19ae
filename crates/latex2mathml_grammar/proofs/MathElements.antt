-- A rendering is one `math` element that obeys the child table.
use Rattle.std.proofs.Common.{ℕ, false, List, [], ◌∷◌, refl, sym, codes, map, append_assoc, append-nil, arith}
use Rattle.std.specs.{Str.chars}
use Rattle.latex2mathml_trees.specs.{Arguments.HaveNoArgument, MathSchema.child_table, MathSchema.IsMathElement}
use Rattle.latex2mathml_tokens.specs.declared.DisplayStyle.{DisplayStyle}
use Rattle.latex2mathml_tokens.specs.Attributes.{display_text}
use Rattle.latex2mathml_trees.specs.Markup.{plain, attribute, open_tag, lowest, at_start, IsElement}
use Rattle.latex2mathml_grammar.specs.Rendering.{IsRendering, math_print}
use Rattle.latex2mathml_trees.specs.Tree.{Tree, trees_of}
use Rattle.latex2mathml_trees.proofs.Elements.{some_children}
use Rattle.latex2mathml_trees.proofs.Runs.{joined, obeying, plain-spells, single, spelled_as}
use Rattle.latex2mathml_grammar.proofs.Kept.{reading_is_kept}

math_element : (display : DisplayStyle) (xs : List Tree) → HaveNoArgument (trees_of xs) → IsElement child_table (codes "math") (math_print display xs)
math_element display xs h =
    let end = lowest (codes "math" ∷ []) false in
    let children = some_children (trees_of xs) h (codes "math") [] end in
    let tag = open_tag (codes "math") (attribute (codes "xmlns") (map plain (codes "http://www.w3.org/1998/Math/MathML")) ∷ attribute (codes "display") (map plain (display_text display)) ∷ []) in
    spelled_as (simp (append_assoc, append-nil, plain-spells))
    (joined (single child_table tag at_start _ (grind arith) refl) (joined children.1 (obeying child_table (codes "math") children.0 false end refl refl)))

pub rendering_is_math : (text : List ℕ) (display : DisplayStyle) (markup : List ℕ) → IsRendering text display markup → IsMathElement markup
unfolding IsRendering IsMathElement
rendering_is_math text display markup r =
    let xs = r.2.0 in
    spelled_as (sym r.2.2) (math_element display xs (reading_is_kept (chars text) r.0 xs r.1 r.2.1).0)
