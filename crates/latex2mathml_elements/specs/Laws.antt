-- Laws of elements.
use Rattle.std.specs.Prelude.{ℕ, Bool, List}
use Rattle.latex2mathml_elements.specs.Annotated.{IsAnnotatedMathElement, annotated_print}
use Rattle.latex2mathml_elements.specs.{Characters.EachTextOf, Characters.HasAllowedTexts, Characters.IsAllowed, Dollars.IsDollarFree, Element.Element, Element.Elements, Print.print, Print.formula_print}
use Rattle.latex2mathml_trees.specs.MathSchema.{IsOneElement, IsMathElement}

-- the print of an element is one balanced element, and so is that of a formula; both obey the child table
pub record PrintAsElements : Type 0 where
  pub elements : (x : Element) → IsOneElement (print x)
  pub formulas : (is_display : Bool) (xs : Elements) → IsMathElement (formula_print is_display xs)
  -- the print of a formula holds no dollar sign
  pub dollars : (is_display : Bool) (xs : Elements) → IsDollarFree (formula_print is_display xs)
  -- the print of a formula holds no character that XML forbids, where the texts of its elements hold none
  pub characters : (is_display : Bool) (xs : Elements) → EachTextOf IsAllowed xs → IsAllowed (formula_print is_display xs)

-- the print of a formula with an annotation is one balanced element too, and obeys the child table with annotations
pub record AnnotatedPrintAsElements : Type 0 where
  pub formulas : (is_display : Bool) (x : Element) (tex : List ℕ) → IsAnnotatedMathElement (annotated_print is_display x tex)
  -- it holds no dollar sign
  pub dollars : (is_display : Bool) (x : Element) (tex : List ℕ) → IsDollarFree (annotated_print is_display x tex)
  -- it holds no character that XML forbids, where the texts of the element and of the annotation hold none
  pub characters : (is_display : Bool) (x : Element) (tex : List ℕ)
      → HasAllowedTexts x
      → IsAllowed tex
      → IsAllowed (annotated_print is_display x tex)
