-- The arrows of diagrams have no character that XML forbids, where their labels have none.
use Rattle.std.proofs.Common.{ℕ, Bool, true, false, List, refl}
use Rattle.latex2mathml_elements.specs.{Characters.HasAllowedTexts, Element.Element}
use Rattle.latex2mathml_elements.proofs.{Characters.allowed_char}
use Rattle.std.specs.Str.{byte}
use Rattle.latex2mathml_tex_grammar.specs.Diagrams.{DiagramArrow, Labeled, LongEquals, HighBars, NoArrow, Direction, Rightwards, Leftwards, Upwards, Downwards, before_arrow, labeled_arrow}
use Rattle.latex2mathml_tex_grammar.specs.Rules.{Context, arrow_rule}
use Rattle.latex2mathml_tex_grammar.proofs.Allowed.{AreAllowedElements, IsAllowedCore, IsAllowedRule}
use Rattle.latex2mathml_tex_grammar.proofs.AllowedMakes.{row_element_allowed}

labeled_allowed : (direction : Direction) (first second : Element) → HasAllowedTexts first → HasAllowedTexts second → IsAllowedCore (labeled_arrow direction first second)
labeled_allowed Rightwards first second h k = (allowed_char 0x2192 refl, ((tt, k), tt), (h, tt))
labeled_allowed Leftwards first second h k = (allowed_char 0x2190 refl, ((tt, k), tt), (h, tt))
labeled_allowed Upwards first second h k = ((((h, tt), tt), tt), (allowed_char 0x2191 refl, (((k, tt), tt), tt)))
labeled_allowed Downwards first second h k = ((((h, tt), tt), tt), (allowed_char 0x2193 refl, (((k, tt), tt), tt)))

pub arrow_allowed : (place : ℕ) (c : Context) (arrow : DiagramArrow) → IsAllowedRule (arrow_rule place c arrow)
arrow_allowed place c (Labeled direction) =
    λ first h. (λ sign given second k. (λ sign given. labeled_allowed direction _ _ (row_element_allowed first.elements h) (row_element_allowed second.elements k), tt), tt)
arrow_allowed place c LongEquals = (allowed_char (byte "=") refl, ((tt, tt), tt), (tt, tt))
arrow_allowed place c HighBars = allowed_char 0x2016 refl
arrow_allowed place c NoArrow = tt

-- the cells before an arrow have none, where those before it and the elements of the one in which it begins have none
pub before_allowed : (filled : Bool) (cell cells : List Element) → AreAllowedElements cell → AreAllowedElements cells → AreAllowedElements (before_arrow filled cell cells)
before_allowed true cell cells h k = k
before_allowed false cell cells h k = (row_element_allowed cell h, k)
