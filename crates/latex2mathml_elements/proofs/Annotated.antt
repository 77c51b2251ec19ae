-- The print of a formula with an annotation is one element that obeys the child table with annotations.
use Rattle.std.proofs.Common.{◌≡◌, ℕ, Bool, true, false, IsTrue, List, [], ◌∷◌, ◌++◌, Option, refl, subst, append-nil, append_assoc, arith, codes, cond, map}
use Rattle.std.specs.{Cmp.Lexicographic.bytes_decides, List.list_all, Str.bytes_eq}
use Rattle.latex2mathml_elements.specs.Annotated.{IsAnnotatedMathElement, alternative, alternative_start, alternative_tag, annotated_child_table, annotated_print}
use Rattle.latex2mathml_elements.specs.Characters.{EachText, IsAllowed}
use Rattle.latex2mathml_elements.specs.Element.{Element}
use Rattle.latex2mathml_elements.specs.{Laws.AnnotatedPrintAsElements}
use Rattle.latex2mathml_elements.proofs.{Alternatives.alternative_value, Characters.alternatives, Characters.both, Characters.clean, Characters.contents, OneElement.Piece, OneElement.element, OneElement.plainly, OneElement.then, Plain.called}
use Rattle.latex2mathml_trees.specs.MathSchema.{child_table}
use Rattle.latex2mathml_trees.specs.Markup.{Name, Runs, above, at_start, attribute, is_part, lowest, open_tag, plain}
use Rattle.latex2mathml_trees.proofs.Runs.{content_leads, obeying, opened, plain-spells, single, spelled_as}

-- The child table with annotations allows more: its two further elements are not in the other table.

either : (first second p q r : Bool) → (first ≡ true → r ≡ false) → (second ≡ true → r ≡ false) → r ≡ true → cond first p (cond second q r) ≡ true
either first second p q r f g h = grind arith

allows_more : (parent : Option Name) (name : Name) (children : List Name) (has_text : Bool) → IsTrue (child_table parent name children has_text) → IsTrue (annotated_child_table parent name children has_text)
allows_more parent name children has_text h =
    either (bytes_eq (codes "semantics") name) (bytes_eq (codes "annotation") name) _ _ (child_table parent name children has_text)
    (λ is. subst (λ n. child_table parent n children has_text ≡ false) ((bytes_decides (codes "semantics") name).0 is) refl)
    (λ is. subst (λ n. child_table parent n children has_text ≡ false) ((bytes_decides (codes "annotation") name).0 is) refl)
    h

-- the start tag, whose alternative text is spelled by the parts of a value
opened_with : (display tex : List ℕ) → IsTrue (list_all is_part (map plain display)) → Runs annotated_child_table (codes "<math xmlns=\"http://www.w3.org/1998/Math/MathML\" display=\"" ++ (display ++ (codes "\" alttext=\"" ++ (alternative tex ++ codes "\">")))) at_start (above (codes "math") [] false (lowest (codes "math" ∷ []) false))
opened_with display tex valid =
    let value = alternative_value tex in
    spelled_as (simp (append_assoc, append-nil, plain-spells, value.spelled))
    (single annotated_child_table (open_tag (codes "math") (attribute (codes "xmlns") (map plain (codes "http://www.w3.org/1998/Math/MathML")) ∷ attribute (codes "display") (map plain display) ∷ attribute (codes "alttext") value.parts ∷ [])) at_start _ (simp (valid, value.are_parts)) refl)

math_opened : (is_display : Bool) (tex : List ℕ) → Runs annotated_child_table (alternative_tag is_display tex) at_start (above (codes "math") [] false (lowest (codes "math" ∷ []) false))
math_opened true tex = opened_with (codes "block") tex refl
math_opened false tex = opened_with (codes "inline") tex refl

-- The alternative text, what is shown and the annotation

annotated : (is_display : Bool) (x : Element) (tex : List ℕ) → Piece annotated_child_table (EachText IsAllowed x × IsAllowed tex) (annotated_print is_display x tex) at_start (lowest (codes "math" ∷ []) false)
annotated is_display x tex =
    let end = lowest (codes "math" ∷ []) false in
    let inside = above (codes "math") (codes "semantics" ∷ []) false end in
    let behind = above (codes "semantics") (codes "annotation" ∷ called x ∷ []) false inside in
    let text = content_leads annotated_child_table (codes "annotation") [] false behind tex in
    then (record {
      runs = math_opened is_display tex;
      is_clean = both (clean (alternative_start is_display) (grind arith)) (both (alternatives tex (λ h. h.1)) (clean (codes "\">") refl));
    })
    (then (plainly refl (opened annotated_child_table (codes "semantics") (above (codes "math") [] false end) refl))
    (then (element annotated_child_table allows_more _ x (above (codes "semantics") [] false inside) (λ h. h.0))
    (then (then (plainly refl (single annotated_child_table (open_tag (codes "annotation") (attribute (codes "encoding") (map plain (codes "application/x-tex")) ∷ [])) (above (codes "semantics") (called x ∷ []) false inside) (above (codes "annotation") [] false behind) refl refl))
    (then (record { runs = text.1; is_clean = contents tex (λ h. h.1) }) (plainly refl (obeying annotated_child_table (codes "annotation") [] text.0 behind refl refl))))
    (then (plainly refl (obeying annotated_child_table (codes "semantics") (codes "annotation" ∷ called x ∷ []) false inside refl (grind arith)))
    (plainly refl (obeying annotated_child_table (codes "math") (codes "semantics" ∷ []) false end refl refl))))))

-- the law
pub annotated_print_as_elements : AnnotatedPrintAsElements
unfolding IsAnnotatedMathElement
annotated_print_as_elements = record {
  formulas = λ is_display x tex. (annotated is_display x tex).runs;
  dollars = λ is_display x tex. (annotated is_display x tex).is_clean.free;
  characters = λ is_display x tex h k. (annotated is_display x tex).is_clean.allowed (h, k);
}
