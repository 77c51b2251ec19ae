-- Where the prose around the formulas is balanced, so is the answer.
use Rattle.std.proofs.Common.{◌≡◌, ℕ, Bool, true, false, ◌&&◌, cond, List, [], ◌∷◌, Some, None, refl, sym, subst, codes}
use Rattle.latex2mathml.specs.Documents.{Piece, prose, inline, display, PiecesAnswer, IsAnswer}
use Rattle.latex2mathml.specs.Surroundings.{HasBalancedProse, HasClosedProse, HasPageProse, ProseRuns, TakesFormula}
use Rattle.latex2mathml_grammar.specs.RenderingLaws.{RenderingsHold}
use Rattle.latex2mathml_trees.specs.Markup.{Name, OpenElements, Schema, Runs, IsBalanced, add, any_element, at_start, lowest, name_of}
use Rattle.latex2mathml_trees.specs.MathSchema.{IsMathElement}
use Rattle.latex2mathml_trees.specs.Pages.{IsPage, JoinsBalanced, JoinsMarkup, JoinsPages, page_schema, takes_math}
use Rattle.latex2mathml_tokens.specs.declared.DisplayStyle.TheVariants.{Block, Inline}
use Rattle.latex2mathml.proofs.Cuts.{one_cut_lem}

-- a `math` element leads where a formula does
abbrev Inserts : Schema → Type 0
Inserts schema = (markup : List ℕ) (start end : OpenElements) → TakesFormula schema start end → IsMathElement markup → Runs schema markup start end

module _ (schema : Schema) (hold : RenderingsHold) (joins : JoinsMarkup) (inserts : Inserts schema) where
  answer_leads : (pieces : List Piece) (answer : List ℕ) (start end : OpenElements) → PiecesAnswer pieces answer → ProseRuns schema pieces start end → Runs schema answer start end
  answer_leads [] answer start end a leads = subst (λ l. Runs schema l start end) (sym a) (subst (λ s. Runs schema [] start s) leads (joins.nowhere schema start))
  answer_leads (prose text ∷ pieces) answer start end (x, y, a, b, e) (middle, here, later) =
      subst (λ l. Runs schema l start end) (sym e) (joins.onwards schema x y start middle end (subst (λ l. Runs schema l start middle) (sym a) here) (answer_leads pieces y middle end b later))
  answer_leads (inline body ∷ pieces) answer start end (x, y, a, b, e) (middle, here, later) =
      subst (λ l. Runs schema l start end) (sym e) (joins.onwards schema x y start middle end (inserts x start middle here (hold.elements body Inline x a)) (answer_leads pieces y middle end b later))
  answer_leads (display body ∷ pieces) answer start end (x, y, a, b, e) (middle, here, later) =
      subst (λ l. Runs schema l start end) (sym e) (joins.onwards schema x y start middle end (inserts x start middle here (hold.elements body Block x a)) (answer_leads pieces y middle end b later))

  closed_answer : (document answer : List ℕ) → HasClosedProse schema document → IsAnswer document answer → (children : List Name) × ((has_text : Bool) × Runs schema answer at_start (lowest children has_text))
  unfolding IsAnswer
  closed_answer document answer (pieces, cut, (children, (has_text, leads))) (others, cut', a) =
      (children, (has_text, answer_leads pieces answer at_start (lowest children has_text) (subst (λ ps. PiecesAnswer ps answer) (one_cut_lem others pieces document cut' cut) a) leads))

inserts_any : JoinsBalanced → Inserts any_element
inserts_any joins markup start end takes element =
    let same : add (codes "math") start ≡ end = cc in
    subst (λ s. Runs any_element markup start s) same (joins.inserted markup start element)

takes_page : (b : Bool) (start end : OpenElements) → cond (b && true) (Some (add (codes "math") start)) None ≡ Some end → (b ≡ true) × (add (codes "math") start ≡ end)
takes_page true start end e = (refl, cc)
takes_page false start end e = cc

inserts_page : JoinsPages → Inserts page_schema
inserts_page joins markup start end takes element =
    let may = takes_page (takes_math (name_of start)) start end takes in
    subst (λ s. Runs page_schema markup start s) may.1 (joins.inserted markup start may.0 element)

-- the laws
pub balanced_answer : RenderingsHold → JoinsMarkup → (document answer : List ℕ) → HasBalancedProse document → IsAnswer document answer → IsBalanced answer
balanced_answer hold joins document answer around a = closed_answer any_element hold joins (inserts_any joins.balanced) document answer around a

pub page_answer : RenderingsHold → JoinsMarkup → (document answer : List ℕ) → HasPageProse document → IsAnswer document answer → IsPage answer
page_answer hold joins document answer around a = closed_answer page_schema hold joins (inserts_page joins.pages) document answer around a
