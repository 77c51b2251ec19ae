-- Laws of documents: they hold of every text.
use Rattle.std.specs.Prelude.{◌≡◌, ◌⊎◌, ◌↔◌, ◌==◌, ◌%◌, ℕ, List, ◌++◌}
use Rattle.std.specs.List.{suffix_len}
use Rattle.latex2mathml.specs.Documents.{AreJoined, Piece, prose, inline, display, HasCut, HasNoCut, IsCut, ProseAnswer, IsAnswer, IsRefusal}
use Rattle.latex2mathml.specs.Surroundings.{HasBalancedProse, HasPageProse}
use Rattle.latex2mathml_grammar.specs.{Dollars.backslash, Dollars.IsDollarFree, Rendering.IsRendering}
use Rattle.latex2mathml_trees.specs.{Markup.IsBalanced, MathSchema.IsMathElement, Pages.IsPage}
use Rattle.latex2mathml_tokens.specs.Refusal.{Refusal, InvalidNumberOfDollarSigns}
use Rattle.latex2mathml_tokens.specs.declared.DisplayStyle.TheVariants.{Block, Inline}

-- any two cuts of the document have the same pieces
abbrev pub HasOneCut : List ℕ → Type 0
HasOneCut document = (pieces others : List Piece) → IsCut document pieces → IsCut document others → pieces ≡ others

-- the text ends in an odd number of backslashes: the last would take the first character of what follows
abbrev pub EndsInOddBackslashes : List ℕ → Type 0
EndsInOddBackslashes text = suffix_len (λ b. b == backslash) text % 2 ≡ 1

-- where both documents have answers, and no backslash at the end of the first takes from the second, the joined documents
-- have the joined answers
abbrev pub JoinsAnswers : List ℕ → List ℕ → Type 0
JoinsAnswers first second =
    (¬ EndsInOddBackslashes first)
    → (answer after : List ℕ)
    → IsAnswer first answer
    → IsAnswer second after
    → IsAnswer (first ++ second) (answer ++ after)

-- the text holds no dollar sign, is its own answer, and has no other
pub record IsOwnAnswer (answer : List ℕ) : Type 0 where
  pub dollar_free : IsDollarFree answer
  pub own : IsAnswer answer answer
  pub no_other : (other : List ℕ) → IsAnswer answer other → other ≡ answer

-- each answer of the document is its own answer
abbrev pub RepeatsAnswers : List ℕ → Type 0
RepeatsAnswers document = (answer : List ℕ) → IsAnswer document answer → IsOwnAnswer answer

-- the document has exactly one answer or exactly one refusal
pub record HasOneOutcome (document : List ℕ) : Type 0 where
  -- it has an answer or a refusal
  pub some : ((answer : List ℕ) × IsAnswer document answer) ⊎ ((refusal : Refusal) × IsRefusal document refusal)
  -- two answers are the same text
  pub one_answer : (answer other : List ℕ) → IsAnswer document answer → IsAnswer document other → answer ≡ other
  -- two refusals are the same refusal
  pub one_refusal : (refusal other : Refusal) → IsRefusal document refusal → IsRefusal document other → refusal ≡ other
  -- what has an answer is not refused
  pub never_both : (answer : List ℕ) (refusal : Refusal) → IsAnswer document answer → IsRefusal document refusal → ⊥

-- the document is refused for its dollar signs exactly where it has no cut, and what has an answer has one
pub record IsForDollars (document : List ℕ) : Type 0 where
  pub refused : (refusal : Refusal) → IsRefusal document refusal → (refusal ≡ InvalidNumberOfDollarSigns) ↔ HasNoCut document
  pub answered : (answer : List ℕ) → IsAnswer document answer → HasCut document

-- what a piece becomes: the answer of prose, or the rendering of a formula, which is one `math` element
abbrev pub IsPieceMarkup : Piece → List ℕ → Type 0
IsPieceMarkup (prose text) markup = ProseAnswer text markup
IsPieceMarkup (inline body) markup = IsRendering body Inline markup × IsMathElement markup
IsPieceMarkup (display body) markup = IsRendering body Block markup × IsMathElement markup

-- the answer is that of the document's prose, with one `math` element in place of each formula
abbrev pub HasElements : List ℕ → List ℕ → Type 0
HasElements document answer = (pieces : List Piece) × IsCut document pieces × AreJoined IsPieceMarkup pieces answer

-- what holds of all documents
pub record AnswersHold : Type 0 where
  pub one_cut : (document : List ℕ) → HasOneCut document
  pub for_dollars : (document : List ℕ) → IsForDollars document
  pub one_outcome : (document : List ℕ) → HasOneOutcome document
  pub repeated : (document : List ℕ) → RepeatsAnswers document
  pub joined : (first second : List ℕ) → JoinsAnswers first second
  pub elements : (document answer : List ℕ) → IsAnswer document answer → HasElements document answer
  -- where the prose is balanced around the formulas, so is the answer, and where it is that of a page, each `math`
  -- element is where it may be and obeys the child table
  pub balanced : (document answer : List ℕ) → HasBalancedProse document → IsAnswer document answer → IsBalanced answer
  pub page : (document answer : List ℕ) → HasPageProse document → IsAnswer document answer → IsPage answer
