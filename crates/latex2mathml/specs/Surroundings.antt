-- What surrounds the formulas of a document, where it is markup: its prose, with an element in each formula's place.
use Rattle.std.specs.Prelude.{◌≡◌, ℕ, Bool, List, [], ◌∷◌, Some, codes}
use Rattle.latex2mathml.specs.Documents.{Piece, prose, inline, display, prose_answer, IsCut}
use Rattle.latex2mathml_trees.specs.Markup.{Name, OpenElements, Schema, Runs, any_element, at_start, empty_tag, lowest, step}
use Rattle.latex2mathml_trees.specs.Pages.{page_schema}

-- a formula may appear at these levels, and leads to those: it counts as a `math` element that holds nothing
abbrev pub TakesFormula : Schema → OpenElements → OpenElements → Type 0
TakesFormula schema start end = step schema (empty_tag (codes "math") []) start ≡ Some end

-- the prose of the pieces, as it is in the answer, leads from some levels to others
abbrev pub ProseRuns : Schema → List Piece → OpenElements → OpenElements → Type 0
ProseRuns schema [] start end = start ≡ end
ProseRuns schema (prose text ∷ pieces) start end =
    (middle : OpenElements) × Runs schema (prose_answer text) start middle × ProseRuns schema pieces middle end
ProseRuns schema (inline body ∷ pieces) start end =
    (middle : OpenElements) × TakesFormula schema start middle × ProseRuns schema pieces middle end
ProseRuns schema (display body ∷ pieces) start end =
    (middle : OpenElements) × TakesFormula schema start middle × ProseRuns schema pieces middle end

-- the prose closes the elements that it opens
abbrev pub HasClosedProse : Schema → List ℕ → Type 0
HasClosedProse schema document =
    (pieces : List Piece) × IsCut document pieces × ((children : List Name) × ((has_text : Bool) × ProseRuns schema pieces at_start (lowest children has_text)))

-- the prose is balanced around the formulas
abbrev pub HasBalancedProse : List ℕ → Type 0
HasBalancedProse document = HasClosedProse any_element document

-- the prose around the formulas is that of a page
abbrev pub HasPageProse : List ℕ → Type 0
HasPageProse document = HasClosedProse page_schema document
