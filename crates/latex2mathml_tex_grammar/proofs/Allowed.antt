-- What it means that no text of what is read, and no unit, holds a character that XML forbids.
use Rattle.std.proofs.Common.{◌≡◌, ℕ, false, List, [], ◌∷◌, ◌++◌, Option, Some, None}
use Rattle.std.specs.{Bool.⊤, List.AllByRecursion}
use Rattle.latex2mathml_elements.specs.{Characters.IsAllowed, Characters.HasAllowedTexts, Element.Element}
use Rattle.latex2mathml_elements.proofs.Plain.{IsPlain}
use Rattle.latex2mathml_tex_grammar.specs.{Atoms.Atom, Reading.Outcome, Reading.Read, Reading.Refused, Rests.Rest, Rests.GoesOnIn, Rests.NoRest, Rows.Restyled, Rows.Row, Rows.Operand, Rows.Upper}
use Rattle.latex2mathml_tex_grammar.specs.Makes.{Core, Scripts, text}
use Rattle.latex2mathml_tex_grammar.specs.Rules.{Rule, gives, refuses, reads_operand, reads_core, reads_atoms, reads_words, takes_if, if_follows, takes_digits, takes_delimiter, takes_found, passes_over, reads_rows}
use Rattle.latex2mathml_tex_grammar.specs.Starts.{Step, GoesOn, TakesOperand, Forbidden}
use Rattle.latex2mathml_tex_grammar.specs.ExpansionLaws.{EachPiece}
use Rattle.latex2mathml_tex_grammar.specs.Tables.{Lines}
use Rattle.latex2mathml_tex_grammar.specs.Units.{Piece, Command, Character, Units, is_forbidden}
use Rattle.latex2mathml_tex_grammar.specs.Words.{Word, Shown, Formula, Accented, Changed, Resized, WordRule, IsWord, Words}

-- Units

abbrev pub IsAllowedPiece : Piece → Type 0
IsAllowedPiece (Command name) = IsAllowed name
IsAllowedPiece (Character c) = is_forbidden c ≡ false
IsAllowedPiece piece = ⊤

abbrev pub AreAllowedUnits : Units → Type 0
AreAllowedUnits = EachPiece IsAllowedPiece

-- What is read

abbrev pub AreAllowedElements : List Element → Type 0
AreAllowedElements = AllByRecursion HasAllowedTexts

-- the element is allowed, where there is one
abbrev pub IsAllowedElement : Option Element → Type 0
IsAllowedElement None = ⊤
IsAllowedElement (Some x) = HasAllowedTexts x

abbrev pub IsAllowedCore : Core → Type 0
IsAllowedCore x = HasAllowedTexts x.atom.element

abbrev pub IsAllowedAtom : Atom → Type 0
IsAllowedAtom x = HasAllowedTexts x.element

abbrev pub IsAllowedOperand : Operand → Type 0
IsAllowedOperand x = HasAllowedTexts x.element

abbrev pub IsAllowedRow : Row → Type 0
IsAllowedRow row = AreAllowedElements row.elements

-- a row that is still being read: this includes what was put aside for it

abbrev pub IsAllowedBefore : Option Restyled → Type 0
IsAllowedBefore None = ⊤
IsAllowedBefore (Some change) = AreAllowedElements change.before

abbrev pub IsAllowedUpper : Option Upper → Type 0
IsAllowedUpper None = ⊤
IsAllowedUpper (Some upper) = HasAllowedTexts upper.element

pub record IsAllowedPart (row : Row) : Type 0 where
  pub elements : AreAllowedElements row.elements
  pub before : IsAllowedBefore row.restyled
  pub upper : IsAllowedUpper row.under

abbrev pub IsAllowedRest : Rest → Type 0
IsAllowedRest (GoesOnIn c row l) = IsAllowedPart row × AreAllowedUnits l
IsAllowedRest (NoRest r) = ⊤

abbrev pub IsAllowedAccent : Option ℕ → Type 0
IsAllowedAccent None = ⊤
IsAllowedAccent (Some accent) = IsAllowed (text accent)

abbrev pub AreAllowedWords : Words → Type 0
AreAllowedWords ws = AreAllowedElements ws.elements × IsAllowedAccent ws.accent

abbrev pub AreAllowedLines : Lines → Type 0
AreAllowedLines lines = HasAllowedTexts lines.last × AreAllowedElements lines.others

abbrev pub AreAllowedScripts : Scripts → Type 0
AreAllowedScripts scripts = IsAllowedElement scripts.below × IsAllowedElement scripts.above

abbrev pub IsAllowedWord : Word → Type 0
IsAllowedWord (Shown font text) = IsAllowed text
IsAllowedWord (Formula x) = HasAllowedTexts x
IsAllowedWord (Accented accent) = IsAllowed (text accent)
IsAllowedWord (Changed alphabet) = ⊤
IsAllowedWord (Resized size) = ⊤

-- the outcome is something that is allowed, with units that are allowed, or it is a refusal
abbrev pub IsAllowedOutcome : {A : Type 0} → (A → Type 0) → Outcome A → Type 0
IsAllowedOutcome P (Read x l) = P x × AreAllowedUnits l
IsAllowedOutcome P (Refused r) = ⊤

-- What is made of what is allowed is allowed

abbrev pub IsAllowedStep : Option Step → Type 0
IsAllowedStep None = ⊤
IsAllowedStep (Some (GoesOn scripts)) = AreAllowedScripts scripts
IsAllowedStep (Some (TakesOperand then)) = (x : Operand) → IsAllowedOperand x → AreAllowedScripts (then x)
IsAllowedStep (Some (Forbidden kind)) = ⊤

abbrev pub IsAllowedWordRule : WordRule → Type 0
IsAllowedWordRule (IsWord w) = IsAllowedWord w
IsAllowedWordRule r = ⊤

-- the text is what units that pass these tests give
abbrev pub AreGiven : List (Piece → Option (List ℕ)) → List ℕ → Type 0
AreGiven [] text = text ≡ []
AreGiven (test ∷ tests) text =
    (piece : Piece) × ((first : List ℕ) × ((rest : List ℕ) × ((test piece ≡ Some first) × ((text ≡ first ++ rest) × AreGiven tests rest))))

-- whatever the rule reads, if it is allowed, so is what it gives
abbrev pub IsAllowedRule : Rule → Type 0
IsAllowedRule (gives x) = IsAllowedCore x
IsAllowedRule (refuses r) = ⊤
IsAllowedRule (reads_operand place c then) = (x : Operand) → IsAllowedOperand x → IsAllowedRule (then x)
IsAllowedRule (reads_core place c then) = (x : Core) → IsAllowedCore x → IsAllowedRule (then x)
IsAllowedRule (reads_atoms ending c then) = (row : Row) → IsAllowedRow row → IsAllowedRule (then row)
IsAllowedRule (reads_words place c then) = (ws : Words) → AreAllowedWords ws → IsAllowedRule (then ws)
IsAllowedRule (takes_if tests then otherwise) =
    ((text : List ℕ) → AreGiven tests text → IsAllowedRule (then text)) × IsAllowedRule otherwise
IsAllowedRule (if_follows test then otherwise) = IsAllowedRule then × IsAllowedRule otherwise
IsAllowedRule (takes_digits then) = (digits : List ℕ) → IsPlain digits → IsAllowedRule (then digits)
IsAllowedRule (takes_delimiter then) = (sign_text : List ℕ) → IsAllowed sign_text → IsAllowedRule (then sign_text)
IsAllowedRule (takes_found spot place then) = (text : List ℕ) → IsAllowedRule (then text)
IsAllowedRule (passes_over spot then) = IsAllowedRule then
IsAllowedRule (reads_rows end place columns c then) = (lines : Lines) (at : ℕ) → AreAllowedLines lines → IsAllowedRule (then lines at)
