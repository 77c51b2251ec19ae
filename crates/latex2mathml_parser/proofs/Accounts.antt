-- What a whole reading answers and counts, from what its parts do.
use Rattle.std.proofs.Common.{◌≡◌, ℕ, ◌+◌, ◌≤◌, Bool, false, IsTrue, List, [], ◌∷◌, cond, drop, length, take, Some, None, Result, Ok, Err, ap, ◌∙◌, arith}
use Rattle.std.specs.Prelude.{OnOk, is_ok}
use Rattle.std.proofs.{lemmas.List.length-map, lemmas.List.Sums.sum_by-take-drop}
use Rattle.std.specs.Str.{chars, IsUtf8}
use Rattle.std.proofs.lemmas.Str.{encodes-chars, length-le-encodes}
use Rattle.latex2mathml_grammar.specs.Counts.{IsComparisonCount, IsRefusalCount, IsTokenCount, backslashes, begins_with_backslash}
use Rattle.latex2mathml_grammar.specs.{Cutting.slices_of, Grammar.ReadsFormula, Grammar.Refuses, Openers.IsFrameCount}
use Rattle.latex2mathml_tokens.specs.Refusal.{IfRefused, Refusal, refusal_of}
use Rattle.latex2mathml_grammar.specs.Rendering.{IsFormulaRefusal, IsRendering, math_print}
use Rattle.latex2mathml_grammar.specs.Spelling.{HasSlices, HasTokens, Slice}
use Rattle.latex2mathml_tokens.specs.{Tok.Tok, Tok.takes_digit, declared.DisplayStyle.DisplayStyle, declared.error.LatexError.LatexError}
use Rattle.latex2mathml_trees.specs.Tree.{Tree}
use Rattle.latex2mathml_parser.specs.{Steps.IsRefusedWithin, Unread.GoesOn, Unread.OpensFor, Unread.Unread, Unread.token_list}
use Rattle.std.proofs.lemmas.Option.{IfSome_then}
use Rattle.latex2mathml_grammar.proofs.{OneList.cut, Tokenizing.step_shortens}

-- what is left of a whole text
pub whole_list : (text : List ℕ) (l : List Tok) → l ≡ token_list (slices_of false text) → HasTokens None text l
whole_list text l e = (slices_of false text, cut false text, e)

pub token_count : {A E : Type 0} {text : List ℕ} (r : Result A E) {old new : Unread} {n : ℕ} → old.list ≡ token_list (slices_of false text) → old.tokens ≡ 0 → GoesOn old new → OnOk r (new.list ≡ []) → n ≡ new.tokens → IsTokenCount text (is_ok r) n
token_count {text = text} r {old} {new} e none goes all same =
    let whole : length old.list ≡ length (slices_of false text) = ap length e ∙ length-map (slices_of false text) (λ s. s.token) in
    let left : IsTrue (is_ok r) → new.list ≡ [] = grind arith in
    (slices_of false text, cut false text, omega arith, λ done. omega (arith, ap length (left done)))

-- where P holds of the refusal and implies Q, Q holds of it
pub refused_so : {A : Type 0} {P Q : Refusal → Type 0} (r : Result A LatexError) → IfRefused r P → ((q : Refusal) → P q → Q q) → IfRefused r Q
refused_so (Ok x) h so = tt
refused_so (Err error) h so = IfSome_then (refusal_of error) h so

-- where a node is refused, all tokens before it were taken, and more
pub refusal_count : {A : Type 0} (text : List ℕ) (r : Result A LatexError) {old new : Unread} {n : ℕ} → old.list ≡ token_list (slices_of false text) → old.tokens ≡ 0 → GoesOn old new → IfRefused r (IsRefusedWithin old new) → n ≡ new.tokens → IfRefused r (IsRefusalCount text n)
refusal_count text r {old} {new} e none goes h same =
    refused_so r h (λ q d. (old.list, whole_list text old.list e, (d.0, d.1, d.2, omega (arith, goes.tokens, d.3))))

pub comparison_count : (text : List ℕ) (old new : Unread) (taken n : ℕ) → old.slices ≡ slices_of false text → old.tokens ≡ 0 → old.backslashes ≡ backslashes (slices_of false text) → old.comparisons ≡ 0 → GoesOn old new → new.backslashes ≡ backslashes new.slices → taken ≡ new.tokens → n ≡ new.comparisons → IsComparisonCount text taken n
comparison_count text old new taken n is start all none goes left same_taken same =
    let slices = slices_of false text in
    let stands : new.slices ≡ drop taken slices = rw same_taken (goes.rest slices (rw start is)) in
    let unread : new.backslashes ≡ backslashes (drop taken slices) = left ∙ ap backslashes stands in
    let parted : backslashes (take taken slices) + backslashes (drop taken slices) ≡ backslashes slices = sum_by-take-drop (λ s. cond (begins_with_backslash s.text) 1 0) slices taken in
    (slices, cut false text, omega arith, omega arith)

pub frame_count : (text : List ℕ) (old new : Unread) (taken before n : ℕ) → old.list ≡ token_list (slices_of false text) → old.tokens ≡ 0 → before ≡ 0 → OpensFor old new (before + 0) n → taken ≡ new.tokens → IsFrameCount text taken n
frame_count text old new taken before n e none start opens same = (omega arith, (old.list, whole_list text old.list e, omega arith))

pub rendering : (text : List ℕ) (display : DisplayStyle) {l : List Tok} {markup : List ℕ} → l ≡ token_list (slices_of false (chars text)) → (xs : List Tree) × ReadsFormula l xs × (markup ≡ math_print display xs) → IsRendering text display markup
unfolding IsRendering
rendering text display {l} e d = (l, whole_list (chars text) l e, d)

pub refused : {A : Type 0} (text : List ℕ) {l : List Tok} (r : Result A LatexError) → l ≡ token_list (slices_of false (chars text)) → IfRefused r (Refuses l) → IfRefused r (IsFormulaRefusal text)
unfolding IsFormulaRefusal
refused text {l} r e h = refused_so r h (λ q d. (l, whole_list (chars text) l e, d))

-- each slice has a character
slices_within_text : (takes : Bool) (text : List ℕ) (slices : List Slice) → HasSlices takes text slices → length slices ≤ length text
slices_within_text takes text [] h = omega arith
slices_within_text takes text (s ∷ ss) (rest, step, later) =
    omega (arith, step_shortens takes text rest s step, slices_within_text (takes_digit (Some s.token)) rest ss later)

-- so no more tokens are taken than the text has bytes
pub tokens_within_text : (text : List ℕ) (done : Bool) (n : ℕ) → IsUtf8 text → IsTokenCount (chars text) done n → n ≤ length text
tokens_within_text text done n utf8 (slices, cut, bound, all) =
    omega (arith, slices_within_text false (chars text) slices cut, length-le-encodes (chars text), ap length (encodes-chars text utf8))
