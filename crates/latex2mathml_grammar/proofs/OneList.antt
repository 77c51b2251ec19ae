-- A text has exactly one list of slices, and so exactly one token list.
use Rattle.std.proofs.Common.{◌≡◌, ℕ, zero, suc, ◌<◌, Bool, true, false, ◌&&◌, List, [], ◌∷◌, ◌++◌, map, codes, length, refl, sym, ap, subst, ◌∙◌, Option, Some, None, inl, inr, append-nil, arith}
use Rattle.std.proofs.{Math.Seq.drop-append_seam, lemmas.Bool.cases_Bool, lemmas.Bool.Decides.nat_tests, lemmas.List.Sums.list_all-from_AllPass}
use Rattle.std.specs.{Char.is_ascii_digit, Char.is_ascii_alphabetic, List.AllPass, Str.byte, Str.encode_utf8_all}
use Rattle.latex2mathml_grammar.specs.Characters.{◌∈◌, Begins, Stops, head, is_empty, is_space}
use Rattle.std.proofs.lemmas.List.Elements.{All-nil, All-cons}
use Rattle.latex2mathml_grammar.proofs.{FirstSlices.parted, FirstSlices.slice_of}
use Rattle.latex2mathml_tokens.specs.{Among.is_among, Commands.command_token}
use Rattle.latex2mathml_grammar.specs.Cutting.{slice, slices_within, slices_of}
use Rattle.latex2mathml_grammar.specs.{Beginnings.BeginsWith, Beginnings.BeginsWithNumber, Beginnings.IsLongestRun, TokenLists.HasOneTokenList}
use Rattle.latex2mathml_grammar.specs.Spelling.{Slice, IsFirstSlice, HasSlices, HasTokens, is_period, is_equals_sign, character_token, character, colon, colon_equals, number, digit, symbol_command, letter_command, lone_backslash}
use Rattle.latex2mathml_tokens.specs.Tok.{Tok, Number, Command, Paren, Operator, takes_digit}
use Rattle.latex2mathml_grammar.proofs.Numbers.{digits_alone, digits_with_period}
use Rattle.latex2mathml_grammar.proofs.Tokenizing.{spells_dark, step_shortens}

-- a text splits after its longest run
split : (p : ℕ → Bool) (text : List ℕ) → (front : List ℕ) × (back : List ℕ) × IsLongestRun p text front back
split p [] = ([], [], (refl, All-nil (λ x. p x ≡ true), tt))
split p (c ∷ cs) = elim (cases_Bool (p c)) [
  | inl h ↦ (let more : (front : List ℕ) × (back : List ℕ) × IsLongestRun p cs front back = split p cs in
      (c ∷ more.0, more.1, (ap (λ k. c ∷ k) more.2.0, All-cons (λ x. p x ≡ true) c more.0 h more.2.1, more.2.2)))
  | inr h ↦ ([], c ∷ cs, (refl, All-nil (λ x. p x ≡ true), h))
]

-- where nothing follows the white space, the text is white space
pub only_space : (text space start : List ℕ) → IsLongestRun is_space text space start → start ≡ [] → AllPass is_space text
only_space text space start run e = subst (AllPass is_space) (sym (run.0 ∙ ap (λ s. space ++ s) e ∙ append-nil space)) run.1

-- a token that the text begins with, and the rest
abbrev pub Begun : Bool → List ℕ → Type 0
Begun alone text = (t : Tok) × (rest : List ℕ) × BeginsWith alone text t rest

-- the only character among one character
pub only : (b c : ℕ) → is_among c (b ∷ []) ≡ true → c ≡ b
only b c h = grind (arith, nat_tests)

number_begun : (text : List ℕ) → Begins is_ascii_digit text → (front : List ℕ) × (back : List ℕ) × IsLongestRun is_ascii_digit text front back → (rest : List ℕ) × BeginsWithNumber text rest
number_begun text begins (front, [], run) = ([], digits_alone text front [] run begins tt)
number_begun text begins (front, c ∷ cs, run) = elim (cases_Bool (is_period c)) [
  | inl k ↦ (let (part, rest, more) = split is_ascii_digit cs in
      (rest, digits_with_period text front (c ∷ cs) cs part rest run begins (ap (λ x. x ∷ cs) (only (byte ".") c k)) more))
  | inr k ↦ (c ∷ cs, digits_alone text front (c ∷ cs) run begins k)
]

command_begun : (alone : Bool) (cs : List ℕ) → Begun alone (byte "\\" ∷ cs)
command_begun alone [] = (Command [], [], (codes "\\", refl, lone_backslash refl refl refl))
command_begun alone (c ∷ cs) = elim (cases_Bool (is_ascii_alphabetic c)) [
  | inl h ↦ (let more : (front : List ℕ) × (back : List ℕ) × IsLongestRun is_ascii_alphabetic cs front back = split is_ascii_alphabetic cs in
      (command_token (encode_utf8_all (c ∷ more.0)), more.1, (byte "\\" ∷ c ∷ more.0, ap (λ k. byte "\\" ∷ c ∷ k) more.2.0, letter_command c more.0 refl (All-cons (λ x. is_ascii_alphabetic x ≡ true) c more.0 h more.2.1) more.2.2 refl)))
  | inr h ↦ (command_token (encode_utf8_all (c ∷ [])), cs, (byte "\\" ∷ c ∷ [], refl, symbol_command c h refl refl))
]

colon_begun : (alone : Bool) (cs : List ℕ) → Begun alone (byte ":" ∷ cs)
colon_begun alone [] = (Operator (byte ":"), [], (codes ":", refl, colon tt refl refl))
colon_begun alone (c ∷ cs) = elim (cases_Bool (is_equals_sign c)) [
  | inl h ↦ (Paren (codes ":="), cs, (codes ":=", ap (λ x. byte ":" ∷ x ∷ cs) (only (byte "=") c h), colon_equals refl refl))
  | inr h ↦ (Operator (byte ":"), c ∷ cs, (codes ":", refl, colon h refl refl))
]

digit_begun : (alone : Bool) (c : ℕ) (cs : List ℕ) → is_ascii_digit c ≡ true → Begun alone (c ∷ cs)
digit_begun true c cs h = (Number (encode_utf8_all (c ∷ [])), cs, (c ∷ [], refl, digit c refl h refl refl))
digit_begun false c cs h =
    let (rest, (w, e, is)) = number_begun (c ∷ cs) h (split is_ascii_digit (c ∷ cs)) in (Number (encode_utf8_all w), rest, (w, e, number refl is refl))

-- what does not begin with white space begins with a slice
pub begun : (alone : Bool) (c : ℕ) (cs : List ℕ) → is_space c ≡ false → Begun alone (c ∷ cs)
begun alone c cs dark = elim (cases_Bool (is_ascii_digit c)) [
  | inl d ↦ digit_begun alone c cs d
  | inr d ↦ elim (cases_Bool (c ∈ "\\")) [
    | inl f ↦ subst (λ x. Begun alone (x ∷ cs)) (sym (only (byte "\\") c f)) (command_begun alone cs)
    | inr f ↦ elim (cases_Bool (c ∈ ":")) [
      | inl g ↦ subst (λ x. Begun alone (x ∷ cs)) (sym (only (byte ":") c g)) (colon_begun alone cs)
      | inr g ↦ (character_token c, cs, (c ∷ [], refl, character c (rw (d, f, g) refl) dark refl refl))
    ]
  ]
]

-- a text that is shorter than the bound has slices
within : (n : ℕ) (takes : Bool) (text : List ℕ) → (space : List ℕ) × (start : List ℕ) × IsLongestRun is_space text space start → length text < n → (ss : List Slice) × HasSlices takes text ss
within zero takes text run h = absurd (omega arith)
within (suc n) takes text (space, [], run) h = ([], only_space text space [] run refl)
within (suc n) takes text (space, c ∷ cs, run) h =
    let (t, rest, (w, e, spells)) = begun (takes && is_empty space) c cs run.2 in
    let step : IsFirstSlice takes text (slice w t) rest = (space, run.0 ∙ ap (λ s. space ++ s) e, run.1, spells) in
    let more = within n (takes_digit (Some t)) rest (split is_space rest) (omega (arith, step_shortens takes text rest (slice w t) step)) in
    (slice w t ∷ more.0, (rest, step, more.1))

-- the slices that a text has are the computed ones
computed : (n : ℕ) (takes : Bool) (text : List ℕ) (ss : List Slice) → HasSlices takes text ss → length text < n → slices_within n takes text ≡ ss
unfolding slices_within
computed zero takes text ss h l = absurd (omega arith)
computed (suc n) takes text [] h l = rw (rw append-nil at (parted is_space text [] (list_all-from_AllPass is_space text h) tt).1) refl
computed (suc n) takes text (s ∷ ss) (rest, (space, whole, white, spells), later) l =
    let dark : Stops is_space (head (s.text ++ rest)) × (is_empty (s.text ++ rest) ≡ false) = grind (arith, spells_dark _ s.text _ s.token spells) in
    let parts = parted is_space space (s.text ++ rest) (list_all-from_AllPass is_space space white) dark.0 in
    let more = computed n (takes_digit (Some s.token)) rest ss later (omega (arith, step_shortens takes text rest s (space, whole, white, spells))) in
    rw (whole, parts.1, parts.0, dark.1, slice_of (takes && is_empty space) s.text rest s.token spells, drop-append_seam s.text rest, more) refl

pub one_cut : (takes : Bool) (text : List ℕ) (ss : List Slice) → HasSlices takes text ss → slices_of takes text ≡ ss
unfolding slices_of
one_cut takes text ss h = computed (suc (length text)) takes text ss h (omega arith)

pub cut : (takes : Bool) (text : List ℕ) → HasSlices takes text (slices_of takes text)
cut takes text =
    let some : (ss : List Slice) × HasSlices takes text ss = within (suc (length text)) takes text (split is_space text) (omega arith) in
    subst (HasSlices takes text) (sym (one_cut takes text some.0 some.1)) some.1

-- what a step takes from the slices that are left
pub cut_step : (takes : Bool) (text : List ℕ) (s : Slice) (rest : List ℕ) → IsFirstSlice takes text s rest → slices_of takes text ≡ s ∷ slices_of (takes_digit (Some s.token)) rest
cut_step takes text s rest step = one_cut takes text (s ∷ slices_of (takes_digit (Some s.token)) rest) (rest, step, cut (takes_digit (Some s.token)) rest)

pub some_list : (p : Option Tok) (text : List ℕ) → (ts : List Tok) × HasTokens p text ts
some_list p text = (map (λ s. s.token) (slices_of (takes_digit p) text), (slices_of (takes_digit p) text, cut (takes_digit p) text, refl))

pub at_most_one : (p : Option Tok) (text : List ℕ) (ts us : List Tok) → HasTokens p text ts → HasTokens p text us → ts ≡ us
at_most_one p text ts us a b =
    cc (one_cut (takes_digit p) text a.0 a.1, one_cut (takes_digit p) text b.0 b.1)

-- the law
pub has_one_list : (text : List ℕ) → HasOneTokenList text
has_one_list text = record {
  one_cut = λ slices others h k. sym (one_cut false text slices h) ∙ one_cut false text others k;
  some = some_list None text;
  one = at_most_one None text;
}
