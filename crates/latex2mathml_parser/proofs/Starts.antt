-- What the lexer takes from the slices that are left of a text, and what it leaves where it only looks.
use Rattle.std.proofs.Common.{◌≡◌, ◌≢◌, ℕ, ◌+◌, ◌-◌, ◌*◌, ◌^◌, ◌<◌, ◌≤◌, Bool, true, false, not, ◌||◌, List, [], ◌∷◌, ◌++◌, drop, drop-drop, eqb, length, refl, sym, ap, subst, ◌∙◌, Some, if◌then◌else◌, arith, rules}
use Rattle.std.proofs.lemmas.Bool.{and_right, not-true, or_parts}
use Rattle.std.proofs.{lemmas.Bool.Decides.nat_tests, lemmas.List.Elements.All-cons, lemmas.List.Elements.All-nil, lemmas.List.Sums.sum_by-cons}
use Rattle.std.proofs.lemmas.Str.{encodes-chars, length-le-encodes}
use Rattle.std.specs.Char.{is_ascii_alphabetic, is_ascii_digit}
use Rattle.std.specs.Str.{byte, chars, encode_utf8_all, IsUtf8}
use Rattle.latex2mathml_grammar.specs.Characters.{head, is_space}
use Rattle.latex2mathml_grammar.specs.{Counts.backslashes, Counts.begins_with_backslash, Cutting.slice, Cutting.slices_of, Grammar.first_or_end, Openers.openers, Openers.opens}
use Rattle.latex2mathml_grammar.specs.Beginnings.{BeginsWith, IsLongestRun}
use Rattle.latex2mathml_parser.specs.{Lexing.IsStart, Lexing.is_lone, Marks.rest_of}
use Rattle.latex2mathml_grammar.specs.Spelling.{Slice, SpellsAt, IsFirstSlice, begins_longer, character_token}
use Rattle.latex2mathml_parser.specs.Unread.{Takes, unread_in, token_list}
use Rattle.latex2mathml_tokens.specs.Tok.{Tok, EOF, Letter, Number, takes_digit}
use Rattle.latex2mathml_tokens.specs.declared.attribute.Variant.TheVariants.{Italic}
use Rattle.latex2mathml_parser.proofs.{Fronts.no_characters, Spellings.lone_digit, Spellings.one_character}
use Rattle.latex2mathml_grammar.proofs.OneList.{begun, cut_step, one_cut, only_space}
use Rattle.latex2mathml_grammar.proofs.{Counting.count_one, Tokenizing.spells_dark, Tokenizing.step_shortens}

-- a text that does not begin with white space starts at its front
pub starts_here : (takes : Bool) (text : List ℕ) (c : ℕ) (after : List ℕ) → text ≡ c ∷ after → is_space c ≡ false → IsStart takes text text takes
starts_here takes text c after e dark = ([], (refl, All-nil (λ x. is_space x ≡ true), rw e dark), grind arith)

-- a text that begins with white space starts after it
pub starts_behind : (takes : Bool) (text : List ℕ) (c : ℕ) (after start : List ℕ) → text ≡ c ∷ after → is_space c ≡ true → (space : List ℕ) × IsLongestRun is_space after space start → IsStart takes text start false
starts_behind takes text c after start e light (space, run) =
    (c ∷ space, (e ∙ ap (λ k. c ∷ k) run.0, All-cons (λ x. is_space x ≡ true) c space light run.1, run.2), sym (and_right takes false refl))

-- a text that begins with one character of white space starts after that
pub starts_behind_one : (takes : Bool) (text : List ℕ) (c : ℕ) (start : List ℕ) (d : ℕ) (rest : List ℕ) → text ≡ c ∷ start → is_space c ≡ true → start ≡ d ∷ rest → is_space d ≡ false → IsStart takes text start false
starts_behind_one takes text c start d rest e light f dark =
    starts_behind takes text c start start e light ([], (refl, All-nil (λ x. is_space x ≡ true), rw f dark))

-- the first slice of a text, from where it starts
pub step_from : (takes alone : Bool) (text start : List ℕ) (t : Tok) (rest : List ℕ) → IsStart takes text start alone → (begins : BeginsWith alone start t rest) → IsFirstSlice takes text (slice begins.0 t) rest
step_from takes alone text start t rest (space, run, e) begins =
    (space, run.0 ∙ ap (λ s. space ++ s) begins.1, run.1, subst (λ b. SpellsAt b begins.0 (head rest) t) e begins.2)

-- the text from its start has the same slices
pub same_slices : (takes alone : Bool) (text start : List ℕ) → IsStart takes text start alone → slices_of alone start ≡ slices_of takes text
same_slices takes alone text [] (space, run, e) =
    one_cut alone [] [] (All-nil (λ x. is_space x ≡ true)) ∙ sym (one_cut takes text [] (only_space text space [] run refl))
same_slices takes alone text (c ∷ cs) (space, run, e) =
    let (t, rest, begins) = begun alone c cs run.2 in
    let here = step_from alone alone (c ∷ cs) (c ∷ cs) t rest (starts_here alone (c ∷ cs) c cs refl run.2) begins in
    cut_step alone (c ∷ cs) _ rest here ∙ sym (cut_step takes text _ rest (step_from takes alone text (c ∷ cs) t rest (space, run, e) begins))

pub none_left : (takes alone : Bool) (text start : List ℕ) → IsStart takes text start alone → start ≡ [] → slices_of takes text ≡ []
none_left takes alone text start (space, run, e) f = one_cut takes text [] (only_space text space start run f)

-- an empty text has no slice
pub none_of_nothing : (takes : Bool) (text : List ℕ) → true ≡ eqb (length text) 0 → slices_of takes (chars text) ≡ []
none_of_nothing takes text e =
    one_cut takes (chars text) [] (rw (no_characters text e) (All-nil (λ x. is_space x ≡ true)))

-- where no slice is left, the end is taken
pub nothing_taken : (slices : List Slice) (tokens comparisons : ℕ) → slices ≡ [] → Takes EOF (unread_in slices tokens comparisons) (unread_in slices tokens comparisons)
nothing_taken slices tokens comparisons e = rw e (record { token = refl; list = refl; ended = λ _. refl; counts = search (rules, arith) })

-- 1 for a text that begins with a backslash, 0 for any other
abbrev pub backslash_count : List ℕ → ℕ
backslash_count text = if begins_with_backslash text then 1 else 0

-- a slice begins with a backslash where the text that it begins does
same_first : (alone : Bool) (w rest start : List ℕ) (t : Tok) → SpellsAt alone w (head rest) t → start ≡ w ++ rest → backslash_count w ≡ backslash_count start
same_first alone [] rest start t s e = absurd (spells_dark alone [] (head rest) t s)
same_first alone (c ∷ w) rest start t s e = ap backslash_count (sym e)

-- a slice is taken, and n names were compared for it
abbrev pub IsTaken : Bool → List ℕ → Tok → ℕ → Bool → List ℕ → Type 0
IsTaken takes text t n takes' rest =
    (w : List ℕ)
    × (slices_of takes text ≡ slice w t ∷ slices_of takes' rest)
    × (backslash_count w ≤ n)
    × (n ≤ 9 * backslash_count w)
    × (length rest < length text)

-- a slice is taken where the text starts with it, and it begins with a backslash exactly where names were compared
pub taken : (takes alone takes' : Bool) (text start : List ℕ) (t : Tok) (n : ℕ) (rest : List ℕ) → IsStart takes text start alone → BeginsWith alone start t rest → takes' ≡ takes_digit (Some t) → backslash_count start ≤ n → n ≤ 9 * backslash_count start → IsTaken takes text t n takes' rest
taken takes alone takes' text start t n rest starts begins e least most =
    let step : IsFirstSlice takes text (slice begins.0 t) rest = step_from takes alone text start t rest starts begins in
    let same : backslash_count begins.0 ≡ backslash_count start = same_first alone begins.0 rest start t begins.2 begins.1 in
    (begins.0, cut_step takes text (slice begins.0 t) rest step ∙ ap (λ b. slice begins.0 t ∷ slices_of b rest) (sym e), rw same least, rw same most, step_shortens takes text rest (slice begins.0 t) step)

-- a slice that is not a command is taken
pub taken_uncounted : (takes alone : Bool) (text start : List ℕ) (c : ℕ) (after : List ℕ) (t : Tok) (rest : List ℕ) → IsStart takes text start alone → start ≡ c ∷ after → c ≢ byte "\\" → BeginsWith alone start t rest → takes_digit (Some t) ≡ false → IsTaken takes text t 0 false rest
taken_uncounted takes alone text start c after t rest starts e dark begins no_digit =
    let none : backslash_count start ≡ 0 = rw e (grind (arith, nat_tests)) in
    taken takes alone false text start t 0 rest starts begins (sym no_digit) (omega arith) (omega arith)

letter_token : (c : ℕ) → is_ascii_alphabetic c ≡ true → Letter c Italic ≡ character_token c
letter_token c h = grind (arith, nat_tests)

lone_letter : (c : ℕ) → is_ascii_alphabetic c ≡ true → not (begins_longer c || is_space c) ≡ true
lone_letter c h = grind (arith, nat_tests)

dark_digit : (c : ℕ) → is_ascii_digit c ≡ true → (is_space c ≡ false) × (c ≢ byte "\\")
dark_digit c h = (grind (arith, nat_tests), λ e. grind (arith, nat_tests))

-- a slice that is one character, a token by itself, is taken
pub taken_character : (takes : Bool) (text : List ℕ) (c : ℕ) (after : List ℕ) (t : Tok) → text ≡ c ∷ after → not (begins_longer c || is_space c) ≡ true → t ≡ character_token c → takes_digit (Some t) ≡ false → IsTaken takes text t 0 false after
taken_character takes text c after t e alone f no_digit =
    let parts = or_parts (begins_longer c) (is_space c) (not-true _ alone) in
    taken_uncounted takes takes text text c after t after (starts_here takes text c after e parts.1) e (λ b. cc (ap begins_longer b, parts.0)) (one_character takes text c after t e parts.0 parts.1 f) no_digit

-- a letter is taken
pub taken_letter : (takes : Bool) (text : List ℕ) (c : ℕ) (after : List ℕ) → text ≡ c ∷ after → is_ascii_alphabetic c ≡ true → IsTaken takes text (Letter c Italic) 0 false after
taken_letter takes text c after e letter =
    taken_character takes text c after (Letter c Italic) e (lone_letter c letter) (letter_token c letter) refl

-- a digit that is a number by itself is taken
pub taken_digit : (takes : Bool) (text : List ℕ) (c : ℕ) (after bs : List ℕ) → text ≡ c ∷ after → is_ascii_digit c ≡ true → is_lone takes after ≡ true → ((w : List ℕ) → text ≡ w ++ after → bs ≡ encode_utf8_all w) → IsTaken takes text (Number bs) 0 false after
taken_digit takes text c after bs e d lone bytes =
    let dark : (is_space c ≡ false) × (c ≢ byte "\\") = dark_digit c d in
    taken_uncounted takes takes text text c after (Number bs) after (starts_here takes text c after e dark.0) e dark.1 (lone_digit takes text c after bs e d lone bytes) refl

-- the token of the slice is taken
pub token_taken : (takes : Bool) (text : List ℕ) (t : Tok) (n : ℕ) (takes' : Bool) (rest : List ℕ) (tokens tokens' comparisons comparisons' : ℕ) → IsTaken takes text t n takes' rest → t ≢ EOF → tokens' ≡ tokens + 1 → comparisons' ≡ comparisons + n → Takes t (unread_in (slices_of takes text) tokens comparisons) (unread_in (slices_of takes' rest) tokens' comparisons')
token_taken takes text t n takes' rest tokens tokens' comparisons comparisons' h no_end e f =
    let s : Slice = slice h.0 t in
    let shorter : length (token_list (slices_of takes text)) ≡ 1 + length (token_list (slices_of takes' rest)) = ap (λ ss. length (token_list ss)) h.1 ∙ omega arith in
    let fewer : backslashes (slices_of takes text) ≡ backslash_count h.0 + backslashes (slices_of takes' rest) = ap backslashes h.1 ∙ count_one (λ k. begins_with_backslash k.text) s (slices_of takes' rest) in
    let least : backslash_count h.0 ≤ n = h.2 in
    let most : n ≤ 9 * backslash_count h.0 = h.3 in
    record {
      token = sym (ap (λ ss. first_or_end (token_list ss)) h.1);
      list = sym (ap (λ ss. rest_of (token_list ss)) h.1);
      ended = λ k. absurd (no_end k);
      counts = record {
        tokens = omega arith;
        more = omega arith;
        openers = omega (arith, ap (λ ss. openers (token_list ss)) h.1, sum_by-cons opens t (token_list (slices_of takes' rest)));
        rest = λ slices stands. sym (ap (λ k. drop k slices) e ∙ sym (drop-drop 1 tokens slices) ∙ ap (drop 1) (sym stands) ∙ ap (drop 1) h.1);
        at_least = omega arith;
        at_most = omega arith;
      };
    }

-- a command is taken, for which 1 to 9 names were compared, and the counts stay below what their types hold
pub command_taken : (takes alone takes' : Bool) (text start : List ℕ) (c : ℕ) (after : List ℕ) (t : Tok) (rest : List ℕ) (tokens comparisons comparisons' : ℕ) → IsStart takes text start alone → start ≡ c ∷ after → c ≡ byte "\\" → ((alone : Bool) → BeginsWith alone (byte "\\" ∷ after) t rest) → takes' ≡ takes_digit (Some t) → t ≢ EOF → comparisons + 1 ≤ comparisons' → comparisons' ≤ comparisons + 9 → (tokens + length text < 2 ^ 64) × (comparisons + 9 * length text < 2 ^ 68) → ((tokens + 1 + length rest < 2 ^ 64) × (comparisons' + 9 * length rest < 2 ^ 68)) × Takes t (unread_in (slices_of takes text) tokens comparisons) (unread_in (slices_of takes' rest) (tokens + 1) comparisons')
command_taken takes alone takes' text start c after t rest tokens comparisons comparisons' starts e backslash begins f no_end least most fits =
    let whole : start ≡ byte "\\" ∷ after = e ∙ ap (λ x. x ∷ after) backslash in
    let one : backslash_count start ≡ 1 = ap backslash_count whole in
    let n = comparisons' - comparisons in
    let h = taken takes alone takes' text start t n rest starts (subst (λ s. BeginsWith alone s t rest) (sym whole) (begins alone)) f (omega arith) (omega arith) in
    let shorter : length rest < length text = h.4 in
    ((omega arith, omega arith), token_taken takes text t n takes' rest tokens (tokens + 1) comparisons comparisons' h no_end refl (omega arith))

-- a text whose length fits a machine's word
pub fits : (text : List ℕ) → IsUtf8 text → length text < 2 ^ 64 → (0 + length (chars text) < 2 ^ 64) × (0 + 9 * length (chars text) < 2 ^ 68)
fits text u h =
    let k : length (chars text) ≤ length text = rw (encodes-chars text u) at (length-le-encodes (chars text)) in
    (omega arith, omega arith)
