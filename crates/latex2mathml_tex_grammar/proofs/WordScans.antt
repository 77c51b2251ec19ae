-- What is taken of a length or a color in words is the same among units that are alike. White space counts there, and a brace
-- begins words.
use Rattle.std.proofs.Common.{◌≡◌, ◌==◌, ℕ, ℤ, Bool, Option, Some, None, true, false, nat_lt, List, [], ◌∷◌, refl, sym, ap, subst, ◌∙◌}
use Rattle.std.specs.{Bool.⊤, Char.is_ascii_digit, Str.byte}
use Rattle.latex2mathml_tex_grammar.specs.Scanning.{Spot, LengthEnd, AtBracket, AtBrace, AtUnit, BeforeStar, BehindStar, BeforeLengthInBraces, BeforeColor, InModel, BeforeArgument, InArgument, ColorName, InLength, BehindSign, InNumber, InDecimals, BehindLetter, BehindLength, Deed, Given, Missing, Passes, Adds, Ends, Leaves, Misses, Refuses, adds_if, begins_unit_of_length, deed, done, ends_if, is_unit_of_length, may_end, most_decimals, number_deed, past, scan, unit_deed}
use Rattle.latex2mathml_tex_grammar.specs.Spacing.{Standing, InWords, is_in_words, standing_behind, AreAlike, both_end, both_stop, same_piece, space_before, space_behind}
use Rattle.latex2mathml_tex_grammar.specs.Units.{Piece, Space, Open, Close, Command, Character, Unit, Units, Next}
use Rattle.latex2mathml_elements.specs.Colors.{Color}
use Rattle.latex2mathml_tex_grammar.specs.{Colors.color_of, Words.Words, Lengths.width_of, Makes.Core}
use Rattle.latex2mathml_tex_grammar.specs.Refusal.{Refusal}
use Rattle.latex2mathml_tex_grammar.specs.Rules.{Context, Rule, a_bar, a_color, reads_words, a_character, a_length, gives, takes_if, passes_over, refuses, rule, takes_found, with_value}
use Rattle.latex2mathml_tex_grammar.proofs.WordPieces.{IsLengthCommand, TakesLengths, skips, skips_in_braces, is_bar}
use Rattle.latex2mathml_tex_grammar.proofs.{Choices.of_either, Spaces.character_stays, Spaces.AllStay, Spaces.Stay, Spaces.no_dollar, Scans.FoundAlike, Scans.FoundToo, Scans.behind_alike, Scans.given_there, Scans.missing_there, Scans.both_given, Scans.both_missing, Scans.ended, Scans.longer, Scans.taken_no_dollar, Scans.takes}

-- whether a brace is open in a length that ends so
abbrev is_braced : LengthEnd → Bool
is_braced AtBrace = true
is_braced end = false

-- whether a brace is open at a spot
abbrev is_open : Spot → Bool
is_open (InLength end) = is_braced end
is_open (BehindSign end) = is_braced end
is_open (InNumber end) = is_braced end
is_open (InDecimals end n) = is_braced end
is_open (BehindLetter end first) = is_braced end
is_open (BehindLength end) = is_braced end
is_open (InArgument ColorName) = true
is_open spot = false

-- whether a spot is in a length or in a color, before its brace, or where a star may precede that
abbrev pub is_scanned : Spot → Bool
is_scanned BeforeStar = true
is_scanned BehindStar = true
is_scanned BeforeLengthInBraces = true
is_scanned (InLength end) = true
is_scanned (BehindSign end) = true
is_scanned (InNumber end) = true
is_scanned (InDecimals end n) = true
is_scanned (BehindLetter end first) = true
is_scanned (BehindLength end) = true
is_scanned BeforeColor = true
is_scanned InModel = true
is_scanned (BeforeArgument ColorName) = true
is_scanned (InArgument ColorName) = true
is_scanned spot = false

-- the next spot is also one of these, in as many braces
abbrev Stays : Spot → Spot → Type 0
Stays spot next = (is_scanned next ≡ true) × (is_open next ≡ is_open spot)

-- a scan goes on at such a spot after such a deed, or ends outside of braces
abbrev Keeps : Spot → Deed → Type 0
Keeps spot (Passes next) = Stays spot next
Keeps spot (Adds c next) = Stays spot next
Keeps spot Ends = is_open spot ≡ false
Keeps spot Leaves = is_open spot ≡ false
Keeps spot Misses = ⊤
Keeps spot (Refuses kind) = ⊤

adds_keeps : (spot next : Spot) (b : Bool) (c : ℕ) → Stays spot next → Keeps spot (adds_if b c next)
adds_keeps spot next true c h = h
adds_keeps spot next false c h = tt

ends_keeps : (spot : Spot) (b : Bool) → is_open spot ≡ false → Keeps spot (ends_if b)
ends_keeps spot true h = h
ends_keeps spot false h = tt

number_keeps : (spot : Spot) (end : LengthEnd) (c : ℕ) → is_braced end ≡ is_open spot → Keeps spot (number_deed end c)
number_keeps spot end c h = of_either (Keeps spot) (is_ascii_digit c) (refl, h) (adds_keeps spot (InDecimals end 0) (c == byte ".") c (refl, h))

unit_keeps : (spot : Spot) (end : LengthEnd) (c : ℕ) → is_braced end ≡ is_open spot → Keeps spot (unit_deed end c)
unit_keeps spot end c h = adds_keeps spot (BehindLetter end c) (begins_unit_of_length c) c (refl, h)

-- a character opens no brace
character_keeps : (spot : Spot) (c : ℕ) → is_scanned spot ≡ true → Keeps spot (deed spot (Character c))
character_keeps BeforeStar c h = of_either (Keeps BeforeStar) (c == byte "*") (refl, refl) refl
character_keeps BehindStar c h = refl
character_keeps BeforeLengthInBraces c h = tt
character_keeps (InLength end) c h =
    of_either (Keeps (InLength end)) (c == byte "-") (refl, refl) (of_either (Keeps (InLength end)) (c == byte "+") (refl, refl) (number_keeps (InLength end) end c refl))
character_keeps (BehindSign end) c h = number_keeps (BehindSign end) end c refl
character_keeps (InNumber end) c h =
    of_either (Keeps (InNumber end)) (is_ascii_digit c) (refl, refl) (of_either (Keeps (InNumber end)) (c == byte ".") (refl, refl) (unit_keeps (InNumber end) end c refl))
character_keeps (InDecimals end n) c h =
    of_either (Keeps (InDecimals end n)) (is_ascii_digit c) (of_either (Keeps (InDecimals end n)) (nat_lt n most_decimals) (refl, refl) (refl, refl)) (unit_keeps (InDecimals end n) end c refl)
character_keeps (BehindLetter end first) c h = adds_keeps (BehindLetter end first) (BehindLength end) (is_unit_of_length first c) c (refl, refl)
character_keeps (BehindLength AtBracket) c h = ends_keeps (BehindLength AtBracket) (c == byte "]") refl
character_keeps (BehindLength AtBrace) c h = tt
character_keeps (BehindLength AtUnit) c h = refl
character_keeps BeforeColor c h = adds_keeps BeforeColor InModel (c == byte "[") c (refl, refl)
character_keeps InModel c h = of_either (Keeps InModel) (c == byte "]") (refl, refl) (of_either (Keeps InModel) (c == byte "$") tt (refl, refl))
character_keeps (BeforeArgument ColorName) c h = tt
character_keeps (InArgument ColorName) c h = of_either (Keeps (InArgument ColorName)) (c == byte "$") tt (refl, refl)
character_keeps spot c h = cc

-- Where units in words are

-- around the words at a spot, where a brace may be open
abbrev around : Bool → Standing → Standing
around true at = InWords at
around false at = at

-- at a spot, in a brace if one is open there
abbrev inside : Bool → Standing → Standing
inside b at = InWords (around b at)

-- what a deed makes of the scan of units behind it
abbrev Goes : Standing → Spot → Piece → Deed → Type 0
Goes at spot piece (Passes next) = (is_scanned next ≡ true) × (standing_behind piece (inside (is_open spot) at) ≡ inside (is_open next) at)
Goes at spot piece (Adds c next) = (is_scanned next ≡ true) × (standing_behind piece (inside (is_open spot) at) ≡ inside (is_open next) at)
Goes at spot piece Ends = standing_behind piece (inside (is_open spot) at) ≡ InWords at
Goes at spot piece Leaves = is_open spot ≡ false
Goes at spot piece Misses = ⊤
Goes at spot piece (Refuses kind) = ⊤

-- a deed that keeps the scan at such spots keeps units where they are
kept : (at : Standing) (spot : Spot) (c : ℕ) (d : Deed) → (takes d ≡ true → (c == byte "$") ≡ false) → Keeps spot d → Goes at spot (Character c) d
kept at spot c (Passes next) plain h = (h.0, character_stays (around (is_open spot) at) c (plain refl) ∙ ap (λ b. inside b at) (sym h.1))
kept at spot c (Adds d next) plain h = (h.0, character_stays (around (is_open spot) at) c (plain refl) ∙ ap (λ b. inside b at) (sym h.1))
kept at spot c Ends plain h = character_stays (around (is_open spot) at) c (plain refl) ∙ ap (λ b. inside b at) h
kept at spot c Leaves plain h = h
kept at spot c Misses plain h = tt
kept at spot c (Refuses kind) plain h = tt

opening_goes : (at : Standing) (spot : Spot) → is_scanned spot ≡ true → Goes at spot Open (deed spot Open)
opening_goes at BeforeStar h = refl
opening_goes at BehindStar h = refl
opening_goes at BeforeLengthInBraces h = (refl, refl)
opening_goes at (InLength end) h = tt
opening_goes at (BehindSign end) h = tt
opening_goes at (InNumber end) h = tt
opening_goes at (InDecimals end n) h = tt
opening_goes at (BehindLetter end first) h = tt
opening_goes at (BehindLength AtBracket) h = tt
opening_goes at (BehindLength AtBrace) h = tt
opening_goes at (BehindLength AtUnit) h = refl
opening_goes at BeforeColor h = (refl, refl)
opening_goes at InModel h = tt
opening_goes at (BeforeArgument ColorName) h = (refl, refl)
opening_goes at (InArgument ColorName) h = tt
opening_goes at spot h = cc

closing_goes : (at : Standing) (spot : Spot) → is_scanned spot ≡ true → Goes at spot Close (deed spot Close)
closing_goes at BeforeStar h = refl
closing_goes at BehindStar h = refl
closing_goes at BeforeLengthInBraces h = tt
closing_goes at (InLength end) h = tt
closing_goes at (BehindSign end) h = tt
closing_goes at (InNumber end) h = tt
closing_goes at (InDecimals end n) h = tt
closing_goes at (BehindLetter end first) h = tt
closing_goes at (BehindLength AtBracket) h = tt
closing_goes at (BehindLength AtBrace) h = refl
closing_goes at (BehindLength AtUnit) h = refl
closing_goes at BeforeColor h = tt
closing_goes at InModel h = tt
closing_goes at (BeforeArgument ColorName) h = tt
closing_goes at (InArgument ColorName) h = refl
closing_goes at spot h = cc

command_goes : (at : Standing) (spot : Spot) (name : List ℕ) → is_scanned spot ≡ true → Goes at spot (Command name) (deed spot (Command name))
command_goes at BeforeStar name h = refl
command_goes at BehindStar name h = refl
command_goes at BeforeLengthInBraces name h = tt
command_goes at (InLength end) name h = tt
command_goes at (BehindSign end) name h = tt
command_goes at (InNumber end) name h = tt
command_goes at (InDecimals end n) name h = tt
command_goes at (BehindLetter end first) name h = tt
command_goes at (BehindLength AtBracket) name h = tt
command_goes at (BehindLength AtBrace) name h = tt
command_goes at (BehindLength AtUnit) name h = refl
command_goes at BeforeColor name h = tt
command_goes at InModel name h = tt
command_goes at (BeforeArgument ColorName) name h = tt
command_goes at (InArgument ColorName) name h = tt
command_goes at spot name h = cc

goes : (at : Standing) (spot : Spot) (piece : Piece) → is_scanned spot ≡ true → Goes at spot piece (deed spot piece)
goes at spot Space h = (h, refl)
goes at spot Open h = opening_goes at spot h
goes at spot Close h = closing_goes at spot h
goes at spot (Command name) h = command_goes at spot name h
goes at spot (Character c) h = kept at spot c (deed spot (Character c)) (taken_no_dollar spot c) (character_keeps spot c h)

-- What is found

moved : {before at : Standing} {l m : Units} → before ≡ at → AreAlike before l m → AreAlike at l m
moved {l = l} {m = m} e h = subst (λ k. AreAlike k l m) e h

done_alike : {at : Standing} {l m : Units} (p q : ℕ) (spot : Spot) (u v : Unit) → u.piece ≡ v.piece → AreAlike (standing_behind u.piece (inside (is_open spot) at)) l m → ((next : Spot) → is_scanned next ≡ true → standing_behind u.piece (inside (is_open spot) at) ≡ inside (is_open next) at → FoundAlike (InWords at) (scan p l next) (scan q m next)) → (d : Deed) → Goes at spot u.piece d → FoundAlike (InWords at) (done p spot d u l (scan p l)) (done q spot d v m (scan q m))
done_alike p q spot u v e h more (Passes next) goes = more next goes.0 goes.1
done_alike p q spot u v e h more (Adds c next) goes = longer c (more next goes.0 goes.1)
done_alike p q spot u v e h more Ends goes = both_given [] (moved goes h)
done_alike {at = at} p q spot u v e h more Leaves goes = both_given [] (moved (ap (λ b. inside b at) goes) (same_piece e h))
done_alike p q spot u v e h more Misses goes = both_missing refl
done_alike p q spot u v e h more (Refuses kind) goes = both_missing refl

in_words : (b : Bool) (at : Standing) → is_in_words (inside b at) ≡ true
in_words true at = refl
in_words false at = refl

from : {at here : Standing} {l m : Units} (p q : ℕ) (spot : Spot) → is_scanned spot ≡ true → here ≡ inside (is_open spot) at → AreAlike here l m → FoundAlike (InWords at) (scan p l spot) (scan q m spot)
from p q spot i s both_end = ended _ _ (may_end spot) both_end refl
from p q spot i s (both_stop e) = ended _ _ (may_end spot) (both_stop e) e
from {at} p q spot i s (space_before w e h) = absurd (cc (ap is_in_words s ∙ in_words (is_open spot) at, w))
from {at} p q spot i s (space_behind w e h) = absurd (cc (ap is_in_words s ∙ in_words (is_open spot) at, w))
from {at} {here} p q spot i s (same_piece {u = u} {v = v} {l = l} {m = m} e h) =
    let behind = moved (ap (standing_behind u.piece) s) h in
    let found = done_alike p q spot u v e behind (λ next n t. from p q next n (ap (standing_behind u.piece) s ∙ t) h) (deed spot u.piece) (goes at spot u.piece i) in
    subst (λ d. FoundAlike (InWords at) (scan p (Next u l) spot) (done q spot d v m (scan q m))) (ap (deed spot) e) found

-- a scan of a length or a color in words
pub scan_in_words : {at : Standing} {l m : Units} (p q : ℕ) (spot : Spot) → is_scanned spot ≡ true → is_open spot ≡ false → AreAlike (InWords at) l m → FoundAlike (InWords at) (scan p l spot) (scan q m spot)
scan_in_words {at} p q spot i none h = from p q spot i (ap (λ b. inside b at) (sym none)) h

-- what is found in one is found in the other
pub found_in_words : {at : Standing} {l m k : Units} {text : List ℕ} (p q : ℕ) (spot : Spot) → is_scanned spot ≡ true → is_open spot ≡ false → AreAlike (InWords at) l m → scan p l spot ≡ Given text k → FoundToo (InWords at) spot q text k m
found_in_words p q spot i none h e = given_there (scan_in_words p q spot i none h) e refl

pub missing_in_words : {at : Standing} {l m : Units} {r : Refusal} (p q : ℕ) (spot : Spot) → is_scanned spot ≡ true → is_open spot ≡ false → AreAlike (InWords at) l m → scan p l spot ≡ Missing r → (t : Refusal) × (r.kind ≡ t.kind) × (scan q m spot ≡ Missing t)
missing_in_words p q spot i none h e = missing_there (scan_in_words p q spot i none h) e

-- Rules in words

-- two rules that are the same but for places, and take nothing but lengths, colors, words, and characters before them
pub data RulesInWords : Rule → Rule → Type 0 where
  both_give : {x : Core} → RulesInWords (gives x) (gives x)
  both_refuse : {r q : Refusal} → r.kind ≡ q.kind → RulesInWords (refuses r) (refuses q)
  both_find : {spot : Spot} {p q : ℕ} {f g : List ℕ → Rule} → is_scanned spot ≡ true → is_open spot ≡ false → ((text : List ℕ) → RulesInWords (f text) (g text)) → RulesInWords (takes_found spot p f) (takes_found spot q g)
  both_take : {tests : List (Piece → Option (List ℕ))} {f g : List ℕ → Rule} {r s : Rule} → ((at : Standing) → AllStay (InWords at) tests) → ((texts : List ℕ) → RulesInWords (f texts) (g texts)) → RulesInWords r s → RulesInWords (takes_if tests f r) (takes_if tests g s)
  both_read : {p q : ℕ} {c : Context} {f g : Words → Rule} → ((ws : Words) → RulesInWords (f ws) (g ws)) → RulesInWords (reads_words p c f) (reads_words q c g)
  both_pass : {spot : Spot} {r s : Rule} → is_scanned spot ≡ true → is_open spot ≡ false → RulesInWords r s → RulesInWords (passes_over spot r) (passes_over spot s)

value_rules : {A : Type 0} (r t : Refusal) {f g : A → Rule} → r.kind ≡ t.kind → ((x : A) → RulesInWords (f x) (g x)) → (x : Option A) → RulesInWords (with_value r f x) (with_value t g x)
value_rules r t e same None = both_refuse e
value_rules r t e same (Some x) = same x

pub one_length : (p q : ℕ) (spot : Spot) {f g : ℤ → Rule} → is_scanned spot ≡ true → is_open spot ≡ false → ((width : ℤ) → RulesInWords (f width) (g width)) → RulesInWords (a_length p spot f) (a_length q spot g)
one_length p q spot i none same = both_find i none (λ text. value_rules _ _ refl same (width_of text))

pub one_color : (p q : ℕ) {f g : Color → Rule} → ((color : Color) → RulesInWords (f color) (g color)) → RulesInWords (a_color p f) (a_color q g)
one_color p q same = both_find refl refl (λ name. value_rules _ _ refl same (color_of name))

bracket_stays : (at : Standing) → Stay (InWords at) (a_character (byte "["))
bracket_stays at (Character c) found e = character_stays at c (no_dollar {x = None} (λ c. a_character (byte "[") (Character c)) refl (λ s. cc) c e)
bracket_stays at Space found e = cc
bracket_stays at Open found e = cc
bracket_stays at Close found e = cc
bracket_stays at (Command name) found e = cc

bar_rules : (p q : ℕ) (raise : Option ℤ) → RulesInWords (a_bar p raise) (a_bar q raise)
bar_rules p q raise = one_length p q BeforeLengthInBraces refl refl (λ width. one_length p q BeforeLengthInBraces refl refl (λ height. both_give))

named_rules : (p q : ℕ) (c : Context) (name : List ℕ) → TakesLengths name → RulesInWords (rule p c (Command name)) (rule q c (Command name))
named_rules p q c name (skips e) = rw e (one_length p q (InLength AtUnit) refl refl (λ width. both_give))
named_rules p q c name (skips_in_braces e) = rw e (both_pass refl refl (one_length p q BeforeLengthInBraces refl refl (λ width. both_give)))
named_rules p q c name (is_bar e) = rw e (both_take {tests = a_character (byte "[") ∷ []} (λ at. (bracket_stays at, tt)) (λ bracket. one_length p q (InLength AtBracket) refl refl (λ height. bar_rules p q (Some height))) (bar_rules p q None))

pub rules_in_words : (p q : ℕ) (c : Context) (piece : Piece) → IsLengthCommand piece → RulesInWords (rule p c piece) (rule q c piece)
rules_in_words p q c piece h = rw h.is (named_rules p q c h.name h.takes)

pub past_in_words : {at : Standing} {l m : Units} (spot : Spot) → is_scanned spot ≡ true → is_open spot ≡ false → AreAlike (InWords at) l m → AreAlike (InWords at) (past spot l) (past spot m)
past_in_words spot i none h = behind_alike (scan_in_words 0 0 spot i none h) h
