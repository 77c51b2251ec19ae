-- The units of a text, and what is taken from them, hold no character that XML forbids.
use Rattle.std.proofs.Common.{◌≡◌, ℕ, Bool, true, false, ◌&&◌, ◌==◌, IsTrue, List, [], ◌∷◌, ◌++◌, Option, Some, None, refl, sym, ap, subst, ◌∙◌, arith, codes}
use Rattle.std.proofs.lemmas.{Bool.Decides.nat_tests, List.Folds.list_all-append}
use Rattle.std.specs.{Char.is_ascii_alphabetic, Char.is_ascii_digit, List.AllByRecursion, List.list_all, Str.byte, Str.NonePass}
use Rattle.latex2mathml_elements.specs.Characters.{is_forbidden, IsAllowed}
use Rattle.latex2mathml_elements.proofs.{Characters.allowed_plain, Plain.IsPlain, Plain.is_plain}
use Rattle.latex2mathml_tex_grammar.specs.Next.{past_space, is_space_piece, next_are, first_is, first_passes, digits_here, digits_next}
use Rattle.latex2mathml_tex_grammar.specs.{Rules.a_character, Rules.a_digit, Rules.only_if}
use Rattle.latex2mathml_tex_grammar.specs.Units.{Piece, Space, Open, Close, Command, Character, Unit, Units, Next, End, Stop, is_space, symbol_name, Spells, white_space, opening, closing, comment, last_comment, symbol_command, letter_command, character, HasUnits, at_end, refused, begins_with, begins_with_nothing}
use Rattle.latex2mathml_tex_grammar.proofs.{Allowed.IsAllowedPiece, Allowed.AreAllowedUnits, Allowed.AreGiven, Choices.of_either}

-- The units of a text

letter_allowed : (c : ℕ) → is_ascii_alphabetic c ≡ true → is_forbidden c ≡ false
letter_allowed c h = grind (arith, nat_tests)

letters_allowed : (cs : List ℕ) → AllByRecursion (λ c. IsTrue (is_ascii_alphabetic c)) cs → NonePass is_forbidden cs
letters_allowed [] h = tt
letters_allowed (c ∷ cs) h = (letter_allowed c h.0, letters_allowed cs h.1)

symbol_name_allowed : (c : ℕ) → is_forbidden c ≡ false → IsAllowed (symbol_name c)
symbol_name_allowed c h = of_either IsAllowed (is_space c) (allowed_plain (codes " ") refl) (c ∷ [], refl, (h, tt))

-- the piece of a slice, where it has one
abbrev IsAllowedIfAny : Option Piece → Type 0
IsAllowedIfAny None = IsTrue true
IsAllowedIfAny (Some piece) = IsAllowedPiece piece

spelled_allowed : (w rest : List ℕ) (piece : Option Piece) → Spells w rest piece → IsAllowedIfAny piece
spelled_allowed w rest piece (white_space c cs e h run p) = rw p tt
spelled_allowed w rest piece (opening e p) = rw p tt
spelled_allowed w rest piece (closing e p) = rw p tt
spelled_allowed w rest piece (comment cs e run p) = rw p refl
spelled_allowed w rest piece (last_comment cs e run end p) = rw p refl
spelled_allowed w rest piece (symbol_command c h f e p) = rw p (symbol_name_allowed c f)
spelled_allowed w rest piece (letter_command c cs space e h run after p) =
    rw p (c ∷ cs, refl, (letter_allowed c h, letters_allowed cs run.passes))
spelled_allowed w rest piece (character c s f e p) = rw p f

pub units_allowed : {place : ℕ} {text : List ℕ} {units : Units} → HasUnits place text units → AreAllowedUnits units
units_allowed (at_end e u) = rw u tt
units_allowed (refused refusal r u) = rw u tt
units_allowed (begins_with w rest piece more e spells has u) = rw u (spelled_allowed w rest (Some piece) spells, units_allowed has)
units_allowed (begins_with_nothing w rest e spells has) = units_allowed has

-- What comes next

pub past_allowed : (l : Units) → AreAllowedUnits l → AreAllowedUnits (past_space l)
past_allowed (Next u us) h = of_either AreAllowedUnits (is_space_piece u.piece) (past_allowed us h.1) h
past_allowed (End place) h = h
past_allowed (Stop refusal) h = h

pub next_allowed : (l : Units) {m : Units} {u : Unit} → past_space l ≡ Next u m → AreAllowedUnits l → IsAllowedPiece u.piece × AreAllowedUnits m
next_allowed l {m} {u} e h = subst AreAllowedUnits e (past_allowed l h)

-- Units that pass tests

some_is : {A : Type 0} (x y : A) → Some x ≡ Some y → x ≡ y
some_is x y e = cc

none_is_none : {A : Type 0} (x : A) → None ≡ Some x → ⊥
none_is_none x e = cc

-- what is taken, and the units after it
abbrev AreTaken : List (Piece → Option (List ℕ)) → List ℕ → Units → Type 0
AreTaken tests text m = AreGiven tests text × AreAllowedUnits m

-- what it means that tests take only what is allowed
abbrev pub Takes : List (Piece → Option (List ℕ)) → Type 0
Takes tests = (l m : Units) (text : List ℕ) → next_are tests l ≡ Some (text, m) → AreAllowedUnits l → AreTaken tests text m

module _ (test : Piece → Option (List ℕ)) (tests : List (Piece → Option (List ℕ))) (takes : Takes tests) where
  passed : (piece : Piece) (us m : Units) (text : List ℕ) (first : Option (List ℕ)) (others : Option (List ℕ × Units)) → test piece ≡ first → next_are tests us ≡ others → first_passes first others ≡ Some (text, m) → AreAllowedUnits us → AreTaken (test ∷ tests) text m
  passed piece us m text None others e f g h = absurd (none_is_none _ g)
  passed piece us m text (Some first) None e f g h = absurd (none_is_none _ g)
  passed piece us m text (Some first) (Some found) e f g h =
      let rest = takes us found.1 found.0 f h in
      let same = some_is {A = List ℕ × Units} (first ++ found.0, found.1) (text, m) g in
      ((piece, (first, (found.0, (e, (sym (ap (λ t. t.0) same), rest.0))))), subst AreAllowedUnits (ap (λ t. t.1) same) rest.1)

  first_taken : (l m : Units) (text : List ℕ) → first_is test (next_are tests) l ≡ Some (text, m) → AreAllowedUnits l → AreTaken (test ∷ tests) text m
  first_taken (Next u us) m text e h = passed u.piece us m text (test u.piece) (next_are tests us) refl refl e h.1
  first_taken (End place) m text e h = cc
  first_taken (Stop refusal) m text e h = cc

pub next_taken : (tests : List (Piece → Option (List ℕ))) → Takes tests
next_taken [] l m text e h =
    let same = some_is {A = List ℕ × Units} ([], l) (text, m) e in
    (sym (ap (λ t. t.0) same), subst AreAllowedUnits (ap (λ t. t.1) same) h)
next_taken (test ∷ tests) l m text e h = first_taken test tests (next_taken tests) (past_space l) m text e (past_allowed l h)

-- Digits, and the point among them

pub plain_both : (a b : List ℕ) → IsPlain a → IsPlain b → IsPlain (a ++ b)
plain_both a b x y = list_all-append is_plain a b ∙ ap (λ q. q && list_all is_plain b) x ∙ y

only_if_so : (b : Bool) (text given : List ℕ) → only_if b text ≡ Some given → (b ≡ true) × (given ≡ text)
only_if_so true text given e = (refl, cc)
only_if_so false text given e = cc

pub digit_plain : (c : ℕ) → is_ascii_digit c ≡ true → IsPlain (c ∷ [])
digit_plain c h = grind (arith, nat_tests)

pub a_digit_plain : (piece : Piece) (given : List ℕ) → a_digit piece ≡ Some given → IsPlain given
a_digit_plain (Character c) given e =
    let so = only_if_so (is_ascii_digit c) (c ∷ []) given e in subst IsPlain (sym so.1) (digit_plain c so.0)
a_digit_plain Space given e = cc
a_digit_plain Open given e = cc
a_digit_plain Close given e = cc
a_digit_plain (Command name) given e = cc

pub point_plain : (c : ℕ) → (c == byte ".") ≡ true → IsPlain (c ∷ [])
point_plain c h = grind (arith, nat_tests)

pub a_point_plain : (piece : Piece) (given : List ℕ) → a_character (byte ".") piece ≡ Some given → IsPlain given
a_point_plain (Character c) given e =
    let so = only_if_so (c == byte ".") (c ∷ []) given e in subst IsPlain (sym so.1) (point_plain c so.0)
a_point_plain Space given e = cc
a_point_plain Open given e = cc
a_point_plain Close given e = cc
a_point_plain (Command name) given e = cc

-- the digits that come next

abbrev pub AreDigits : List ℕ × Units → Type 0
AreDigits found = IsPlain found.0 × AreAllowedUnits found.1

digits_onto : (is_space : Bool) (digit : Option (List ℕ)) → ((given : List ℕ) → digit ≡ Some given → IsPlain given) → (l : Units) (behind : List ℕ × Units) → AreAllowedUnits l → AreDigits behind → AreDigits (digits_here is_space digit l behind)
digits_onto true digit plain l behind h k = k
digits_onto false None plain l behind h k = (refl, h)
digits_onto false (Some digit) plain l behind h k = (plain_both digit behind.0 (plain digit refl) k.0, k.1)

pub digits_taken : (l : Units) → AreAllowedUnits l → AreDigits (digits_next l)
digits_taken (Next u us) h =
    digits_onto (is_space_piece u.piece) (a_digit u.piece) (a_digit_plain u.piece) (Next u us) (digits_next us) h (digits_taken us h.1)
digits_taken (End place) h = (refl, h)
digits_taken (Stop refusal) h = (refl, h)
