-- What each branch of the lexer has read is a slice that spells its token.
use Rattle.std.proofs.Common.{◌≡◌, ℕ, Bool, true, false, List, [], ◌∷◌, ◌++◌, Option, None, Some, codes, refl, sym, ap, subst, ◌∙◌, arith}
use Rattle.std.proofs.{lemmas.Bool.not-true, lemmas.Bool.or_parts, lemmas.Bool.Decides.nat_tests, lemmas.List.Elements.All-cons, lemmas.List.Elements.All-nil}
use Rattle.std.specs.{Char.is_ascii_digit, Char.is_ascii_alphabetic, Str.byte, Str.encode_utf8_all}
use Rattle.latex2mathml_grammar.specs.Characters.{Stops, head, is_space}
use Rattle.latex2mathml_tokens.specs.Commands.{command_token}
use Rattle.latex2mathml_grammar.specs.Beginnings.{BeginsWith, BeginsWithNumber, IsLongestRun}
use Rattle.latex2mathml_parser.specs.Lexing.{BeginsWithName, is_lone}
use Rattle.latex2mathml_grammar.specs.Spelling.{SpellsAt, is_digit_or_period, is_equals_sign, is_period, begins_longer, character_token, character, colon, colon_equals, number, digit, symbol_command, letter_command, lone_backslash}
use Rattle.latex2mathml_tokens.specs.Tok.{Tok, Number, Paren, Operator}
use Rattle.latex2mathml_grammar.proofs.Numbers.{digits_alone}
use Rattle.latex2mathml_tokens.proofs.Order.{no_empty_name}

neither : (c : Option ℕ) → Stops is_digit_or_period c → Stops is_ascii_digit c × Stops is_period c
neither None stops = (tt, tt)
neither (Some c) stops = or_parts (is_ascii_digit c) (is_period c) stops

pub number_spelled : (alone : Bool) (text rest bs : List ℕ) → alone ≡ false → BeginsWithNumber text rest → ((w : List ℕ) → text ≡ w ++ rest → bs ≡ encode_utf8_all w) → BeginsWith alone text (Number bs) rest
number_spelled alone text rest bs a (w, e, is) bytes = (w, e, number a is (ap Number (bytes w e)))

-- a digit with neither a digit nor a period after it
one_digit : (text : List ℕ) (c : ℕ) (after : List ℕ) → text ≡ c ∷ after → is_ascii_digit c ≡ true → Stops is_digit_or_period (head after) → BeginsWithNumber text after
one_digit text c after e d stops =
    let both : Stops is_ascii_digit (head after) × Stops is_period (head after) = neither (head after) stops in
    digits_alone text (c ∷ []) after (e, All-cons (λ x. is_ascii_digit x ≡ true) c [] d (All-nil (λ x. is_ascii_digit x ≡ true)), both.0) (rw e d) both.1

lone_stops : (after : List ℕ) → is_lone false after ≡ true → Stops is_digit_or_period (head after)
lone_stops [] e = tt
lone_stops (c ∷ cs) e = not-true (is_digit_or_period c) e

-- a digit that is a number by itself
pub lone_digit : (alone : Bool) (text : List ℕ) (c : ℕ) (after bs : List ℕ) → text ≡ c ∷ after → is_ascii_digit c ≡ true → is_lone alone after ≡ true → ((w : List ℕ) → text ≡ w ++ after → bs ≡ encode_utf8_all w) → BeginsWith alone text (Number bs) after
lone_digit true text c after bs e d lone bytes = (c ∷ [], e, digit c refl d refl (ap Number (bytes (c ∷ []) e)))
lone_digit false text c after bs e d lone bytes = number_spelled false text after bs refl (one_digit text c after e d (lone_stops after lone)) bytes

-- the name of a command: an ASCII letter and all that follow it
pub letters_named : (text : List ℕ) (c : ℕ) (after rest : List ℕ) → text ≡ c ∷ after → is_ascii_alphabetic c ≡ true → (front : List ℕ) × IsLongestRun is_ascii_alphabetic after front rest → BeginsWithName text rest
letters_named text c after rest e letter (front, run) =
    (c ∷ front, e ∙ ap (λ k. c ∷ k) run.0, λ alone. letter_command c front refl (All-cons (λ x. is_ascii_alphabetic x ≡ true) c front letter run.1) run.2 refl)

-- the name of a command: one other character
pub symbol_named : (text : List ℕ) (c : ℕ) (after : List ℕ) → text ≡ c ∷ after → is_ascii_alphabetic c ≡ false → BeginsWithName text after
symbol_named text c after e other = (c ∷ [], e, λ alone. symbol_command c other refl refl)

-- the name of a command: nothing, at the end of the text
pub nothing_named : (text : List ℕ) → text ≡ [] → BeginsWithName text text
nothing_named text e = ([], refl, λ alone. lone_backslash refl (ap head e) no_empty_name)

pub command_spelled : (alone : Bool) (text rest bs : List ℕ) (t : Tok) → BeginsWithName text rest → ((w : List ℕ) → text ≡ w ++ rest → bs ≡ encode_utf8_all w) → t ≡ command_token bs → BeginsWith alone (byte "\\" ∷ text) t rest
command_spelled alone text rest bs t (w, e, spells) bytes f =
    (byte "\\" ∷ w, ap (λ s. byte "\\" ∷ s) e, subst (SpellsAt alone (byte "\\" ∷ w) (head rest)) (sym (f ∙ ap command_token (bytes w e))) (spells alone))

pub colon_with_equals : (alone : Bool) (text : List ℕ) (c : ℕ) (after rest : List ℕ) → text ≡ c ∷ after → c ≡ byte ":" → after ≡ byte "=" ∷ rest → BeginsWith alone text (Paren (codes ":=")) rest
colon_with_equals alone text c after rest e f g = (codes ":=", cc, colon_equals refl refl)

pub lone_colon : (alone : Bool) (text : List ℕ) (c : ℕ) (after : List ℕ) → text ≡ c ∷ after → c ≡ byte ":" → Stops is_equals_sign (head after) → BeginsWith alone text (Operator (byte ":")) after
lone_colon alone text c after e f stops = (codes ":", cc, colon stops refl refl)

pub not_longer : (c : ℕ) → is_ascii_digit c ≡ false → (c ≡ byte "\\" → ⊥) → (c ≡ byte ":" → ⊥) → begins_longer c ≡ false
not_longer c d f g = rw d (grind (arith, nat_tests))

pub one_character : (alone : Bool) (text : List ℕ) (c : ℕ) (after : List ℕ) (t : Tok) → text ≡ c ∷ after → begins_longer c ≡ false → is_space c ≡ false → t ≡ character_token c → BeginsWith alone text t after
one_character alone text c after t e f g h = (c ∷ [], e, character c f g refl h)
