-- A text has exactly one list of units.
use Rattle.std.proofs.Common.{◌≡◌, ℕ, zero, suc, ◌+◌, ◌<◌, ◌≤◌, ◌==◌, true, false, List, [], ◌∷◌, ◌++◌, length, codes, refl, sym, ap, subst, ◌∙◌, Option, Some, None, inl, inr, append_assoc, length-append, arith}
use Rattle.std.proofs.{lemmas.Bool.cases_Bool, lemmas.Bool.Decides.nat_tests}
use Rattle.std.specs.{Char.is_ascii_alphabetic, Str.byte, Str.encode_utf8_all}
use Rattle.latex2mathml_tex_grammar.specs.Cutting.{Slice, Unreadable, front, adds, units_within, units_of}
use Rattle.latex2mathml_tex_grammar.specs.{Laws.HasOneListOfUnits, Refusal.Kind, Refusal.LoneBackslash, Refusal.ForbiddenCharacter, Refusal.Refusal, Refusal.refusal_at}
use Rattle.latex2mathml_tex_grammar.specs.Units.{Piece, Space, Open, Close, Command, Character, Units, Next, End, Stop, unit, behind, is_space, is_in_line, is_forbidden, is_special, symbol_name, IsRun, Spells, white_space, opening, closing, comment, last_comment, symbol_command, letter_command, character, IsRefusedAt, lone_backslash, forbidden, forbidden_name, HasUnits, at_end, refused, begins_with, begins_with_nothing}
use Rattle.latex2mathml_tex_grammar.proofs.Runs.{Split, split, run_is}

-- What spells a piece at the front of a text is the front that is computed.

not_special : (c : ℕ) → is_special c ≡ false → (is_space c ≡ false) × ((c == byte "{") ≡ false) × ((c == byte "}") ≡ false) × ((c == byte "%") ≡ false) × ((c == byte "\\") ≡ false)
not_special c h = (grind (arith, nat_tests), grind (arith, nat_tests), grind (arith, nat_tests), grind (arith, nat_tests), grind (arith, nat_tests))

-- what XML forbids begins no other unit
forbidden_apart : (c : ℕ) → is_forbidden c ≡ true → is_special c ≡ false
forbidden_apart c h = grind (arith, nat_tests)

forbidden_no_letter : (c : ℕ) → is_forbidden c ≡ true → is_ascii_alphabetic c ≡ false
forbidden_no_letter c h = grind (arith, nat_tests)

pub front_of : (w rest : List ℕ) (piece : Option Piece) → Spells w rest piece → front (w ++ rest) ≡ Slice w rest piece
front_of w rest piece (white_space c cs e h run p) =
    let same = run_is is_space cs rest run in rw (e, p, h, same.0, same.1) refl
front_of w rest piece (opening e p) = rw (e, p) refl
front_of w rest piece (closing e p) = rw (e, p) refl
front_of w rest piece (comment cs e run p) =
    let same = run_is is_in_line cs (byte "\n" ∷ rest) run in
    let whole : w ++ rest ≡ byte "%" ∷ (cs ++ byte "\n" ∷ rest) = ap (λ k. k ++ rest) e ∙ ap (λ k. byte "%" ∷ k) (append_assoc cs (codes "\n") rest) in
    rw (whole, same.0, same.1, e, p) refl
front_of w rest piece (last_comment cs e run end p) =
    let same = run_is is_in_line cs rest run in rw (e, p, same.0, same.1, end) refl
front_of w rest piece (symbol_command c h f e p) = rw (e, p, h, f) refl
front_of w rest piece (letter_command c cs space e h run after p) =
    let same = run_is is_ascii_alphabetic cs (space ++ rest) run in
    let spaces = run_is is_space space rest after in
    let whole : w ++ rest ≡ byte "\\" ∷ c ∷ (cs ++ (space ++ rest)) = ap (λ k. k ++ rest) e ∙ ap (λ k. byte "\\" ∷ c ∷ k) (append_assoc cs space rest) in
    rw (whole, h, same.0, same.1, spaces.0, spaces.1, e, p) refl
front_of w rest piece (character c s f e p) = (let other = not_special c s in rw (e, p, f, other.0, other.1, other.2, other.3, other.4) refl)

-- what is refused at the front of a text is the refusal that is computed
abbrev Refuses : ℕ → List ℕ → Refusal → Type 0
Refuses place text refusal = (kind : Kind) × (bytes : ℕ) × (front text ≡ Unreadable kind bytes) × (refusal ≡ refusal_at kind (place + bytes))

refuses : (place : ℕ) (text : List ℕ) (refusal : Refusal) → IsRefusedAt place text refusal → Refuses place text refusal
refuses place text refusal (lone_backslash e r) =
    (LoneBackslash, 0, rw e refl, r ∙ ap (refusal_at LoneBackslash) (omega arith))
refuses place text refusal (forbidden c rest h e r) =
    let other = not_special c (forbidden_apart c h) in
    (ForbiddenCharacter c, 0, rw (e, h, other.0, other.1, other.2, other.3, other.4) refl, r ∙ ap (refusal_at (ForbiddenCharacter c)) (omega arith))
refuses place text refusal (forbidden_name c rest h e r) =
    (ForbiddenCharacter c, 1, rw (e, forbidden_no_letter c h, h) refl, r)

-- no slice is empty

spelled_length : (w rest : List ℕ) (piece : Option Piece) → Spells w rest piece → 1 ≤ length w
spelled_length w rest piece (white_space c cs e h run p) = omega (arith, ap length e)
spelled_length w rest piece (opening e p) = omega (arith, ap length e)
spelled_length w rest piece (closing e p) = omega (arith, ap length e)
spelled_length w rest piece (comment cs e run p) = omega (arith, ap length e)
spelled_length w rest piece (last_comment cs e run end p) = omega (arith, ap length e)
spelled_length w rest piece (symbol_command c h f e p) = omega (arith, ap length e)
spelled_length w rest piece (letter_command c cs space e h run after p) = omega (arith, ap length e)
spelled_length w rest piece (character c s f e p) = omega (arith, ap length e)

shorter : (text w rest : List ℕ) (piece : Option Piece) → text ≡ w ++ rest → Spells w rest piece → length rest < length text
shorter text w rest piece whole spells = omega (arith, spelled_length w rest piece spells, ap length whole, length-append w rest)

-- the units that a text has are those that are computed

computed : (n place : ℕ) (text : List ℕ) (units : Units) → length text < n → HasUnits place text units → units_within n place text ≡ units
unfolding units_within
computed zero place text units h has = absurd (omega arith)
computed (suc n) place text units h (at_end e u) = rw (e, u) refl
computed (suc n) place text units h (refused refusal r u) =
    let is = refuses place text refusal r in rw (u, is.2) (ap Stop (sym is.3))
computed (suc n) place text units h (begins_with w rest piece more e spells has u) =
    let later = computed n (behind place w) rest more (omega (arith, shorter text w rest (Some piece) e spells)) has in
    rw (u, e, front_of w rest (Some piece) spells) (ap (Next (unit piece place)) later)
computed (suc n) place text units h (begins_with_nothing w rest e spells has) =
    let later = computed n (behind place w) rest units (omega (arith, shorter text w rest None e spells)) has in
    rw (e, front_of w rest None spells) later

-- each text has units

-- the text begins with a slice, or is refused
data Begins (place : ℕ) (text : List ℕ) : Type 0 where
  slice : (w rest : List ℕ) (piece : Option Piece) → text ≡ w ++ rest → Spells w rest piece → Begins place text
  no_slice : (refusal : Refusal) → IsRefusedAt place text refusal → Begins place text

-- characters that compare as equal are the same
pub is_byte : (c b : ℕ) → (c == b) ≡ true → c ≡ b
is_byte c b h = grind (arith, nat_tests)

not_in_line : (c : ℕ) → is_in_line c ≡ false → c ≡ byte "\n"
not_in_line c h = grind (arith, nat_tests)

comment_begins : (place : ℕ) (cs : List ℕ) → Split is_in_line cs → Begins place (byte "%" ∷ cs)
comment_begins place cs (w, [], whole, run) = slice (byte "%" ∷ w) [] None (ap (λ k. byte "%" ∷ k) whole) (last_comment w refl run refl refl)
comment_begins place cs (w, c ∷ rest, whole, run) =
    let end : c ≡ byte "\n" = not_in_line c run.ends in
    let run' : IsRun is_in_line w (byte "\n" ∷ rest) = subst (λ d. IsRun is_in_line w (d ∷ rest)) end run in
    let whole' : cs ≡ (w ++ codes "\n") ++ rest = whole ∙ ap (λ d. w ++ d ∷ rest) end ∙ sym (append_assoc w (codes "\n") rest) in
    slice (byte "%" ∷ (w ++ codes "\n")) rest None (ap (λ k. byte "%" ∷ k) whole') (comment w refl run' refl)

letters_begin : (place c : ℕ) (cs : List ℕ) → is_ascii_alphabetic c ≡ true → Begins place (byte "\\" ∷ c ∷ cs)
letters_begin place c cs h =
    let (w, behind, whole, run) = split is_ascii_alphabetic cs in
    let (space, rest, whole', run') = split is_space behind in
    slice (byte "\\" ∷ c ∷ (w ++ space)) rest (Some (Command (encode_utf8_all (c ∷ w)))) (ap (λ k. byte "\\" ∷ c ∷ k) (whole ∙ ap (λ k. w ++ k) whole' ∙ sym (append_assoc w space rest))) (letter_command c w space refl h (subst (IsRun is_ascii_alphabetic w) whole' run) run' refl)

command_begins : (place : ℕ) (cs : List ℕ) → Begins place (byte "\\" ∷ cs)
command_begins place [] = no_slice _ (lone_backslash refl refl)
command_begins place (c ∷ cs) = elim (cases_Bool (is_ascii_alphabetic c)) [
  | inl h ↦ letters_begin place c cs h
  | inr h ↦ elim (cases_Bool (is_forbidden c)) [
    | inl f ↦ no_slice _ (forbidden_name c cs f refl refl)
    | inr f ↦ slice (byte "\\" ∷ c ∷ []) cs (Some (Command (symbol_name c))) refl (symbol_command c h f refl refl)
  ]
]

-- a text of one character that is not special, and what follows it
character_begins : (place c : ℕ) (cs : List ℕ) → is_special c ≡ false → Begins place (c ∷ cs)
character_begins place c cs s = elim (cases_Bool (is_forbidden c)) [
  | inl f ↦ no_slice _ (forbidden c cs f refl refl)
  | inr f ↦ slice (c ∷ []) cs (Some (Character c)) refl (character c s f refl refl)
]

-- only these characters are special
special_is : (c : ℕ) → is_space c ≡ false → (c == byte "{") ≡ false → (c == byte "}") ≡ false → (c == byte "%") ≡ false → (c == byte "\\") ≡ false → is_special c ≡ false
special_is c s o d k b = grind (arith, nat_tests)

begun : (place c : ℕ) (cs : List ℕ) → Begins place (c ∷ cs)
begun place c cs = elim (cases_Bool (is_space c)) [
  | inl s ↦ (let (w, rest, whole, run) = split is_space cs in
      slice (c ∷ w) rest (Some Space) (ap (λ k. c ∷ k) whole) (white_space c w refl s run refl))
  | inr s ↦ elim (cases_Bool (c == byte "{")) [
    | inl o ↦ slice (c ∷ []) cs (Some Open) refl (opening (ap (λ d. d ∷ []) (is_byte c (byte "{") o)) refl)
    | inr o ↦ elim (cases_Bool (c == byte "}")) [
      | inl d ↦ slice (c ∷ []) cs (Some Close) refl (closing (ap (λ x. x ∷ []) (is_byte c (byte "}") d)) refl)
      | inr d ↦ elim (cases_Bool (c == byte "%")) [
        | inl k ↦ subst (λ x. Begins place (x ∷ cs)) (sym (is_byte c (byte "%") k)) (comment_begins place cs (split is_in_line cs))
        | inr k ↦ elim (cases_Bool (c == byte "\\")) [
          | inl b ↦ subst (λ x. Begins place (x ∷ cs)) (sym (is_byte c (byte "\\") b)) (command_begins place cs)
          | inr b ↦ character_begins place c cs (special_is c s o d k b)
        ]
      ]
    ]
  ]
]

-- a text that begins with a slice has units, where what follows the slice has
with_slice : (place : ℕ) (text w rest : List ℕ) (piece : Option Piece) → text ≡ w ++ rest → Spells w rest piece → (units : Units) × HasUnits (behind place w) rest units → (units : Units) × HasUnits place text units
with_slice place text w rest None e spells (more, has) = (more, begins_with_nothing w rest e spells has)
with_slice place text w rest (Some piece) e spells (more, has) = (Next (unit piece place) more, begins_with w rest piece more e spells has refl)

some_units : (n place : ℕ) (text : List ℕ) → length text < n → (units : Units) × HasUnits place text units
some_units zero place text h = absurd (omega arith)
some_units (suc n) place [] h = (End place, at_end refl refl)
some_units (suc n) place (c ∷ cs) h = elim (begun place c cs) [
  | slice w rest piece e spells ↦ with_slice place (c ∷ cs) w rest piece e spells (some_units n (behind place w) rest (omega (arith, shorter (c ∷ cs) w rest piece e spells)))
  | no_slice refusal r ↦ (Stop refusal, refused refusal r refl)
]

-- the units that a text has are those that are computed
pub units_are : (place : ℕ) (text : List ℕ) (units : Units) → HasUnits place text units → units_of place text ≡ units
unfolding units_of
units_are place text units has = computed (suc (length text)) place text units (omega arith) has

pub has_units : (place : ℕ) (text : List ℕ) → HasUnits place text (units_of place text)
has_units place text =
    let some : (units : Units) × HasUnits place text units = some_units (suc (length text)) place text (omega arith) in
    subst (HasUnits place text) (sym (units_are place text some.0 some.1)) some.1

-- what a slice at the front of a text adds to the units of what follows
pub units_behind : (place : ℕ) (w rest : List ℕ) (piece : Option Piece) → Spells w rest piece → units_of place (w ++ rest) ≡ adds piece place (units_of (behind place w) rest)
units_behind place w rest None spells = units_are place (w ++ rest) _ (begins_with_nothing w rest refl spells (has_units _ rest))
units_behind place w rest (Some piece) spells = units_are place (w ++ rest) _ (begins_with w rest piece _ refl spells (has_units _ rest) refl)

-- the law
pub has_one_list : (text : List ℕ) → HasOneListOfUnits text
has_one_list text = record {
  some = (units_of 0 text, has_units 0 text);
  one = λ units others h k. sym (units_are 0 text units h) ∙ units_are 0 text others k;
}
