-- A name whose first two bytes and length no usual macro and no word that begins definitions has is the name of neither.
use Rattle.std.proofs.Common.{◌≡◌, ◌==◌, ◌∙◌, inl, inr, ℕ, ◌&&◌, ◌||◌, Bool, not, true, false, List, [], ◌∷◌, None, ◌<◌, ◌≤◌, arith, codes, get_or, length, refl, sym, ap}
use Rattle.std.proofs.lemmas.Bool.{and_parts, cases_Bool}
use Rattle.std.proofs.lemmas.Slice.Eq.{bytes_eq-Decides}
use Rattle.std.specs.Str.{byte, bytes_eq}
use Rattle.latex2mathml_tex_grammar.specs.UsualMacros.{is_break, entry_macro, other_named, other_or, usual_entries, usual_macros}
use Rattle.latex2mathml_tex_grammar.specs.Definitions.{word_named}
use Rattle.latex2mathml_tex_units.specs.TurningForms.{is_frequent, is_turning_form}
use Rattle.latex2mathml_tex_units.proofs.Tables.{usual_is}

-- whether the name is of one byte and one of such macros, or has such a form
abbrev pub may_turn : List ℕ → Bool
may_turn [] = false
may_turn (one ∷ []) = one == byte "(" || one == byte ")" || one == byte "*" || one == byte "-" || one == byte "/"
may_turn (first ∷ second ∷ rest) = is_turning_form first second (length (first ∷ second ∷ rest)) && not (is_frequent (first ∷ second ∷ rest))

all_may_be : List (List ℕ × ℕ × List ℕ) → Bool
all_may_be [] = true
all_may_be (e ∷ es) = may_turn e.0 && all_may_be es

all_usual : all_may_be usual_entries ≡ true
unfolding usual_entries all_may_be
all_usual = refl

none_named : (es : List (List ℕ × ℕ × List ℕ)) (name : List ℕ) → all_may_be es ≡ true → may_turn name ≡ false → entry_macro es name ≡ None
unfolding all_may_be
none_named [] name all none = refl
none_named (e ∷ es) name all none = elim (cases_Bool (bytes_eq e.0 name)) [
  | inl h ↦ (
      let parts = and_parts (may_turn e.0) (all_may_be es) all in
      let same : e.0 ≡ name = (bytes_eq-Decides e.0 name).0 h in
      let may : may_turn name ≡ true = ap may_turn (sym same) ∙ parts.0 in
      absurd (cc (may, none)))
  | inr h ↦ (let parts = and_parts (may_turn e.0) (all_may_be es) all in rw h (none_named es name parts.1 none))
]

apart : (name word : List ℕ) → may_turn name ≡ false → may_turn word ≡ true → bytes_eq name word ≡ false
apart name word none may = elim (cases_Bool (bytes_eq name word)) [
  | inl h ↦ (let same : may_turn name ≡ true = ap may_turn ((bytes_eq-Decides name word).0 h) ∙ may in absurd (cc (same, none)))
  | inr h ↦ h
]

no_break : (name : List ℕ) → may_turn name ≡ false → is_break name ≡ false
no_break name none =
    rw (apart name (codes "allowdisplaybreaks") none refl, apart name (codes "displaybreak") none refl, apart name (codes "linebreak") none refl, apart name (codes "nolinebreak") none refl, apart name (codes "nopagebreak") none refl, apart name (codes "pagebreak") none refl) refl

no_other : (name : List ℕ) → may_turn name ≡ false → other_named name ≡ None
no_other name none =
    rw (no_break name none, apart name (codes "Braket") none refl, apart name (codes "Set") none refl, apart name (codes "bbox") none refl, apart name (codes "buildrel") none refl, apart name (codes "lower") none refl, apart name (codes "raise") none refl, apart name (codes "root") none refl, apart name (codes "set") none refl, apart name (codes "tag") none refl, apart name (codes "vspace") none refl) refl

pub no_usual : (name : List ℕ) → may_turn name ≡ false → usual_macros name ≡ None
no_usual name none = sym (usual_is name) ∙ ap (λ other. other_or other (entry_macro usual_entries name)) (no_other name none) ∙ none_named usual_entries name all_usual none

pub no_word : (name : List ℕ) → may_turn name ≡ false → word_named name ≡ None
no_word name none =
    rw (apart name (codes "newcommand") none refl, apart name (codes "renewcommand") none refl, apart name (codes "DeclareRobustCommand") none refl, apart name (codes "providecommand") none refl, apart name (codes "def") none refl, apart name (codes "gdef") none refl, apart name (codes "DeclareMathOperator") none refl, apart name (codes "DeclarePairedDelimiter") none refl, apart name (codes "let") none refl) refl

-- Names by their length

pub turns_none : (name bytes : List ℕ) → bytes ≡ name → length bytes < 1 → may_turn name ≡ false
turns_none [] bytes e h = refl
turns_none (x ∷ name) bytes e h = absurd (omega (arith, h, ap length e))

pub turns_one : (name bytes : List ℕ) → bytes ≡ name → 1 ≤ length bytes → length bytes < 2 → may_turn name ≡ (get_or bytes 0 0 == byte "(" || get_or bytes 0 0 == byte ")" || get_or bytes 0 0 == byte "*" || get_or bytes 0 0 == byte "-" || get_or bytes 0 0 == byte "/")
turns_one [] bytes e h k = absurd (omega (arith, h, ap length e))
turns_one (x ∷ []) bytes e h k = ap (λ b. get_or b 0 0 == byte "(" || get_or b 0 0 == byte ")" || get_or b 0 0 == byte "*" || get_or b 0 0 == byte "-" || get_or b 0 0 == byte "/") (sym e)
turns_one (x ∷ y ∷ rest) bytes e h k = absurd (omega (arith, k, ap length e))

pub turns_more : (name bytes : List ℕ) → bytes ≡ name → 2 ≤ length bytes → may_turn name ≡ (is_turning_form (get_or bytes 0 0) (get_or bytes 1 0) (length name) && not (is_frequent name))
turns_more [] bytes e h = absurd (omega (arith, h, ap length e))
turns_more (x ∷ []) bytes e h = absurd (omega (arith, h, ap length e))
turns_more (x ∷ y ∷ rest) bytes e h = ap (λ b. is_turning_form (get_or b 0 0) (get_or b 1 0) (length (x ∷ y ∷ rest)) && not (is_frequent (x ∷ y ∷ rest))) (sym e)

-- one of two tests is false

pub no_first : (a b : Bool) → a ≡ false → (a && b) ≡ false
no_first a b none = rw none refl

pub no_second : (a b : Bool) → b ≡ false → (a && b) ≡ false
no_second true b none = none
no_second false b none = refl
