-- Which color a name is, and which digits are no color.
use Rattle.std.proofs.Common.{◌≡◌, ◌≢◌, ◌==◌, ◌+◌, ◌*◌, ℕ, Bool, true, false, inl, inr, List, [], ◌∷◌, Option, Some, None, get_or, length, map, refl, sym, ap, ◌∙◌, arith}
use Rattle.std.proofs.{lemmas.Bool.cases_Bool, lemmas.Slice.Eq.bytes_eq-Decides}
use Rattle.std.specs.{Bool.Decides, Char.to_ascii_lowercase}
use Rattle.std.specs.Str.{byte, str_eq_ignore_ascii_case}
use Rattle.std.specs.Bool.{⊤}
use Rattle.latex2mathml_elements.specs.Colors.{Color}
use Rattle.latex2mathml_tex_grammar.specs.Colors.{color, color_entries, color_of, color_of_digits, digit_value, digit_values, entry_color, named_color, with_components, with_digit}
use Rattle.latex2mathml_tex_commands.specs.{Colors.component, Colors.entry_of, declared.colors.Named.Named}
use Rattle.latex2mathml_tex_grammar.proofs.OneList.{is_byte}

-- Names

pub same_letters : (r : Bool) (a b : List ℕ) → Decides r (map to_ascii_lowercase a ≡ map to_ascii_lowercase b) → r ≡ str_eq_ignore_ascii_case a b
same_letters true a b d = sym ((bytes_eq-Decides _ _).1 (d.0 refl))
same_letters false a b d = elim (cases_Bool (str_eq_ignore_ascii_case a b)) [
  | inl s ↦ (let no : false ≡ true = d.1 ((bytes_eq-Decides _ _).0 s) in absurd (cc))
  | inr s ↦ sym s
]

pub named_is : (table : List (List ℕ × ℕ × ℕ × ℕ)) (name : List ℕ) → table ≡ color_entries → entry_color table name ≡ named_color name
unfolding named_color
named_is table name e = ap (λ t. entry_color t name) e

pub entry_named : (e : Named) (es xs : List Named) (name : List ℕ) → xs ≡ e ∷ es → str_eq_ignore_ascii_case name e.name.now ≡ true → entry_color (map entry_of xs) name ≡ Some (color e.red e.green e.blue)
entry_named e es xs name p q = rw (p, q) refl

pub entry_other : (e : Named) (es xs : List Named) (name : List ℕ) → xs ≡ e ∷ es → str_eq_ignore_ascii_case name e.name.now ≡ false → entry_color (map entry_of xs) name ≡ entry_color (map entry_of es) name
entry_other e es xs name p q = rw (p, q) refl

-- whether a text does not begin with this character
abbrev pub LacksFirst : ℕ → List ℕ → Type 0
LacksFirst c name = (rest : List ℕ) → name ≢ c ∷ rest

other_first : (c d : ℕ) (name : List ℕ) → LacksFirst d (c ∷ name) → c == d ≡ false
other_first c d name h = elim (cases_Bool (c == d)) [
  | inl s ↦ absurd (h name (ap (λ e. e ∷ name) (is_byte c d s)))
  | inr s ↦ s
]

-- a name that begins neither with a number sign nor with a bracket
pub only_a_name : (name : List ℕ) → LacksFirst (byte "#") name → LacksFirst (byte "[") name → color_of name ≡ named_color name
only_a_name [] h k = refl
only_a_name (c ∷ name) h k = rw (other_first c (byte "#") name h, other_first c (byte "[") name k) refl

-- Digits

-- there are as many values as digits
abbrev AreAsMany : List ℕ → Option (List ℕ) → Type 0
AreAsMany cs None = ⊤
AreAsMany cs (Some ds) = length ds ≡ length cs

one_more : (c : ℕ) (cs : List ℕ) (d : Option ℕ) (ds : Option (List ℕ)) → AreAsMany cs ds → AreAsMany (c ∷ cs) (with_digit d ds)
one_more c cs (Some d) (Some ds) h = omega (arith, h)
one_more c cs (Some d) None h = tt
one_more c cs None ds h = tt

as_many : (cs : List ℕ) → AreAsMany cs (digit_values cs)
as_many [] = refl
as_many (c ∷ cs) = one_more c cs (digit_value c) (digit_values cs) (as_many cs)

other_count : (ds : List ℕ) → (length ds ≡ 3 → ⊥) → (length ds ≡ 6 → ⊥) → color_of_digits (Some ds) ≡ None
other_count [] three six = refl
other_count (a ∷ []) three six = refl
other_count (a ∷ b ∷ []) three six = refl
other_count (a ∷ b ∷ c ∷ []) three six = absurd (three refl)
other_count (a ∷ b ∷ c ∷ d ∷ []) three six = refl
other_count (a ∷ b ∷ c ∷ d ∷ e ∷ []) three six = refl
other_count (a ∷ b ∷ c ∷ d ∷ e ∷ f ∷ []) three six = absurd (six refl)
other_count (a ∷ b ∷ c ∷ d ∷ e ∷ f ∷ g ∷ ds) three six = refl

of_values : (cs : List ℕ) (found : Option (List ℕ)) → AreAsMany cs found → (length cs ≡ 3 → ⊥) → (length cs ≡ 6 → ⊥) → color_of_digits found ≡ None
of_values cs None h three six = refl
of_values cs (Some ds) h three six = other_count ds (λ e. three (sym h ∙ e)) (λ e. six (sym h ∙ e))

-- digits are no color unless there are three or six of them
pub no_color : (cs : List ℕ) → (length cs ≡ 3 → ⊥) → (length cs ≡ 6 → ⊥) → color_of_digits (digit_values cs) ≡ None
no_color cs three six = of_values cs (digit_values cs) (as_many cs) three six

twice : (d : ℕ) → d * 16 + d ≡ d * 17
twice d = omega arith

three_digits : (a b c : Option ℕ) → with_components (component a a) (component b b) (component c c) ≡ color_of_digits (with_digit a (with_digit b (with_digit c (Some []))))
three_digits None b c = refl
three_digits (Some a) None c = refl
three_digits (Some a) (Some b) None = refl
three_digits (Some a) (Some b) (Some c) = rw (twice a, twice b, twice c) refl

six_digits : (a b c d e f : Option ℕ) → with_components (component a b) (component c d) (component e f) ≡ color_of_digits (with_digit a (with_digit b (with_digit c (with_digit d (with_digit e (with_digit f (Some [])))))))
six_digits None b c d e f = refl
six_digits (Some a) None c d e f = refl
six_digits (Some a) (Some b) None d e f = refl
six_digits (Some a) (Some b) (Some c) None e f = refl
six_digits (Some a) (Some b) (Some c) (Some d) None f = refl
six_digits (Some a) (Some b) (Some c) (Some d) (Some e) None = refl
six_digits (Some a) (Some b) (Some c) (Some d) (Some e) (Some f) = refl

-- the component that the digits at these two places give
abbrev component_at : List ℕ → ℕ → ℕ → Option ℕ
component_at cs i j = component (digit_value (get_or cs i 0)) (digit_value (get_or cs j 0))

pub by_three : (cs : List ℕ) (r g b : Option ℕ) (found : Option Color) → length cs ≡ 3 → r ≡ component_at cs 0 0 → g ≡ component_at cs 1 1 → b ≡ component_at cs 2 2 → found ≡ with_components r g b → found ≡ color_of_digits (digit_values cs)
by_three (x ∷ y ∷ z ∷ []) r g b found n e f h is = rw (is, e, f, h) (three_digits (digit_value x) (digit_value y) (digit_value z))
by_three [] r g b found n e f h is = absurd (omega (arith, n))
by_three (x ∷ []) r g b found n e f h is = absurd (omega (arith, n))
by_three (x ∷ y ∷ []) r g b found n e f h is = absurd (omega (arith, n))
by_three (x ∷ y ∷ z ∷ w ∷ cs) r g b found n e f h is = absurd (omega (arith, n))

pub by_six : (cs : List ℕ) (r g b : Option ℕ) (found : Option Color) → length cs ≡ 6 → r ≡ component_at cs 0 1 → g ≡ component_at cs 2 3 → b ≡ component_at cs 4 5 → found ≡ with_components r g b → found ≡ color_of_digits (digit_values cs)
by_six (u ∷ v ∷ w ∷ x ∷ y ∷ z ∷ []) r g b found n e f h is = rw (is, e, f, h) (six_digits (digit_value u) (digit_value v) (digit_value w) (digit_value x) (digit_value y) (digit_value z))
by_six [] r g b found n e f h is = absurd (omega (arith, n))
by_six (u ∷ []) r g b found n e f h is = absurd (omega (arith, n))
by_six (u ∷ v ∷ []) r g b found n e f h is = absurd (omega (arith, n))
by_six (u ∷ v ∷ w ∷ []) r g b found n e f h is = absurd (omega (arith, n))
by_six (u ∷ v ∷ w ∷ x ∷ []) r g b found n e f h is = absurd (omega (arith, n))
by_six (u ∷ v ∷ w ∷ x ∷ y ∷ []) r g b found n e f h is = absurd (omega (arith, n))
by_six (u ∷ v ∷ w ∷ x ∷ y ∷ z ∷ t ∷ cs) r g b found n e f h is = absurd (omega (arith, n))
