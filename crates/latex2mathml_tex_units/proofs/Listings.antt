-- Environments that are looked up, and columns that are listed.
use Rattle.std.proofs.Common.{◌≡◌, ◌==◌, ℕ, ◌≤◌, Bool, true, false, ◌||◌, List, [], ◌∷◌, ◌++◌, append_assoc, append-nil, Some, drop, get_or, length, map, nat_le, nat_lt, refl, sym, ap, arith, ◌∙◌, if◌then◌else◌}
use Rattle.std.proofs.lemmas.{Bool.Decides.nat_tests, List.length-append}
use Rattle.std.specs.Str.{bytes_eq}
use Rattle.latex2mathml_elements.specs.Columns.{Column, Columns, Listed}
use Rattle.latex2mathml_attributes.specs.Columns.{has_room, listed_behind}
use Rattle.latex2mathml_tex_grammar.specs.Environments.{column_of, columns_of, entry_environment, is_line_sign, line_at}
use Rattle.latex2mathml_tex_grammar.specs.Rules.{most_columns}
use Rattle.latex2mathml_tex_units.specs.{Environments.entry_of, Environments.environment_of, declared.environments.Environment.Environment}

pub entry_found : (es : List Environment) (name : List ℕ) (d : Environment) → (length es == 0) ≡ false → bytes_eq (get_or es 0 d).name.now name ≡ true → entry_environment (map entry_of es) name ≡ Some (environment_of (get_or es 0 d))
entry_found [] name d some h = cc
entry_found (e ∷ es) name d some h = rw h refl

-- the units that end atoms are no operand
pub one_of_nine : (a b c d e f g h i : Bool) → a ≡ false → b ≡ false → c ≡ false → d ≡ false → e ≡ false → f ≡ false → g ≡ false → h ≡ false → i ≡ false → ((((((((a || b) || c) || d) || e) || f) || g) || h) || i) ≡ false
one_of_nine a b c d e f g h i p q r s t u v w x = rw (p, q, r, s, t, u, v, w, x) refl

-- Signs that represent columns

-- the columns that were listed of these signs, where the last ones are left
pub record AreListed (columns : Columns) (rest signs : List ℕ) : Type 0 where
  pub so_far : List Column
  pub listed : columns ≡ Listed (line_at signs) so_far
  pub all : so_far ++ columns_of rest ≡ columns_of signs
  pub few : length so_far ≤ most_columns

pub none_listed : (columns : Columns) (signs : List ℕ) → columns ≡ Listed (line_at signs) [] → AreListed columns signs signs
none_listed columns signs is = record { so_far = []; listed = is; all = refl; few = omega arith }

pub all_listed : (columns : Columns) (rest signs : List ℕ) → (length rest == 0) ≡ true → AreListed columns rest signs → (nat_le (length (columns_of signs)) most_columns ≡ true) × (columns ≡ Listed (line_at signs) (columns_of signs))
all_listed columns [] signs none h =
    let same : h.so_far ≡ columns_of signs = sym (append-nil h.so_far) ∙ h.all in
    let few : nat_le (length h.so_far) most_columns ≡ true = grind (arith, nat_tests, h.few) in
    (ap (λ l. nat_le (length l) most_columns) (sym same) ∙ few, h.listed ∙ ap (Listed (line_at signs)) same)
all_listed columns (c ∷ cs) signs none h = (grind (arith, nat_tests, none), grind (arith, nat_tests, none))

line_next : (c : ℕ) (cs : List ℕ) → is_line_sign c ≡ true → columns_of (c ∷ cs) ≡ columns_of cs
line_next c cs is = rw is refl

column_next : (c : ℕ) (cs : List ℕ) → is_line_sign c ≡ false → columns_of (c ∷ cs) ≡ column_of c (line_at cs) ∷ columns_of cs
column_next c cs is = rw is refl

pub line_passed : (columns : Columns) (rest signs : List ℕ) → (length rest == 0) ≡ false → is_line_sign (get_or rest 0 0) ≡ true → AreListed columns rest signs → AreListed columns (drop 1 rest) signs
line_passed columns [] signs some is h = cc
line_passed columns (c ∷ cs) signs some is h = record {
  so_far = h.so_far;
  listed = h.listed;
  all = ap (λ l. h.so_far ++ l) (sym (line_next c cs is)) ∙ h.all;
  few = h.few;
}

pub too_many : (columns : Columns) (rest signs : List ℕ) → (length rest == 0) ≡ false → is_line_sign (get_or rest 0 0) ≡ false → has_room columns ≡ false → AreListed columns rest signs → nat_le (length (columns_of signs)) most_columns ≡ false
too_many columns [] signs some is full h = cc
too_many columns (c ∷ cs) signs some is full h =
    let no_room : nat_lt (length h.so_far) most_columns ≡ false = ap has_room (sym h.listed) ∙ full in
    let all = ap (λ l. h.so_far ++ l) (sym (column_next c cs is)) ∙ h.all in
    ap (λ l. nat_le (length l) most_columns) (sym all) ∙ grind (arith, nat_tests, length-append {A = Column}, no_room)

pub column_listed : (before after : Columns) (rest signs : List ℕ) → (length rest == 0) ≡ false → is_line_sign (get_or rest 0 0) ≡ false → has_room before ≡ true → after ≡ listed_behind (column_of (get_or rest 0 0) (line_at (drop 1 rest))) before → AreListed before rest signs → AreListed after (drop 1 rest) signs
column_listed before after [] signs some is room put h = cc
column_listed before after (c ∷ cs) signs some is room put h =
    let column = column_of c (line_at cs) in
    let less : nat_lt (length h.so_far) most_columns ≡ true = ap has_room (sym h.listed) ∙ room in
    let longer : listed_behind column (Listed (line_at signs) h.so_far) ≡ Listed (line_at signs) (h.so_far ++ column ∷ []) = ap (λ (b : Bool). Listed (line_at signs) (if b then h.so_far ++ column ∷ [] else h.so_far)) less in
    record {
      so_far = h.so_far ++ column ∷ [];
      listed = put ∙ ap (listed_behind column) h.listed ∙ longer;
      all = append_assoc h.so_far (column ∷ []) (columns_of cs) ∙ ap (λ l. h.so_far ++ l) (sym (column_next c cs is)) ∙ h.all;
      few = grind (arith, nat_tests, length-append {A = Column}, less);
    }
