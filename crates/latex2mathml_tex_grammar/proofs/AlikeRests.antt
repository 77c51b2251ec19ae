-- What follows a change among units that are alike but for white space.
use Rattle.std.proofs.Common.{◌≡◌, ℕ, List, Option, Some, None, refl, subst}
use Rattle.latex2mathml_elements.specs.Colors.{Color}
use Rattle.latex2mathml_tex_grammar.specs.{Colors.color_of, Meaning.Change, Meaning.ToAlphabet, Meaning.ToStyle, Meaning.ToSize, Meaning.ToColor, Meaning.Divides, Meaning.FractionRule, Refusal.Refusal, Rows.Row, Rows.Upper, Rules.Context}
use Rattle.latex2mathml_tex_grammar.specs.Rests.{Rest, GoesOnIn, NoRest, rest_behind_name, rest_below, rest_in, rest_of}
use Rattle.latex2mathml_tex_grammar.specs.Scanning.{Found, BeforeColor}
use Rattle.latex2mathml_tex_grammar.specs.Spacing.{Standing, AreAlike}
use Rattle.latex2mathml_tex_grammar.specs.Units.{Units}
use Rattle.latex2mathml_tex_grammar.proofs.{Scans.FoundAlike, Scans.both_given, Scans.both_missing, Scans.scan_alike, Spaces.IsCalm}

data RestsAlike (at : Standing) : Rest → Rest → Type 0 where
  both_go_on : {c : Context} {row : Row} {l m : Units} → AreAlike at l m → RestsAlike at (GoesOnIn c row l) (GoesOnIn c row m)
  both_refused : {r q : Refusal} → r.kind ≡ q.kind → RestsAlike at (NoRest r) (NoRest q)

below_alike : {at : Standing} {l m : Units} (rule : FractionRule) (c : Context) (row : Row) (p q : ℕ) (upper : Option Upper) → AreAlike at l m → RestsAlike at (rest_below rule c row p l upper) (rest_below rule c row q m upper)
below_alike rule c row p q None h = both_go_on h
below_alike rule c row p q (Some upper) h = both_refused refl

in_alike : {at : Standing} {l m : Units} (name : List ℕ) (c : Context) (row : Row) (p q : ℕ) (color : Option Color) → AreAlike at l m → RestsAlike at (rest_in name c row p l color) (rest_in name c row q m color)
in_alike name c row p q None h = both_refused refl
in_alike name c row p q (Some color) h = both_go_on h

behind_name_alike : {at : Standing} (c : Context) (row : Row) (p q : ℕ) {x y : Found} → FoundAlike at x y → RestsAlike at (rest_behind_name c row p x) (rest_behind_name c row q y)
behind_name_alike c row p q (both_given name h) = in_alike name c row p q (color_of name) h
behind_name_alike c row p q (both_missing e) = both_refused e

rests_alike : {at : Standing} {l m : Units} (change : Change) (c : Context) (row : Row) (p q : ℕ) → IsCalm at → AreAlike at l m → RestsAlike at (rest_of change c row p l) (rest_of change c row q m)
rests_alike (ToAlphabet alphabet) c row p q calm h = both_go_on h
rests_alike (ToStyle style) c row p q calm h = both_go_on h
rests_alike (ToSize size) c row p q calm h = both_go_on h
rests_alike ToColor c row p q calm h = behind_name_alike c row p q (scan_alike p q calm h BeforeColor)
rests_alike (Divides rule) c row p q calm h = below_alike rule c row p q row.under h

-- so what follows one change follows the other

goes_on_there : {at : Standing} {x y : Rest} {c : Context} {row : Row} {l : Units} → RestsAlike at x y → x ≡ GoesOnIn c row l → (m : Units) × AreAlike at l m × (y ≡ GoesOnIn c row m)
goes_on_there {at = at} {c = c} {row = row} {l = l} (both_go_on {c = d} {row = xs} {l = k} {m = m} h) e =
    let left : k ≡ l = cc in (m, subst (λ k. AreAlike at k m) left h, cc)
goes_on_there (both_refused e) f = cc

refused_there : {at : Standing} {x y : Rest} {r : Refusal} → RestsAlike at x y → x ≡ NoRest r → (q : Refusal) × (r.kind ≡ q.kind) × (y ≡ NoRest q)
refused_there (both_go_on h) e = cc
refused_there {r = r} (both_refused {r = s} {q = q} e) f = (let same : s ≡ r = cc in (q, subst (λ (r : Refusal). r.kind ≡ q.kind) same e, refl))

pub rest_too : {at : Standing} {l m n : Units} (change : Change) (c : Context) (row : Row) (p q : ℕ) {d : Context} {xs : Row} → IsCalm at → AreAlike at l m → rest_of change c row p l ≡ GoesOnIn d xs n → (k : Units) × AreAlike at n k × (rest_of change c row q m ≡ GoesOnIn d xs k)
rest_too change c row p q calm h e = goes_on_there (rests_alike change c row p q calm h) e

pub no_rest_too : {at : Standing} {l m : Units} (change : Change) (c : Context) (row : Row) (p q : ℕ) {r : Refusal} → IsCalm at → AreAlike at l m → rest_of change c row p l ≡ NoRest r → (t : Refusal) × (r.kind ≡ t.kind) × (rest_of change c row q m ≡ NoRest t)
no_rest_too change c row p q calm h e = refused_there (rests_alike change c row p q calm h) e
