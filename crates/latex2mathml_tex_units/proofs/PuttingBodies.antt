-- Units that are put one after another, from the last one on.
use Rattle.std.proofs.Common.{◌≡◌, ℕ, zero, suc, ◌+◌, ◌<◌, ◌≤◌, true, false, List, [], ◌∷◌, ◌++◌, map, drop, get_or, length, refl, sym, ap, ◌∙◌, length-append, arith, Vec, Global}
use Rattle.std.proofs.lemmas.List.{drop_more}
use Rattle.latex2mathml_tex_grammar.specs.Macros.{argument_at, before, put, put_part}
use Rattle.latex2mathml_tex_grammar.specs.Units as units
use Rattle.latex2mathml_tex_grammar.specs.Units.{Units}
use Rattle.latex2mathml_tex_units.specs.{Bodies.part_of, Pending.put_before, Pending.units_in, Putting.IsPut, Taking.unit_of, declared.macros.part.Part.Part, declared.unit.Unit.Unit}
use Rattle.latex2mathml_tex_units.proofs.BeforeText.{put_before-push}

pub before-append : (xs ys : List units.Unit) (l : Units) → before (xs ++ ys) l ≡ before xs (before ys l)
before-append [] ys l = refl
before-append (x ∷ xs) ys l = ap (units.Next x) (before-append xs ys l)

-- one more unit is put
pub one_put : (us : List Unit) (k left : ℕ) (d : Unit) (stack stack' : List Unit) (behind start : Units)
    → put_before stack behind ≡ before (map unit_of (drop left us)) start
    → left ≡ k + 1
    → k < length us
    → stack' ≡ stack ++ get_or us k d ∷ []
    → put_before stack' behind ≡ before (map unit_of (drop k us)) start
one_put us k left d stack stack' behind start h next within e =
    ap (λ s. put_before s behind) e ∙ put_before-push stack (get_or us k d) behind
    ∙ ap (units.Next (unit_of (get_or us k d))) (h ∙ ap (λ n. before (map unit_of (drop n us)) start) next)
    ∙ sym (ap (λ l. before (map unit_of l) start) (drop_more us k d within))

-- what a body puts from a part on
from_part : (args : List (List units.Unit)) (place : ℕ) (body : List Part) (k left : ℕ) (d : Part) → left ≡ k + 1 → k < length body
    → put args place (map part_of (drop k body)) ≡ put_part args place (part_of (get_or body k d)) ++ put args place (map part_of (drop left body))
from_part args place body k left d next within =
    ap (λ l. put args place (map part_of l)) (drop_more body k d within)
    ∙ ap (λ n. put_part args place (part_of (get_or body k d)) ++ put args place (map part_of (drop n body))) (sym next)

-- one more part is put
pub part_put : (args : List (List units.Unit)) (place : ℕ) (body : List Part) (k left : ℕ) (d : Part) (first room room' : ℕ) (start l m : Units)
    → IsPut true (put args place (map part_of (drop left body))) first room start l
    → left ≡ k + 1
    → k < length body
    → IsPut true (put_part args place (part_of (get_or body k d))) room room' l m
    → IsPut true (put args place (map part_of (drop k body))) first room' start m
part_put args place body k left d first room room' start l m (is, behind) next within (is', here) =
    let whole = from_part args place body k left d next within in
    let len = ap length whole ∙ length-append (put_part args place (part_of (get_or body k d))) (put args place (map part_of (drop left body))) in (
      omega (arith, is, is', len),
      here ∙ ap (before (put_part args place (part_of (get_or body k d)))) behind ∙ sym (before-append (put_part args place (part_of (get_or body k d))) (put args place (map part_of (drop left body))) start) ∙ ap (λ us. before us start) (sym whole),
    )

-- the end of a body puts no more than the body
put_fewer : (args : List (List units.Unit)) (place k : ℕ) (body : List Part) → length (put args place (map part_of (drop k body))) ≤ length (put args place (map part_of body))
put_fewer args place zero body = omega arith
put_fewer args place (suc k) [] = omega arith
put_fewer args place (suc k) (p ∷ ps) =
    let ih = put_fewer args place k ps in
    let e = length-append (put_part args place (part_of p)) (put args place (map part_of ps)) in
    omega (arith, ih, e)

-- if there is no room for a part, there is none for the body
pub no_room : (args : List (List units.Unit)) (place : ℕ) (body : List Part) (k left : ℕ) (d : Part) (first room room' : ℕ) (start l m : Units)
    → IsPut true (put args place (map part_of (drop left body))) first room start l
    → left ≡ k + 1
    → k < length body
    → IsPut false (put_part args place (part_of (get_or body k d))) room room' l m
    → first < length (put args place (map part_of body))
no_room args place body k left d first room room' start l m (is, behind) next within none =
    let whole = from_part args place body k left d next within in
    let len = ap length whole ∙ length-append (put_part args place (part_of (get_or body k d))) (put args place (map part_of (drop left body))) in
    let fewer = put_fewer args place k body in
    omega (arith, is, none, len, fewer)

-- the argument with a number
pub argument_there : (vs : List (Vec Unit Global)) (k : ℕ) (d : Vec Unit Global) → k < length vs → argument_at (map units_in vs) k ≡ units_in (get_or vs k d)
argument_there [] k d h = absurd (omega (arith, h))
argument_there (v ∷ vs) zero d h = refl
argument_there (v ∷ vs) (suc k) d h = argument_there vs k d (omega (arith, h))

pub argument_past : (vs : List (Vec Unit Global)) (k : ℕ) → length vs ≤ k → argument_at (map units_in vs) k ≡ []
argument_past [] k h = refl
argument_past (v ∷ vs) zero h = absurd (omega (arith, h))
argument_past (v ∷ vs) (suc k) h = argument_past vs k (omega (arith, h))
