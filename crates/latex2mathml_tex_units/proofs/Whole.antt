-- Units that are listed, one after another.
use Rattle.std.proofs.Common.{◌≡◌, ◌≤◌, List, [], ◌∷◌, ◌++◌, map, refl, sym, ap, ◌∙◌, arith}
use Rattle.std.proofs.lemmas.List.{map-append}
use Rattle.latex2mathml_tex_grammar.specs.Macros.{before, unit_count}
use Rattle.latex2mathml_tex_grammar.specs.Units as units
use Rattle.latex2mathml_tex_grammar.specs.Units.{Units}
use Rattle.latex2mathml_tex_grammar.proofs.Shrinking.{count-before}
use Rattle.latex2mathml_tex_units.specs.{Standing.Moves, Taking.unit_of, declared.unit.Unit.Unit}

pub before-last : (xs : List units.Unit) (x : units.Unit) (l : Units) → before (xs ++ x ∷ []) l ≡ before xs (units.Next x l)
before-last [] x l = refl
before-last (y ∷ xs) x l = ap (units.Next y) (before-last xs x l)

pub listed_on : (us us' : List Unit) (u : Unit) (l m start : Units) → before (map unit_of us) l ≡ start → l ≡ units.Next (unit_of u) m → us' ≡ us ++ u ∷ [] → before (map unit_of us') m ≡ start
listed_on us us' u l m start same is e =
    ap (λ xs. before xs m) (ap (map unit_of) e ∙ map-append unit_of us (u ∷ [])) ∙ before-last (map unit_of us) (unit_of u) m ∙ ap (before (map unit_of us)) (sym is) ∙ same

before-append : (xs ys : List units.Unit) (l : Units) → before (xs ++ ys) l ≡ before xs (before ys l)
before-append [] ys l = refl
before-append (x ∷ xs) ys l = ap (units.Next x) (before-append xs ys l)

pub moved_all : (us us' : List Unit) (l m start : Units) → before (map unit_of us) l ≡ start → Moves us us' (λ taken. l ≡ before taken m) → before (map unit_of us') m ≡ start
moved_all us us' l m start same (taken, e, is) =
    ap (λ xs. before xs m) (ap (map unit_of) e ∙ map-append unit_of us taken) ∙ before-append (map unit_of us) (map unit_of taken) m ∙ ap (before (map unit_of us)) (sym is) ∙ same

pub moved_less : (us us' : List Unit) (l m : Units) → Moves us us' (λ taken. l ≡ before taken m) → unit_count m ≤ unit_count l
moved_less us us' l m (taken, e, is) = omega (arith, ap unit_count is, count-before (map unit_of taken) m)
