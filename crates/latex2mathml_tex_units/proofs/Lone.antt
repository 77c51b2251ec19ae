-- A character that is taken by itself or in braces.
use Rattle.std.proofs.Common.{◌≡◌, ◌∙◌, ◌+◌, ◌<◌, ◌≤◌, ℕ, List, ◌∷◌, drop, length, map, ap, arith, subst, sym}
use Rattle.std.proofs.lemmas.List.{drop_more}
use Rattle.std.specs.Prelude.{get_or}
use Rattle.latex2mathml_tex_grammar.specs.{Macros.before, Units.Units}
use Rattle.latex2mathml_tex_units.specs.{Left.TakesLone, Left.by_itself, Left.in_braces, Taking.piece_of, Taking.unit_of}
use Rattle.latex2mathml_tex_units.specs.declared.unit.Unit.{Unit}
use Rattle.latex2mathml_tex_units.specs.declared.unit.Piece.TheVariants as piece

-- the next three entries of a list, and what is left after them
three_more : (us : List Unit) (n : ℕ) (d : Unit) → n + 3 ≤ length us → drop n us ≡ get_or us n d ∷ get_or us (n + 1) d ∷ get_or us (n + 2) d ∷ drop (n + 3) us
three_more us n d h =
    let second : n + 1 + 1 ≡ n + 2 = omega arith in
    let third : n + 2 + 1 ≡ n + 3 = omega arith in
    drop_more us n d (omega arith)
    ∙ ap (λ vs. get_or us n d ∷ vs) (drop_more us (n + 1) d (omega arith)
    ∙ ap (λ vs. get_or us (n + 1) d ∷ vs) (ap (λ k. drop k us) second ∙ drop_more us (n + 2) d (omega arith)
    ∙ ap (λ k. get_or us (n + 2) d ∷ drop k us) third))

pub lone_alone : (us : List Unit) (n : ℕ) (d : Unit) (c : ℕ) (l : Units) → n < length us → (get_or us n d).piece ≡ piece.Character c → TakesLone c (before (map unit_of (drop n us)) l) (before (map unit_of (drop (n + 1) us)) l)
lone_alone us n d c l h is = subst (λ vs. TakesLone c (before (map unit_of vs) l) (before (map unit_of (drop (n + 1) us)) l)) (sym (drop_more us n d h)) (by_itself (ap piece_of is))

pub lone_in_braces : (us : List Unit) (n : ℕ) (d : Unit) (c : ℕ) (l : Units) → n + 3 ≤ length us → (get_or us n d).piece ≡ piece.Open → (get_or us (n + 1) d).piece ≡ piece.Character c → (get_or us (n + 2) d).piece ≡ piece.Close → TakesLone c (before (map unit_of (drop n us)) l) (before (map unit_of (drop (n + 3) us)) l)
lone_in_braces us n d c l h opens is closes = subst (λ vs. TakesLone c (before (map unit_of vs) l) (before (map unit_of (drop (n + 3) us)) l)) (sym (three_more us n d h)) (in_braces (ap piece_of opens) (ap piece_of is) (ap piece_of closes))
