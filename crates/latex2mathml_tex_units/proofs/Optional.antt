-- Arguments that end before a sign, and those in brackets, one unit after another.
use Rattle.std.proofs.Common.{◌≡◌, ◌==◌, ℕ, zero, suc, ◌+◌, ◌-◌, ◌<◌, ◌≤◌, Bool, true, false, List, [], ◌∷◌, ◌++◌, map, drop, take, get_or, length, refl, sym, ap, ◌∙◌, arith}
use Rattle.std.proofs.lemmas.Bool.Decides.{nat_tests}
use Rattle.std.proofs.lemmas.List.{drop_more, length-map, map-append}
use Rattle.std.specs.Prelude.{if◌then◌else◌}
use Rattle.latex2mathml_tex_grammar.specs.Arguments.{NoBrace, brace_of, closes_last, is_end, is_group, is_sign, up_to, with_first, without_braces}
use Rattle.latex2mathml_tex_grammar.specs.{Next.begins_with, Reading.Read, Refusal.Refusal}
use Rattle.latex2mathml_tex_grammar.specs.Units as units
use Rattle.latex2mathml_tex_grammar.specs.Units.{Units, Next}
use Rattle.latex2mathml_tex_units.specs.{Taking.piece_of, Taking.unit_of, declared.unit.Unit.Unit}
use Rattle.latex2mathml_tex_units.specs.declared.unit.Piece.TheVariants as piece
use Rattle.latex2mathml_tex_units.proofs.Grouping.{no_brace, with_all, with_all-push}

-- Units before a sign

sign_no_brace : (sign p : units.Piece) → is_sign sign p ≡ true → brace_of p ≡ NoBrace
sign_no_brace (units.Command name) (units.Command other) h = refl
sign_no_brace (units.Command name) (units.Character c) h = refl
sign_no_brace (units.Command name) units.Space h = refl
sign_no_brace (units.Command name) units.Open h = cc
sign_no_brace (units.Command name) units.Close h = cc
sign_no_brace (units.Character d) (units.Command other) h = refl
sign_no_brace (units.Character d) (units.Character c) h = refl
sign_no_brace (units.Character d) units.Space h = refl
sign_no_brace (units.Character d) units.Open h = cc
sign_no_brace (units.Character d) units.Close h = cc
sign_no_brace units.Space units.Space h = refl
sign_no_brace units.Space units.Open h = cc
sign_no_brace units.Space units.Close h = cc
sign_no_brace units.Space (units.Command other) h = cc
sign_no_brace units.Space (units.Character c) h = cc
sign_no_brace units.Open p h = cc
sign_no_brace units.Close p h = cc

end_no_brace : (sign : units.Piece) (depth : ℕ) (p : units.Piece) → is_end sign depth p ≡ true → brace_of p ≡ NoBrace
end_no_brace sign zero p h = sign_no_brace sign p h
end_no_brace sign (suc depth) p h = cc

module _ (sign : units.Piece) (r : Refusal) where
  -- the sign comes next
  pub up_to_end : (depth : ℕ) (l : Units) → begins_with (is_end sign depth) l ≡ true → up_to sign r l depth ≡ Read [] l
  up_to_end depth (Next u l) h = rw (end_no_brace sign depth u.piece h, h) refl
  up_to_end depth (units.End place) h = cc
  up_to_end depth (units.Stop q) h = cc

  pub before_open : (depth depth' : ℕ) (l m : Units) (u : Unit) → l ≡ Next (unit_of u) m → u.piece ≡ piece.Open → depth' ≡ suc depth → up_to sign r l depth ≡ with_first (unit_of u) (up_to sign r m depth')
  before_open depth depth' l m u e o d = rw (e, o, d) refl

  pub before_close : (depth depth' : ℕ) (l m : Units) (u : Unit) → l ≡ Next (unit_of u) m → u.piece ≡ piece.Close → depth ≡ suc depth' → up_to sign r l depth ≡ with_first (unit_of u) (up_to sign r m depth')
  before_close depth depth' l m u e o d = rw (e, o, d) refl

  pub before_other : (depth depth' : ℕ) (l m : Units) (u : Unit) → l ≡ Next (unit_of u) m → (u.piece ≡ piece.Open → ⊥) → (u.piece ≡ piece.Close → ⊥) → begins_with (is_end sign depth) l ≡ false → depth' ≡ depth → up_to sign r l depth ≡ with_first (unit_of u) (up_to sign r m depth')
  before_other depth depth' l m u e o c h d =
      let other : is_end sign depth (piece_of u.piece) ≡ false = sym (ap (begins_with (is_end sign depth)) e) ∙ h in
      rw (e, no_brace u.piece o c, other, d) refl

  -- one more unit before the sign
  pub up_to_on : (depth depth' : ℕ) (start l m : Units) (inside inside' : List Unit) (u : Unit)
      → up_to sign r start 0 ≡ with_all (map unit_of inside) (up_to sign r l depth)
      → up_to sign r l depth ≡ with_first (unit_of u) (up_to sign r m depth')
      → inside' ≡ inside ++ u ∷ []
      → up_to sign r start 0 ≡ with_all (map unit_of inside') (up_to sign r m depth')
  up_to_on depth depth' start l m inside inside' u h step e =
      let units : map unit_of inside' ≡ map unit_of inside ++ unit_of u ∷ [] = ap (map unit_of) e ∙ map-append unit_of inside (u ∷ []) in
      h ∙ ap (with_all (map unit_of inside)) step ∙ sym (ap (λ xs. with_all xs (up_to sign r m depth')) units ∙ with_all-push (map unit_of inside) (unit_of u) (up_to sign r m depth'))

-- A group that is all of an argument

at_unit : (us : List Unit) (i depth : ℕ) (d : Unit) (start : Bool) → closes_last (map unit_of (drop i us)) depth ≡ start → i < length us → closes_last (unit_of (get_or us i d) ∷ map unit_of (drop (i + 1) us)) depth ≡ start
at_unit us i depth d start h within = sym (ap (λ l. closes_last (map unit_of l) depth) (drop_more us i d within)) ∙ h

module _ (us : List Unit) (i : ℕ) (d : Unit) (start : Bool) where
  pub closing_open : (depth depth' : ℕ) → closes_last (map unit_of (drop i us)) depth ≡ start → i < length us → (get_or us i d).piece ≡ piece.Open → depth' ≡ suc depth → closes_last (map unit_of (drop (i + 1) us)) depth' ≡ start
  closing_open depth depth' h within o e =
      let step : closes_last (unit_of (get_or us i d) ∷ map unit_of (drop (i + 1) us)) depth ≡ closes_last (map unit_of (drop (i + 1) us)) depth' = rw (o, e) refl in
      sym step ∙ at_unit us i depth d start h within

  pub closing_close : (depth depth' : ℕ) → closes_last (map unit_of (drop i us)) depth ≡ start → i < length us → (get_or us i d).piece ≡ piece.Close → depth ≡ suc depth' → closes_last (map unit_of (drop (i + 1) us)) depth' ≡ start
  closing_close depth depth' h within c e =
      let step : closes_last (unit_of (get_or us i d) ∷ map unit_of (drop (i + 1) us)) (suc depth') ≡ closes_last (map unit_of (drop (i + 1) us)) depth' = rw c (deeper (map unit_of (drop (i + 1) us)) depth') in
      sym step ∙ sym (ap (closes_last (unit_of (get_or us i d) ∷ map unit_of (drop (i + 1) us))) e) ∙ at_unit us i depth d start h within
    where
      deeper : (vs : List units.Unit) (depth' : ℕ) → closes_last (units.unit units.Close (get_or us i d).place ∷ vs) (suc depth') ≡ closes_last vs depth'
      deeper [] depth' = refl
      deeper (v ∷ vs) depth' = refl

  pub closing_other : (depth depth' : ℕ) → closes_last (map unit_of (drop i us)) depth ≡ start → i < length us → ((get_or us i d).piece ≡ piece.Open → ⊥) → ((get_or us i d).piece ≡ piece.Close → ⊥) → depth' ≡ depth → closes_last (map unit_of (drop (i + 1) us)) depth' ≡ start
  closing_other depth depth' h within o c e =
      let step : closes_last (unit_of (get_or us i d) ∷ map unit_of (drop (i + 1) us)) depth ≡ closes_last (map unit_of (drop (i + 1) us)) depth' = rw (no_brace (get_or us i d).piece o c, e) refl in
      sym step ∙ at_unit us i depth d start h within

  -- the brace that closes the group is the last unit, or not
  pub closing_last : (depth : ℕ) → closes_last (map unit_of (drop i us)) depth ≡ start → i < length us → (get_or us i d).piece ≡ piece.Close → depth ≡ 0 → (i + 1 == length us) ≡ start
  closing_last depth h within c e =
      let step : closes_last (unit_of (get_or us i d) ∷ map unit_of (drop (i + 1) us)) 0 ≡ (i + 1 == length us) = rw c (last_one us (i + 1) (omega (arith, within))) in
      sym step ∙ sym (ap (closes_last (unit_of (get_or us i d) ∷ map unit_of (drop (i + 1) us))) e) ∙ at_unit us i depth d start h within
    where
      last_one : (vs : List Unit) (n : ℕ) → n ≤ length vs → closes_last (units.unit units.Close (get_or us i d).place ∷ map unit_of (drop n vs)) 0 ≡ (n == length vs)
      last_one [] zero h = refl
      last_one [] (suc n) h = absurd (omega (arith, h))
      last_one (v ∷ vs) zero h = grind (arith, nat_tests)
      last_one (v ∷ vs) (suc n) h = last_one vs n (omega (arith, h)) ∙ grind (arith, nat_tests)

-- The units inside of a group

taken_as : (n : ℕ) (us : List Unit) → map unit_of (take n us) ≡ take n (map unit_of us)
taken_as zero us = refl
taken_as (suc n) [] = refl
taken_as (suc n) (u ∷ us) = ap (λ vs. unit_of u ∷ vs) (taken_as n us)

chosen : (b : Bool) (x y : List units.Unit) → b ≡ true → (if b then x else y) ≡ x
chosen true x y e = refl
chosen false x y e = cc

pub inside_braces : (us : List Unit) (n : ℕ) → n ≡ length us → is_group (map unit_of us) ≡ true → map unit_of (take (n - 1 - 1) (drop 1 us)) ≡ without_braces (map unit_of us)
inside_braces [] n e h = cc
inside_braces (u ∷ us) n e h =
    let same : length (map unit_of us) ≡ length us = simp length-map in
    let few : n - 1 - 1 ≡ length (unit_of u ∷ map unit_of us) - 2 = omega (arith, e, same) in
    taken_as (n - 1 - 1) us ∙ ap (λ k. take k (map unit_of us)) few
    ∙ sym (chosen (is_group (map unit_of (u ∷ us))) (take (length (unit_of u ∷ map unit_of us) - 2) (map unit_of us)) (map unit_of (u ∷ us)) h)
