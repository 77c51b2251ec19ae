-- The text of the parameters of a definition, one unit after another.
use Rattle.std.proofs.Common.{◌≡◌, ◌∙◌, ℕ, suc, ◌+◌, ◌<◌, arith, Bool, true, false, List, [], ◌∷◌, ◌++◌, Some, None, map, refl, sym, ap}
use Rattle.std.proofs.lemmas.{Bool.and_parts, List.map-append}
use Rattle.std.proofs.lemmas.Bool.Decides.{nat_tests}
use Rattle.std.specs.Prelude.{nat_lt}
use Rattle.std.specs.Str.{byte}
use Rattle.latex2mathml_tex_grammar.specs.Arguments.{is_character, with_first}
use Rattle.latex2mathml_tex_grammar.specs.Definitions.{is_brace, is_number, number_due, parameters_behind}
use Rattle.latex2mathml_tex_grammar.specs.Macros as macros
use Rattle.latex2mathml_tex_grammar.specs.{Reading.Outcome}
use Rattle.latex2mathml_tex_grammar.specs.Units.{Piece, Space, Open, Close, Command, Character, Units, Unit, Next, End, Stop}
use Rattle.latex2mathml_tex_units.specs.{Bodies.taken_of, Pending.next_piece, Taking.Takes, Taking.piece_of, Taking.unit_of, declared.macros.part.Taken.Taken}
use Rattle.latex2mathml_tex_units.specs.declared.unit.Next.{Next as CodeNext}
use Rattle.latex2mathml_tex_units.specs.declared.unit.Piece.{Piece as CodePiece}
use Rattle.latex2mathml_tex_units.specs.declared.macros.part.Taken.TheVariants as taken
use Rattle.latex2mathml_tex_units.specs.declared.unit.Next.TheVariants as next
use Rattle.latex2mathml_tex_units.proofs.Grouping.{with_all, with_all-push}

-- a brace is no number sign
number_apart : (p : Piece) → is_brace p ≡ true → is_character (byte "#") p ≡ false
number_apart Open h = refl
number_apart Close h = refl
number_apart Space h = cc
number_apart (Command name) h = cc
number_apart (Character c) h = cc

-- one more part of the text
pub taken_on : (o : Outcome (List macros.Taken)) (rest more : Outcome (List macros.Taken)) (takes takes' : List Taken) (t : Taken)
    → o ≡ with_all (map taken_of takes) rest
    → rest ≡ with_first (taken_of t) more
    → takes' ≡ takes ++ t ∷ []
    → o ≡ with_all (map taken_of takes') more
taken_on o rest more takes takes' t h step e =
    let parts : map taken_of takes' ≡ map taken_of takes ++ taken_of t ∷ [] = ap (map taken_of) e ∙ map-append taken_of takes (t ∷ []) in
    h ∙ ap (with_all (map taken_of takes)) step ∙ sym (ap (λ xs. with_all xs more) parts ∙ with_all-push (map taken_of takes) (taken_of t) more)

module _ (place : ℕ) (start : Outcome (List macros.Taken)) (l m : Units) (u : Unit) (here : l ≡ Next u m) (takes : List Taken) (behind : Bool) (n : ℕ)
    (so_far : start ≡ with_all (map taken_of takes) (parameters_behind place l behind n)) where
  pub past_number_sign : (b : Bool) (k : ℕ) → behind ≡ false → is_character (byte "#") u.piece ≡ true → b ≡ true → k ≡ n
      → start ≡ with_all (map taken_of takes) (parameters_behind place m b k)
  past_number_sign b k apart number e f = so_far ∙ ap (with_all (map taken_of takes)) (rw (apart, here, number, e, f) refl)

  pub past_number : (takes' : List Taken) (b : Bool) (k : ℕ) → behind ≡ true → is_number n u.piece ≡ true
      → takes' ≡ takes ++ taken.Parameter ∷ [] → b ≡ false → k ≡ suc n
      → start ≡ with_all (map taken_of takes') (parameters_behind place m b k)
  past_number takes' b k due number more e f = taken_on start _ _ takes takes' taken.Parameter so_far (rw (due, here, number, e, f) refl) more

  pub past_sign : (sign : CodePiece) (takes' : List Taken) (b : Bool) (k : ℕ) → behind ≡ false → is_character (byte "#") u.piece ≡ false → is_brace u.piece ≡ false
      → u.piece ≡ piece_of sign → takes' ≡ takes ++ taken.Sign sign ∷ [] → b ≡ false → k ≡ n
      → start ≡ with_all (map taken_of takes') (parameters_behind place m b k)
  past_sign sign takes' b k apart number brace same more e f = taken_on start _ _ takes takes' (taken.Sign sign) so_far (rw (apart, here, number, brace, ← same, e, f) refl) more

-- the unit that was taken is the piece that was seen
pub taken_unit : (n : CodeNext) (l m : Units) (p : CodePiece) → Some (piece_of p) ≡ next_piece l → Takes n l m → (u : Unit) × (l ≡ Next u m) × (u.piece ≡ piece_of p)
taken_unit (next.Unit u) l m p e t =
    let same : piece_of p ≡ piece_of u.piece = (let found = e ∙ ap next_piece t in cc) in
    (unit_of u, t, sym same)
taken_unit (next.End place) l m p e t = (let found = e ∙ ap next_piece t.0 in cc)
taken_unit (next.Fault fault place) l m p e t = (let found = e ∙ ap next_piece t.0 in cc)

-- no more than nine parameters have a number
pub few : (n : ℕ) (p : Piece) → is_number n p ≡ true → n < 9
few n p e = (let parts = and_parts (nat_lt n 9) (is_character (byte "1" + n) p) e in let less = parts.0 in grind (arith, nat_tests))

-- the text ends with a brace, or with the units

pub at_end : (place n : ℕ) (behind : Bool) (l : Units) → None ≡ next_piece l → parameters_behind place l behind n ≡ number_due behind place l
at_end place n behind (Next u l) e = cc
at_end place n behind (End at) e = refl
at_end place n behind (Stop r) e = refl
