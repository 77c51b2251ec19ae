-- The units of groups and arguments, one after another.
use Rattle.std.proofs.Common.{◌≡◌, ℕ, zero, suc, None, List, [], ◌∷◌, ◌++◌, map, refl, sym, ap, ◌∙◌, append_assoc, Vec, Global}
use Rattle.std.proofs.lemmas.List.{map-append}
use Rattle.latex2mathml_tex_grammar.specs.Arguments.{NoBrace, brace_of, and_then, with_first, group, argument, argument_before, arguments, first_sign, the_sign}
use Rattle.latex2mathml_tex_grammar.specs.Macros.{Taken, Parameter, Sign, parameters}
use Rattle.latex2mathml_tex_grammar.specs.{Reading.Outcome, Reading.Read, Reading.Refused}
use Rattle.latex2mathml_tex_grammar.specs.Units as units
use Rattle.latex2mathml_tex_grammar.specs.Units.{Units, Next}
use Rattle.latex2mathml_tex_units.specs.{Pending.units_in, Taking.piece_of, Taking.unit_of, declared.unit.Unit.Unit, declared.unit.Piece.Piece}
use Rattle.latex2mathml_tex_units.specs.declared.unit.Piece.TheVariants as piece

-- what is read, preceded by all of these
abbrev pub with_all : {A : Type 0} → List A → Outcome (List A) → Outcome (List A)
with_all xs (Read ys l) = Read (xs ++ ys) l
with_all xs (Refused r) = Refused r

pub with_all-push : {A : Type 0} (xs : List A) (x : A) (o : Outcome (List A)) → with_all (xs ++ x ∷ []) o ≡ with_all xs (with_first x o)
with_all-push xs x (Read ys l) = ap (λ zs. Read zs l) (append_assoc xs (x ∷ []) ys)
with_all-push xs x (Refused r) = refl

-- one more unit of a group
pub group_on : (place depth depth' : ℕ) (start l m : Units) (inside inside' : List Unit) (u : Unit)
    → group place start 0 ≡ with_all (map unit_of inside) (group place l depth)
    → group place l depth ≡ with_first (unit_of u) (group place m depth')
    → inside' ≡ inside ++ u ∷ []
    → group place start 0 ≡ with_all (map unit_of inside') (group place m depth')
group_on place depth depth' start l m inside inside' u h step e =
    let units : map unit_of inside' ≡ map unit_of inside ++ unit_of u ∷ [] = ap (map unit_of) e ∙ map-append unit_of inside (u ∷ []) in
    h ∙ ap (with_all (map unit_of inside)) step ∙ sym (ap (λ xs. with_all xs (group place m depth')) units ∙ with_all-push (map unit_of inside) (unit_of u) (group place m depth'))

pub step_open : (place depth depth' : ℕ) (l m : Units) (u : Unit) → l ≡ Next (unit_of u) m → u.piece ≡ piece.Open → depth' ≡ suc depth → group place l depth ≡ with_first (unit_of u) (group place m depth')
step_open place depth depth' l m u e p d = rw (e, p, d) refl

pub step_close : (place depth depth' : ℕ) (l m : Units) (u : Unit) → l ≡ Next (unit_of u) m → u.piece ≡ piece.Close → depth ≡ suc depth' → group place l depth ≡ with_first (unit_of u) (group place m depth')
step_close place depth depth' l m u e p d = rw (e, p, d) refl

pub no_brace : (p : Piece) → (p ≡ piece.Open → ⊥) → (p ≡ piece.Close → ⊥) → brace_of (piece_of p) ≡ NoBrace
no_brace piece.Space o c = refl
no_brace piece.Open o c = absurd (o refl)
no_brace piece.Close o c = absurd (c refl)
no_brace (piece.Command name) o c = refl
no_brace (piece.Character d) o c = refl

pub step_other : (place depth depth' : ℕ) (l m : Units) (u : Unit) → l ≡ Next (unit_of u) m → (u.piece ≡ piece.Open → ⊥) → (u.piece ≡ piece.Close → ⊥) → depth' ≡ depth → group place l depth ≡ with_first (unit_of u) (group place m depth')
step_other place depth depth' l m u e o c d = rw (e, no_brace u.piece o c, d) refl

-- no sign is between parameters
pub none_between : (n : ℕ) → first_sign (parameters n) ≡ None
none_between zero = refl
none_between (suc n) = refl

-- the next of several arguments
pub each_next : (place left left' : ℕ) (l : Units) → left ≡ suc left' → arguments place (parameters left) l ≡ and_then (argument place l) (λ arg rest. with_first arg (arguments place (parameters left') rest))
each_next place left left' l e = rw (e, none_between left') refl

module _ (place : ℕ) (start : Outcome (List (List units.Unit))) (l m : Units) (found : List (Vec Unit Global)) where
  -- one more argument
  pub arguments_on : (takes takes' : List Taken) (found' : List (Vec Unit Global)) (arg : Vec Unit Global)
      → start ≡ with_all (map units_in found) (arguments place takes l)
      → takes ≡ Parameter ∷ takes'
      → argument_before (first_sign takes') place l ≡ Read (units_in arg) m
      → found' ≡ found ++ arg ∷ []
      → start ≡ with_all (map units_in found') (arguments place takes' m)
  arguments_on takes takes' found' arg h fewer a e =
      let lists : map units_in found' ≡ map units_in found ++ units_in arg ∷ [] = ap (map units_in) e ∙ map-append units_in found (arg ∷ []) in
      let step : arguments place takes l ≡ with_first (units_in arg) (arguments place takes' m) =
      ap (λ k. arguments place k l) fewer ∙ ap (λ o. and_then o (λ x rest. with_first x (arguments place takes' rest))) a in
      h ∙ ap (with_all (map units_in found)) step ∙ sym (ap (λ xs. with_all xs (arguments place takes' m)) lists ∙ with_all-push (map units_in found) (units_in arg) (arguments place takes' m))

  -- one more sign
  pub sign_on : (takes takes' : List Taken) (sign : units.Piece)
      → start ≡ with_all (map units_in found) (arguments place takes l)
      → takes ≡ Sign sign ∷ takes'
      → the_sign sign place l ≡ Read tt m
      → start ≡ with_all (map units_in found) (arguments place takes' m)
  sign_on takes takes' sign h fewer s =
      h ∙ ap (with_all (map units_in found)) (ap (λ k. arguments place k l) fewer ∙ ap (λ o. and_then o (λ x rest. arguments place takes' rest)) s)
