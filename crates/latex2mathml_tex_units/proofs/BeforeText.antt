-- Units that were put before a text.
use Rattle.std.specs.List.{slice_get}
use Rattle.std.proofs.Common.{◌≡◌, suc, ◌-◌, length, Some, None, List, [], ◌∷◌, ◌++◌, refl, sym, ap, ◌∙◌, arith}
use Rattle.latex2mathml_tex_grammar.specs.{Units.Units}
use Rattle.latex2mathml_tex_grammar.specs.Units as units
use Rattle.latex2mathml_tex_units.specs.{Pending.next_piece, Pending.put_before, Taking.piece_of, Taking.unit_of, declared.unit.Unit.Unit}

pub put_before-push : (us : List Unit) (u : Unit) (l : Units) → put_before (us ++ u ∷ []) l ≡ units.Next (unit_of u) (put_before us l)
put_before-push [] u l = refl
put_before-push (v ∷ us) u l = put_before-push us u (units.Next (unit_of v) l)

pub put_before-last : (old new : List Unit) (u : Unit) (l : Units) → old ≡ new ++ u ∷ [] → put_before old l ≡ units.Next (unit_of u) (put_before new l)
put_before-last old new u l e = ap (λ us. put_before us l) e ∙ put_before-push new u l

-- what was put last is next
pub last_next : (us : List Unit) (l : Units) (u : Unit) → slice_get us (length us - 1) ≡ Some u → Some (piece_of u.piece) ≡ next_piece (put_before us l)
last_next [] l u e = absurd (none_some u e)
  where
    none_some : (u : Unit) → None ≡ Some u → ⊥
    none_some u e = cc
last_next (v ∷ []) l u e =
    let one : length (v ∷ []) - 1 ≡ 0 = omega arith in
    let same : Some v ≡ Some u = ap (slice_get (v ∷ [])) (sym one) ∙ e in
    let is : v ≡ u = cc in
    ap (λ w. Some (piece_of w.piece)) (sym is)
last_next (v ∷ w ∷ us) l u e =
    let more : length (v ∷ w ∷ us) - 1 ≡ suc (length (w ∷ us) - 1) = omega arith in
    last_next (w ∷ us) (units.Next (unit_of v) l) u (ap (slice_get (v ∷ w ∷ us)) (sym more) ∙ e)
