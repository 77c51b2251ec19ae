-- The operands that are still to come, unit by unit.
use Rattle.std.proofs.Common.{◌≡◌, ◌∙◌, ◌+◌, ◌-◌, ◌<◌, ℕ, List, [], ◌∷◌, ◌++◌, drop, take, get_or, length, map, refl, ap, sym}
use Rattle.std.proofs.Math.Seq.{drop-append_seam, take-length}
use Rattle.std.proofs.lemmas.List.{drop_more, length-drop, map-append}
use Rattle.latex2mathml_tex_grammar.specs.Operands.{Due, due_behind, due_behind_units}
use Rattle.latex2mathml_tex_grammar.specs.Units as units
use Rattle.latex2mathml_tex_units.specs.{Taking.piece_of, Taking.unit_of, declared.unit.Unit.Unit}

behind-append : (xs ys : List units.Unit) (d : Due) → due_behind_units (xs ++ ys) d ≡ due_behind_units ys (due_behind_units xs d)
behind-append [] ys d = refl
behind-append (x ∷ xs) ys d = behind-append xs ys (due_behind x.piece d)

-- behind these units, and more after them
pub behind_more : (us vs : List Unit) (d : Due) → due_behind_units (map unit_of (us ++ vs)) d ≡ due_behind_units (map unit_of vs) (due_behind_units (map unit_of us) d)
behind_more us vs d = ap (λ xs. due_behind_units xs d) (map-append unit_of us vs) ∙ behind-append (map unit_of us) (map unit_of vs) d

-- one more unit was passed
pub passed_on : (us : List Unit) (k : ℕ) (x : Unit) (d e start : Due) → k < length us → due_behind_units (map unit_of (drop k us)) d ≡ start → e ≡ due_behind (piece_of (get_or us k x).piece) d
    → due_behind_units (map unit_of (drop (k + 1) us)) e ≡ start
passed_on us k x d e start within same passed =
    ap (due_behind_units (map unit_of (drop (k + 1) us))) passed
    ∙ sym (ap (λ vs. due_behind_units (map unit_of vs) d) (drop_more us k x within)) ∙ same

-- what is behind the units of a list
pub behind_list : (old taken us : List Unit) (n : ℕ) → us ≡ old ++ taken → n ≡ length old → take (length us - n) (drop n us) ≡ taken
behind_list old taken us n e m =
    let rest : drop n us ≡ taken = ap (drop n) e ∙ ap (λ k. drop k (old ++ taken)) m ∙ drop-append_seam old taken in
    ap (λ k. take k (drop n us)) (sym (length-drop n us)) ∙ take-length (drop n us) ∙ rest
