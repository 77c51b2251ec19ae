-- The characters of a length one by one.
use Rattle.std.proofs.Common.{◌≡◌, ◌∙◌, ℕ, ◌+◌, ◌<◌, List, [], ◌∷◌, drop, get_or, length, suc, zero, refl, sym, ap, arith}
use Rattle.latex2mathml_tex_grammar.specs.Lengths.{Length, with_all, with_character}

-- the character at an index, and those after it
parted : (i : ℕ) (cs : List ℕ) → i < length cs → drop i cs ≡ get_or cs i 0 ∷ drop (suc i) cs
parted i [] h = absurd (omega (arith, h))
parted zero (c ∷ cs) h = refl
parted (suc i) (c ∷ cs) h = parted i cs (omega (arith, h))

pub one_told : (whole : Length) (i : ℕ) (cs : List ℕ) (before after : Length) (c : ℕ) → i < length cs → c ≡ get_or cs i 0 → after ≡ with_character before c → whole ≡ with_all before (drop i cs) → whole ≡ with_all after (drop (i + 1) cs)
one_told whole i cs before after c h is put so_far =
    let next : i + 1 ≡ suc i = omega arith in
    so_far ∙ ap (with_all before) (parted i cs h) ∙ ap (λ d. with_all (with_character before d) (drop (suc i) cs)) (sym is) ∙ ap (λ l. with_all l (drop (suc i) cs)) (sym put) ∙ ap (λ k. with_all after (drop k cs)) (sym next)
