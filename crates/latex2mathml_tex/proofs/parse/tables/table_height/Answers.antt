use Rattle.std.proofs.Common.{rules, ◌≡◌, ◌<◌, ◌≤◌, ℕ, List, [], ◌∷◌, arith, length, refl, suc, take, zero}
use Rattle.latex2mathml_elements.specs.Element.{Element}
use Rattle.latex2mathml_tex_grammar.specs.Heights.{VeryTall}
use Rattle.latex2mathml_tex_grammar.specs.Tables.{height_of}
use Rattle.latex2mathml_tex.proofs.parse.tables.table_height.Goals as goal

-- more than two rows
many : (n : ℕ) (rows : List Element) → (n ≡ 1 → ⊥) → (n ≡ 2 → ⊥) → 0 < n → n ≤ length rows → VeryTall ≡ height_of (take n rows)
many zero rows one two some enough = absurd (omega (arith, some))
many (suc zero) rows one two some enough = absurd (one refl)
many (suc (suc zero)) rows one two some enough = absurd (two refl)
many (suc (suc (suc n))) [] one two some enough = absurd (omega (arith, enough))
many (suc (suc (suc n))) (x ∷ []) one two some enough = absurd (omega (arith, enough))
many (suc (suc (suc n))) (x ∷ y ∷ []) one two some enough = absurd (omega (arith, enough))
many (suc (suc (suc n))) (x ∷ y ∷ z ∷ rows) one two some enough = refl

pub returns-in_default : goal.returns-in_default
returns-in_default c = λ rows some enough. many c.args.rows rows (λ one. search rules) (λ two. search rules) some enough
