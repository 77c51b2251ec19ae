use Rattle.std.proofs.Common.{◌≡◌, ◌≤◌, ℕ, zero, suc, List, [], ◌∷◌, Some, arith, drop, length, refl, take}
use Rattle.std.proofs.lemmas.List.{length-drop}
use Rattle.latex2mathml_elements.specs.Element.{Element}
use Rattle.latex2mathml_builder.specs.Built.{elements_in}
use Rattle.latex2mathml_tex_grammar.specs.{Atoms.Kind, Rests.alone_behind, Rests.with_sign_alone}
use Rattle.latex2mathml_tex_atoms.specs.Models.{kind_of, row_count, row_with, settled_count}
use Rattle.latex2mathml_tex_atoms.specs.declared.{atoms.Row.Row, rests.Look.Look}
use Rattle.latex2mathml_tex_atoms.proofs.rests.isolate_changed.Goals as goal

-- where elements precede a change, nothing is removed behind it
not_alone : (n : ℕ) (before : List Element) (last : Kind) (xs : List Element) → (n ≡ 0 → ⊥) → n ≤ length before → alone_behind (take n before) last xs ≡ xs
not_alone zero before last xs some enough = absurd (some refl)
not_alone (suc n) [] last xs some enough = absurd (omega (arith, enough))
not_alone (suc n) (x ∷ before) last xs some enough = refl

row_not_alone : (row : Row) (xs : List Element) (look : Look) → row.restyled ≡ Some look → (row.settled ≡ 0 → ⊥) → row_count row ≤ length xs → row_with row xs ≡ with_sign_alone (row_with row xs)
row_not_alone row xs look is some enough =
    let rest : settled_count row.restyled row.settled ≡ row.settled = rw is refl in
    let before : row.settled ≤ length (drop row.count xs) = omega (arith, enough, rest, length-drop row.count xs) in
    rw (is, not_alone row.settled (drop row.count xs) (kind_of row.last) (take row.count xs) some before) refl

pub returns-else-row-eq0-clause-row : goal.returns-else-row-eq0-clause-row
returns-else-row-eq0-clause-row c = row_not_alone c.args.row (elements_in c.args.builder.now) c.in-Some.field-0 c.in-Some.is c.if-row-eq0.false c.requires
