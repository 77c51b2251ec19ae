use Rattle.std.proofs.Common.{◌≡◌, ◌≤◌, ◌+◌, ℕ, zero, suc, List, [], ◌∷◌, arith, drop, length, refl, take}
use Rattle.std.proofs.lemmas.List.{drop-drop}
use Rattle.latex2mathml_elements.specs.Element.{Element}
use Rattle.latex2mathml_builder.specs.Built.{elements_in}
use Rattle.latex2mathml_tex_grammar.specs.{Rests.drawn, Rests.with_drawn, Rows.Look, Symbols.Style}
use Rattle.latex2mathml_tex_commands.specs.Meanings.{style_of}
use Rattle.latex2mathml_tex_atoms.specs.Models.{look_of, under_count}
use Rattle.latex2mathml_tex_atoms.proofs.rests.settle.Goals as goal

-- where elements follow a change, they are one element
one_element : (look : Look) (style : Style) (n : ℕ) (xs before : List Element) → (n ≡ 0 → ⊥) → n ≤ length xs → with_drawn look style (take n xs) before ≡ drawn look style (take n xs) ∷ before
one_element look style zero xs before some enough = absurd (some refl)
one_element look style (suc n) [] before some enough = absurd (omega (arith, enough))
one_element look style (suc n) (x ∷ xs) before some enough = refl

pub returns-clause-row : goal.returns-clause-row
returns-clause-row c =
    let row = c.args.row in
    let ys = elements_in c.args.builder.now in
    let enough : row.count ≤ length ys = omega (arith, c.requires) in
    let one = one_element (look_of c.in-Some.look) (style_of c.args.style) row.count ys (take row.settled (drop row.count ys)) c.if-row-eq0.false enough in
    let next : row.settled + 1 ≡ suc row.settled = omega arith in
    let far : row.settled + 1 + 0 ≡ suc row.settled = omega arith in
    rw (c.unchanged-2.ensures, c.in-Some.is, c.in_ok-put_drawn.ensures, one, far, next, drop-drop row.settled row.count ys) refl

pub returns-clause-below : goal.returns-clause-below
returns-clause-below c =
    let row = c.args.row in
    let ys = elements_in c.args.builder.now in
    let under = under_count row.under in
    let place : row.settled + 1 + (0 + under) ≡ suc (row.settled + under) = omega arith in
    rw (c.unchanged-2.ensures, c.in-Some.is, c.in_ok-put_drawn.ensures, place) (drop-drop (row.settled + under) row.count ys)
