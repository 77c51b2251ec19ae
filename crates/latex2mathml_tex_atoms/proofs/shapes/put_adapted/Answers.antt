use Rattle.std.proofs.Common.{◌≡◌, ◌+◌, ◌∙◌, suc, ap, arith, length, of_z, pos, sym, take, to_z, w32}
use Rattle.std.proofs.lemmas.Int.{ints}
use Rattle.latex2mathml_builder.specs.Built.{elements_in}
use Rattle.latex2mathml_tex_commands.specs.Meanings.{style_of}
use Rattle.latex2mathml_tex_atoms.specs.Models.{before_of, kind_of}
use Rattle.latex2mathml_tex_atoms.proofs.Shaping.{length_changed, length_parted, put_adapted, put_parted}
use Rattle.latex2mathml_tex_atoms.proofs.shapes.put_adapted.Goals as goal
use Rattle.latex2mathml_tex_atoms.proofs.shapes.put_adapted.Goals.{After-adapt, In_ok-space_below}

adapted : (c : After-adapt) → length (elements_in c.adapt.new.builder) ≡ length (elements_in c.args.builder.now)
adapted c = ap length c.adapt.ensures ∙ length_changed _ 0 (elements_in c.args.builder.now)

parted : (c : In_ok-space_below) → length (elements_in c.space_below.new.self) ≡ suc (length (elements_in c.args.builder.now))
parted c =
    ap length c.in_ok-space_below.ensures.elements
    ∙ length_parted _ (elements_in c.adapt.new.builder)
    ∙ ap suc (ap length c.adapt.ensures ∙ length_changed _ 0 (elements_in c.args.builder.now))

pub space_below-requires : goal.space_below-requires
space_below-requires c = omega (arith, adapted (goal.at.space_below-requires c).After-adapt)

pub overflow_add-result : goal.overflow_add-result
overflow_add-result c = omega (arith, parted (goal.at.overflow_add-result c).In_ok-space_below)

pub returns-then-gap-ne0-clause-count : goal.returns-then-gap-ne0-clause-count
returns-then-gap-ne0-clause-count c = omega (arith, parted (goal.at.returns-then-gap-ne0-clause-count c).In_ok-space_below)

pub overflow_add-result-2 : goal.overflow_add-result-2
overflow_add-result-2 c = omega (arith, adapted (goal.at.overflow_add-result-2 c).After-adapt)

pub returns-clause-count : goal.returns-clause-count
returns-clause-count c = omega (arith, adapted (goal.at.returns-clause-count c).After-adapt)

pub returns-clause-elements : goal.returns-clause-elements
returns-clause-elements c =
    let xs = elements_in c.args.builder.now in
    let n = c.args.count in
    let next : n + 1 ≡ suc n = omega arith in
    let none : c.gap-gap.result ≡ pos 0 = omega (arith, ints, c.if-gap-ne0.false) in
    rw (c.in-Apart.is, next)
    (ap (take (suc n)) c.adapt.ensures ∙ put_adapted n (style_of c.args.style) (before_of c.args.before) (kind_of c.args.kind) xs (omega arith) (sym c.gap-gap.ensures ∙ none))

pub returns-then-gap-ne0-clause-elements : goal.returns-then-gap-ne0-clause-elements
returns-then-gap-ne0-clause-elements c =
    let n = c.args.count in
    let gap = c.gap-gap.result in
    let next : n + 2 ≡ suc (suc n) = omega arith in
    let same : to_z w32 (of_z w32 gap) ≡ gap = omega (arith, ints) in
    let some : to_z w32 (of_z w32 gap) ≡ pos 0 → ⊥ = λ none. omega (arith, ints, none, c.if-gap-ne0.true) in
    rw (c.in-Apart.is, next)
    (ap (take (suc (suc n))) c.in_ok-space_below.ensures.elements ∙ put_parted n (style_of c.args.style) (before_of c.args.before) (kind_of c.args.kind) (to_z w32 (of_z w32 gap)) (elements_in c.args.builder.now) (elements_in c.adapt.new.builder) (omega arith) some (same ∙ c.gap-gap.ensures) c.adapt.ensures)
