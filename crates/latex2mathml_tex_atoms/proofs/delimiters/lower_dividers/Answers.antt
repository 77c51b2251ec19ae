use Rattle.std.proofs.Common.{◌≡◌, ◌+◌, ◌∙◌, suc, ap, arith}
use Rattle.latex2mathml_builder.specs.Built.{elements_in}
use Rattle.latex2mathml_tex_grammar.specs.Makes
use Rattle.latex2mathml_tex_atoms.specs.Shapes.{changed_at, mapped_first}
use Rattle.latex2mathml_tex_atoms.proofs.Shaping.{mapped_more, mapped_none}
use Rattle.latex2mathml_tex_atoms.proofs.delimiters.lower_dividers.Goals as goal

pub elements-init : goal.elements-init
elements-init c = mapped_none Makes.lowered_divider (elements_in c.args.builder.now)

pub elements-preserved : goal.elements-preserved
elements-preserved c =
    let xs = elements_in c.args.builder.now in
    let n = c.elements.depth in
    let next : suc n ≡ n + 1 = omega arith in
    c.lower_divider.ensures
    ∙ ap (changed_at Makes.lowered_divider n) c.elements.invariant
    ∙ mapped_more Makes.lowered_divider n xs
    ∙ ap (λ m. mapped_first Makes.lowered_divider m xs) next
