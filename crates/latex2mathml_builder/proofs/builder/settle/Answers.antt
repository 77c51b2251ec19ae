use Rattle.std.proofs.Common.{◌+◌, ◌∙◌, ◌++◌, ap, length, sym}
use Rattle.std.specs.List.{swap}
use Rattle.latex2mathml_builder.specs.Stacks.{ordered}
use Rattle.latex2mathml_builder.proofs.Joined.{exchanged_behind}
use Rattle.latex2mathml_builder.proofs.builder.settle.Goals as goal

pub returns-then-parts-ge2-clause-items : goal.returns-then-parts-ge2-clause-items
returns-then-parts-ge2-clause-items c =
    let old = c.args.settled.now.items in
    let parts = c.args.parts.now in
    let first = length c.as_slice-first.result.now in
    c.swap.ensures.items
    ∙ ap (λ l. swap l first (first + 1)) c.in_ok-append_parts.ensures.items
    ∙ ap (λ n. swap (old ++ parts) n (n + 1)) (ap length c.as_slice-first.ensures.value)
    ∙ exchanged_behind old parts c.if-parts-ge2.true
    ∙ ap (λ b. old ++ ordered b parts) (sym c.if-is_exchanged.true)
