use Rattle.std.proofs.Common.{ap}
use Rattle.latex2mathml_nodes.proofs.Layers.{same_inside, same_layers}
use Rattle.latex2mathml_nodes.proofs.ast.equality.+same.Goals as goal

pub same_contents-returns-then-kind-other_kind : goal.same_contents-returns-then-kind-other_kind
same_contents-returns-then-kind-other_kind t c =
    (λ h. cc, λ e. absurd (c.if-kind-other_kind.true (ap (λ l. l.0) (same_layers _ _ _ _ c.layer-kind.ensures c.layer-other_kind.ensures e))))

pub same_contents-returns-then-is : goal.same_contents-returns-then-is
same_contents-returns-then-is t c =
    let both = same_inside _ _ _ _ _ _ _ _ c.layer-kind.ensures c.layer-other_kind.ensures c.if-kind-other_kind.false (c.is.ensures.0 c.if-is.true) in
    (λ h. both.0 (c.same_inner.ensures.0 h), λ e. c.same_inner.ensures.1 (both.1 e))

pub same_contents-returns-else-is : goal.same_contents-returns-else-is
same_contents-returns-else-is t c =
    (λ h. absurd (cc), λ e. c.is.ensures.1 (ap (λ l. l.1) (same_layers _ _ _ _ c.layer-kind.ensures c.layer-other_kind.ensures e)))
