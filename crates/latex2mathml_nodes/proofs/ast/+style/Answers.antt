use Rattle.std.proofs.Common.{rules, arith, ◌∙◌, ap, sym}
use Rattle.latex2mathml_trees.specs.Style.{styled}
use Rattle.latex2mathml_nodes.specs.Nodes.{tree}
use Rattle.latex2mathml_nodes.proofs.Styles.{styled_more}
use Rattle.latex2mathml_nodes.proofs.ast.+style.Goals as goal

pub style::set_all-loop-node-preserved : goal.style::set_all-loop-node-preserved
style::set_all-loop-node-preserved t c = record {
  unvisited = search rules;
  so_far = styled_more _ _ _ _ _ _ (omega arith) (omega arith) (c.node-item.is ∙ c.loop-node.invariant.unvisited.1 _ _ (omega arith)) c.loop-node.invariant.so_far (c.set_variant.ensures ∙ ap (λ z. styled c.args.variant (tree z)) (sym c.node-item.is));
}
