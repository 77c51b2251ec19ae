use Rattle.std.proofs.Common.{append_assoc, refl, rules}
use Rattle.std.proofs.Output.{has_written_append, has_written_of_eq}
use Rattle.std.proofs.lemmas.Grind.{put_three, put_two}
use Rattle.latex2mathml_nodes.proofs.Prints.{one_more}
use Rattle.latex2mathml_trees.specs.Print.{member_print, members_print, print, prints}
use Rattle.latex2mathml_nodes.proofs.ast.print.+print.Goals as goal

pub write_all-loop-node-preserved : goal.write_all-loop-node-preserved
write_all-loop-node-preserved g t c = λ plain.
    has_written_of_eq _ _ _ _ _ (one_more prints print refl (λ x rest. refl) c.args.nodes.now c.loop-node.node-index c.node-item.result c.loop-node-test.true c.node-item.is) (has_written_append _ _ _ _ _ _ (c.loop-node.invariant plain) (search rules))

pub write_members-loop-node-preserved : goal.write_members-loop-node-preserved
write_members-loop-node-preserved g t c = λ plain.
    has_written_of_eq _ _ _ _ _ (one_more members_print (λ x. member_print x (print x)) refl (λ x rest. refl) c.args.members.now c.loop-node.node-index c.node-item.result c.loop-node-test.true c.node-item.is) (has_written_append _ _ _ _ _ _ (c.loop-node.invariant plain) (search rules))

pub write_applied-returns : goal.write_applied-returns
write_applied-returns g t c = λ plain ok.
    let named = c.in_ok-write_text.ensures plain refl in
    put_two _ _ _ _ _ _ _ named (c.write_node.ensures named.plain ok) (simp append_assoc)

pub write_fenced-returns : goal.write_fenced-returns
write_fenced-returns g t c = λ plain ok.
    let opened = c.in_ok-write_text.ensures plain refl in
    let filled = c.in_ok-write_node.ensures opened.plain refl in
    put_three _ _ _ _ _ _ _ _ _ opened filled (c.write_text-2.ensures filled.plain ok) (simp append_assoc)
