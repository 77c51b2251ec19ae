-- The prints of the nodes so far are written. Also how much each function still has to print.
use Rattle.std.proofs.Common.{take, ◌+◌, ◌*◌}
use Rattle.std.specs.Fmt.{HasWritten, IsPlainFormatter}
use Rattle.latex2mathml_trees.specs.{Print.members_print, Print.prints, Weight.weight, Weight.weights}
use Rattle.latex2mathml_nodes.specs.Nodes.{tree, trees}
use Rattle.latex2mathml_nodes.proofs.ast.print.+print.Given as goal

abbrev pub invariant-write_all-loop-node : goal.invariant-write_all-loop-node
invariant-write_all-loop-node g l =
    IsPlainFormatter l.initial.f → HasWritten g.W.Write.write_str_gives l.initial.f (prints (trees (take l.node-index l.nodes))) l.f

abbrev pub invariant-write_members-loop-node : goal.invariant-write_members-loop-node
invariant-write_members-loop-node g l =
    IsPlainFormatter l.initial.f → HasWritten g.W.Write.write_str_gives l.initial.f (members_print (trees (take l.node-index l.members))) l.f

abbrev pub decreases-write_node : goal.decreases-write_node
decreases-write_node g l = 6 * weight (tree l.node.now)

abbrev pub decreases-write_one : goal.decreases-write_one
decreases-write_one g l = 6 * weight (tree l.a.now) + 1

abbrev pub decreases-write_two : goal.decreases-write_two
decreases-write_two g l = 6 * (weight (tree l.a.now) + weight (tree l.b.now)) + 1

abbrev pub decreases-write_three : goal.decreases-write_three
decreases-write_three g l = 6 * (weight (tree l.a.now) + weight (tree l.b.now) + weight (tree l.c.now)) + 1

abbrev pub decreases-write_applied : goal.decreases-write_applied
decreases-write_applied g l = 6 * weight (tree l.x.now) + 1

abbrev pub decreases-write_all : goal.decreases-write_all
decreases-write_all g l = 6 * weights (trees l.nodes.now)

abbrev pub decreases-write_member : goal.decreases-write_member
decreases-write_member g l = 6 * weight (tree l.node.now) + 1

abbrev pub decreases-write_members : goal.decreases-write_members
decreases-write_members g l = 6 * weights (trees l.members.now)

abbrev pub decreases-write_accented : goal.decreases-write_accented
decreases-write_accented g l = 6 * weight (tree l.x.now) + 1

abbrev pub decreases-write_fraction : goal.decreases-write_fraction
decreases-write_fraction g l = 6 * (weight (tree l.numerator.now) + weight (tree l.denominator.now)) + 2

abbrev pub decreases-write_row : goal.decreases-write_row
decreases-write_row g l = 6 * weights (trees l.members.now) + 1

abbrev pub decreases-write_fenced : goal.decreases-write_fenced
decreases-write_fenced g l = 6 * weight (tree l.content.now) + 1

abbrev pub decreases-write_matrix : goal.decreases-write_matrix
decreases-write_matrix g l = 6 * weights (trees l.members.now) + 1

abbrev pub decreases-write_slashed : goal.decreases-write_slashed
decreases-write_slashed g l = 6 * weight (tree l.x.now) + 1

abbrev pub decreases-write_styled : goal.decreases-write_styled
decreases-write_styled g l = 6 * weight (tree l.x.now) + 2
