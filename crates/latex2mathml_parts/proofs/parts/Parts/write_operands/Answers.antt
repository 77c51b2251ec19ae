use Rattle.std.proofs.Common.{append_assoc}
use Rattle.latex2mathml_parts.specs.Forests.{trees_at}
use Rattle.latex2mathml_parts.proofs.parts.Parts.write_operands.Goals as goal

pub returns-in_ok-push_work-in-Fenced-clause-print : goal.returns-in_ok-push_work-in-Fenced-clause-print
returns-in_ok-push_work-in-Fenced-clause-print c = rw (← c.shape_of-tag.ensures.markup (trees_at c.args.self.now c.args.end), c.in-Fenced.is, c.in_ok-push_work-in-Fenced.ensures.print, c.in_ok-push_str-in-Fenced.ensures.bytes, c.opening_markup.ensures, c.in_ok-write_opening.ensures) (simp append_assoc)

pub returns-in_ok-push_work-in-Signed-clause-print : goal.returns-in_ok-push_work-in-Signed-clause-print
returns-in_ok-push_work-in-Signed-clause-print c = rw (← c.shape_of-tag.ensures.markup (trees_at c.args.self.now c.args.end), c.in-Signed.is, c.in_ok-push_work-in-Signed.ensures.print, c.in_ok-write_opening.ensures) (simp append_assoc)
