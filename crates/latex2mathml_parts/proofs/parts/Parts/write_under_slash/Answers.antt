use Rattle.std.proofs.Common.{append_assoc}
use Rattle.latex2mathml_parts.proofs.parts.Parts.write_under_slash.Goals as goal

pub returns-in_ok-write_char-in-Of-Letter-clause-print : goal.returns-in_ok-write_char-in-Of-Letter-clause-print
returns-in_ok-write_char-in-Of-Letter-clause-print c = rw (c.in_ok-write_char-in-Of-Letter.ensures, c.letter_open.ensures, c.part_at.ensures.trees, c.in-Of-Letter.is, rw c.in-Of-Letter.is at c.in-Of-Letter.field-0-is) (simp append_assoc)
