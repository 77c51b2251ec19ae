use Rattle.std.proofs.Common.{codes}
use Rattle.latex2mathml_tex_program.specs.Replies.{as_all, in_block, in_line, unsaid}
use Rattle.latex2mathml_tex_program.proofs.FirstLines.{behind_line}
use Rattle.latex2mathml_tex_program.proofs.reply.formula_in.Goals as goal

pub returns-in-All : goal.returns-in-All
returns-in-All c = rw c.in-All.is as_all

pub returns-in-Some : goal.returns-in-Some
returns-in-Some c = rw c.in-Each.is (in_block c.in-Some.tex.now (behind_line (codes "block\n") c.args.text.now c.in-Some.tex.now c.in-Some.ensures.cases))

pub returns-in-Some-strip_prefix : goal.returns-in-Some-strip_prefix
returns-in-Some-strip_prefix c =
    rw c.in-Each.is (in_line c.in-Some-strip_prefix.tex.now (behind_line (codes "inline\n") c.args.text.now c.in-Some-strip_prefix.tex.now c.in-Some-strip_prefix.ensures.cases))

pub returns-in_default-strip_prefix : goal.returns-in_default-strip_prefix
returns-in_default-strip_prefix c = rw c.in-Each.is (unsaid c.in_default-strip_prefix.ensures.cases c.in_default.ensures.cases)
