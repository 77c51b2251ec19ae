use Rattle.std.proofs.Common.{◌+◌, refl}
use Rattle.latex2mathml_tex_grammar.specs.Refusal.{IncompleteArrow, refusal_at}
use Rattle.latex2mathml_tex.specs.Frames.{ending_count}
use Rattle.latex2mathml_tex.specs.declared.parse.endings.Ending.TheVariants as ending
use Rattle.latex2mathml_tex.proofs.Diagrams.{first_label_unended, second_label_due}
use Rattle.latex2mathml_tex.proofs.TableRules.{refused_at}
use Rattle.latex2mathml_tex.proofs.parse.Parser.close_first_label.Goals as goal

pub returns-then-not-is_sign_of-clause-holds : goal.returns-then-not-is_sign_of-clause-holds
returns-then-not-is_sign_of-clause-holds c = λ s g.
    let p = c.args.self.now in
    let k = c.args.labeled in
    rw c.refuse.ensures.state
    (refused_at s p c.refuse.new.self (c.args.row.count + ending_count (ending.FirstLabel k)) (refusal_at IncompleteArrow c.args.at) (rw c.refuse.ensures.parser refl) (rw c.refuse.ensures.parser refl) g.style (first_label_unended s p k c.args.at c.args.row c.args.unit c.if-not-is_sign_of.ensures.test g))

pub returns-clause-holds : goal.returns-clause-holds
returns-clause-holds c = λ s g.
    c.open.ensures.holds s g.style (second_label_due s c.args.self.now c.put_first_label.new.builder c.args.labeled c.args.at c.args.row c.args.unit c.innermost.result c.context-around.result c.styled-small.result c.innermost.ensures c.context-around.ensures c.styled-small.ensures c.in_ok-put_first_label.ensures c.empty.result c.empty.ensures c.if-not-is_sign_of.ensures.test g)
