use Rattle.std.proofs.Common.{◌+◌, arith, drop, refl}
use Rattle.std.proofs.lemmas.List.{length-drop}
use Rattle.latex2mathml_tex.specs.Steps.{elements_of}
use Rattle.latex2mathml_tex_grammar.specs.Refusal.{IncompleteArrow, refusal_at}
use Rattle.latex2mathml_tex.specs.Frames.{ending_count}
use Rattle.latex2mathml_tex.specs.declared.parse.endings.Ending.TheVariants as ending
use Rattle.latex2mathml_tex.proofs.Diagrams.{labels_joined, second_label_unended}
use Rattle.latex2mathml_tex.proofs.TableRules.{refused_at}
use Rattle.latex2mathml_tex.proofs.parse.Parser.close_second_label.Goals as goal

pub returns-then-not-is_sign_of-clause-holds : goal.returns-then-not-is_sign_of-clause-holds
returns-then-not-is_sign_of-clause-holds c = λ s g.
    let p = c.args.self.now in
    let k = c.args.labeled in
    rw c.refuse.ensures.state
    (refused_at s p c.refuse.new.self (c.args.row.count + ending_count (ending.SecondLabel k)) (refusal_at IncompleteArrow c.args.at) (rw c.refuse.ensures.parser refl) (rw c.refuse.ensures.parser refl) g.style (second_label_unended s p k c.args.at c.args.row c.args.unit c.if-not-is_sign_of.ensures.test g))

pub next_cell-requires : goal.next_cell-requires
next_cell-requires c =
    let xs = elements_of c.args.self.now in
    let n = c.args.row.count in
    let can = c.requires.can in
    record {
      can = record {
        elements = rw c.in_ok-put_labeled_arrow.ensures (omega (arith, can.elements, length-drop n xs, length-drop 2 (drop n xs)));
        awaits = record { accepted = can.awaits.accepted; nested = can.awaits.nested };
      };
    }

pub returns-clause-holds : goal.returns-clause-holds
returns-clause-holds c = λ s g.
    c.next_cell.ensures.holds s (labels_joined s c.args.self.now c.put_labeled_arrow.new.builder c.args.labeled c.args.at c.args.row c.args.unit c.in_ok-put_labeled_arrow.ensures c.if-not-is_sign_of.ensures.test g)
