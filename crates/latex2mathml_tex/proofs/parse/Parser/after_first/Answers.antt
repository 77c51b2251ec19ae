use Rattle.latex2mathml_tex.specs.Levels.{Leads}
use Rattle.latex2mathml_tex.specs.Steps.{left_of, level_within}
use Rattle.latex2mathml_tex.proofs.Seconds.{IsOuter, base_due, denominator_due, line_due, outlined_due, relation_due, scripts_due, smallest_due}
use Rattle.latex2mathml_tex.proofs.parse.Parser.after_first.Goals as goal
use Rattle.latex2mathml_tex.proofs.parse.Parser.after_first.Goals.{in-Fraction, in-InBlock, in-InLine, in-InScripts, in-Outlined, in-Stack, in-StackedRelation}

pub returns-clause-holds : goal.returns-clause-holds
returns-clause-holds c = λ s g.
    let operand = c.args.operand in
    let p = c.args.self.now in
    let one = c.args.first in
    let place = c.args.place in
    let outer : IsOuter s p one place c.args.context operand c.context-outer.result = (c.innermost.result, c.context-outer.ensures, c.innermost.ensures) in
    let due : Leads (level_within c.match-first.open 0 s p) (left_of p) = elim c.match-first.branch [
      | in-Fraction w ↦ rw w.open-is (denominator_due s p one place c.args.context operand w.in-Fraction.rule w.in-Fraction.own w.in-Fraction.style w.in-Fraction.is g)
      | in-Outlined w ↦ rw w.open-is (outlined_due s p one place c.args.context operand w.in-Outlined.outline w.in-Outlined.style w.in-Outlined.is g)
      | in-Stack w ↦ rw w.open-is (base_due s p one place c.args.context operand w.in-Stack.side c.context-outer.result w.in-Stack.is outer g)
      | in-StackedRelation w ↦ rw w.open-is (relation_due s p one place c.args.context operand c.context-outer.result w.in-StackedRelation.is outer g)
      | in-InBlock w ↦ rw w.open-is (line_due s p one place c.args.context operand w.in-InBlock.is g)
      | in-InLine w ↦ rw (w.open-is, w.in_line.ensures) (scripts_due s p one place c.args.context operand w.in-InLine.before w.in-InLine.is g)
      | in-InScripts w ↦ rw (w.open-is, w.in_scripts.ensures) (smallest_due s p one place c.args.context operand w.in-InScripts.before w.in-InScripts.is g)
    ] in
    c.open.ensures.holds s g.style due
