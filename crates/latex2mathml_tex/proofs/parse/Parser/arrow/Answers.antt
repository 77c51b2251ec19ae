use Rattle.std.proofs.Common.{[], ◌∷◌, None, Some, arith, subst}
use Rattle.latex2mathml_tex_grammar.specs.{Makes.arrow, Makes.arrow_label, Makes.arrow_sign, Rows.row_element, Symbols.InScript}
use Rattle.latex2mathml_tex_grammar.specs.Rules.{Context, InBrackets, a_character, gives, of_one, reads_atoms, styled}
use Rattle.latex2mathml_tex_units.specs.Left.{units_at}
use Rattle.latex2mathml_tex.specs.Frames.{context_at, labeled_arrow}
use Rattle.latex2mathml_tex_atoms.specs.Models.{context_of}
use Rattle.latex2mathml_tex.specs.Steps.{Begins, left_of, level}
use Rattle.latex2mathml_tex_units.proofs.Nexts.{no_more_taken}
use Rattle.latex2mathml_tex.proofs.{RuleSteps.begun, Leading.operand_due, Leading.row_due, Putting.past_none, Putting.past_units, Rows.step_within}
use Rattle.latex2mathml_tex.proofs.parse.Parser.arrow.Goals as goal

pub open-requires-clause-can : goal.open-requires-clause-can
open-requires-clause-can c =
    let can = c.requires.begin in
    record {
      elements = rw (c.in_ok-put_arrow.ensures, c.empty.ensures) (omega (arith, can.elements));
      awaits = record { accepted = can.awaits.accepted; nested = can.awaits.nested };
    }

pub returns-then-take_character-clause-holds : goal.returns-then-take_character-clause-holds
returns-then-take_character-clause-holds c = λ s g.
    let p = c.args.self.now in
    let i = c.take_character.new.self in
    let place = c.args.place in
    let sign = c.args.sign in
    let small = styled (context_of c.args.context) InScript in
    let below = past_units s p i (λ bracket. reads_atoms (InBrackets place) small (λ row. of_one place small (λ x. arrow sign (Some (row_element row.elements)) x.element))) (91 ∷ []) c.if-take_character.ensures.next (begun g) in
    let due = subst (λ (d : Context). Begins (reads_atoms (InBrackets place) small (λ row. of_one place (styled d InScript) (λ x. labeled_arrow (arrow_sign sign) (arrow_label (row_element row.elements)) x.element))) 0 s (record p { input = i })) g.context below in
    c.open.ensures.holds s g.style (rw (c.in_ok-put_arrow.ensures, c.empty.ensures, c.styled-small.ensures) (row_due (λ row. of_one place (styled (context_at (level 0 s p)) InScript) (λ x. labeled_arrow (arrow_sign sign) (arrow_label (row_element row.elements)) x.element)) due.leads))

pub returns-then-take_character-clause-step : goal.returns-then-take_character-clause-step
returns-then-take_character-clause-step c =
    let p = c.args.self.now in
    let i = c.take_character.new.self in
    let less = no_more_taken (a_character 91 ∷ []) (left_of p) (units_at i) (91 ∷ []) c.if-take_character.ensures.next in
    step_within p (record p { input = i; builder = c.put_arrow.new.builder }) c.open.new.self c.open.new.next c.open.result 6 13 (omega (arith, less)) c.open.ensures.step

pub returns-clause-holds : goal.returns-clause-holds
returns-clause-holds c = λ s g.
    let p = c.args.self.now in
    let i = c.take_character.new.self in
    let place = c.args.place in
    let small = styled (context_of c.args.context) InScript in
    let above = past_none s p i (of_one place small (λ x. arrow c.args.sign None x.element)) c.if-take_character.ensures.next.0 c.if-take_character.ensures.next.1 (begun g) in
    c.open-2.ensures.holds s g.style (rw (c.in_ok-put_arrow-2.ensures, c.styled-small.ensures) (operand_due (λ x. gives (arrow c.args.sign None x.element)) above.leads))

pub returns-clause-step : goal.returns-clause-step
returns-clause-step c =
    let p = c.args.self.now in
    let i = c.take_character.new.self in
    step_within p (record p { input = i; builder = c.put_arrow-2.new.builder }) c.open-2.new.self c.open-2.new.next c.open-2.result 6 13 (rw c.if-take_character.ensures.next.1 (omega arith)) c.open-2.ensures.step
