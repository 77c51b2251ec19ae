use Rattle.std.proofs.Common.{[], ◌∷◌, arith}
use Rattle.latex2mathml_tex_grammar.specs.{Makes.operator_name, Meaning.Beside, Meaning.ByStyle, Symbols.Named}
use Rattle.latex2mathml_tex_grammar.specs.Rules.{a_character, gives, lettered, of_one}
use Rattle.latex2mathml_tex_units.specs.Left.{units_at}
use Rattle.latex2mathml_tex_commands.specs.Meanings.{limit_place_of}
use Rattle.latex2mathml_tex_atoms.specs.Models.{context_of}
use Rattle.latex2mathml_tex.specs.Steps.{Begins, left_of}
use Rattle.latex2mathml_tex_units.proofs.Nexts.{no_more_taken}
use Rattle.latex2mathml_tex.proofs.{RuleSteps.begun, Leading.operand_due, Putting.past_none, Putting.past_units, Rows.step_within}
use Rattle.latex2mathml_tex.proofs.parse.Parser.operator_name.Goals as goal
use Rattle.latex2mathml_tex.proofs.parse.Parser.operator_name.Goals.{then-take_character, else-take_character}

pub returns-clause-holds : goal.returns-clause-holds
returns-clause-holds c = λ s g.
    let p = c.args.self.now in
    let i = c.take_character.new.self in
    let named = lettered (context_of c.args.context) Named in
    let due : Begins (of_one c.args.place named (operator_name (limit_place_of c.if-take_character.limits))) 0 s (record p { input = i }) = elim c.if-take_character.branch [
      | then-take_character w ↦ rw w.limits-is (past_units s p i (λ star. of_one c.args.place named (operator_name ByStyle)) (42 ∷ []) w.if-take_character.ensures.next (begun g))
      | else-take_character w ↦ rw w.limits-is (past_none s p i (of_one c.args.place named (operator_name Beside)) w.if-take_character.ensures.next.0 w.if-take_character.ensures.next.1 (begun g))
    ] in
    c.open.ensures.holds s g.style (operand_due (λ x. gives (operator_name (limit_place_of c.if-take_character.limits) x)) due.leads)

pub returns-clause-step : goal.returns-clause-step
returns-clause-step c =
    let p = c.args.self.now in
    let i = c.take_character.new.self in
    elim c.if-take_character.branch [
      | then-take_character w ↦ (
          let less = no_more_taken (a_character 42 ∷ []) (left_of p) (units_at i) (42 ∷ []) w.if-take_character.ensures.next in
          step_within p (record p { input = i }) c.open.new.self c.open.new.next c.open.result 6 13 (omega (arith, less)) c.open.ensures.step)
      | else-take_character w ↦ step_within p (record p { input = i }) c.open.new.self c.open.new.next c.open.result 6 13 (rw w.if-take_character.ensures.next.1 (omega arith)) c.open.ensures.step
    ]
