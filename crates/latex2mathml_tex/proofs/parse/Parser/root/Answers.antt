use Rattle.std.proofs.Common.{[], ◌∷◌, arith, subst}
use Rattle.latex2mathml_tex_grammar.specs.{Makes.root, Makes.square_root, Rows.row_element, Symbols.InScript}
use Rattle.latex2mathml_tex_grammar.specs.Rules.{InBrackets, a_character, gives, of_one, reads_atoms, styled}
use Rattle.latex2mathml_tex_units.specs.Left.{units_at}
use Rattle.latex2mathml_tex.specs.Frames.{context_at}
use Rattle.latex2mathml_tex_atoms.specs.Models.{context_of}
use Rattle.latex2mathml_tex.specs.Steps.{Begins, left_of, level}
use Rattle.latex2mathml_tex_units.proofs.Nexts.{no_more_taken}
use Rattle.latex2mathml_tex.proofs.{RuleSteps.begun, Leading.operand_due, Leading.row_due, Putting.past_none, Putting.past_units, Rows.step_within}
use Rattle.latex2mathml_tex.proofs.parse.Parser.root.Goals as goal

pub returns-then-take_character-clause-holds : goal.returns-then-take_character-clause-holds
returns-then-take_character-clause-holds c = λ s g.
    let p = c.args.self.now in
    let i = c.take_character.new.self in
    let place = c.args.place in
    let context = context_of c.args.context in
    let degree = past_units s p i (λ bracket. reads_atoms (InBrackets place) (styled context InScript) (λ row. of_one place context (root (row_element row.elements)))) (91 ∷ []) c.if-take_character.ensures.next (begun g) in
    let due = subst (λ d. Begins (reads_atoms (InBrackets place) (styled context InScript) (λ row. of_one place d (root (row_element row.elements)))) 0 s (record p { input = i })) g.context degree in
    c.open.ensures.holds s g.style (rw (c.empty.ensures, c.styled.ensures) (row_due (λ row. of_one place (context_at (level 0 s p)) (root (row_element row.elements))) due.leads))

pub returns-then-take_character-clause-step : goal.returns-then-take_character-clause-step
returns-then-take_character-clause-step c =
    let p = c.args.self.now in
    let i = c.take_character.new.self in
    let less = no_more_taken (a_character 91 ∷ []) (left_of p) (units_at i) (91 ∷ []) c.if-take_character.ensures.next in
    step_within p (record p { input = i }) c.open.new.self c.open.new.next c.open.result 6 13 (omega (arith, less)) c.open.ensures.step

pub returns-clause-holds : goal.returns-clause-holds
returns-clause-holds c = λ s g.
    let radicand = past_none s c.args.self.now c.take_character.new.self (of_one c.args.place (context_of c.args.context) square_root) c.if-take_character.ensures.next.0 c.if-take_character.ensures.next.1 (begun g) in
    c.open-2.ensures.holds s g.style (operand_due (λ x. gives (square_root x)) radicand.leads)
