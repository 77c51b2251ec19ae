use Rattle.std.proofs.Common.{◌≡◌, ◌∙◌, arith, refl, rules, subst, sym, true}
use Rattle.std.specs.Char.{is_ascii_digit}
use Rattle.latex2mathml_tex_grammar.specs.Refusal.{MisplacedCharacter, OutsideTable, refusal_at}
use Rattle.latex2mathml_tex_grammar.specs.Rules.{character_rule, refuses}
use Rattle.latex2mathml_tex_atoms.specs.Models.{context_of}
use Rattle.latex2mathml_tex.specs.Numbers.{after_point}
use Rattle.latex2mathml_tex.specs.Steps.{Begins}
use Rattle.latex2mathml_tex.proofs.{RowCharacters.digit_rule, Rows.refused_step, RuleSteps.begun, RuleSteps.rule_refuses}
use Rattle.latex2mathml_tex.proofs.parse.Parser.character.Goals as goal

pub returns-in-46-clause-holds : goal.returns-in-46-clause-holds
returns-in-46-clause-holds c = λ s g.
    let begins : Begins (after_point (context_of c.args.context)) 0 s c.args.self.now = begun (rw c.in-46.is at g) in
    c.point.ensures.holds s begins

pub returns-in-38-clause-holds : goal.returns-in-38-clause-holds
returns-in-38-clause-holds c = λ s g.
    let p = c.args.self.now in
    let r = refusal_at OutsideTable c.args.place in
    let rule : character_rule (context_of c.args.context) c.args.c c.args.place ≡ refuses r = rw c.in-38.is refl in
    rule_refuses s p c.refuse.new.self c.refuse.result _ r c.refuse.ensures.parser c.refuse.ensures.state refl (subst (λ rule. Begins rule 0 s p) rule (begun g))

pub returns-in-35-clause-holds : goal.returns-in-35-clause-holds
returns-in-35-clause-holds c = λ s g.
    let p = c.args.self.now in
    let r = refusal_at (MisplacedCharacter c.args.c) c.args.place in
    let rule : character_rule (context_of c.args.context) c.args.c c.args.place ≡ refuses r = search rules in
    rule_refuses s p c.refuse-in-35.new.self c.refuse-in-35.result _ r c.refuse-in-35.ensures.parser c.refuse-in-35.ensures.state refl (subst (λ rule. Begins rule 0 s p) rule (begun g))

pub returns-then-is_ascii_digit-clause-holds : goal.returns-then-is_ascii_digit-clause-holds
returns-then-is_ascii_digit-clause-holds c = λ s g.
    let p = c.args.self.now in
    let k = c.args.context in
    let digit : is_ascii_digit c.args.c ≡ true = sym c.is_ascii_digit.ensures.value ∙ c.if-is_ascii_digit.true in
    c.in_ok-number.ensures.holds s (k, refl, subst (λ r. Begins r 0 s p) (digit_rule (context_of k) c.args.c c.args.place digit) (begun g))

pub returns-in-38-clause-step : goal.returns-in-38-clause-step
returns-in-38-clause-step c = refused_step c.args.self.now c.refuse.new.self c.args.self.now.input _ c.refuse.result c.refuse.ensures.parser c.refuse.ensures.state (omega arith) c.requires.begin.elements

pub returns-in-35-clause-step : goal.returns-in-35-clause-step
returns-in-35-clause-step c = refused_step c.args.self.now c.refuse-in-35.new.self c.args.self.now.input _ c.refuse-in-35.result c.refuse-in-35.ensures.parser c.refuse-in-35.ensures.state (omega arith) c.requires.begin.elements
