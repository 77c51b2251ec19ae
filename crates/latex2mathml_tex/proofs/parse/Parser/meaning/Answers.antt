use Rattle.std.proofs.Common.{arith, inl, inr, refl, subst}
use Rattle.latex2mathml_elements.specs.Attributes.{Above}
use Rattle.latex2mathml_attributes.specs.Names.{side_of, stretch_of}
use Rattle.latex2mathml_tex_grammar.specs.Atoms.{Plain}
use Rattle.latex2mathml_tex_grammar.specs.Makes.{accent, brace, classed, core, group, stack, stacked_relation, struck}
use Rattle.latex2mathml_tex_grammar.specs.Refusal.{ChangeAsArgument, LimitsWithoutOperator, MiddleWithoutLeft, RightWithoutLeft, refusal_at, EndWithoutBegin, OutsideTable}
use Rattle.latex2mathml_tex_grammar.specs.Rows.{as_base}
use Rattle.latex2mathml_tex_grammar.specs.Rules.{gives, of_two, refuses, slashed, styled}
use Rattle.latex2mathml_tex_grammar.specs.Symbols.{InScript, Relation}
use Rattle.latex2mathml_tex.specs.Frames.{after_first, context_at}
use Rattle.latex2mathml_tex_commands.specs.Meanings.{class_of, style_of}
use Rattle.latex2mathml_tex_atoms.specs.Models.{context_of}
use Rattle.latex2mathml_tex.specs.Steps.{Begins, elements_of, level}
use Rattle.latex2mathml_tex.specs.declared.parse.frames.First.TheVariants as first
use Rattle.latex2mathml_tex.proofs.{Leading.operand_due, Rows.refused_step, Rows.step_within, RuleSteps.begun, RuleSteps.rule_refuses}
use Rattle.latex2mathml_tex.proofs.parse.Parser.meaning.Goals as goal

pub returns-in-Skip-clause-holds : goal.returns-in-Skip-clause-holds
returns-in-Skip-clause-holds c = λ s g. c.skip.ensures.holds s (rw c.in-Skip.is at g)

pub returns-in-SkipInBraces-clause-holds : goal.returns-in-SkipInBraces-clause-holds
returns-in-SkipInBraces-clause-holds c = λ s g. c.skip_in_braces.ensures.holds s (rw c.in-SkipInBraces.is at g)

pub returns-in-Boxed-clause-holds : goal.returns-in-Boxed-clause-holds
returns-in-Boxed-clause-holds c = λ s g. c.open_box.ensures.holds s (begun (rw c.in-Boxed.is at g))

pub returns-in-Smash-clause-holds : goal.returns-in-Smash-clause-holds
returns-in-Smash-clause-holds c = λ s g. c.smash.ensures.holds s (begun (rw c.in-Smash.is at g))

pub returns-in-Raise-clause-holds : goal.returns-in-Raise-clause-holds
returns-in-Raise-clause-holds c = λ s g. c.raise.ensures.holds s (rw c.in-Raise.is at g)

pub returns-in-InColor-clause-holds : goal.returns-in-InColor-clause-holds
returns-in-InColor-clause-holds c = λ s g. c.in_color.ensures.holds s (rw c.in-InColor.is at g)

pub returns-in-Highlight-clause-holds : goal.returns-in-Highlight-clause-holds
returns-in-Highlight-clause-holds c = λ s g. c.highlight.ensures.holds s (rw c.in-Highlight.is at g)

pub returns-in-Rectangle-clause-holds : goal.returns-in-Rectangle-clause-holds
returns-in-Rectangle-clause-holds c = λ s g. c.rectangle.ensures.holds s (rw c.in-Rectangle.is at g)

pub returns-in-Arrow-clause-holds : goal.returns-in-Arrow-clause-holds
returns-in-Arrow-clause-holds c = λ s g. c.arrow.ensures.holds s (rw c.in-Arrow.is at g)

pub returns-in-Styled-clause-holds : goal.returns-in-Styled-clause-holds
returns-in-Styled-clause-holds c = λ s g. c.open.ensures.holds s g.style (operand_due (λ x. gives (core (group x))) (rw c.in-Styled.is at g.leads))

pub returns-in-Fraction-clause-holds : goal.returns-in-Fraction-clause-holds
returns-in-Fraction-clause-holds c = λ s g. c.open_fraction.ensures.holds s (begun (rw c.in-Fraction.is at g))

pub returns-in-ContinuedFraction-clause-holds : goal.returns-in-ContinuedFraction-clause-holds
returns-in-ContinuedFraction-clause-holds c = λ s g. c.continued_fraction.ensures.holds s (begun (rw c.in-ContinuedFraction.is at g))

pub returns-in-GeneralFraction-clause-holds : goal.returns-in-GeneralFraction-clause-holds
returns-in-GeneralFraction-clause-holds c = λ s g. c.general_fraction.ensures.holds s (begun (rw c.in-GeneralFraction.is at g))

pub returns-in-Accent-clause-holds : goal.returns-in-Accent-clause-holds
returns-in-Accent-clause-holds c = λ s g.
    c.open-in-Accent.ensures.holds s g.style (operand_due (λ x. gives (accent (side_of c.in-Accent.side) c.in-Accent.mark (stretch_of c.in-Accent.stretch) x)) (rw c.in-Accent.is at g.leads))

pub returns-in-Brace-clause-holds : goal.returns-in-Brace-clause-holds
returns-in-Brace-clause-holds c = λ s g.
    c.open-in-Brace.ensures.holds s g.style (operand_due (λ x. gives (brace (side_of c.in-Brace.side) c.in-Brace.mark x.element)) (rw c.in-Brace.is at g.leads))

pub returns-in-Choice-clause-holds : goal.returns-in-Choice-clause-holds
returns-in-Choice-clause-holds c = λ s g.
    let p = c.args.self.now in
    c.open-in-Choice.ensures.holds s g.style (operand_due (after_first first.InBlock c.args.place (context_of c.args.context) (context_at (level 0 s p)) (elements_of p)) (rw c.in-Choice.is at g.leads))

pub returns-in-Stack-clause-holds : goal.returns-in-Stack-clause-holds
returns-in-Stack-clause-holds c = λ s g.
    let p = c.args.self.now in
    let place = c.args.place in
    let mark = styled (context_of c.args.context) InScript in
    let begins = subst (λ d. Begins (of_two place mark d (λ m base. stack (side_of c.in-Stack.side) (Plain base.class) m.element (as_base d.style base.class base).element)) 0 s p) g.context (begun (rw c.in-Stack.is at g)) in
    c.open-in-Stack.ensures.holds s g.style (rw c.styled.ensures (operand_due (after_first (first.Stack c.in-Stack.side) place mark (context_at (level 0 s p)) (elements_of p)) begins.leads))

pub returns-in-StackedRelation-clause-holds : goal.returns-in-StackedRelation-clause-holds
returns-in-StackedRelation-clause-holds c = λ s g.
    let p = c.args.self.now in
    let place = c.args.place in
    let mark = styled (context_of c.args.context) InScript in
    let begins = subst (λ d. Begins (of_two place mark d (λ m base. stack Above (stacked_relation base.class) m.element (as_base d.style Relation base).element)) 0 s p) g.context (begun (rw c.in-StackedRelation.is at g)) in
    c.open-in-StackedRelation.ensures.holds s g.style (rw c.styled-in-StackedRelation.ensures (operand_due (after_first first.StackedRelation place mark (context_at (level 0 s p)) (elements_of p)) begins.leads))

pub returns-in-Slash-clause-holds : goal.returns-in-Slash-clause-holds
returns-in-Slash-clause-holds c = λ s g.
    c.open-in-Slash.ensures.holds s g.style (operand_due (λ x. gives (slashed x (struck x.element))) (rw c.in-Slash.is at g.leads))

pub returns-in-Sized-clause-holds : goal.returns-in-Sized-clause-holds
returns-in-Sized-clause-holds c = λ s g. c.sized.ensures.holds s (begun (rw c.in-Sized.is at g))

pub returns-in-Middle-clause-holds : goal.returns-in-Middle-clause-holds
returns-in-Middle-clause-holds c = λ s g.
    rule_refuses s c.args.self.now c.refuse.new.self c.refuse.result _ (refusal_at MiddleWithoutLeft c.args.place) c.refuse.ensures.parser c.refuse.ensures.state refl (begun (rw c.in-Middle.is at g))

pub returns-in-Right-clause-holds : goal.returns-in-Right-clause-holds
returns-in-Right-clause-holds c = λ s g.
    rule_refuses s c.args.self.now c.refuse-in-Right.new.self c.refuse-in-Right.result _ (refusal_at RightWithoutLeft c.args.place) c.refuse-in-Right.ensures.parser c.refuse-in-Right.ensures.state refl (begun (rw c.in-Right.is at g))

pub returns-in-Limits-clause-holds : goal.returns-in-Limits-clause-holds
returns-in-Limits-clause-holds c = λ s g.
    let p = c.args.self.now in
    let r = refusal_at LimitsWithoutOperator c.args.place in
    let begins : Begins (refuses r) 0 s p = elim c.in-Limits.is [
      | inl is ↦ begun (rw is at g)
      | inr is ↦ begun (rw is at g)
    ] in
    rule_refuses s p c.refuse-in-Limits.new.self c.refuse-in-Limits.result _ r c.refuse-in-Limits.ensures.parser c.refuse-in-Limits.ensures.state refl begins

pub returns-in-Classed-clause-holds : goal.returns-in-Classed-clause-holds
returns-in-Classed-clause-holds c = λ s g.
    c.open-in-Classed.ensures.holds s g.style (operand_due (λ x. gives (classed (class_of c.in-Classed.class) (as_base (style_of c.args.context.style) (class_of c.in-Classed.class) x))) (rw c.in-Classed.is at g.leads))

pub returns-in-Changes-clause-holds : goal.returns-in-Changes-clause-holds
returns-in-Changes-clause-holds c = λ s g.
    rule_refuses s c.args.self.now c.refuse-in-Changes.new.self c.refuse-in-Changes.result _ (refusal_at ChangeAsArgument c.args.place) c.refuse-in-Changes.ensures.parser c.refuse-in-Changes.ensures.state refl (begun (rw c.in-Changes.is at g))

pub returns-in-BeginTable-clause-holds : goal.returns-in-BeginTable-clause-holds
returns-in-BeginTable-clause-holds c = λ s g. c.begin_table.ensures.holds s (rw c.in-BeginTable.is at g)

pub returns-in-EndTable-clause-holds : goal.returns-in-EndTable-clause-holds
returns-in-EndTable-clause-holds c = λ s g.
    rule_refuses s c.args.self.now c.refuse-in-EndTable.new.self c.refuse-in-EndTable.result _ (refusal_at EndWithoutBegin c.args.place) c.refuse-in-EndTable.ensures.parser c.refuse-in-EndTable.ensures.state refl (begun (rw c.in-EndTable.is at g))

pub returns-in-LineBreak-clause-holds : goal.returns-in-LineBreak-clause-holds
returns-in-LineBreak-clause-holds c = λ s g.
    rule_refuses s c.args.self.now c.refuse-in-LineBreak.new.self c.refuse-in-LineBreak.result _ (refusal_at OutsideTable c.args.place) c.refuse-in-LineBreak.ensures.parser c.refuse-in-LineBreak.ensures.state refl (begun (rw c.in-LineBreak.is at g))

pub returns-in-Substack-clause-holds : goal.returns-in-Substack-clause-holds
returns-in-Substack-clause-holds c = λ s g. c.begin_substack.ensures.holds s (rw c.in-Substack.is at g)

pub returns-in-Styled-clause-step : goal.returns-in-Styled-clause-step
returns-in-Styled-clause-step c = step_within c.args.self.now c.args.self.now c.open.new.self c.open.new.next c.open.result 6 13 (omega arith) c.open.ensures.step

pub returns-in-Accent-clause-step : goal.returns-in-Accent-clause-step
returns-in-Accent-clause-step c = step_within c.args.self.now c.args.self.now c.open-in-Accent.new.self c.open-in-Accent.new.next c.open-in-Accent.result 6 13 (omega arith) c.open-in-Accent.ensures.step

pub returns-in-Brace-clause-step : goal.returns-in-Brace-clause-step
returns-in-Brace-clause-step c = step_within c.args.self.now c.args.self.now c.open-in-Brace.new.self c.open-in-Brace.new.next c.open-in-Brace.result 6 13 (omega arith) c.open-in-Brace.ensures.step

pub returns-in-Choice-clause-step : goal.returns-in-Choice-clause-step
returns-in-Choice-clause-step c = step_within c.args.self.now c.args.self.now c.open-in-Choice.new.self c.open-in-Choice.new.next c.open-in-Choice.result 10 13 (omega arith) c.open-in-Choice.ensures.step

pub returns-in-Stack-clause-step : goal.returns-in-Stack-clause-step
returns-in-Stack-clause-step c = step_within c.args.self.now c.args.self.now c.open-in-Stack.new.self c.open-in-Stack.new.next c.open-in-Stack.result 10 13 (omega arith) c.open-in-Stack.ensures.step

pub returns-in-StackedRelation-clause-step : goal.returns-in-StackedRelation-clause-step
returns-in-StackedRelation-clause-step c = step_within c.args.self.now c.args.self.now c.open-in-StackedRelation.new.self c.open-in-StackedRelation.new.next c.open-in-StackedRelation.result 10 13 (omega arith) c.open-in-StackedRelation.ensures.step

pub returns-in-Slash-clause-step : goal.returns-in-Slash-clause-step
returns-in-Slash-clause-step c = step_within c.args.self.now c.args.self.now c.open-in-Slash.new.self c.open-in-Slash.new.next c.open-in-Slash.result 6 13 (omega arith) c.open-in-Slash.ensures.step

pub returns-in-Classed-clause-step : goal.returns-in-Classed-clause-step
returns-in-Classed-clause-step c = step_within c.args.self.now c.args.self.now c.open-in-Classed.new.self c.open-in-Classed.new.next c.open-in-Classed.result 6 13 (omega arith) c.open-in-Classed.ensures.step

pub returns-in-Middle-clause-step : goal.returns-in-Middle-clause-step
returns-in-Middle-clause-step c = refused_step c.args.self.now c.refuse.new.self c.args.self.now.input _ c.refuse.result c.refuse.ensures.parser c.refuse.ensures.state (omega arith) c.requires.begin.elements

pub returns-in-Right-clause-step : goal.returns-in-Right-clause-step
returns-in-Right-clause-step c = refused_step c.args.self.now c.refuse-in-Right.new.self c.args.self.now.input _ c.refuse-in-Right.result c.refuse-in-Right.ensures.parser c.refuse-in-Right.ensures.state (omega arith) c.requires.begin.elements

pub returns-in-Limits-clause-step : goal.returns-in-Limits-clause-step
returns-in-Limits-clause-step c = refused_step c.args.self.now c.refuse-in-Limits.new.self c.args.self.now.input _ c.refuse-in-Limits.result c.refuse-in-Limits.ensures.parser c.refuse-in-Limits.ensures.state (omega arith) c.requires.begin.elements

pub returns-in-Changes-clause-step : goal.returns-in-Changes-clause-step
returns-in-Changes-clause-step c = refused_step c.args.self.now c.refuse-in-Changes.new.self c.args.self.now.input _ c.refuse-in-Changes.result c.refuse-in-Changes.ensures.parser c.refuse-in-Changes.ensures.state (omega arith) c.requires.begin.elements

pub returns-in-EndTable-clause-step : goal.returns-in-EndTable-clause-step
returns-in-EndTable-clause-step c = refused_step c.args.self.now c.refuse-in-EndTable.new.self c.args.self.now.input _ c.refuse-in-EndTable.result c.refuse-in-EndTable.ensures.parser c.refuse-in-EndTable.ensures.state (omega arith) c.requires.begin.elements

pub returns-in-LineBreak-clause-step : goal.returns-in-LineBreak-clause-step
returns-in-LineBreak-clause-step c = refused_step c.args.self.now c.refuse-in-LineBreak.new.self c.args.self.now.input _ c.refuse-in-LineBreak.result c.refuse-in-LineBreak.ensures.parser c.refuse-in-LineBreak.ensures.state (omega arith) c.requires.begin.elements
