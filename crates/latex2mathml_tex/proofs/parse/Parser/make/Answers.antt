use Rattle.std.proofs.Common.{◌≡◌, ◌≤◌, Bool, ap, arith, ◌∷◌, [], drop, length, refl, ◌∙◌}
use Rattle.std.specs.Prelude.{if◌then◌else◌}
use Rattle.latex2mathml_elements.specs.Attributes.{plain}
use Rattle.latex2mathml_elements.specs.Element.{Mroot, Msqrt, children, container}
use Rattle.latex2mathml_builder.specs.{Built.elements_in, Stacks.group_at, Stacks.is_token, Stacks.pair_with}
use Rattle.latex2mathml_tex_commands.specs.declared.meaning.Class.TheVariants as class
use Rattle.latex2mathml_tex_atoms.specs.Models.{top}
use Rattle.latex2mathml_tex.specs.Steps.{elements_of}
use Rattle.latex2mathml_tex.proofs.Making.{base, behind_changed, behind_two_changed, choice_put, classed_put, enough, made, made_held, made_put, made_step, one_taken, ordinary, shown_core, slash_put, top_changed, top_first, two_exchanged}
use Rattle.latex2mathml_tex_atoms.specs.declared.heights.Height.TheVariants as code_height
use Rattle.latex2mathml_tex.proofs.parse.Parser.make.Goals as goal

pub returns-in-Group : goal.returns-in-Group
returns-in-Group c =
    let p = c.args.self.now in
    let xs = elements_of p in
    let some : 1 ≤ length xs = enough 1 p (rw c.in-Group.is at c.requires.elements) in
    record {
      holds = λ s g. rw c.new.ensures (made_put p c.args.last c.args.operand s p.builder _ (top xs) (rw c.in-Group.is (top_first xs some)) (rw (c.in-Group.is, c.ordinary_kind.ensures) refl) g);
      step = rw c.new.ensures (made_step p c.args.last c.args.operand p.builder _ (top xs) (rw c.in-Group.is (top_first xs some)) c.requires);
    }

pub returns-in_ok-container-in-SquareRoot : goal.returns-in_ok-container-in-SquareRoot
returns-in_ok-container-in-SquareRoot c =
    let p = c.args.self.now in
    let xs = elements_of p in
    let some : 1 ≤ length xs = enough 1 p (rw c.in-SquareRoot.is at c.requires.elements) in
    let x = container Msqrt plain (children (top xs ∷ [])) in
    let put : elements_in c.container.new.self ≡ x ∷ drop 1 xs = c.in_ok-container-in-SquareRoot.ensures.elements ∙ rw (c.plain.ensures, one_taken xs some) refl in
    record {
      holds = λ s g. rw c.ordinary.ensures (made_put p c.args.last c.args.operand s c.container.new.self _ x (rw c.in-SquareRoot.is put) (rw (c.in-SquareRoot.is, c.larger.ensures) refl) g);
      step = rw c.ordinary.ensures (made_step p c.args.last c.args.operand c.container.new.self _ x (rw c.in-SquareRoot.is put) c.requires);
    }

pub returns-in_ok-pair-in-Root : goal.returns-in_ok-pair-in-Root
returns-in_ok-pair-in-Root c =
    let p = c.args.self.now in
    let xs = elements_of p in
    let two : 2 ≤ length xs = enough 2 p (rw c.in-Root.is at c.requires.elements) in
    let x = pair_with Mroot plain (top xs ∷ top (drop 1 xs) ∷ []) in
    let put : elements_in c.pair.new.self ≡ x ∷ drop 2 xs = c.in_ok-pair-in-Root.ensures.elements ∙ rw (c.plain-in-Root.ensures, two_exchanged xs two) refl in
    record {
      holds = λ s g. rw c.ordinary-in-Root.ensures (made_put p c.args.last c.args.operand s c.pair.new.self _ x (rw c.in-Root.is put) (rw (c.in-Root.is, c.larger-in-Root.ensures) refl) g);
      step = rw c.ordinary-in-Root.ensures (made_step p c.args.last c.args.operand c.pair.new.self _ x (rw c.in-Root.is put) c.requires);
    }

pub returns-in_ok-put_in_box-in-Boxed : goal.returns-in_ok-put_in_box-in-Boxed
returns-in_ok-put_in_box-in-Boxed c =
    let p = c.args.self.now in
    let xs = elements_of p in
    let some : 1 ≤ length xs = enough 1 p (rw c.in-Boxed.is at c.requires.elements) in
    let f = base p c.args.last c.args.operand c.in-Boxed.style class.Ordinary in
    let is = c.make_base-in-Boxed.ensures.elements in
    record {
      holds = λ s g. rw c.ordinary-in-Boxed.ensures (made_held p c.args.last c.args.operand s c.put_in_box.new.builder _ (record { element = rw c.in-Boxed.is (rw (is, top_changed f xs some, behind_changed f xs) at c.in_ok-put_in_box-in-Boxed.ensures); is = rw c.in-Boxed.is refl }) g);
      step = rw c.ordinary-in-Boxed.ensures (made_step p c.args.last c.args.operand c.put_in_box.new.builder _ (made p c.args.last c.args.operand).atom.element (rw c.in-Boxed.is (rw (is, top_changed f xs some, behind_changed f xs) at c.in_ok-put_in_box-in-Boxed.ensures)) c.requires);
    }

pub returns-in_ok-put_accent-in-Accent : goal.returns-in_ok-put_accent-in-Accent
returns-in_ok-put_accent-in-Accent c =
    let p = c.args.self.now in
    record {
      holds = λ s g. rw c.ordinary-in-Accent.ensures (made_held p c.args.last c.args.operand s c.put_accent.new.builder _ (record { element = rw c.in-Accent.is c.in_ok-put_accent-in-Accent.ensures; is = rw (c.in-Accent.is, c.larger-in-Accent.ensures) refl }) g);
      step = rw c.ordinary-in-Accent.ensures (made_step p c.args.last c.args.operand c.put_accent.new.builder _ (made p c.args.last c.args.operand).atom.element (rw c.in-Accent.is c.in_ok-put_accent-in-Accent.ensures) c.requires);
    }

pub returns-in_ok-put_brace-in-Brace : goal.returns-in_ok-put_brace-in-Brace
returns-in_ok-put_brace-in-Brace c =
    let p = c.args.self.now in
    record {
      holds = λ s g. made_held p c.args.last c.args.operand s c.put_brace.new.builder _ (record { element = rw c.in-Brace.is c.in_ok-put_brace-in-Brace.ensures; is = rw c.in-Brace.is refl }) g;
      step = made_step p c.args.last c.args.operand c.put_brace.new.builder _ (made p c.args.last c.args.operand).atom.element (rw c.in-Brace.is c.in_ok-put_brace-in-Brace.ensures) c.requires;
    }

pub returns-in-OperatorName : goal.returns-in-OperatorName
returns-in-OperatorName c =
    let p = c.args.self.now in
    let xs = elements_of p in
    let some : 1 ≤ length xs = enough 1 p (rw c.in-OperatorName.is at c.requires.elements) in
    record {
      holds = λ s g. made_put p c.args.last c.args.operand s p.builder _ (top xs) (rw c.in-OperatorName.is (top_first xs some)) (rw c.in-OperatorName.is refl) g;
      step = made_step p c.args.last c.args.operand p.builder _ (top xs) (rw c.in-OperatorName.is (top_first xs some)) c.requires;
    }

pub returns-in_ok-is_token-in-Slash : goal.returns-in_ok-is_token-in-Slash
returns-in_ok-is_token-in-Slash c =
    let p = c.args.self.now in
    let xs = elements_of p in
    let some : 1 ≤ length xs = enough 1 p (rw c.in-Slash.is at c.requires.elements) in
    let height = c.struck_height.result in
    let is : height ≡ (if is_token xs then code_height.Low else c.args.operand.height) = c.struck_height.ensures ∙ ap (λ (b : Bool). if b then code_height.Low else c.args.operand.height) c.in_ok-is_token-in-Slash.ensures.is_token in
    let put = slash_put c.args.operand height xs some is in
    record {
      holds = λ s g. rw c.ordinary-in-Slash.ensures (made_held p c.args.last c.args.operand s c.push.new.self (ordinary height) (record { element = c.in_ok-is_token-in-Slash.ensures.elements ∙ rw c.in-Slash.is put.element; is = rw c.in-Slash.is put.is }) g);
      step = rw c.ordinary-in-Slash.ensures (made_step p c.args.last c.args.operand c.push.new.self (ordinary height) (made p c.args.last c.args.operand).atom.element (c.in_ok-is_token-in-Slash.ensures.elements ∙ rw c.in-Slash.is put.element) c.requires);
    }

pub returns-in-Classed-clause-holds : goal.returns-in-Classed-clause-holds
returns-in-Classed-clause-holds c = λ s g.
    let p = c.args.self.now in
    let some : 1 ≤ length (elements_of p) = enough 1 p (rw c.in-Classed.is at c.requires.elements) in
    classed_put p c.args.last c.args.operand s c.make_base.new.builder c.space_sign.new.builder c.in-Classed.class c.in-Classed.style c.classed.result c.in-Classed.is some c.make_base.ensures.elements c.classed_kind-kind.result c.classed_kind-kind.ensures c.space_sign.ensures.elements c.classed.ensures g

pub returns-in_ok-put_fraction-in-Fraction : goal.returns-in_ok-put_fraction-in-Fraction
returns-in_ok-put_fraction-in-Fraction c =
    let p = c.args.self.now in
    record {
      holds = λ s g. rw c.ordinary-in-Fraction.ensures (made_held p c.args.last c.args.operand s c.put_fraction.new.builder _ (record { element = rw c.in-Fraction.is c.in_ok-put_fraction-in-Fraction.ensures; is = rw (c.in-Fraction.is, c.of_fraction.ensures) refl }) g);
      step = rw c.ordinary-in-Fraction.ensures (made_step p c.args.last c.args.operand c.put_fraction.new.builder _ (made p c.args.last c.args.operand).atom.element (rw c.in-Fraction.is c.in_ok-put_fraction-in-Fraction.ensures) c.requires);
    }

pub returns-in_ok-put_outlined-in-Outlined : goal.returns-in_ok-put_outlined-in-Outlined
returns-in_ok-put_outlined-in-Outlined c =
    let p = c.args.self.now in
    record {
      holds = λ s g. rw c.ordinary-in-Outlined.ensures (made_held p c.args.last c.args.operand s c.put_outlined.new.builder _ (record { element = rw c.in-Outlined.is c.in_ok-put_outlined-in-Outlined.ensures; is = rw (c.in-Outlined.is, c.of_fraction-in-Outlined.ensures) refl }) g);
      step = rw c.ordinary-in-Outlined.ensures (made_step p c.args.last c.args.operand c.put_outlined.new.builder _ (made p c.args.last c.args.operand).atom.element (rw c.in-Outlined.is c.in_ok-put_outlined-in-Outlined.ensures) c.requires);
    }

pub returns-in_ok-put_stack-in-Stack : goal.returns-in_ok-put_stack-in-Stack
returns-in_ok-put_stack-in-Stack c =
    let p = c.args.self.now in
    let xs = elements_of p in
    let some : 1 ≤ length xs = enough 1 p (omega (arith, rw c.in-Stack.is at c.requires.elements)) in
    let f = base p c.args.last c.args.operand c.in-Stack.style c.args.operand.class in
    let is = c.make_base-in-Stack.ensures.elements in
    record {
      holds = λ s g. rw c.new-in-Stack.ensures (made_held p c.args.last c.args.operand s c.put_stack.new.builder _ (record { element = rw c.in-Stack.is (rw (is, top_changed f xs some, behind_changed f xs, behind_two_changed f xs) at c.in_ok-put_stack-in-Stack.ensures); is = rw c.in-Stack.is refl }) g);
      step = rw c.new-in-Stack.ensures (made_step p c.args.last c.args.operand c.put_stack.new.builder _ (made p c.args.last c.args.operand).atom.element (rw c.in-Stack.is (rw (is, top_changed f xs some, behind_changed f xs, behind_two_changed f xs) at c.in_ok-put_stack-in-Stack.ensures)) c.requires);
    }

pub returns-in_ok-put_stack-in-StackedRelation : goal.returns-in_ok-put_stack-in-StackedRelation
returns-in_ok-put_stack-in-StackedRelation c =
    let p = c.args.self.now in
    let xs = elements_of p in
    let some : 1 ≤ length xs = enough 1 p (omega (arith, rw c.in-StackedRelation.is at c.requires.elements)) in
    let f = base p c.args.last c.args.operand c.in-StackedRelation.style class.Relation in
    let is = c.make_base-in-StackedRelation.ensures.elements in
    record {
      holds = λ s g. rw c.new-in-StackedRelation.ensures (made_held p c.args.last c.args.operand s c.put_stack-in-StackedRelation.new.builder _ (record { element = rw c.in-StackedRelation.is (rw (is, top_changed f xs some, behind_changed f xs, behind_two_changed f xs) at c.in_ok-put_stack-in-StackedRelation.ensures); is = rw (c.in-StackedRelation.is, c.stacked_relation.ensures) refl }) g);
      step = rw c.new-in-StackedRelation.ensures (made_step p c.args.last c.args.operand c.put_stack-in-StackedRelation.new.builder _ (made p c.args.last c.args.operand).atom.element (rw c.in-StackedRelation.is (rw (is, top_changed f xs some, behind_changed f xs, behind_two_changed f xs) at c.in_ok-put_stack-in-StackedRelation.ensures)) c.requires);
    }

pub returns-in_ok-put_over_arrow-in-OverArrow : goal.returns-in_ok-put_over_arrow-in-OverArrow
returns-in_ok-put_over_arrow-in-OverArrow c =
    let p = c.args.self.now in
    record {
      holds = λ s g. rw c.new-in-OverArrow.ensures (made_held p c.args.last c.args.operand s c.put_over_arrow.new.builder _ (record { element = rw c.in-OverArrow.is c.in_ok-put_over_arrow-in-OverArrow.ensures; is = rw c.in-OverArrow.is refl }) g);
      step = rw c.new-in-OverArrow.ensures (made_step p c.args.last c.args.operand c.put_over_arrow.new.builder _ (made p c.args.last c.args.operand).atom.element (rw c.in-OverArrow.is c.in_ok-put_over_arrow-in-OverArrow.ensures) c.requires);
    }

pub returns-in_ok-put_over_and_under_arrow-in-OverAndUnderArrow : goal.returns-in_ok-put_over_and_under_arrow-in-OverAndUnderArrow
returns-in_ok-put_over_and_under_arrow-in-OverAndUnderArrow c =
    let p = c.args.self.now in
    record {
      holds = λ s g. rw c.new-in-OverAndUnderArrow.ensures (made_held p c.args.last c.args.operand s c.put_over_and_under_arrow.new.builder _ (record { element = rw c.in-OverAndUnderArrow.is c.in_ok-put_over_and_under_arrow-in-OverAndUnderArrow.ensures; is = rw c.in-OverAndUnderArrow.is refl }) g);
      step = rw c.new-in-OverAndUnderArrow.ensures (made_step p c.args.last c.args.operand c.put_over_and_under_arrow.new.builder _ (made p c.args.last c.args.operand).atom.element (rw c.in-OverAndUnderArrow.is c.in_ok-put_over_and_under_arrow-in-OverAndUnderArrow.ensures) c.requires);
    }

pub returns-in_ok-keep-in-Choice : goal.returns-in_ok-keep-in-Choice
returns-in_ok-keep-in-Choice c =
    let p = c.args.self.now in
    let xs = elements_of p in
    let four : 4 ≤ length xs = enough 4 p (rw c.in-Choice.is at c.requires.elements) in
    let put = choice_put c.in-Choice.style c.in-Choice.shown xs four in
    let is = c.in_ok-keep-in-Choice.ensures.elements ∙ ap (λ n. group_at n xs ∷ drop 4 xs) c.depth_in.ensures.is in
    record {
      holds = λ s g. rw c.new-in-Choice.ensures (made_held p c.args.last c.args.operand s c.keep.new.self (shown_core c.in-Choice.shown) (record { element = is ∙ rw c.in-Choice.is put.element; is = rw c.in-Choice.is put.is }) g);
      step = rw c.new-in-Choice.ensures (made_step p c.args.last c.args.operand c.keep.new.self (shown_core c.in-Choice.shown) (made p c.args.last c.args.operand).atom.element (is ∙ rw c.in-Choice.is put.element) c.requires);
    }
