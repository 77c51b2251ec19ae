use Rattle.std.proofs.Common.{◌≡◌, ◌∙◌, ◌+◌, ℕ, List, Option, Some, ap, arith, drop, option_map, refl, subst, sum_by, sym, true}
use Rattle.latex2mathml_tex_grammar.specs.Refusal.{SecondInfix, UnknownColor, refusal_at}
use Rattle.latex2mathml_tex_grammar.specs.Rows.{Look, with_operand_ended}
use Rattle.latex2mathml_tex_grammar.specs.Rests.{GoesOnIn, NoRest, begun_anew, begun_below, context_below, look_after, recolored, resized, rest_of, restyled, settled, with_size}
use Rattle.latex2mathml_tex_grammar.specs.Rules.{in_size, lettered, styled}
use Rattle.latex2mathml_tex_commands.specs.Meanings.{alphabet_of, change_of, fraction_rule_of, style_of, text_size_of}
use Rattle.latex2mathml_tex_atoms.specs.Models.{context_of, look_of, row_with}
use Rattle.latex2mathml_tex.specs.Steps.{TookValue, elements_of, left_of}
use Rattle.latex2mathml_attributes.specs.Arounds as arounds
use Rattle.latex2mathml_attributes.specs.declared.around.Color.{Color}
use Rattle.latex2mathml_tex_grammar.specs.{Colors.color_of, Refusal.Refusal}
use Rattle.latex2mathml_tex_grammar.specs.Scanning.{BeforeColor}
use Rattle.latex2mathml_builder.specs.Built.{elements_in}
use Rattle.latex2mathml_tex.specs.{Frames.within, Innermost.IsInnermost, Levels.Leads, Steps.ending_weight, Steps.frame_weight}
use Rattle.latex2mathml_tex_atoms.specs.Models.{row_count}
use Rattle.latex2mathml_tex.specs.declared.parse.{Parser.Parser, frames.Frames.Frames}
use Rattle.latex2mathml_tex.specs.declared.parse.frames.Frame.TheVariants as frame
use Rattle.latex2mathml_tex.proofs.{Rows.step_within, Rows.weighed, Values.value_fewer}
use Rattle.latex2mathml_tex.proofs.Resting.{no_color_rest, color_rest, no_rest, rest_begins, rest_can, rest_can_behind, rest_step}
use Rattle.latex2mathml_tex.proofs.parse.Parser.change.Goals as goal

pub open-requires-in-ToStyle-clause-can : goal.open-requires-in-ToStyle-clause-can
open-requires-in-ToStyle-clause-can c =
    let new = c.in_ok-row-in-ToStyle in
    rest_can c.args.self.now c.take.new.self c.take.result c.in-Row.ending c.in-Row.at c.in-Row.context c.in-Row.row c.take.ensures c.in-Row.is c.begin_anew.new.builder new.row c.requires.begin new.ensures.below new.ensures.count

pub open-requires-in-ToSize-clause-can : goal.open-requires-in-ToSize-clause-can
open-requires-in-ToSize-clause-can c =
    let new = c.in_ok-row-in-ToSize in
    rest_can c.args.self.now c.take.new.self c.take.result c.in-Row.ending c.in-Row.at c.in-Row.context c.in-Row.row c.take.ensures c.in-Row.is c.begin_anew-in-ToSize.new.builder new.row c.requires.begin new.ensures.below new.ensures.count

pub open-requires-in-None-clause-can : goal.open-requires-in-None-clause-can
open-requires-in-None-clause-can c =
    let new = c.in_ok-row-in-None in
    rest_can c.args.self.now c.take.new.self c.take.result c.in-Row.ending c.in-Row.at c.in-Row.context c.in-Row.row c.take.ensures c.in-Row.is c.divide.new.builder new.row c.requires.begin new.ensures.below new.ensures.count

pub returns-in-Some-under-clause-holds : goal.returns-in-Some-under-clause-holds
returns-in-Some-under-clause-holds c = λ s g.
    let p = c.args.self.now in
    let row = c.in-Row.row in
    let r = refusal_at SecondInfix c.args.place in
    let none : rest_of (change_of c.args.change) (context_of c.in-Row.context) (row_with row (elements_of p)) c.args.place (left_of p) ≡ NoRest r = rw (c.in-Divides.is, c.in-Some-under.is) refl in
    rw c.refuse.ensures.state (no_rest p c.take.new.self c.take.result c.in-Row.ending c.in-Row.at c.in-Row.context row c.take.ensures c.in-Row.is s (change_of c.args.change) c.args.place g c.refuse.new.self r none (rw c.refuse.ensures.parser refl) (rw c.refuse.ensures.parser refl))

pub returns-in-ToAlphabet-clause-holds : goal.returns-in-ToAlphabet-clause-holds
returns-in-ToAlphabet-clause-holds c = λ s g.
    let p = c.args.self.now in
    let row = c.in-Row.row in
    let context = c.in-Row.context in
    let inner = lettered (context_of context) (alphabet_of c.in-ToAlphabet.alphabet) in
    let rest : rest_of (change_of c.args.change) (context_of context) (row_with row (elements_of p)) c.args.place (left_of p) ≡ GoesOnIn inner (row_with row (elements_of p)) (left_of p) = rw c.in-ToAlphabet.is refl in
    c.open.ensures.holds s g.style (rest_begins p c.take.new.self c.take.result c.in-Row.ending c.in-Row.at context row c.take.ensures c.in-Row.is s (change_of c.args.change) c.args.place g (record context { alphabet = Some c.in-ToAlphabet.alphabet }) inner row (elements_of p) (row_with row (elements_of p)) (left_of p) refl refl refl rest)

pub returns-in_ok-row-in-ToStyle-clause-holds : goal.returns-in_ok-row-in-ToStyle-clause-holds
returns-in_ok-row-in-ToStyle-clause-holds c = λ s g.
    let p = c.args.self.now in
    let row = c.in-Row.row in
    let context = c.in-Row.context in
    let new = c.in_ok-row-in-ToStyle in
    let inner = styled (context_of context) (style_of c.in-ToStyle.style) in
    let begun = restyled (context_of context) (row_with row (elements_of p)) in
    let before = settled (style_of context.style) (row_with row (elements_of p)) in
    let same = new.ensures.row ∙ ap (λ l. begun_anew (record l { has_own_style = true }) before) (c.look.ensures (elements_of p)) in
    let rest : rest_of (change_of c.args.change) (context_of context) (row_with row (elements_of p)) c.args.place (left_of p) ≡ GoesOnIn inner begun (left_of p) = rw c.in-ToStyle.is refl in
    c.open-in-ToStyle.ensures.holds s g.style (rest_begins p c.take.new.self c.take.result c.in-Row.ending c.in-Row.at context row c.take.ensures c.in-Row.is s (change_of c.args.change) c.args.place g c.styled.result inner new.row (elements_of (record p { builder = c.begin_anew.new.builder })) begun (left_of p) (ap context_of c.styled.ensures) same new.ensures.below rest)

pub returns-in_ok-row-in-ToSize-clause-holds : goal.returns-in_ok-row-in-ToSize-clause-holds
returns-in_ok-row-in-ToSize-clause-holds c = λ s g.
    let p = c.args.self.now in
    let row = c.in-Row.row in
    let context = c.in-Row.context in
    let new = c.in_ok-row-in-ToSize in
    let size = text_size_of c.in-ToSize.size in
    let inner = in_size (context_of context) size in
    let begun = resized size (context_of context) (row_with row (elements_of p)) in
    let before = settled (style_of context.style) (row_with row (elements_of p)) in
    let same = new.ensures.row ∙ ap (λ l. begun_anew l before) (c.with_size-look.ensures ∙ ap (with_size size (style_of context.style)) (c.look-in-ToSize.ensures (elements_of p))) in
    let rest : rest_of (change_of c.args.change) (context_of context) (row_with row (elements_of p)) c.args.place (left_of p) ≡ GoesOnIn inner begun (left_of p) = rw c.in-ToSize.is refl in
    c.open-in-ToSize.ensures.holds s g.style (rest_begins p c.take.new.self c.take.result c.in-Row.ending c.in-Row.at context row c.take.ensures c.in-Row.is s (change_of c.args.change) c.args.place g c.sized.result inner new.row (elements_of (record p { builder = c.begin_anew-in-ToSize.new.builder })) begun (left_of p) c.sized.ensures same new.ensures.below rest)

pub returns-in_ok-row-in-None-clause-holds : goal.returns-in_ok-row-in-None-clause-holds
returns-in_ok-row-in-None-clause-holds c = λ s g.
    let p = c.args.self.now in
    let row = c.in-Row.row in
    let context = c.in-Row.context in
    let new = c.in_ok-row-in-None in
    let whole = row_with row (elements_of p) in
    let rule = fraction_rule_of c.in-Divides.rule in
    let look = look_after whole.restyled (context_of context) in
    let inner = context_below (context_of context) look in
    let above = settled (style_of context.style) (with_operand_ended whole) in
    let begun = begun_below rule look.group above in
    let rest : rest_of (change_of c.args.change) (context_of context) whole c.args.place (left_of p) ≡ GoesOnIn inner begun (left_of p) = rw (c.in-Divides.is, c.in-None.is) refl in
    let look_is = c.look-look.ensures (elements_of p) in
    let same = c.context_below-below.ensures ∙ ap (context_below (context_of context)) look_is in
    let row_is = new.ensures.row ∙ ap (λ (l : Look). begun_below rule l.group above) look_is in
    c.open-in-None.ensures.holds s g.style (rest_begins p c.take.new.self c.take.result c.in-Row.ending c.in-Row.at context row c.take.ensures c.in-Row.is s (change_of c.args.change) c.args.place g c.context_below-below.result inner new.row (elements_of (record p { builder = c.divide.new.builder })) begun (left_of p) same row_is new.ensures.below rest)

pub returns-in-ToAlphabet-clause-step : goal.returns-in-ToAlphabet-clause-step
returns-in-ToAlphabet-clause-step c =
    rest_step c.args.self.now c.take.new.self c.take.result c.in-Row.ending c.in-Row.at c.in-Row.context c.in-Row.row c.take.ensures c.in-Row.is c.args.self.now.builder c.open.new.self c.open.new.next c.open.result c.open.ensures.step

pub returns-in_ok-row-in-ToStyle-clause-step : goal.returns-in_ok-row-in-ToStyle-clause-step
returns-in_ok-row-in-ToStyle-clause-step c =
    rest_step c.args.self.now c.take.new.self c.take.result c.in-Row.ending c.in-Row.at c.in-Row.context c.in-Row.row c.take.ensures c.in-Row.is c.begin_anew.new.builder c.open-in-ToStyle.new.self c.open-in-ToStyle.new.next c.open-in-ToStyle.result c.open-in-ToStyle.ensures.step

pub returns-in_ok-row-in-ToSize-clause-step : goal.returns-in_ok-row-in-ToSize-clause-step
returns-in_ok-row-in-ToSize-clause-step c =
    rest_step c.args.self.now c.take.new.self c.take.result c.in-Row.ending c.in-Row.at c.in-Row.context c.in-Row.row c.take.ensures c.in-Row.is c.begin_anew-in-ToSize.new.builder c.open-in-ToSize.new.self c.open-in-ToSize.new.next c.open-in-ToSize.result c.open-in-ToSize.ensures.step

pub returns-in_ok-row-in-None-clause-step : goal.returns-in_ok-row-in-None-clause-step
returns-in_ok-row-in-None-clause-step c =
    rest_step c.args.self.now c.take.new.self c.take.result c.in-Row.ending c.in-Row.at c.in-Row.context c.in-Row.row c.take.ensures c.in-Row.is c.divide.new.builder c.open-in-None.new.self c.open-in-None.new.next c.open-in-None.result c.open-in-None.ensures.step

-- the color that was taken, or none

abbrev no_color : ℕ → List ℕ → Refusal
no_color place name = refusal_at (UnknownColor name) place

pub returns-in_default-2-clause-holds : goal.returns-in_default-2-clause-holds
returns-in_default-2-clause-holds c = λ s g.
    let p = c.args.self.now in
    let q = c.take_color.new.self in
    let place = c.args.place in
    let row = c.in-Row.row in
    let context = c.in-Row.context in
    let took = subst (λ (x : Option Color). TookValue place BeforeColor color_of (no_color place) (record p { frames = c.take.new.self }) q (option_map arounds.color_of x)) c.in_default-2.is c.in_ok-color-in-ToColor.ensures in
    let none : rest_of (change_of c.args.change) (context_of context) (row_with row (elements_of p)) place (left_of p) ≡ NoRest took.0 = rw c.in-ToColor.is (no_color_rest (context_of context) (row_with row (elements_of p)) place (left_of p) took.0 took.1.1.1.1) in
    no_rest p c.take.new.self c.take.result c.in-Row.ending c.in-Row.at context row c.take.ensures c.in-Row.is s (change_of c.args.change) place g q took.0 none (ap (λ (x : Parser). x.style) took.1.0) took.1.1.0

pub open-requires-in-ToColor-clause-can : goal.open-requires-in-ToColor-clause-can
open-requires-in-ToColor-clause-can c =
    let p = c.args.self.now in
    let q = c.take_color.new.self in
    let place = c.args.place in
    let new = c.in_ok-row-in-ToColor in
    let took = subst (λ (x : Option Color). TookValue place BeforeColor color_of (no_color place) (record p { frames = c.take.new.self }) q (option_map arounds.color_of x)) c.in-Some.is c.in_ok-color-in-ToColor.ensures in
    rest_can_behind p c.take.new.self c.take.result c.in-Row.ending c.in-Row.at c.in-Row.context c.in-Row.row c.take.ensures c.in-Row.is q c.begin_anew-in-ToColor.new.builder new.row took.0 c.requires.begin new.ensures.below new.ensures.count

pub returns-in_ok-row-in-ToColor-clause-holds : goal.returns-in_ok-row-in-ToColor-clause-holds
returns-in_ok-row-in-ToColor-clause-holds c = λ s g.
    let p = c.args.self.now in
    let q = c.take_color.new.self in
    let fr = c.take.new.self in
    let place = c.args.place in
    let row = c.in-Row.row in
    let context = c.in-Row.context in
    let new = c.in_ok-row-in-ToColor in
    let ys = elements_in c.begin_anew-in-ToColor.new.builder in
    let color = arounds.color_of c.in-Some.color in
    let took = subst (λ (x : Option Color). TookValue place BeforeColor color_of (no_color place) (record p { frames = c.take.new.self }) q (option_map arounds.color_of x)) c.in-Some.is c.in_ok-color-in-ToColor.ensures in
    let elements : elements_of q ≡ elements_of p = ap (λ (x : Parser). elements_of x) took.0 in
    let frames : q.frames ≡ fr = ap (λ (x : Parser). x.frames) took.0 in
    let style : q.style ≡ p.style = ap (λ (x : Parser). x.style) took.0 in
    let begun = recolored color (context_of context) (row_with row (elements_of p)) in
    let rest : rest_of (change_of c.args.change) (context_of context) (row_with row (elements_of p)) place (left_of p) ≡ GoesOnIn (context_of context) begun (left_of q) = rw c.in-ToColor.is (color_rest (context_of context) (row_with row (elements_of p)) place (record p { frames = fr }) q color took) in
    let same_row : row_with new.row ys ≡ begun =
    new.ensures.row
    ∙ ap (λ xs. begun_anew (record (look_of c.look-in-ToColor.result) { color = Some color }) (settled (style_of context.style) (row_with row xs))) elements
    ∙ ap (λ l. begun_anew (record l { color = Some color }) (settled (style_of context.style) (row_with row (elements_of p)))) (c.look-in-ToColor.ensures (elements_of p)) in
    let below : drop (row_count new.row) ys ≡ drop (row_count row) (elements_of p) = new.ensures.below ∙ ap (drop (row_count row)) elements in
    let due = rest_begins p fr c.take.result c.in-Row.ending c.in-Row.at context row c.take.ensures c.in-Row.is s (change_of c.args.change) place g context (context_of context) new.row ys begun (left_of q) refl same_row below rest in
    c.open-in-ToColor.ensures.holds s (g.style ∙ ap style_of (sym style)) (subst (λ (f : Frames). Leads (within s f.stack.items (frame.Row c.in-Row.ending c.in-Row.at context new.row) ys) (left_of q)) (sym frames) due)

pub returns-in_ok-row-in-ToColor-clause-step : goal.returns-in_ok-row-in-ToColor-clause-step
returns-in_ok-row-in-ToColor-clause-step c =
    let p = c.args.self.now in
    let q = c.take_color.new.self in
    let fr = c.take.new.self in
    let place = c.args.place in
    let e = c.in-Row.ending in
    let back = frame.Row e c.in-Row.at c.in-Row.context c.in-Row.row in
    let took = subst (λ (x : Option Color). TookValue place BeforeColor color_of (no_color place) (record p { frames = c.take.new.self }) q (option_map arounds.color_of x)) c.in-Some.is c.in_ok-color-in-ToColor.ensures in
    let fewer = value_fewer color_of (no_color place) place BeforeColor (record p { frames = fr }) q (arounds.color_of c.in-Some.color) took in
    let inner = subst (λ f. IsInnermost p.style p.frames.stack.items f fr.stack.items) c.in-Row.is c.take.ensures in
    let before : sum_by frame_weight p.frames.stack.items ≡ sum_by frame_weight fr.stack.items + ending_weight e = weighed p.style p.frames.stack.items fr.stack.items back inner in
    let after : sum_by frame_weight q.frames.stack.items ≡ sum_by frame_weight fr.stack.items = ap (λ (x : Parser). sum_by frame_weight x.frames.stack.items) took.0 in
    step_within p (record q { builder = c.begin_anew-in-ToColor.new.builder }) c.open-in-ToColor.new.self c.open-in-ToColor.new.next c.open-in-ToColor.result (ending_weight e + 2) 13 (omega (arith, fewer, before, after)) c.open-in-ToColor.ensures.step
