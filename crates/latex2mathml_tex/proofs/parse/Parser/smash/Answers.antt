use Rattle.std.proofs.Common.{List, [], ◌∷◌, ℕ, ap, arith}
use Rattle.latex2mathml_tex_grammar.specs.Meaning.{Smashed, WithoutDepth, WithoutHeight}
use Rattle.latex2mathml_tex_grammar.specs.Rules.{Rule, a_box, in_brackets, takes_if}
use Rattle.latex2mathml_tex_units.specs.Left.{unit_count, units_at}
use Rattle.latex2mathml_tex_atoms.specs.Models.{context_of}
use Rattle.latex2mathml_tex.specs.Steps.{left_of}
use Rattle.latex2mathml_tex_units.proofs.Nexts.{no_more_taken}
use Rattle.latex2mathml_tex.proofs.{Putting.past_none, Putting.past_units, Rows.step_within}
use Rattle.latex2mathml_tex.proofs.parse.Parser.smash.Goals as goal

pub returns-then-take_in_brackets-clause-holds : goal.returns-then-take_in_brackets-clause-holds
returns-then-take_in_brackets-clause-holds c = λ s g.
    let p = c.args.self.now in
    let context = context_of c.args.context in
    c.open_box.ensures.holds s (past_units s p c.take_in_brackets.new.self (λ top. a_box c.args.place context WithoutHeight) (91 ∷ 116 ∷ 93 ∷ []) c.if-take_in_brackets.ensures g)

pub returns-then-take_in_brackets-clause-step : goal.returns-then-take_in_brackets-clause-step
returns-then-take_in_brackets-clause-step c =
    let p = c.args.self.now in
    let i = c.take_in_brackets.new.self in
    let less = no_more_taken (in_brackets 116) (left_of p) (units_at i) (91 ∷ 116 ∷ 93 ∷ []) c.if-take_in_brackets.ensures in
    step_within p (record p { input = i }) c.open_box.new.self c.open_box.new.next c.open_box.result 6 13 (omega (arith, less)) c.open_box.ensures.step

pub returns-then-take_in_brackets-2-clause-holds : goal.returns-then-take_in_brackets-2-clause-holds
returns-then-take_in_brackets-2-clause-holds c = λ s g.
    let p = c.args.self.now in
    let i = c.take_in_brackets.new.self in
    let place = c.args.place in
    let context = context_of c.args.context in
    let bottom : List ℕ → Rule = λ bottom. a_box place context WithoutDepth in
    let behind = past_none s p i (takes_if (in_brackets 98) bottom (a_box place context Smashed)) c.if-take_in_brackets.ensures.0 c.if-take_in_brackets.ensures.1 g in
    c.open_box-then-take_in_brackets-2.ensures.holds s (past_units s (record p { input = i }) c.take_in_brackets-2.new.self bottom (91 ∷ 98 ∷ 93 ∷ []) c.if-take_in_brackets-2.ensures behind)

pub returns-then-take_in_brackets-2-clause-step : goal.returns-then-take_in_brackets-2-clause-step
returns-then-take_in_brackets-2-clause-step c =
    let p = c.args.self.now in
    let i = c.take_in_brackets.new.self in
    let j = c.take_in_brackets-2.new.self in
    let less = no_more_taken (in_brackets 98) (units_at i) (units_at j) (91 ∷ 98 ∷ 93 ∷ []) c.if-take_in_brackets-2.ensures in
    step_within p (record p { input = j }) c.open_box-then-take_in_brackets-2.new.self c.open_box-then-take_in_brackets-2.new.next c.open_box-then-take_in_brackets-2.result 6 13 (let same = ap unit_count c.if-take_in_brackets.ensures.1 in omega (arith, less, same)) c.open_box-then-take_in_brackets-2.ensures.step

pub returns-clause-holds : goal.returns-clause-holds
returns-clause-holds c = λ s g.
    let p = c.args.self.now in
    let i = c.take_in_brackets.new.self in
    let place = c.args.place in
    let context = context_of c.args.context in
    let bottom : List ℕ → Rule = λ bottom. a_box place context WithoutDepth in
    let behind = past_none s p i (takes_if (in_brackets 98) bottom (a_box place context Smashed)) c.if-take_in_brackets.ensures.0 c.if-take_in_brackets.ensures.1 g in
    c.open_box-2.ensures.holds s (past_none s (record p { input = i }) c.take_in_brackets-2.new.self (a_box place context Smashed) c.if-take_in_brackets-2.ensures.0 c.if-take_in_brackets-2.ensures.1 behind)

pub returns-clause-step : goal.returns-clause-step
returns-clause-step c =
    let p = c.args.self.now in
    let j = c.take_in_brackets-2.new.self in
    step_within p (record p { input = j }) c.open_box-2.new.self c.open_box-2.new.next c.open_box-2.result 6 13 (rw (c.if-take_in_brackets-2.ensures.1, c.if-take_in_brackets.ensures.1) (omega arith)) c.open_box-2.ensures.step
