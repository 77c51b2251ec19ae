use Rattle.std.proofs.Common.{[], ◌∷◌, arith}
use Rattle.latex2mathml_tex_grammar.specs.Delimiters.{delimiter_of}
use Rattle.latex2mathml_tex_grammar.specs.Rules.{InDelimiters, reads_atoms}
use Rattle.latex2mathml_tex_commands.specs.Delimiters.{delimiter_text}
use Rattle.latex2mathml_tex_units.specs.Left.{units_at}
use Rattle.latex2mathml_tex.specs.Frames.{after_delimiters}
use Rattle.latex2mathml_tex_atoms.specs.Models.{context_of}
use Rattle.latex2mathml_tex.specs.Steps.{left_of}
use Rattle.latex2mathml_tex_units.proofs.Nexts.{no_more_taken}
use Rattle.latex2mathml_tex.proofs.{RuleSteps.begun, RuleSteps.no_delimiter, RuleSteps.no_delimiter_step, RuleSteps.past_delimiter, Leading.row_due, Rows.step_within}
use Rattle.latex2mathml_tex.proofs.parse.Parser.left.Goals as goal

pub returns-in_default-clause-holds : goal.returns-in_default-clause-holds
returns-in_default-clause-holds c = λ s g.
    let refusal = c.refuse_delimiter in
    no_delimiter c.args.self.now refusal.new.self c.take_delimiter.new.self refusal.result c.in_default.ensures.next.1 refusal.ensures.parser refusal.ensures.state s
    (λ opening. reads_atoms (InDelimiters c.args.place) (context_of c.args.context) (after_delimiters opening)) c.in_default.ensures.next.0 refusal.ensures.refusal (begun g)

pub returns-in_default-clause-step : goal.returns-in_default-clause-step
returns-in_default-clause-step c =
    let refusal = c.refuse_delimiter in
    no_delimiter_step c.args.self.now refusal.new.self c.take_delimiter.new.self refusal.result c.in_default.ensures.next.1 refusal.ensures.parser refusal.ensures.state refusal.ensures.units c.requires.begin

pub returns-clause-holds : goal.returns-clause-holds
returns-clause-holds c = λ s g.
    let text = delimiter_text c.in-Some.opening in
    let inside = past_delimiter s c.args.self.now c.take_delimiter.new.self (λ opening. reads_atoms (InDelimiters c.args.place) (context_of c.args.context) (after_delimiters opening)) text c.in-Some.ensures.next (begun g) in
    c.open.ensures.holds s g.style (rw c.begun.ensures (row_due (after_delimiters text) inside.leads))

pub returns-clause-step : goal.returns-clause-step
returns-clause-step c =
    let p = c.args.self.now in
    let i = c.take_delimiter.new.self in
    let less = no_more_taken (delimiter_of ∷ []) (left_of p) (units_at i) (delimiter_text c.in-Some.opening) c.in-Some.ensures.next in
    step_within p (record p { input = i }) c.open.new.self c.open.new.next c.open.result 6 13 (omega (arith, less)) c.open.ensures.step
