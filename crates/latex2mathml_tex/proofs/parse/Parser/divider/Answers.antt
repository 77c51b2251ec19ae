use Rattle.std.proofs.Common.{◌≡◌, ◌≤◌, Some, ap, ◌∙◌, arith}
use Rattle.latex2mathml_tex_grammar.specs.Next.{past_space, refusal_here}
use Rattle.latex2mathml_tex_grammar.specs.Refusal.{MissingDelimiter}
use Rattle.latex2mathml_tex_commands.specs.Delimiters.{delimiter_text}
use Rattle.latex2mathml_tex_units.specs.Left.{unit_count, units_at}
use Rattle.latex2mathml_tex.specs.Steps.{left_of}
use Rattle.latex2mathml_tex_grammar.proofs.Shrinking.{no_more_past_space}
use Rattle.latex2mathml_tex_units.proofs.Nexts.{no_more_taken}
use Rattle.latex2mathml_tex_grammar.specs.Delimiters.{delimiter_of}
use Rattle.std.proofs.Common.{[], ◌∷◌}
use Rattle.latex2mathml_tex.proofs.Rows.{divider_put, no_divider, refused_here, refused_step, step_within}
use Rattle.latex2mathml_tex.proofs.parse.Parser.divider.Goals as goal

pub returns-in_default-clause-holds : goal.returns-in_default-clause-holds
returns-in_default-clause-holds c = λ s g.
    let p = c.args.self.now in
    let q = c.refuse_delimiter.new.self in
    refused_here p q q.input q.refusal c.refuse_delimiter.result c.refuse_delimiter.ensures.parser c.refuse_delimiter.ensures.state s (refusal_here MissingDelimiter (past_space (left_of p)))
    (c.refuse_delimiter.ensures.refusal ∙ ap (λ l. Some (refusal_here MissingDelimiter (past_space l))) c.in_default.ensures.next.1) g.style (no_divider s p c.in_default.ensures.next.0 g)

pub returns-in_default-clause-step : goal.returns-in_default-clause-step
returns-in_default-clause-step c =
    let p = c.args.self.now in
    let q = c.refuse_delimiter.new.self in
    let left : units_at q.input ≡ past_space (left_of p) = c.refuse_delimiter.ensures.units ∙ ap past_space c.in_default.ensures.next.1 in
    let less : unit_count (units_at q.input) ≤ unit_count (left_of p) = rw left (no_more_past_space (left_of p)) in
    refused_step p q q.input q.refusal c.refuse_delimiter.result c.refuse_delimiter.ensures.parser c.refuse_delimiter.ensures.state less c.requires.begin.elements

pub returns-clause-holds : goal.returns-clause-holds
returns-clause-holds c = λ s g.
    c.put.ensures.holds s (divider_put s c.args.self.now c.take_delimiter.new.self c.put_divider.new.builder c.new.result (delimiter_text c.in-Some.delimiter) c.in-Some.ensures.next c.in_ok-put_divider.ensures c.new.ensures g)

pub returns-clause-step : goal.returns-clause-step
returns-clause-step c =
    let p = c.args.self.now in
    let less : unit_count (units_at c.take_delimiter.new.self) ≤ unit_count (left_of p) = no_more_taken (delimiter_of ∷ []) (left_of p) (units_at c.take_delimiter.new.self) (delimiter_text c.in-Some.delimiter) c.in-Some.ensures.next in
    step_within p (record p { input = c.take_delimiter.new.self; builder = c.put_divider.new.builder }) c.put.new.self c.put.new.next c.put.result 2 13 (omega (arith, less)) c.put.ensures.step
