use Rattle.std.proofs.lemmas.Result.{IfOk-weaker}
use Rattle.std.specs.Prelude.{string_bytes}
use Rattle.latex2mathml_parser.proofs.Accounts.{comparison_count, frame_count, refused, refused_so, rendering, token_count, tokens_within_text}
use Rattle.latex2mathml_grammar.proofs.{Kept.never_dollars, MathElements.rendering_is_math}
use Rattle.latex2mathml_parser.proofs.latex_to_mathml_counted.Goals as goal

pub returns-clause-rendering : goal.returns-clause-rendering
returns-clause-rendering c = IfOk-weaker c.math-result.result _ _ (λ markup. rendering c.args.latex.now c.args.display c.new-parser.ensures.list) c.math-result.ensures.rendering

pub returns-clause-element : goal.returns-clause-element
returns-clause-element c =
    let rendered = IfOk-weaker c.math-result.result _ _ (λ markup. rendering c.args.latex.now c.args.display c.new-parser.ensures.list) c.math-result.ensures.rendering in
    IfOk-weaker c.math-result.result _ _ (λ markup. rendering_is_math c.args.latex.now c.args.display (string_bytes markup)) rendered

pub returns-clause-dollars : goal.returns-clause-dollars
returns-clause-dollars c = refused_so c.math-result.result (refused c.args.latex.now c.math-result.result c.new-parser.ensures.list c.math-result.ensures.refused) (never_dollars c.args.latex.now)

pub returns-clause-tokens : goal.returns-clause-tokens
returns-clause-tokens c = token_count c.math-result.result c.new-parser.ensures.list c.new-parser.ensures.tokens c.math-result.ensures.counted.counts c.math-result.ensures.all c.steps.ensures.tokens

pub returns-clause-length : goal.returns-clause-length
returns-clause-length c = tokens_within_text c.args.latex.now _ _ c.utf8.latex (token_count c.math-result.result c.new-parser.ensures.list c.new-parser.ensures.tokens c.math-result.ensures.counted.counts c.math-result.ensures.all c.steps.ensures.tokens)

pub returns-clause-comparisons : goal.returns-clause-comparisons
returns-clause-comparisons c = comparison_count _ _ _ _ _ c.new-parser.ensures.slices c.new-parser.ensures.tokens c.new-parser.ensures.backslashes c.new-parser.ensures.comparisons c.math-result.ensures.counted.counts c.steps.ensures.left c.steps.ensures.tokens c.steps.ensures.comparisons

pub returns-clause-frames : goal.returns-clause-frames
returns-clause-frames c = rw c.steps.ensures.frames (frame_count _ _ _ _ _ _ c.new-parser.ensures.list c.new-parser.ensures.tokens c.new-parser.ensures.greatest c.math-result.ensures.counted.frames c.steps.ensures.tokens)
