use Rattle.std.proofs.Common.{rules, ap, ◌∷◌, ◌++◌, [], append-nil}
use Rattle.std.proofs.{Output.has_written_append, Output.has_written_of_eq, lemmas.Grind.flat_map-append, lemmas.Grind.put_two, lemmas.Str.encodes-append}
use Rattle.std.proofs.{lemmas.Iterator.YieldsList-from_chars, lemmas.Iterator.Consumers.YieldsList-end}
use Rattle.std.specs.List.{flat_map}
use Rattle.latex2mathml_tokens.specs.Escape.{quoted_byte}
use Rattle.latex2mathml_tokens.proofs.Escapes.{all_yielded}
use Rattle.latex2mathml_tokens.proofs.token.text.QuotedDisplay.fmt.Goals as goal

pub returns-clause-writes : goal.returns-clause-writes
returns-clause-writes g c = λ plain ok.
    let text = c.args.self.now.0.now in
    let utf8 = rw c.as_bytes.ensures.value at c.as_bytes.ensures.utf8 in
    let all = YieldsList-end (YieldsList-from_chars text utf8 (search rules)) c.loop-c.yielded _ c.loop-c.yielded_by _ _ c.in-None.is c.next.ensures.steps in
    has_written_of_eq _ _ _ _ _ (ap (λ t. 34 ∷ (flat_map quoted_byte t ++ 34 ∷ [])) (all_yielded c.loop-c.yielded text utf8 all.0))
    (has_written_append _ _ (34 ∷ []) _ _ _ (c.write_str.ensures.writes plain (search rules)) (has_written_append _ _ _ _ _ _ (c.loop-c.invariant (search rules)) (c.write_str-2.ensures.writes (search rules) ok)))

pub loop-c-preserved : goal.loop-c-preserved
loop-c-preserved g c = λ plain.
    let before = c.loop-c.invariant plain in
    put_two _ _ _ _ _ _ _ before (c.write.ensures.writes before.plain (search (rules, c.in_ok-write.was))) (simp (encodes-append, flat_map-append, append-nil))
