use Rattle.std.proofs.Common.{◌∷◌, [], ◌++◌, ap, ◌∙◌, subst, sym, string_bytes, rules, arith, codes}
use Rattle.std.specs.Prelude.{Some}
use Rattle.std.proofs.lemmas.Str.Pattern.{split_text_parts}
use Rattle.latex2mathml.proofs.ProseTexts.{IsPutSoFar, more_put, all_put, on_ok}
use Rattle.latex2mathml.proofs.document.convert.append_escaped.Goals as goal

pub loop-before-preserved : goal.loop-before-preserved
loop-before-preserved c =
    let found = c.in-Some.ensures.cases in
    let parts = split_text_parts (92 ∷ 36 ∷ []) c.loop-before.rest.now (Some (c.in-Some.before, c.in-Some.after)) found in
    let pushed = c.in_ok-push_str-2.ensures.bytes ∙ ap (λ l. l ++ codes "&#x24;") c.in_ok-push_str.ensures.bytes in
    record {
      utf8 = search rules;
      so_far = subst (λ l. IsPutSoFar c.args.prose.now (string_bytes c.args.text.now) l c.in-Some.after.now) (sym pushed)
          (more_put _ _ _ c.loop-before.rest.now c.in-Some.before.now c.in-Some.after.now c.loop-before.invariant.so_far parts (λ i lt. found.2.0 i (omega (arith, found.6))));
    }

pub returns : goal.returns
returns c =
    on_ok c.push_str-2.result _ _ _ _ c.push_str-2.ensures.bytes
    (all_put _ _ _ c.loop-before.rest.now c.loop-before.invariant.so_far (λ i lt. c.in_default.ensures.cases i (omega arith)))
