use Rattle.std.proofs.Common.{rules, subst, sym}
use Rattle.latex2mathml_tex_program.proofs.Formulas.{AreRepliedSoFar, all_replied, fewer_left, next_replied, none_left, none_replied, some_left}
use Rattle.latex2mathml_tex_program.proofs.reply.replies.Goals as goal

pub formulas-init : goal.formulas-init
formulas-init c = record {
  utf8 = search rules;
  so_far = λ table same. rw c.new-replies.ensures.bytes (none_replied table _ _);
}

pub formulas-preserved : goal.formulas-preserved
formulas-preserved c = record {
  utf8 = search rules;
  so_far = λ table same.
      let reply = c.in_ok-append_reply.ensures table same in
      subst (λ l. AreRepliedSoFar table c.args.texts.now c.args.format l c.first_text.result.1.now) (sym reply.2)
      (next_replied table _ _ _ c.formulas.rest.now c.first_text.result.0.now c.first_text.result.1.now reply.0
      (c.formulas.invariant.so_far table same) (some_left _ c.formulas-test.ensures) c.first_text.ensures reply.1);
}

pub formulas-smaller : goal.formulas-smaller
formulas-smaller c = fewer_left c.formulas.rest.now c.first_text.result.0.now c.first_text.result.1.now (some_left _ c.formulas-test.ensures) c.first_text.ensures

pub returns : goal.returns
returns c = λ table same.
    all_replied table _ _ _ c.formulas.rest.now (c.formulas.invariant.so_far table same) (none_left _ c.formulas-test.ensures)
