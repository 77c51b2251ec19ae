use Rattle.std.proofs.Common.{◌≡◌, ◌∙◌, ◌∷◌, ◌++◌, [], ap, arith, codes, refl, string_bytes}
use Rattle.std.proofs.lemmas.Result.{on_ok_weaker}
use Rattle.latex2mathml_tex_units.specs.ErrorTexts.{error_text}
use Rattle.latex2mathml_tex_program.specs.Replies.{answered, refused}
use Rattle.latex2mathml_tex_program.proofs.reply.append_reply.Goals as goal

pub returns-in_ok-push_str-in-Ok : goal.returns-in_ok-push_str-in-Ok
returns-in_ok-push_str-in-Ok c = λ table same.
    let answer = c.in-Ok.ensures.markup table same in
    let whole : string_bytes c.push.new.self ≡ codes "mathml\n" ++ (answer.0 ++ 0 ∷ []) = rw (c.in_ok-push-in-Ok.ensures.bytes, c.in_ok-push-in-Ok.ensures.ascii (omega arith), answer.2, c.in_ok-push_str.ensures.bytes, c.clear.ensures.bytes) refl in (
      codes "mathml\n" ++ (answer.0 ++ 0 ∷ []),
      answered answer.0 answer.1 refl,
      c.in_ok-push_str-in-Ok.ensures.bytes ∙ ap (λ l. string_bytes c.args.replies.now ++ l) (c.as_str.ensures.value ∙ whole),
    )

pub returns-in-Err : goal.returns-in-Err
returns-in-Err c = λ table same.
    on_ok_weaker c.append_refusal.result
    (λ put. (codes "error\n" ++ (error_text c.in-Err.error ++ 0 ∷ []), refused c.in-Err.error (c.in-Err.ensures.refusal table same) refl, put))
    c.append_refusal.ensures
