use Rattle.std.proofs.Common.{◌++◌, ap, string_bytes, sym, ◌∙◌}
use Rattle.std.proofs.lemmas.Result.{on_ok_weaker}
use Rattle.latex2mathml_elements.proofs.Alternatives.{alternative_char-other}
use Rattle.latex2mathml_tex.proofs.annotation.append_alternative_char.Goals as goal

pub returns : goal.returns
returns c =
    on_ok_weaker c.append_content_char.result
    (λ h. h ∙ ap (λ l. string_bytes c.args.out.now ++ l) (sym (alternative_char-other c.args.c c.if-c-eq34.false)))
    c.append_content_char.ensures
