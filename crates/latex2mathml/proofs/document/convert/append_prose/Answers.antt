use Rattle.std.proofs.Common.{◌++◌, ap, sym, string_bytes}
use Rattle.latex2mathml.proofs.ProseTexts.{free_stays, on_ok}
use Rattle.latex2mathml.proofs.document.convert.append_prose.Goals as goal

pub returns : goal.returns
returns c =
    on_ok c.push_str.result _ _ _ _ c.push_str.ensures.bytes
    (ap (λ l. string_bytes c.args.text.now ++ l) (sym (free_stays c.args.prose.text.now (c.args.prose.free c.if-prose.false))))
