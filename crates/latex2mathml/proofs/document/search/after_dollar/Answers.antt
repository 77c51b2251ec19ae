use Rattle.std.proofs.Common.{◌∙◌, ◌≡◌, ◌<◌, ap, arith, get_or, length, subst, sym}
use Rattle.std.proofs.lemmas.Str.{IsCharBoundary-after_ascii}
use Rattle.latex2mathml.proofs.document.search.after_dollar.Goals as goal

pub split_at-requires : goal.split_at-requires
split_at-requires c =
    let some : 0 < length c.args.text.now = subst (λ t. 0 < length t) c.as_bytes.ensures.value c.in_ok-first.ensures.item.3.0 in
    let here : get_or c.args.text.now 0 0 ≡ c.in_ok-first.field-0.now = ap (λ t. get_or t 0 0) (sym c.as_bytes.ensures.value) ∙ sym (c.in_ok-first.ensures.item.3.1 0) in
    IsCharBoundary-after_ascii c.args.text.now 0 c.utf8.text some (omega (arith, here, c.if-first-ne36.false))
