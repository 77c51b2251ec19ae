use Rattle.std.proofs.Common.{◌≡◌, ◌∷◌, ◌∙◌, ap, inl, inr}
use Rattle.latex2mathml.proofs.Cuts.{no_display, no_inline, if_none, nothing_in}
use Rattle.latex2mathml.proofs.document.first_piece.Goals as goal

pub returns-in_err-rest-clause-none : goal.returns-in_err-rest-clause-none
returns-in_err-rest-clause-none c =
    let u = c.until_dollar-in_default-after_dollar.ensures in
    if_none c.from_residual.result
    (no_inline c.args.text.now c.in-Some.inside.now _ _ c.in-Some.ensures c.in_default-after_dollar.ensures u.joined u.plain u.ends c.in_err-rest.ensures)

pub returns-in_err-after_dollar-clause-none : goal.returns-in_err-after_dollar-clause-none
returns-in_err-after_dollar-clause-none c =
    let u = c.until_dollar-2.ensures in
    if_none c.from_residual-in_err-after_dollar.result
    (no_display c.args.text.now c.in-Some-after_dollar.inside_both.now _ _ (c.in-Some.ensures ∙ ap (λ l. 36 ∷ l) c.in-Some-after_dollar.ensures) u.joined u.plain u.ends
    (inr (λ rest. c.in_err-after_dollar.ensures (36 ∷ rest))))

pub returns-in_err-rest-2-clause-none : goal.returns-in_err-rest-2-clause-none
returns-in_err-rest-2-clause-none c =
    let u = c.until_dollar-2.ensures in
    if_none c.from_residual-in_err-rest-2.result
    (no_display c.args.text.now c.in-Some-after_dollar.inside_both.now _ _ (c.in-Some.ensures ∙ ap (λ l. 36 ∷ l) c.in-Some-after_dollar.ensures) u.joined u.plain u.ends
    (inr (λ rest e. c.in_err-rest-2.ensures rest (let k : c.in_ok-after_dollar.field-0.now ≡ 36 ∷ rest = cc (c.in_ok-after_dollar.ensures, e) in k))))

pub returns-then-is_empty-clause-none : goal.returns-then-is_empty-clause-none
returns-then-is_empty-clause-none c =
    let u = c.until_dollar-2.ensures in
    no_display c.args.text.now c.in-Some-after_dollar.inside_both.now _ _ (c.in-Some.ensures ∙ ap (λ l. 36 ∷ l) c.in-Some-after_dollar.ensures) u.joined u.plain u.ends
    (inl (nothing_in c.until_dollar-2.result.0.text.now c.if-is_empty.ensures))
