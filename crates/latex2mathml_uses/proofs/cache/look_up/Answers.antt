use Rattle.std.proofs.Common.{◌≡◌, Some, rules, string_bytes, subst, sym}
use Rattle.latex2mathml_uses.specs.Cached.{IsOnlyRendering}
use Rattle.latex2mathml_uses.proofs.CachedRenderings.{lent}
use Rattle.latex2mathml_uses.proofs.cache.look_up.Goals as goal

pub returns-in-Some-clause-rendering : goal.returns-in-Some-clause-rendering
returns-in-Some-clause-rendering c =
    let had : IsOnlyRendering c.args.formula.now c.args.display (string_bytes c.in-Some.markup.now) = lent (λ m. IsOnlyRendering c.args.formula.now c.args.display m) (Some c.in-Some.markup) _ c.in-Some.ensures.value (c.requires c.args.formula.now) in
    let same : string_bytes c.in_ok-copy.copy ≡ string_bytes c.in-Some.markup.now = search rules in
    subst (λ m. IsOnlyRendering c.args.formula.now c.args.display m) (sym same) had
