use Rattle.latex2mathml_uses.specs.Cached.{IsOnlyRendering}
use Rattle.latex2mathml_uses.proofs.CachedRenderings.{lent}
use Rattle.latex2mathml_uses.proofs.cache.Cache.get.Goals as goal

pub returns-in-Block-clause-rendering : goal.returns-in-Block-clause-rendering
returns-in-Block-clause-rendering c = lent (λ m. IsOnlyRendering c.args.formula.now c.args.display m) c.get.result _ c.get.ensures.value (rw c.in-Block.is (c.requires.blocks c.args.formula.now))

pub returns-in-Inline-clause-rendering : goal.returns-in-Inline-clause-rendering
returns-in-Inline-clause-rendering c = lent (λ m. IsOnlyRendering c.args.formula.now c.args.display m) c.get-in-Inline.result _ c.get-in-Inline.ensures.value (rw c.in-Inline.is (c.requires.inlines c.args.formula.now))
