-- What a cache holds.
use Rattle.std.specs.Prelude.{ℕ, List, Option}
use Rattle.latex2mathml.specs.Formulas.{DisplayStyle, Block, Inline}
use Rattle.latex2mathml_uses.specs.{Cached.HoldsRenderings, Cached.text_at, declared.cache.Cache.Cache}

-- the markup that the cache holds for a text with this display style, if any
abbrev pub held_text : Cache → DisplayStyle → List ℕ → Option (List ℕ)
held_text cache Block text = text_at cache.blocks text
held_text cache Inline text = text_at cache.inlines text

-- whatever the cache holds for a text is its rendering
pub record IsSound (cache : Cache) : Type 0 where
  pub blocks : HoldsRenderings Block cache.blocks
  pub inlines : HoldsRenderings Inline cache.inlines
