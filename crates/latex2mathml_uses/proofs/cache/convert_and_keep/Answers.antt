use Rattle.std.proofs.Common.{◌≡◌, rules, string_bytes, subst, sym}
use Rattle.std.proofs.lemmas.Map.Text.{hash_map_updates_text}
use Rattle.latex2mathml_uses.specs.Cached.{IsOnlyRendering}
use Rattle.latex2mathml_uses.proofs.CachedRenderings.{one_more, only_rendering}
use Rattle.latex2mathml_uses.proofs.cache.convert_and_keep.Goals as goal

pub returns-clause-sound : goal.returns-clause-sound
returns-clause-sound c =
    let only = only_rendering c.args.formula.now c.args.display _ c.one_rendering.ensures c.in_ok-markup.ensures.rendering in
    let sets = hash_map_updates_text (string_bytes c.in_ok-key.key) c.args.map.now c.insert.new.self _ c.in_ok-insert.ensures.updates in
    let same : string_bytes c.in_ok-copy.copy ≡ string_bytes c.in_ok-markup.markup = search rules in
    one_more c.args.map.now c.insert.new.self c.args.formula.now c.in_ok-copy.copy c.args.display c.requires (subst (λ m. IsOnlyRendering c.args.formula.now c.args.display m) (sym same) only) (rw c.in_ok-key.ensures.ok at sets)

pub returns-clause-rendering : goal.returns-clause-rendering
returns-clause-rendering c = only_rendering c.args.formula.now c.args.display _ c.one_rendering.ensures c.in_ok-markup.ensures.rendering
