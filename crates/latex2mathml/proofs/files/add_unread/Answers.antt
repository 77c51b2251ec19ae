use Rattle.std.proofs.Common.{◌+◌, ◌++◌, ◌∷◌, [], ap, ◌∙◌, append_assoc, length-append}
use Rattle.std.proofs.lemmas.List.Elements.{All-push}
use Rattle.latex2mathml.specs.{Files.IsListed, declared.error.FileFault.TheVariants.Entry}
use Rattle.latex2mathml.proofs.files.add_unread.Goals as goal

pub loop-entry-preserved : goal.loop-entry-preserved
loop-entry-preserved c =
    let before = c.loop-entry.invariant in
    let added = c.in_ok-add.ensures.added in (
      before.0 ++ added.0 ∷ [],
      added.1 ∙ ap (λ l. l ++ added.0 ∷ []) before.1 ∙ append_assoc _ before.0 (added.0 ∷ []),
      All-push (IsListed c.args.path.now Entry) before.0 added.0 before.2 added.2,
      length-append before.0 (added.0 ∷ []) ∙ ap (λ n. n + 1) before.3,
    )
