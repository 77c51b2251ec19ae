use Rattle.std.proofs.Common.{sym, ◌∙◌}
use Rattle.std.proofs.lemmas.List.{drop_more}
use Rattle.latex2mathml_tex_commands.proofs.NamedEntries.{entry_named, entry_other}
use Rattle.latex2mathml_tex_commands.proofs.named.find.Goals as goal

pub returns-then-are_same : goal.returns-then-are_same
returns-then-are_same c =
    let there = drop_more c.args.table.now c.loop-entry.entry-index _ c.loop-entry-test.true in
    sym (entry_named _ _ _ c.args.name.now there (sym c.are_same.ensures ∙ c.if-are_same.true)) ∙ c.loop-entry.invariant

pub loop-entry-preserved : goal.loop-entry-preserved
loop-entry-preserved c =
    let there = drop_more c.args.table.now c.loop-entry.entry-index _ c.loop-entry-test.true in
    sym (entry_other _ _ _ c.args.name.now there (sym c.are_same.ensures ∙ c.if-are_same.false)) ∙ c.loop-entry.invariant
