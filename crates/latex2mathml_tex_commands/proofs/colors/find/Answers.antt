use Rattle.std.proofs.Common.{sym, ◌∙◌}
use Rattle.std.proofs.lemmas.List.{drop_more}
use Rattle.latex2mathml_tex_commands.proofs.Colored.{entry_named, entry_other, same_letters}
use Rattle.latex2mathml_tex_commands.proofs.colors.find.Goals as goal

pub returns-then-eq_ignore_ascii_case : goal.returns-then-eq_ignore_ascii_case
returns-then-eq_ignore_ascii_case c =
    let there = drop_more c.args.table.now c.loop-entry.entry-index _ c.loop-entry-test.true in
    sym (entry_named _ _ _ c.args.name.now there (sym (same_letters _ _ _ c.eq_ignore_ascii_case.ensures.test) ∙ c.if-eq_ignore_ascii_case.true)) ∙ c.loop-entry.invariant

pub loop-entry-preserved : goal.loop-entry-preserved
loop-entry-preserved c =
    let there = drop_more c.args.table.now c.loop-entry.entry-index _ c.loop-entry-test.true in
    sym (entry_other _ _ _ c.args.name.now there (sym (same_letters _ _ _ c.eq_ignore_ascii_case.ensures.test) ∙ c.if-eq_ignore_ascii_case.false)) ∙ c.loop-entry.invariant
