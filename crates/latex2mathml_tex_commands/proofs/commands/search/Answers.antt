use Rattle.std.proofs.Common.{◌≡◌, ◌+◌, ◌/◌, true, List, drop, length, refl, arith, sym, ◌∙◌}
use Rattle.std.specs.List.{AllPass}
use Rattle.std.proofs.lemmas.Grind.{common_steps}
use Rattle.std.proofs.lemmas.List.Elements.{All-drop, All-take}
use Rattle.latex2mathml_tex_commands.specs.{Keys.has_key, Meanings.entry_of, declared.meaning.Entry.Entry}
use Rattle.latex2mathml_tex_commands.proofs.{Keyed.candidate, Keyed.left_by_key, Keyed.right_by_key, Lookups.its_meaning, Lookups.whole_table}
use Rattle.latex2mathml_tex_commands.proofs.commands.search.Goals as goal

pub loop-entries-init : goal.loop-entries-init
loop-entries-init c = record { narrowed = whole_table its_meaning entry_of _ _ c.requires.ordered c.requires.few; keyed = c.requires.keyed }

pub loop-entries-preserved-then-key-entry : goal.loop-entries-preserved-then-key-entry
loop-entries-preserved-then-key-entry c = record {
  narrowed = left_by_key _ _ _ _ _ _ c.loop-entries.invariant.narrowed c.loop-entries.invariant.keyed (sym c.is_empty.ensures ∙ c.loop-entries-test.true) c.key_of-key.ensures c.if-key-entry.true refl;
  keyed = All-take (λ e. has_key e ≡ true) _ _ c.loop-entries.invariant.keyed;
}

keyed_right : (entries others : List Entry) → AllPass has_key entries → others ≡ drop (length entries / 2 + 1) entries → AllPass has_key others
keyed_right entries others keyed e = rw e (All-drop (λ r. has_key r ≡ true) (length entries / 2 + 1) entries keyed)

pub loop-entries-preserved : goal.loop-entries-preserved
loop-entries-preserved c = record {
  narrowed = right_by_key _ _ _ _ _ _ c.loop-entries.invariant.narrowed c.loop-entries.invariant.keyed (sym c.is_empty.ensures ∙ c.loop-entries-test.true) c.key_of-key.ensures c.if-key-entry-2.true (grind (arith, common_steps));
  keyed = keyed_right _ _ c.loop-entries.invariant.keyed (grind (arith, common_steps));
}

pub returns-else-key-entry-2 : goal.returns-else-key-entry-2
returns-else-key-entry-2 c = candidate c.args.table.now _ c.args.name.now _ _ c.loop-entries.invariant.narrowed c.loop-entries.invariant.keyed (sym c.is_empty.ensures ∙ c.loop-entries-test.true) c.key_of-key.ensures (omega (arith, c.if-key-entry.false, c.if-key-entry-2.false))
