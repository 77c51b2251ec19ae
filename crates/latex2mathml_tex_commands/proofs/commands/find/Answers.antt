use Rattle.std.proofs.Common.{sym, ◌∙◌}
use Rattle.std.proofs.lemmas.List.Sums.{AllPass-from_list_all}
use Rattle.latex2mathml_tex_commands.proofs.Keyed.{short_name}
use Rattle.latex2mathml_tex_commands.proofs.Parts.{found_in_part, part_few, part_sorted}
use Rattle.latex2mathml_tex_commands.proofs.commands.find.Goals as goal

pub search-requires-clause-ordered : goal.search-requires-clause-ordered
search-requires-clause-ordered c = part_sorted _ c.args.name.now c.part_for.ensures.part

pub search-requires-clause-few : goal.search-requires-clause-few
search-requires-clause-few c = part_few _ c.args.name.now c.part_for.ensures.part

pub search-requires-clause-keyed : goal.search-requires-clause-keyed
search-requires-clause-keyed c = AllPass-from_list_all _ _ c.part_for.ensures.keyed

pub returns-in_default : goal.returns-in_default
returns-in_default c = sym (found_in_part _ c.args.name.now c.part_for.ensures.part) ∙ c.in_default.ensures

pub returns-then-name-entry : goal.returns-then-name-entry
returns-then-name-entry c = sym (found_in_part _ c.args.name.now c.part_for.ensures.part) ∙ c.in-Some.ensures.named (short_name _ c.in-Some.entry.now c.args.name.now c.in-Some.ensures c.if-name-le8.true c.if-name-entry.true)

pub find_long-requires : goal.find_long-requires
find_long-requires c = λ is. sym (found_in_part _ c.args.name.now c.part_for.ensures.part) ∙ c.in-Some.ensures.named is
