use Rattle.std.proofs.Common.{◌≡◌, None, Some, MatchOption, subst}
use Rattle.latex2mathml_tex_commands.specs.Meanings as meanings
use Rattle.latex2mathml_tex_commands.proofs.Parts.{found_in_part, part_few, part_sorted}
use Rattle.latex2mathml_tex_commands.proofs.commands.find_long.Goals as goal

pub search_names-requires-clause-ordered : goal.search_names-requires-clause-ordered
search_names-requires-clause-ordered c = part_sorted _ c.args.name.now c.part_for.ensures.part

pub search_names-requires-clause-few : goal.search_names-requires-clause-few
search_names-requires-clause-few c = part_few _ c.args.name.now c.part_for.ensures.part

pub returns : goal.returns
returns c =
    subst
    (λ found. MatchOption c.search_names.result (found ≡ None) (λ m. found ≡ Some (meanings.meaning_of m.now)))
    (found_in_part _ c.args.name.now c.part_for.ensures.part)
    c.search_names.ensures
