use lib.Utf8.{encode}
use Rattle.std.specs.Str.{chars}
use Rattle.latex2mathml_tex_grammar.specs.{Commands.command_entries, Commands.meaning_of, CommandsFromM.commands_from_m, CommandsUpToL.commands_up_to_l, Cutting.units_of, Cutting.units_within, Expanding.expansion, Expanding.expansion_within, Operands.none_due, UsualMacros.usual_entries, UsualMacros.usual_macros}
use Rattle.latex2mathml_tex_grammar.proofs.Expanding.{is_expanded}
use Rattle.latex2mathml_tex_grammar.proofs.laws.expansions_of_examples.Goals as goal

pub returns : goal.returns
unfolding units_of units_within encode chars expansion expansion_within usual_entries usual_macros meaning_of command_entries commands_up_to_l commands_from_m
returns c = record {
  defined = is_expanded usual_macros 4 15 none_due _;
  again = is_expanded usual_macros 4 15 none_due _;
  kept = is_expanded usual_macros 4 15 none_due _;
  another = is_expanded usual_macros 4 15 none_due _;
  endless = is_expanded usual_macros 4 15 none_due _;
  lacking = is_expanded usual_macros 4 15 none_due _;
  starred = is_expanded usual_macros 4 15 none_due _;
  unstarred = is_expanded usual_macros 4 15 none_due _;
  whole = is_expanded usual_macros 4 15 none_due _;
  behind = is_expanded usual_macros 4 15 none_due _;
  first = is_expanded usual_macros 4 15 none_due _;
  divided = is_expanded usual_macros 4 15 none_due _;
  doubled = is_expanded usual_macros 4 15 none_due _;
}
