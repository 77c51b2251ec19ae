-- The tables are sorted.
use Rattle.std.proofs.Common.{◌≡◌, true, refl}
use Rattle.latex2mathml_tex_grammar.specs.{Commands.command_entries, CommandsUpToL.commands_up_to_l, CommandsFromM.commands_from_m, Environments.environments, Signs.sign_entries, Sorted.ascending, Sorted.ascending_numbers}

pub ascending-command_entries : ascending command_entries ≡ true
unfolding command_entries commands_up_to_l commands_from_m ascending
ascending-command_entries = refl

pub ascending-sign_entries : ascending_numbers sign_entries ≡ true
unfolding sign_entries ascending_numbers
ascending-sign_entries = refl

pub ascending-environments : ascending environments ≡ true
unfolding environments ascending
ascending-environments = refl
