use Rattle.std.proofs.Common.{◌≡◌, drop, map}
use Rattle.latex2mathml_tex_grammar.specs.Colors.{entry_color}
use Rattle.latex2mathml_tex_commands.specs.Colors.{entry_of}
use Rattle.latex2mathml_tex_commands.proofs.colors.find.Given as goal

abbrev pub invariant-loop-entry : goal.invariant-loop-entry
invariant-loop-entry l = entry_color (map entry_of (drop l.entry-index l.table)) l.name ≡ entry_color (map entry_of l.table) l.name
