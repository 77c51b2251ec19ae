use Rattle.std.proofs.Common.{◌∙◌, Bool, ap, rules}
use Rattle.clap.specs.declared.builder.arg.Arg.{Arg}
use Rattle.latex2mathml_tex_program.proofs.Reading.{definitions_given}
use Rattle.latex2mathml_tex_program.proofs.request.definitions_argument.Goals as goal

abbrev is_global : Arg → Bool
is_global arg = arg.global

pub returns : goal.returns
returns c = record {
  rule = definitions_given c.new.result c.long.result c.value_name.result c.help.result _ _ _
      c.new.ensures.rule c.long.ensures (search rules) c.value_name.ensures c.help.ensures;
  local = ap is_global c.help.ensures ∙ ap is_global c.value_name.ensures ∙ ap is_global c.long.ensures ∙ c.new.ensures.optional.1;
}
