use Rattle.std.proofs.Common.{◌∙◌, Bool, ap}
use Rattle.clap.specs.declared.builder.arg.Arg.{Arg}
use Rattle.latex2mathml_tex_program.proofs.Reading.{flag_given}
use Rattle.latex2mathml_tex_program.proofs.request.flag.Goals as goal

abbrev is_global : Arg → Bool
is_global arg = arg.global

pub returns : goal.returns
returns c = record {
  rule = flag_given c.new.result c.long.result c.action.result c.help.result _ _
      c.new.ensures.rule c.long.ensures c.action.ensures c.help.ensures;
  local = ap is_global c.help.ensures ∙ ap is_global c.action.ensures ∙ ap is_global c.long.ensures ∙ c.new.ensures.optional.1;
}
