use Rattle.std.proofs.Common.{◌∙◌, Bool, ap, rules}
use Rattle.clap.specs.declared.builder.arg.Arg.{Arg}
use Rattle.latex2mathml_tex_program.specs.Requests.{IsChoice}
use Rattle.latex2mathml_tex_program.proofs.Reading.{display_given}
use Rattle.latex2mathml_tex_program.proofs.request.display_argument.Goals as goal

abbrev is_global : Arg → Bool
is_global arg = arg.global

pub returns : goal.returns
returns c =
    let given = c.value_parser.ensures.given in
    let choice : IsChoice given.0 = rw given.2 (search rules) in
    record {
      rule = (
        given.0,
        choice,
        display_given c.new.result c.long.result c.value_name.result c.value_parser.result c.default_value.result c.help.result _ _ _ _ given.0
            c.new.ensures.rule c.long.ensures (search rules) c.value_name.ensures c.value_parser.ensures.others given.1 c.default_value.ensures (search rules) c.help.ensures,
      );
      local = ap is_global c.help.ensures ∙ ap is_global c.default_value.ensures ∙ ap is_global c.value_parser.ensures.others
          ∙ ap is_global c.value_name.ensures ∙ ap is_global c.long.ensures ∙ c.new.ensures.optional.1;
    }
