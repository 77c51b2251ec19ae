use Rattle.std.proofs.Common.{◌≡◌, ◌∙◌, ap, ap₂, map, string_bytes, subst, sym}
use Rattle.clap.specs.Words.{HasKind, app_of, fault_of, is_simple, is_simple_and_free, matches_of, with_rule}
use Rattle.latex2mathml_tex_program.proofs.Reading.{asked, no_memory, no_request, versioned}
use Rattle.latex2mathml_tex_program.specs.Requests.{program}
use Rattle.latex2mathml_tex_program.proofs.request.requested.Goals as goal

pub returns-in_err-arg : goal.returns-in_err-arg
returns-in_err-arg c =
    let given = c.display_argument.ensures.rule in
    let said = no_memory _ _ _ c.from_residual.ensures.1 in
    (given.0, given.1, said.0, said.1)

pub returns-in_err-arg-2 : goal.returns-in_err-arg-2
returns-in_err-arg-2 c =
    let given = c.display_argument.ensures.rule in
    let said = no_memory _ _ _ c.from_residual-in_err-arg-2.ensures.1 in
    (given.0, given.1, said.0, said.1)

pub returns-in_err-arg-3 : goal.returns-in_err-arg-3
returns-in_err-arg-3 c =
    let given = c.display_argument.ensures.rule in
    let said = no_memory _ _ _ c.from_residual-in_err-arg-3.ensures.1 in
    (given.0, given.1, said.0, said.1)

pub returns-in_err-command : goal.returns-in_err-command
returns-in_err-command c =
    let given = c.display_argument.ensures.rule in
    let said = no_memory _ _ _ c.from_residual-in_err-command.ensures.1 in
    (given.0, given.1, said.0, said.1)

pub returns-in_err-matches : goal.returns-in_err-matches
returns-in_err-matches c =
    let given = c.display_argument.ensures.rule in
    let program_is : app_of c.in_ok-command.command ≡ program given.0 =
    c.in_ok-command.ensures.shape c.flag-2.ensures.local ∙ ap₂ with_rule (c.in_ok-arg-3.ensures.shape c.definitions_argument.ensures.local
    ∙ ap₂ with_rule (c.in_ok-arg-2.ensures.shape c.flag.ensures.local
    ∙ ap₂ with_rule (c.in_ok-arg.ensures.shape c.display_argument.ensures.local
    ∙ ap₂ with_rule (versioned c.new.result c.version.result c.about.result c.override_usage.result _ _ _ _ c.new.ensures.app c.version.ensures c.about.ensures c.override_usage.ensures) given.2)
    c.flag.ensures.rule) c.definitions_argument.ensures.rule) c.flag-2.ensures.rule in
    let words = map string_bytes c.args.words.now in
    let has = subst (λ a. HasKind (fault_of a words) c.in_err-matches.field-0.0) program_is
    (c.in_err-matches.ensures.kinds (ap is_simple_and_free program_is)) in
    let said = no_request _ _ _ c.in_err-matches.field-0.0 c.from_residual-in_err-matches.ensures.1 has in
    (given.0, given.1, said.0, said.1)

pub returns : goal.returns
returns c =
    let given = c.display_argument.ensures.rule in
    let program_is : app_of c.in_ok-command.command ≡ program given.0 =
    c.in_ok-command.ensures.shape c.flag-2.ensures.local ∙ ap₂ with_rule (c.in_ok-arg-3.ensures.shape c.definitions_argument.ensures.local
    ∙ ap₂ with_rule (c.in_ok-arg-2.ensures.shape c.flag.ensures.local
    ∙ ap₂ with_rule (c.in_ok-arg.ensures.shape c.display_argument.ensures.local
    ∙ ap₂ with_rule (versioned c.new.result c.version.result c.about.result c.override_usage.result _ _ _ _ c.new.ensures.app c.version.ensures c.about.ensures c.override_usage.ensures) given.2)
    c.flag.ensures.rule) c.definitions_argument.ensures.rule) c.flag-2.ensures.rule in
    let words = map string_bytes c.args.words.now in
    let none = ap (λ a. fault_of a words) program_is in
    let rows = (c.in_ok-matches.ensures.matches (ap is_simple program_is)).0 ∙ ap (λ a. matches_of a words) program_is in (
      given.0,
      given.1,
      sym none ∙ c.in_ok-matches.ensures.kinds (ap is_simple_and_free program_is),
      asked words given.0 c.in_ok-matches.matches _ rows c.display_in.ensures c.is_given.ensures c.is_given-2.ensures c.get_str.ensures,
    )
