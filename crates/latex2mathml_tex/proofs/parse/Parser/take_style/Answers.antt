use Rattle.std.proofs.Common.{ap, option_map, refl, string_bytes, sym, ◌∙◌}
use Rattle.latex2mathml_tex_grammar.specs.Refusal.{MissingArgument, refusal_at}
use Rattle.latex2mathml_tex_grammar.specs.Rules.{numbered_style}
use Rattle.latex2mathml_tex_grammar.specs.Scanning.{BeforeArgument, Number}
use Rattle.latex2mathml_tex_commands.specs.Meanings.{style_of}
use Rattle.latex2mathml_tex.proofs.TableRules.{took_none, took_some}
use Rattle.latex2mathml_tex.proofs.Values.{text_without_value, value_missing}
use Rattle.latex2mathml_tex.proofs.parse.Parser.take_style.Goals as goal

pub returns-in_default : goal.returns-in_default
returns-in_default c =
    let p = c.args.self.now in
    let q = c.take_text.new.self in
    let place = c.args.place in
    value_missing numbered_style (λ text. refusal_at MissingArgument place) place (BeforeArgument Number) p q (took_none string_bytes place (BeforeArgument Number) p q _ c.in_default.is c.in_ok-number.ensures)

pub returns-in_default-numbered_style : goal.returns-in_default-numbered_style
returns-in_default-numbered_style c =
    let p = c.args.self.now in
    let q = c.take_text.new.self in
    let place = c.args.place in
    let number = string_bytes c.in-Some.number in
    text_without_value numbered_style (λ text. refusal_at MissingArgument place) place (BeforeArgument Number) p q number c.refuse.new.self _
    (took_some string_bytes place (BeforeArgument Number) p q _ c.in-Some.number c.in-Some.is c.in_ok-number.ensures)
    (ap numbered_style (sym c.as_str.ensures.value) ∙ sym c.numbered_style.ensures ∙ ap (option_map (option_map style_of)) c.in_default-numbered_style.is) c.refuse.ensures.parser refl
