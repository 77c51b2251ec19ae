use Rattle.std.proofs.Common.{ap, option_map, refl, string_bytes, sym, ◌∙◌}
use Rattle.latex2mathml_attributes.specs.Arounds as arounds
use Rattle.latex2mathml_tex_grammar.specs.Colors.{color_of}
use Rattle.latex2mathml_tex_grammar.specs.Refusal.{UnknownColor, refusal_at}
use Rattle.latex2mathml_tex_grammar.specs.Scanning.{BeforeColor}
use Rattle.latex2mathml_tex.proofs.TableRules.{took_none, took_some}
use Rattle.latex2mathml_tex.proofs.Values.{text_without_value, value_missing}
use Rattle.latex2mathml_tex.proofs.parse.Parser.take_color.Goals as goal

pub returns-in_default : goal.returns-in_default
returns-in_default c =
    let p = c.args.self.now in
    let q = c.take_text.new.self in
    let place = c.args.place in
    value_missing color_of (λ name. refusal_at (UnknownColor name) place) place BeforeColor p q (took_none string_bytes place BeforeColor p q _ c.in_default.is c.in_ok-name.ensures)

pub returns-in_default-color_of : goal.returns-in_default-color_of
returns-in_default-color_of c =
    let p = c.args.self.now in
    let q = c.take_text.new.self in
    let place = c.args.place in
    let name = string_bytes c.in-Some.name in
    text_without_value color_of (λ name. refusal_at (UnknownColor name) place) place BeforeColor p q name c.refuse.new.self _
    (took_some string_bytes place BeforeColor p q _ c.in-Some.name c.in-Some.is c.in_ok-name.ensures)
    (ap color_of (sym c.as_str.ensures.value) ∙ sym c.color_of.ensures ∙ ap (option_map arounds.color_of) c.in_default-color_of.is) c.refuse.ensures.parser refl
