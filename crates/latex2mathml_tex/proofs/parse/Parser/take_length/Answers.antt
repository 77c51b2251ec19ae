use Rattle.std.proofs.Common.{ap, refl, string_bytes, sym, ◌∙◌}
use Rattle.latex2mathml_tex_grammar.specs.Lengths as lengths
use Rattle.latex2mathml_tex_grammar.specs.Refusal.{LengthTooLarge, refusal_at}
use Rattle.latex2mathml_tex_units.specs.Scans.{spot_of}
use Rattle.latex2mathml_tex.proofs.TableRules.{took_none, took_some}
use Rattle.latex2mathml_tex.proofs.Values.{text_without_value, value_missing}
use Rattle.latex2mathml_tex.proofs.parse.Parser.take_length.Goals as goal

pub returns-in_default : goal.returns-in_default
returns-in_default c =
    let p = c.args.self.now in
    let q = c.take_text.new.self in
    let place = c.args.place in
    let spot = spot_of c.args.spot in
    value_missing lengths.width_of (λ text. refusal_at LengthTooLarge place) place spot p q (took_none string_bytes place spot p q _ c.in_default.is c.in_ok-length.ensures)

pub returns-in_default-width_of : goal.returns-in_default-width_of
returns-in_default-width_of c =
    let p = c.args.self.now in
    let q = c.take_text.new.self in
    let place = c.args.place in
    let spot = spot_of c.args.spot in
    let text = string_bytes c.in-Some.length in
    text_without_value lengths.width_of (λ text. refusal_at LengthTooLarge place) place spot p q text c.refuse.new.self _
    (took_some string_bytes place spot p q _ c.in-Some.length c.in-Some.is c.in_ok-length.ensures)
    (ap lengths.width_of (sym c.as_str.ensures.value) ∙ c.in_default-width_of.ensures) c.refuse.ensures.parser refl
