use Rattle.std.proofs.Common.{◌≡◌, ◌∷◌, ◌∙◌, ap, arith, length, string_bytes}
use Rattle.std.proofs.lemmas.Str.{IsUtf8-string_bytes}
use Rattle.std.specs.Char.{encode_utf8}
use Rattle.latex2mathml_elements.specs.Element.{token}
use Rattle.latex2mathml_attributes.specs.Names.{element_with_text, token_of}
use Rattle.latex2mathml_builder.specs.Built.{elements_in}
use Rattle.latex2mathml_builder.proofs.{Sound.elements, Sound.elements_text, Sound.sound_text}
use Rattle.latex2mathml_builder.proofs.builder.Builder.character.Goals as goal

pub invariant_of-self-2 : goal.invariant_of-self-2
invariant_of-self-2 c =
    let texts = c.self.inside.texts in
    let new = c.push.new.self in
    let start : c.len-start.result ≡ length (string_bytes texts) = omega (arith, c.len-start.ensures, texts.bytes.ok) in
    let end : c.len-end.result ≡ length (string_bytes new) = omega (arith, c.len-end.ensures, new.bytes.ok) in
    rw (c.push_reserved.ensures.items, c.in_ok-reserve.ensures.items) (sound_text (string_bytes texts) _ _ _ c.args.tag c.if_any.result c.self.invariant _ _ _ c.in_ok-push.ensures.bytes start end (IsUtf8-string_bytes texts) (IsUtf8-string_bytes new))

pub returns-clause-elements : goal.returns-clause-elements
returns-clause-elements c =
    let texts = c.self.inside.texts in
    let new = c.push.new.self in
    let settled = c.self.inside.settled.items in
    let x = element_with_text c.args.tag c.args.attributes (encode_utf8 c.args.c) in
    let start : c.len-start.result ≡ length (string_bytes texts) = omega (arith, c.len-start.ensures, texts.bytes.ok) in
    let end : c.len-end.result ≡ length (string_bytes new) = omega (arith, c.len-end.ensures, new.bytes.ok) in
    ap (elements (string_bytes new) settled) (rw c.in_ok-reserve.ensures.items at c.push_reserved.ensures.items)
    ∙ elements_text (string_bytes texts) _ _ _ c.args.tag c.if_any.result c.self.invariant _ _ _ c.in_ok-push.ensures.bytes start end
    ∙ ap (λ a. token (token_of c.args.tag) a (encode_utf8 c.args.c) ∷ elements (string_bytes texts) settled c.self.inside.stack.items) c.if_any.ensures
    ∙ ap (λ b. x ∷ elements_in b) c.self.view_is
