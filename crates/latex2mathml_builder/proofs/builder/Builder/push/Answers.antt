use Rattle.std.proofs.Common.{◌≡◌, ◌-◌, ◌<◌, ◌∙◌, ap, arith, length, string_bytes, subst, sym}
use Rattle.std.proofs.Math.ListN.{get_or}
use Rattle.std.proofs.lemmas.Str.{IsUtf8-string_bytes}
use Rattle.std.specs.Char.{encode_utf8}
use Rattle.latex2mathml_builder.specs.{Built.elements_in, Stacks.lengthened}
use Rattle.latex2mathml_builder.specs.declared.part.Part.TheVariants as part
use Rattle.latex2mathml_builder.proofs.Sound.{elements_extended, sound_extended}
use Rattle.latex2mathml_builder.proofs.builder.Builder.push.Goals as goal

pub invariant_of-self-2 : goal.invariant_of-self-2
invariant_of-self-2 c =
    let found = c.in-Some-Token in
    let old = part.Token found.tag found.attributes found.start found.field-0-3 in
    let new = c.push.new.self in
    let some = subst (λ l. 0 < length l) c.as_slice.ensures.value found.ensures.item.3.0 in
    let is = subst (λ l. get_or l (length l - 1) old ≡ old) c.as_slice.ensures.value (sym (found.ensures.item.3.1 old) ∙ found.field-0-is) in
    let end : c.len.result ≡ length (string_bytes new) = omega (arith, c.len.ensures, new.bytes.ok) in
    let place = ap (λ l. length l - 1) c.as_slice-2.ensures.value in
    sound_extended _ (encode_utf8 c.args.c) _ _ _ _ _ found.field-0-3 c.self.invariant some is _ _ _ c.in_ok-push.ensures.bytes end place (IsUtf8-string_bytes new)

pub returns-clause-elements : goal.returns-clause-elements
returns-clause-elements c =
    let found = c.in-Some-Token in
    let old = part.Token found.tag found.attributes found.start found.field-0-3 in
    let new = c.push.new.self in
    let some = subst (λ l. 0 < length l) c.as_slice.ensures.value found.ensures.item.3.0 in
    let is = subst (λ l. get_or l (length l - 1) old ≡ old) c.as_slice.ensures.value (sym (found.ensures.item.3.1 old) ∙ found.field-0-is) in
    let end : c.len.result ≡ length (string_bytes new) = omega (arith, c.len.ensures, new.bytes.ok) in
    let place = ap (λ l. length l - 1) c.as_slice-2.ensures.value in
    elements_extended _ (encode_utf8 c.args.c) _ _ _ _ _ found.field-0-3 c.self.invariant some is _ _ _ c.in_ok-push.ensures.bytes end place
    ∙ ap (λ b. lengthened (encode_utf8 c.args.c) (elements_in b)) c.self.view_is
