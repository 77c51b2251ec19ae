use Rattle.std.proofs.Common.{◌∙◌, ◌≡◌, ◌<◌, ◌∷◌, ap, arith, get_or, length, subst, sym, true}
use Rattle.std.proofs.lemmas.Bool.Decides.{nat_tests}
use Rattle.std.proofs.lemmas.Str.{IsCharBoundary-after_ascii}
use Rattle.std.specs.{Char.is_ascii, Str.chars}
use Rattle.latex2mathml_tex_units.proofs.Plain.{first_split}
use Rattle.latex2mathml_tex_units.proofs.lexer.characters.first_ascii.Goals as goal

pub split_at-requires : goal.split_at-requires
split_at-requires c =
    let some : 0 < length c.args.text.now = subst (λ t. 0 < length t) c.as_bytes.ensures.value c.in_ok-first.ensures.item.3.0 in
    let here : get_or c.args.text.now 0 0 ≡ c.in_ok-first.field-0.now = ap (λ t. get_or t 0 0) (sym c.as_bytes.ensures.value) ∙ sym (c.in_ok-first.ensures.item.3.1 0) in
    let is : is_ascii c.in_ok-first.field-0.now ≡ true = sym c.is_ascii.ensures ∙ c.if-not-is_ascii.false in
    let small : c.in_ok-first.field-0.now < 128 = grind (arith, nat_tests) in
    IsCharBoundary-after_ascii c.args.text.now 0 c.utf8.text some (omega (arith, here, small))

pub returns : goal.returns
returns c =
    let some : 0 < length c.args.text.now = subst (λ t. 0 < length t) c.as_bytes.ensures.value c.in_ok-first.ensures.item.3.0 in
    let here : get_or c.args.text.now 0 0 ≡ c.from.result = ap (λ t. get_or t 0 0) (sym c.as_bytes.ensures.value) ∙ sym (c.in_ok-first.ensures.item.3.1 0) ∙ sym c.from.ensures in
    let is : is_ascii c.in_ok-first.field-0.now ≡ true = sym c.is_ascii.ensures ∙ c.if-not-is_ascii.false in
    let small : c.in_ok-first.field-0.now < 128 = grind (arith, nat_tests) in
    first_split c.args.text.now c.from.result 0 c.utf8.text some here (omega (arith, small, c.from.ensures)) ∙ ap (λ t. c.from.result ∷ chars t) (sym c.split_at.ensures.back)
