use Rattle.std.proofs.Common.{◌∙◌, ◌≡◌, ◌<◌, ◌∷◌, ap, arith, get_or, length, false, subst, sym, true}
use Rattle.std.proofs.lemmas.Str.{IsCharBoundary-after_ascii}
use Rattle.std.specs.Str.{chars}
use Rattle.latex2mathml_tex_units.specs.Characters.{is_plain}
use Rattle.latex2mathml_tex_units.proofs.Plain.{first_split, in_table, plain_ascii, plain_at}
use Rattle.latex2mathml_tex_units.proofs.lexer.characters.first_plain.Goals as goal

pub bounds-plain_bytes-from : goal.bounds-plain_bytes-from
bounds-plain_bytes-from c = in_table _ _ c.plain_bytes.ensures (omega (arith, c.from.ensures, c.type_inv.first.fits))

pub split_at-requires : goal.split_at-requires
split_at-requires c =
    let small : c.from.result < 256 = omega (arith, c.from.ensures, c.in_ok-first.ensures.item.3.1 0, ap (λ t. get_or t 0 0) c.as_bytes.ensures.value, (c.type_inv.text 0).fits) in
    let plain : is_plain c.from.result ≡ true = sym (plain_at c.plain_bytes.result.now c.from.result false c.plain_bytes.ensures small) ∙ c.if-not-plain_bytes-from.false in
    let some : 0 < length c.args.text.now = subst (λ t. 0 < length t) c.as_bytes.ensures.value c.in_ok-first.ensures.item.3.0 in
    let here : get_or c.args.text.now 0 0 ≡ c.from.result = ap (λ t. get_or t 0 0) (sym c.as_bytes.ensures.value) ∙ sym (c.in_ok-first.ensures.item.3.1 0) ∙ sym c.from.ensures in
    IsCharBoundary-after_ascii c.args.text.now 0 c.utf8.text some (omega (arith, here, plain_ascii c.from.result plain))

pub returns : goal.returns
returns c =
    let small : c.from.result < 256 = omega (arith, c.from.ensures, c.in_ok-first.ensures.item.3.1 0, ap (λ t. get_or t 0 0) c.as_bytes.ensures.value, (c.type_inv.text 0).fits) in
    let plain : is_plain c.from.result ≡ true = sym (plain_at c.plain_bytes.result.now c.from.result false c.plain_bytes.ensures small) ∙ c.if-not-plain_bytes-from.false in
    let same : c.from-2.result ≡ c.from.result = c.from-2.ensures ∙ sym c.from.ensures in
    let some : 0 < length c.args.text.now = subst (λ t. 0 < length t) c.as_bytes.ensures.value c.in_ok-first.ensures.item.3.0 in
    let here : get_or c.args.text.now 0 0 ≡ c.from-2.result = ap (λ t. get_or t 0 0) (sym c.as_bytes.ensures.value) ∙ sym (c.in_ok-first.ensures.item.3.1 0) ∙ sym c.from-2.ensures in (
      ap is_plain same ∙ plain,
      first_split c.args.text.now c.from-2.result 0 c.utf8.text some here (omega (arith, same, plain_ascii c.from.result plain)) ∙ ap (λ t. c.from-2.result ∷ chars t) (sym c.split_at.ensures.back),
    )
