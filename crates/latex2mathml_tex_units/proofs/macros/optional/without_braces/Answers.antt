use Rattle.std.proofs.Common.{◌≡◌, ◌∙◌, ◌-◌, ◌++◌, ap, arith, drop, length, map, sym, take}
use Rattle.latex2mathml_tex_grammar.specs.Arguments.{is_group}
use Rattle.latex2mathml_tex_units.specs.Taking.{unit_of}
use Rattle.latex2mathml_tex_units.proofs.Optional.{inside_braces}
use Rattle.latex2mathml_tex_units.proofs.macros.optional.without_braces.Goals as goal

pub returns : goal.returns
returns c =
    let all : c.len.result ≡ length c.args.units.items = omega (arith, c.len.ensures, c.deref-2.ensures.len, ap length c.deref-2.ensures.value) in
    let group = ap (λ us. is_group (map unit_of us)) (sym c.deref.ensures.value) ∙ sym c.is_group.ensures ∙ c.if-not-is_group.false in
    ap (map unit_of) (c.in_ok-extend_from_slice.ensures.items ∙ ap (λ us. us ++ take (c.len.result - 1 - 1) (drop 1 c.deref-2.result.now)) c.new-inside.ensures.items)
    ∙ ap (λ us. map unit_of (take (c.len.result - 1 - 1) (drop 1 us))) c.deref-2.ensures.value
    ∙ inside_braces c.args.units.items c.len.result all group
