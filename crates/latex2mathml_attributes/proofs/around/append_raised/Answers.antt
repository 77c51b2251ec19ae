use mir.Val.{SFits}
use Rattle.std.proofs.Common.{◌≡◌, ◌∙◌, ◌++◌, ap, arith, codes, of_z, refl, rules, string_bytes, to_z, w32}
use Rattle.std.proofs.lemmas.Int.{ints}
use Rattle.latex2mathml_elements.specs.Extents.{length_if_any}
use Rattle.latex2mathml_attributes.proofs.Appended.{then}
use Rattle.latex2mathml_attributes.proofs.around.append_raised.Goals as goal

pub returns : goal.returns
returns c =
    let fits : SFits w32 c.args.length = search rules in
    let same : to_z w32 (of_z w32 c.args.length) ≡ c.args.length = omega (arith, ints) in
    then (string_bytes c.args.out.now) (string_bytes c.push_str.new.self) (codes "<mpadded") _ _ c.in_ok-push_str.ensures.bytes
    (then (string_bytes c.push_str.new.self) (string_bytes c.append_if_any.new.out) (length_if_any (codes "voffset") c.args.length) _ _ (c.in_ok-append_if_any.ensures (codes "voffset") refl ∙ ap (λ n. string_bytes c.push_str.new.self ++ length_if_any (codes "voffset") n) same)
    c.in_ok-push_str-2.ensures.bytes)
