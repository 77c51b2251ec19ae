use Rattle.std.proofs.Common.{◌∙◌, ◌++◌, ℤ, List, ℕ, ap, append-nil, codes, of_z, refl, rules, string_bytes, sym, to_z, w32}
use Rattle.latex2mathml_elements.specs.Extents.{black_text, ems, length_if_any, width_start}
use Rattle.latex2mathml_attributes.proofs.{Appended.then, Lengths.kept}
use Rattle.latex2mathml_attributes.proofs.extent.Extent.append.Goals as goal

-- the attribute for a width
abbrev width_text : ℤ → List ℕ
width_text n = width_start n ++ (ems n ++ codes "em\"")

pub returns-in_ok-push_str : goal.returns-in_ok-push_str
returns-in_ok-push_str c =
    let e = c.args.self in
    let width = kept e.width (search rules) in
    let height = kept e.height (search rules) in
    let depth = kept e.depth (search rules) in
    then (string_bytes c.args.out.now) (string_bytes c.append_length.new.out) (width_text e.width) _ _ (c.in_ok-append_length.ensures ∙ ap (λ l. string_bytes c.args.out.now ++ (l ++ (ems (to_z w32 (of_z w32 e.width)) ++ codes "em\""))) c.width_start.ensures ∙ ap (λ n. string_bytes c.args.out.now ++ width_text n) width)
    (then (string_bytes c.append_length.new.out) (string_bytes c.append_if_any.new.out) (length_if_any (codes "height") e.height) _ _ (c.in_ok-append_if_any.ensures (codes "height") refl ∙ ap (λ n. string_bytes c.append_length.new.out ++ length_if_any (codes "height") n) height)
    (then (string_bytes c.append_if_any.new.out) (string_bytes c.append_if_any-2.new.out) (length_if_any (codes "depth") e.depth) _ _ (c.in_ok-append_if_any-2.ensures (codes "depth") refl ∙ ap (λ n. string_bytes c.append_if_any.new.out ++ length_if_any (codes "depth") n) depth)
    (c.in_ok-push_str.ensures.bytes ∙ ap (λ b. string_bytes c.append_if_any-2.new.out ++ black_text b) (sym c.if-self.true))))

pub returns-else-self : goal.returns-else-self
returns-else-self c =
    let e = c.args.self in
    let width = kept e.width (search rules) in
    let height = kept e.height (search rules) in
    let depth = kept e.depth (search rules) in
    then (string_bytes c.args.out.now) (string_bytes c.append_length.new.out) (width_text e.width) _ _ (c.in_ok-append_length.ensures ∙ ap (λ l. string_bytes c.args.out.now ++ (l ++ (ems (to_z w32 (of_z w32 e.width)) ++ codes "em\""))) c.width_start.ensures ∙ ap (λ n. string_bytes c.args.out.now ++ width_text n) width)
    (then (string_bytes c.append_length.new.out) (string_bytes c.append_if_any.new.out) (length_if_any (codes "height") e.height) _ _ (c.in_ok-append_if_any.ensures (codes "height") refl ∙ ap (λ n. string_bytes c.append_length.new.out ++ length_if_any (codes "height") n) height)
    (then (string_bytes c.append_if_any.new.out) (string_bytes c.append_if_any-2.new.out) (length_if_any (codes "depth") e.depth) _ _ (c.in_ok-append_if_any-2.ensures (codes "depth") refl ∙ ap (λ n. string_bytes c.append_if_any.new.out ++ length_if_any (codes "depth") n) depth)
    (sym (append-nil _) ∙ ap (λ b. string_bytes c.append_if_any-2.new.out ++ black_text b) (sym c.if-self.false))))
