use Rattle.std.proofs.Common.{◌≡◌, ◌≤◌, ℕ, List, [], ◌∷◌, ◌++◌, append-nil, append_assoc, arith, codes, length, reverse, string_bytes, take}
use Rattle.latex2mathml_elements.specs.{Element.Element, Element.children, Print.print, Print.prints}
use Rattle.latex2mathml_builder.specs.Built.{elements_in}
use Rattle.latex2mathml_tex_atoms.specs.Models.{top}
use Rattle.latex2mathml_tex.proofs.convert.write_annotated_math.Goals as goal

-- the markup of the uppermost element
one_print : (xs : List Element) → 1 ≤ length xs → prints (children (reverse (take 1 xs))) ≡ print (top xs)
one_print [] h = absurd (omega (arith, h))
one_print (x ∷ xs) h = append-nil (print x)

-- one text after another
in_turn : (old first second third fourth fifth sixth tag opened alternative quote opening several one annotation closing : List ℕ)
    → first ≡ old ++ opened → opened ≡ tag → second ≡ first ++ alternative → third ≡ second ++ (quote ++ opening) → fourth ≡ third ++ several → several ≡ one → fifth ≡ fourth ++ annotation → sixth ≡ fifth ++ closing
    → sixth ≡ old ++ ((tag ++ (alternative ++ quote)) ++ (opening ++ (one ++ (annotation ++ closing))))
in_turn old first second third fourth fifth sixth tag opened alternative quote opening several one annotation closing a is b c d same e f = simp (append_assoc, f, e, d, c, b, a, is, same)

pub returns : goal.returns
returns c =
    in_turn (string_bytes c.args.text.now) _ _ _ _ _ _ _ _ _ (codes "\">") (codes "<semantics>") _ _ _ _ c.in_ok-push_str.ensures.bytes c.alternative_start.ensures c.in_ok-append_alternative.ensures c.in_ok-push_str-2.ensures.bytes
    c.in_ok-write.ensures.markup (one_print (elements_in c.args.builder.now) c.requires) c.in_ok-append_annotation.ensures c.in_ok-push_str-3.ensures.bytes
