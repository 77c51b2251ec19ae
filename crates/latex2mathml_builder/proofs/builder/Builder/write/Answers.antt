use Rattle.std.proofs.Common.{◌+◌, ◌-◌, ◌<◌, ◌∙◌, ◌++◌, ap, arith, length, reverse, string_bytes, sym, take}
use Rattle.latex2mathml_elements.specs.{Element.token, Print.print}
use Rattle.latex2mathml_attributes.specs.Names.{attributes_if_any, token_of}
use Rattle.latex2mathml_builder.specs.{Built.element_in, Built.elements_in}
use Rattle.latex2mathml_builder.proofs.{Sound.elements_length, Written.lowest_written, Written.token_first}
use Rattle.latex2mathml_builder.proofs.builder.Builder.write.Goals as goal
use Rattle.latex2mathml_builder.proofs.builder.Builder.write.Goals.{in-Token+in_ok-write_token-in-Token, in_default+in_ok-write_outer-in_default}

pub elements-preserved : goal.elements-preserved
elements-preserved c =
    let b = c.args.self.now in
    let place = c.elements.place in
    let xs = elements_in b in
    let n = length b.stack in
    let out = string_bytes c.elements.out in
    let below : place < n = omega (arith, c.elements-test.true, c.len-in-elements.ensures, elements_length b.texts b.settled b.stack) in
    let is = lowest_written n place xs _ _ below c.open_at.ensures.element in
    elim c.match-open_at.branch [
      | in-Token+in_ok-write_token-in-Token w ↦
          let found = w.in-Token in
          let writes =
          ap string_bytes w.out-is
          ∙ w.in_ok-write_token-in-Token.ensures
          ∙ ap (λ text. out ++ print (token (token_of found.tag) (attributes_if_any found.attributes) text)) w.text_between.ensures
          ∙ ap (λ p. out ++ print (element_in b p)) (sym found.is) in
          record {
            none = rw w.list-is c.elements.invariant.none;
            within = omega (arith, below);
            print = token_first out (reverse (take (n - place) xs)) (reverse (take (n - (place + 1)) xs)) _ _ _ is writes c.elements.invariant.print;
          }
      | in_default+in_ok-write_outer-in_default w ↦ record {
        none = rw w.list-is w.in_ok-write_outer-in_default.ensures.empty;
        within = omega (arith, below);
        print = token_first out (reverse (take (n - place) xs)) (reverse (take (n - (place + 1)) xs)) _ _ _ is (ap string_bytes w.out-is ∙ w.in_ok-write_outer-in_default.ensures.print) c.elements.invariant.print;
      }
    ]
