use Rattle.std.proofs.Common.{arith, option_map, refl}
use Rattle.latex2mathml_tex_grammar.specs.Makes
use Rattle.latex2mathml_tex_grammar.specs.Words.{Words, font_in, with_character}
use Rattle.latex2mathml_tex_commands.specs.Meanings.{alphabet_of}
use Rattle.latex2mathml_tex.proofs.Wording.{words_replaced, words_step}
use Rattle.latex2mathml_tex.proofs.parse.Parser.show.Goals as goal

pub returns : goal.returns
returns c =
    let p = c.args.self.now in
    let b = c.put_character.new.builder in
    let after = c.in_ok-put_character.field-0 in
    let change : Words → Words = λ ws. with_character (font_in (option_map alphabet_of c.args.alphabet)) ws (Makes.text c.args.c) in
    let r = rw c.of_words-font.ensures at c.in_ok-put_character.ensures in
    record {
      holds = λ s g. words_replaced change s p b c.args.words after r g.style g.leads;
      step = words_step 13 change p b c.args.words after after (omega arith) refl r c.requires;
    }
