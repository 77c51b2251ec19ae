use Rattle.std.proofs.Common.{arith, refl}
use Rattle.latex2mathml_tex_grammar.specs.Words.{with_accent_ended}
use Rattle.latex2mathml_tex.proofs.Wording.{words_replaced, words_step}
use Rattle.latex2mathml_tex.proofs.parse.Parser.end_group.Goals as goal

pub returns : goal.returns
returns c =
    let p = c.args.self.now in
    let b = c.end_accent.new.builder in
    let after = c.in_ok-end_accent.field-0 in
    let r = c.in_ok-end_accent.ensures in
    record {
      holds = λ s g. words_replaced with_accent_ended s p b c.args.words after r g.style g.leads;
      step = words_step 6 with_accent_ended p b c.args.words after after (omega arith) refl r c.requires;
    }
