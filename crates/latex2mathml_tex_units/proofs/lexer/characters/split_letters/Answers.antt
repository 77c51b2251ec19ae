use Rattle.std.proofs.Common.{take}
use Rattle.latex2mathml_tex_units.proofs.Letters.{cut, letters_are}
use Rattle.latex2mathml_tex_units.proofs.lexer.characters.split_letters.Goals as goal

pub split_at-requires : goal.split_at-requires
split_at-requires c = cut _ _ c.utf8.text c.count_letters.ensures.within c.count_letters.ensures.letters

pub returns : goal.returns
returns c =
    let found = letters_are _ _ c.utf8.text c.count_letters.ensures.within c.count_letters.ensures.letters c.count_letters.ensures.end in
    (take c.count_letters.result c.args.text.now, rw (c.split_at.ensures.front, c.split_at.ensures.back) found)
