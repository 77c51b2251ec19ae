use Rattle.std.proofs.Common.{refl}
use Rattle.latex2mathml_elements.specs.{Attributes.plain, Element.Mo, Element.token}
use Rattle.latex2mathml_tex_grammar.specs.{Atoms.Plain, Atoms.atom, Symbols.Operator}
use Rattle.latex2mathml_tex_grammar.specs.Makes
use Rattle.latex2mathml_tex_commands.specs.Meanings.{limit_place_of}
use Rattle.latex2mathml_tex_atoms.specs.Models.{height_of}
use Rattle.latex2mathml_tex.proofs.parse.symbols.put_operator.Goals as goal

pub returns : goal.returns
returns c =
    let k = Makes.operator (limit_place_of c.args.limits) (atom (Plain Operator) (height_of c.args.height) (token Mo plain (Makes.text c.args.c))) in
    c.put_character.ensures k (rw c.plain.ensures refl)
