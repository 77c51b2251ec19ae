-- Signs with space that belongs to them: dots, and long arrows.
use Rattle.std.specs.Prelude.{ℕ, pos, [], ◌∷◌, Some, false}
use Rattle.latex2mathml_elements.specs.Attributes.{NoSpace, Rigid, ThinAfter, plain}
use Rattle.latex2mathml_elements.specs.Element.{Mo, Mrow, children, container, rectangle, space, token}
use Rattle.latex2mathml_tex_grammar.specs.{Atoms.Plain, Atoms.SignOf, Atoms.Unspaced, Atoms.atom}
use Rattle.latex2mathml_tex_grammar.specs.Heights.{Low, VeryTall}
use Rattle.latex2mathml_tex_grammar.specs.Makes.{Core, core, sign, text}
use Rattle.latex2mathml_tex_grammar.specs.Symbols.{Inner, Ordinary, Relation}

-- dots with a thin space after them
abbrev pub spaced_dots : ℕ → Core
spaced_dots c = core (atom (SignOf Inner) Low (token Mo (record plain { space = Some ThinAfter }) (text c)))

-- the dots of a column, with space above them: they are as high as TeX's
abbrev pub vertical_dots : Core
vertical_dots =
    let strut = rectangle (record { width = pos 0; height = pos 1500; depth = pos 0; is_black = false }) in
    core (atom (Plain Ordinary) VeryTall (container Mrow plain (children ((sign Ordinary 0x22EE).element ∷ strut ∷ []))))

-- an arrow with a thick space at each side, as one relation, which has no other space of its own
abbrev pub implication : ℕ → Core
implication c =
    let arrow_element = token Mo (record plain { stretch = Some Rigid; space = Some NoSpace }) (text c) in
    core (atom (Unspaced Relation) Low (container Mrow plain (children (space (pos 5) ∷ arrow_element ∷ space (pos 5) ∷ []))))
