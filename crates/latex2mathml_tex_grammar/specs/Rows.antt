-- Rows: the elements of atoms that are next to each other. Here the last element comes first.
use Rattle.std.specs.Prelude.{ℕ, zero, ℤ, pos, Bool, true, false, ◌&&◌, List, [], ◌∷◌, ◌++◌, reverse, Option, None, Some, if◌then◌else◌}
use Rattle.latex2mathml_elements.specs.Attributes.{Attributes, Form, Prefix, Postfix, Space, NoSpace, plain}
use Rattle.latex2mathml_elements.specs.{Colors.Color, Element.Element, Element.Mo, Element.Mrow, Element.token, Element.space, Element.container, Element.children, Element.is_space_like}
use Rattle.latex2mathml_tex_grammar.specs.Atoms.{Atom, Kind, SignOf, PlusOrMinus, Plain, UprightLetters, UprightIdentifier, Blank, Before, Nothing, After, kind_ends_operand, awaits_second, gap, past, element_there, element_as, without_space, without_space_after}
use Rattle.latex2mathml_tex_grammar.specs.{Meaning.FractionRule}
use Rattle.latex2mathml_tex_grammar.specs.Heights.{Height, Low, larger}
use Rattle.latex2mathml_tex_grammar.specs.Symbols.{Class, Ordinary, Operator, Binary, Relation, Punctuation, Style, TextSize}

-- how what follows a change in a group looks
pub record Look : Type 0 where
  -- the style and the size of letters of the group
  pub group : Style
  pub group_size : TextSize
  -- whether the style was changed, and the color, where there is one
  pub has_own_style : Bool
  pub color : Option Color
  -- how large letters are, in thousandths of those of the group, where they are not of the same size
  pub scale : Option ℕ

-- a change of style, color or size in a row
pub record Restyled : Type 0 where
  -- the elements before it
  pub before : List Element
  -- the look of what follows
  pub look : Look

-- the upper part of a fraction, which is in this style
pub record Upper : Type 0 where
  pub rule : FractionRule
  pub style : Style
  pub element : Element

-- what was read of a row
pub record Row : Type 0 where
  -- the elements since the last change of style, color or size
  pub elements : List Element
  -- what precedes the next atom
  pub before : Before
  -- what its last atom is, or a space, which nothing joins
  pub last : Kind
  -- how high its highest atom is
  pub height : Height
  -- its class as the base of a mark
  pub class : Class
  -- the last such change, where there was one
  pub restyled : Option Restyled
  -- the upper part of the fraction whose lower part it is, where it is one
  pub under : Option Upper

-- a row before its first atom
abbrev pub empty_row : Row
empty_row = record { elements = []; before = Nothing; last = Blank; height = Low; class = Ordinary; restyled = None; under = None }

-- these elements with a space of this width after them, where it has one
abbrev pub parted : ℤ → List Element → List Element
parted (pos zero) xs = xs
parted width xs = space width ∷ xs

-- whether an atom joins the one before it
pub data Joining : Type 0 where
  -- an upright letter joins a word, and a relation joins relations: TeX leaves no space between them
  ToWord : Joining
  ToRelations : Joining
  -- an empty space is between an upright letter and what else is ordinary: Firefox leaves a thin space between two such letters, but
  -- none at the sides of a space
  Separated : Joining
  Apart : Joining

-- what an atom of the second kind does directly after one of the first
abbrev pub joining : Kind → Kind → Joining
joining UprightLetters UprightLetters = ToWord
joining (SignOf Relation) (SignOf Relation) = ToRelations
joining UprightLetters (Plain Ordinary) = Separated
joining UprightIdentifier (Plain Ordinary) = Separated
joining (Plain Ordinary) UprightLetters = Separated
joining (Plain Ordinary) UprightIdentifier = Separated
joining last kind = Apart

-- a text joins the text before it, whose attributes change in this way
abbrev pub join : (Attributes → Attributes) → Element → List Element → List Element
join change (token t a more) (token u b before ∷ xs) = token u (change b) (before ++ more) ∷ xs
join change x xs = x ∷ xs

-- whether a row has no element yet
abbrev pub is_empty : List Element → Bool
is_empty [] = true
is_empty (x ∷ xs) = false

-- the elements of a row with one more atom, which may join the last one. A word of several letters is upright by itself.
abbrev pub put : Joining → Style → Before → Atom → List Element → List Element
put ToWord style before x xs = join (λ a. plain) x.element xs
put ToRelations style before x xs = join (λ a. a) x.element xs
put Separated style before x xs = x.element ∷ space (pos zero) ∷ xs
put Apart style before x xs = element_there style (is_empty xs) before x.kind x.element ∷ parted (gap style before x.kind) xs

-- the class of one atom as a base: a binary operator and a relation stay what they are
abbrev pub class_of_kind : Kind → Class
class_of_kind (SignOf Binary) = Binary
class_of_kind (SignOf Relation) = Relation
class_of_kind PlusOrMinus = Binary
class_of_kind (Plain Binary) = Binary
class_of_kind (Plain Relation) = Relation
class_of_kind kind = Ordinary

-- the class of a row with one more atom as a base: that of its only atom, or ordinary
abbrev pub class_after : List Element → Kind → Class
class_after [] kind = class_of_kind kind
class_after xs kind = Ordinary

-- the class of a row of this class and these elements with one more atom; one that joins the last atom changes nothing
abbrev pub class_with : Joining → Class → List Element → Kind → Class
class_with ToWord class xs kind = class
class_with ToRelations class xs kind = class
class_with joining class xs kind = class_after xs kind

-- elements the last of which is a sign that loses its space, if so
abbrev pub without_last_space : Bool → List Element → List Element
without_last_space true (x ∷ xs) = without_space x ∷ xs
without_last_space loses xs = xs

-- what precedes an atom: an ordinary sign, if so
abbrev pub behind_ordinary : Bool → Before → Before
behind_ordinary true before = After Ordinary
behind_ordinary false before = before

-- a row whose last atom is an ordinary sign, if so
abbrev pub with_ordinary_sign : Bool → Row → Row
with_ordinary_sign is_ordinary row =
    record row { elements = without_last_space is_ordinary row.elements; before = behind_ordinary is_ordinary row.before }

-- a row at its end: a binary sign there has no second operand, and is ordinary
abbrev pub with_operand_ended : Row → Row
with_operand_ended row = with_ordinary_sign (awaits_second row.last row.before) row

-- a row before an atom of this kind, where an operand may end as well
abbrev pub row_before : Kind → Row → Row
row_before kind row = with_ordinary_sign (awaits_second row.last row.before && kind_ends_operand kind) row

-- a row with an atom after it, in this style
abbrev pub appended : Style → Row → Atom → Row
appended style row x = record {
  elements = put (joining row.last x.kind) style row.before x row.elements;
  before = past row.before x.kind;
  last = x.kind;
  height = larger row.height x.height;
  class = class_with (joining row.last x.kind) row.class row.elements x.kind;
  restyled = row.restyled;
  under = row.under;
}

-- a row with an atom after it, in this style, where a binary sign before it may be ordinary
abbrev pub with_atom : Style → Row → Atom → Row
with_atom style row x = appended style (row_before x.kind row) x

-- an operator that is empty and has no space
abbrev pub empty_operator : Element
empty_operator = token Mo (record plain { space = Some NoSpace }) []

-- whether a sign of this form and space has space at its sides
abbrev pub has_space : Option Form → Option Space → Bool
has_space (Some Prefix) width = false
has_space (Some Postfix) width = false
has_space form (Some NoSpace) = false
has_space form width = true

-- whether an element is a sign with space at its sides
abbrev pub is_spaced_sign : Element → Bool
is_spaced_sign (token Mo a text) = has_space a.form a.space
is_spaced_sign x = false

abbrev pub are_space_like : List Element → Bool
are_space_like [] = true
are_space_like (x ∷ xs) = is_space_like x && are_space_like xs

-- whether MathML takes a row of these elements for a sign, since the others are words and spaces
abbrev pub are_like_sign : List Element → Bool
are_like_sign [] = false
are_like_sign (x ∷ xs) = if is_spaced_sign x then are_space_like xs else is_space_like x && are_like_sign xs

-- the elements of a row: with a second operator, a browser leaves the space of a sign next to the sign, and not around the row
abbrev pub row_elements : List Element → List Element
row_elements xs = if are_like_sign xs then empty_operator ∷ xs else xs

-- elements that are next to each other, as one
abbrev pub row_element : List Element → Element
row_element (x ∷ []) = x
row_element xs = container Mrow plain (children (reverse (row_elements xs)))

-- whether an element of this kind loses its space where nothing is next to it
abbrev pub is_spaced : Kind → Bool
is_spaced (SignOf Binary) = true
is_spaced (SignOf Relation) = true
is_spaced (SignOf Punctuation) = true
is_spaced (SignOf Operator) = true
is_spaced (Plain Operator) = true
is_spaced kind = false

-- an element with nothing next to it: TeX leaves no space around it
abbrev pub isolated : Bool → Element → Element
isolated true x = without_space x
isolated false x = x

-- whether browsers leave space after an element of this kind where nothing follows it: a relation or a comma
abbrev pub leaves_space : Kind → Bool
leaves_space (SignOf Relation) = true
leaves_space (SignOf Punctuation) = true
leaves_space kind = false

-- an element with nothing after it: TeX leaves no space there
abbrev pub ended : Bool → Element → Element
ended true x = without_space_after x
ended false x = x

-- the elements of a row in braces, of a cell, or of a formula, whose last atom is of this kind: nothing is next to them
abbrev pub lone : Kind → List Element → List Element
lone last [] = []
lone last (x ∷ []) = isolated (is_spaced last) x ∷ []
lone last (x ∷ y ∷ xs) = ended (leaves_space last) x ∷ y ∷ xs

-- What a command takes: one element, with its class as the base of a mark, and its height.
pub record Operand : Type 0 where
  pub element : Element
  pub class : Class
  pub height : Height

-- a row as an operand
abbrev pub operand_of : Row → Operand
operand_of row = record { element = row_element row.elements; class = row.class; height = row.height }

-- an operand as the base of an atom of this class
abbrev pub as_base : Style → Class → Operand → Operand
as_base style class x = record x { element = element_as style class x.class x.element }

-- one atom as an operand
abbrev pub single : Style → Atom → Operand
single style x = operand_of (with_atom style empty_row x)
