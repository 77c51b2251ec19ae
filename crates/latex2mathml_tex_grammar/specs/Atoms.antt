-- Atoms, and what each is to those next to it: the space between them, prefix signs, words of upright letters.
use Rattle.std.specs.Prelude.{ℕ, ℤ, pos, ◌+◌, ◌-ℤ◌, Bool, true, false, Option, Some, None, if◌then◌else◌}
use Rattle.latex2mathml_elements.specs.{Attributes.Form, Attributes.Prefix, Attributes.Infix, Attributes.Space, Attributes.NoSpace, Attributes.Thick, Attributes.NoSpaceBefore, Attributes.ThinAfter, Attributes.ThickAfter, Attributes.NoSpaceAfter, Attributes.ThickBefore, Element.Element, Element.Mo, Element.token}
use Rattle.latex2mathml_tex_grammar.specs.Heights.{Height}
use Rattle.latex2mathml_tex_grammar.specs.SpaceTable.{space_between}
use Rattle.latex2mathml_tex_grammar.specs.Symbols.{Class, Ordinary, Operator, Binary, Relation, Opening, Closing, Punctuation, Inner, Style, InScript}

-- what an atom is to its neighbours
pub data Kind : Type 0 where
  -- a sign of this class, an `mo` of its own
  SignOf : Class → Kind
  -- a binary sign that is a prefix where no binary operator can be
  PlusOrMinus : Kind
  -- any other element, of this class
  Plain : Class → Kind
  -- an upright letter, which forms one word with those next to it
  UprightLetters : Kind
  -- any other upright letter: one that is upright by itself, in braces, or with scripts
  UprightIdentifier : Kind
  -- an element of this class that has no space of its own, such as the name of a function
  Unspaced : Class → Kind
  -- a delimiter within others. Like an opening one, it begins what follows it.
  Divider : Kind
  -- a space
  Blank : Kind

-- an atom: its element, what it is to its neighbours, and how high it is
pub record Atom : Type 0 where
  pub element : Element
  pub kind : Kind
  pub height : Height

-- an atom of its three parts
abbrev pub atom : Kind → Height → Element → Atom
atom kind height element = record { element = element; kind = kind; height = height }

-- what precedes an atom, spaces aside: nothing, or an atom of this class, which may have no space of its own
pub data Before : Type 0 where
  Nothing : Before
  After : Class → Before
  AfterUnspaced : Class → Before

-- whether no binary operator can follow an atom of this class
abbrev pub awaits_operand : Class → Bool
awaits_operand Operator = true
awaits_operand Binary = true
awaits_operand Relation = true
awaits_operand Opening = true
awaits_operand Punctuation = true
awaits_operand Ordinary = false
awaits_operand Closing = false
awaits_operand Inner = false

-- whether an operand ends before an atom of this class
abbrev pub ends_operand : Class → Bool
ends_operand Relation = true
ends_operand Closing = true
ends_operand Punctuation = true
ends_operand class = false

-- whether an operand ends before an atom of this kind
abbrev pub kind_ends_operand : Kind → Bool
kind_ends_operand (SignOf class) = ends_operand class
kind_ends_operand (Plain class) = ends_operand class
kind_ends_operand (Unspaced class) = ends_operand class
kind_ends_operand Divider = true
kind_ends_operand kind = false

-- whether no binary operator can follow
abbrev pub begins_operand : Before → Bool
begins_operand Nothing = true
begins_operand (After class) = awaits_operand class
begins_operand (AfterUnspaced class) = awaits_operand class

-- the class that an atom of this class has there: where no binary operator can be, a binary one is ordinary
abbrev pub class_there : Before → Class → Class
class_there before Binary = if begins_operand before then Ordinary else Binary
class_there before class = class

-- what an atom is to the atom after it
abbrev pub past : Before → Kind → Before
past before (SignOf class) = After (class_there before class)
past before PlusOrMinus = After (class_there before Binary)
past before (Plain class) = After (class_there before class)
past before UprightLetters = After Ordinary
past before UprightIdentifier = After Ordinary
past before (Unspaced class) = AfterUnspaced (class_there before class)
past before Divider = After Opening
past before Blank = before

-- whether an atom of this kind, which is this to the atom after it, is a binary sign: its second operand is still to come
abbrev pub awaits_second : Kind → Before → Bool
awaits_second (SignOf Binary) (After Binary) = true
awaits_second PlusOrMinus (After Binary) = true
awaits_second last before = false

-- The space between two atoms

-- whether a relation has no space before it: after an opening sign, and after a comma, which has a space of its own
abbrev pub leads_relation : Before → Bool
leads_relation (After Opening) = true
leads_relation (After Punctuation) = true
leads_relation before = false

-- whether an operator has no space before it: not after what is ordinary, closing or inner, nor after what has no space
abbrev pub leads_operator : Before → Bool
leads_operator (After class) = awaits_operand class
leads_operator before = false

-- The space that a browser leaves at each side of an atom of this class, in eighteenths of an em. In scripts only operators have
-- some.
abbrev pub own_space : Style → Class → ℕ
own_space style Operator = 3
own_space InScript class = 0
own_space style Binary = 4
own_space style Relation = 5
own_space style class = 0

-- the space after an atom that precedes another; only there does a comma have some
abbrev pub own_after : Style → Before → ℕ
own_after InScript (After Punctuation) = 0
own_after style (After Punctuation) = 3
own_after style (After class) = own_space style class
own_after style before = 0

-- none, if so
abbrev pub unless : Bool → ℕ → ℕ
unless true width = 0
unless false width = width

-- the space before an atom of this class there
abbrev pub class_own_before : Style → Before → Class → ℕ
class_own_before style before Relation = unless (leads_relation before) (own_space style Relation)
class_own_before style before Operator = unless (leads_operator before) (own_space style Operator)
class_own_before style before class = own_space style (class_there before class)

-- the space before an atom of this kind there
abbrev pub own_before : Style → Before → Kind → ℕ
own_before style before (SignOf class) = class_own_before style before class
own_before style before (Plain class) = class_own_before style before class
own_before style before PlusOrMinus = class_own_before style before Binary
own_before style before kind = 0

-- the class of what precedes an atom, where anything does
abbrev pub class_before : Before → Option Class
class_before Nothing = None
class_before (After class) = Some class
class_before (AfterUnspaced class) = Some class

-- the space of the table between atoms of these classes, where there are two; none where the table has no entry
abbrev pub table_space : Style → Option Class → Option Class → Option ℕ
table_space style (Some left) (Some right) = space_between style left right
table_space style left right = None

-- the space that is missing, or the space that is too much, as a negative number; nothing is added where the table has no entry
abbrev pub missing : Option ℕ → ℕ → ℤ
missing None own = pos 0
missing (Some width) own = pos width -ℤ pos own

-- What is added between an atom and what precedes it, so that the space there is that of the table. A space needs none.
abbrev pub gap : Style → Before → Kind → ℤ
gap style before Blank = pos 0
gap style before kind =
    missing (table_space style (class_before before) (class_before (past before kind))) (own_after style before + own_before style before kind)

-- a sign that precedes its operand
abbrev pub as_prefix : Element → Element
as_prefix (token t a text) = token t (record a { form = Some Prefix }) text
as_prefix x = x

-- A sign between two operands. Where it is the first element of a row, a browser would take it for a prefix.
abbrev pub as_infix : Bool → Element → Element
as_infix true (token t a text) = token t (record a { form = Some Infix }) text
as_infix first x = x

-- a sign without space around it
abbrev pub without_space : Element → Element
without_space (token t a text) = token t (record a { space = Some NoSpace }) text
without_space x = x

-- in scripts a sign has no space around it
abbrev pub tight : Style → Element → Element
tight InScript x = without_space x
tight style x = x

-- the space of a sign that has none before it
abbrev pub only_after : Option Space → Option Space
only_after None = Some NoSpaceBefore
only_after (Some Thick) = Some ThickAfter
only_after (Some space) = Some space

-- a sign without the space before it
abbrev pub without_space_before : Element → Element
without_space_before (token t a text) = token t (record a { space = only_after a.space }) text
without_space_before x = x

-- the space of a sign that has none after it
abbrev pub only_before : Option Space → Option Space
only_before None = Some NoSpaceAfter
only_before (Some Thick) = Some ThickBefore
only_before (Some NoSpaceBefore) = Some NoSpace
only_before (Some ThinAfter) = Some NoSpace
only_before (Some ThickAfter) = Some NoSpace
only_before (Some space) = Some space

-- a sign without the space after it
abbrev pub without_space_after : Element → Element
without_space_after (token t a text) = token t (record a { space = only_before a.space }) text
without_space_after x = x

-- a sign without the space before it, if so
abbrev pub led : Bool → Element → Element
led true x = without_space_before x
led false x = x

-- a sign of this class, which is not binary
abbrev pub sign_there : Style → Before → Class → Element → Element
sign_there style before Relation x = tight style (led (leads_relation before) x)
sign_there style before Punctuation x = tight style x
sign_there style before Operator x = led (leads_operator before) x
sign_there style before class x = x

-- Whether a binary sign is ordinary, as it is where no binary operator can be. One that begins a group stays binary: the group may
-- be an operand, which takes a sign as it is.
abbrev pub is_ordinary : Bool → Before → Bool
is_ordinary true Nothing = false
is_ordinary first before = begins_operand before

-- the element of an atom there, which may be the first of its row
abbrev pub element_there : Style → Bool → Before → Kind → Element → Element
element_there style first before (SignOf Binary) x = if is_ordinary first before then without_space x else tight style x
element_there style first before (SignOf class) x = sign_there style before class x
element_there style first before (Plain Operator) x = led (leads_operator before) x
element_there style first before PlusOrMinus x =
    if begins_operand before then as_prefix x else tight style (as_infix first x)
element_there style first before kind x = x

-- the space around a sign that is the whole of an atom of this class: no space in scripts, or where the class has no space
abbrev pub space_as : Style → Class → Option Space → Option Space
space_as InScript class space = Some NoSpace
space_as style Binary space = space
space_as style Relation space = space
space_as style class space = Some NoSpace

-- the form of such a sign: one that browsers would take for a prefix is between operands, or has no form
abbrev pub form_as : Class → Option Form → Option Form
form_as Binary (Some form) = Some Infix
form_as Relation (Some form) = Some Infix
form_as class form = None

-- the sign, which does not precede an operand
abbrev pub lone_sign : Style → Class → Element → Element
lone_sign style class (token Mo a text) = token Mo (record a { form = form_as class a.form; space = space_as style class a.space }) text
lone_sign style class x = x

-- the element of an operand in an atom of this class, where it is one atom of its own class
abbrev pub element_as : Style → Class → Class → Element → Element
element_as style class Binary x = lone_sign style class x
element_as style class Relation x = lone_sign style class x
element_as style class own x = x
