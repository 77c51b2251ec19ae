-- The atoms of each construct.
use Rattle.std.specs.Prelude.{ℕ, zero, suc, ◌==◌, ◌||◌, ℤ, pos, Bool, true, false, List, [], ◌∷◌, ◌++◌, map, Option, Some, None, codes, if◌then◌else◌}
use Rattle.std.specs.{Char.encode_utf8, Option.is_some, Str.byte, Str.encode_utf8_all}
use Rattle.latex2mathml_elements.specs.Attributes.{Attributes, Side, Above, Below, Stretch, Stretching, Rigid, Space, NoSpace, Narrow, Medium, Thick, ThinAfter, Size, Bigger, Boxing, NoWidth, Flat, NoHeight, NoDepth, ByItsWidth, ByHalfItsWidth, Framed, StruckUp, StruckDown, StruckTwice, NullDelimiters, ArrowLabel, Unclipped, boxed, MathStyle, DisplayStyle, TextStyle, ScriptStyle, plain}
use Rattle.latex2mathml_elements.specs.Element.{Mi, Mn, Mo, Mrow, Msqrt, Mstyle, Mpadded, Mphantom, Mfrac, Mroot, Msub, Msup, Munder, Mover, Msubsup, Munderover, Element, token, space, rectangle, container, pair, triple, children}
use Rattle.latex2mathml_tex_grammar.specs.{Alphabets.in_alphabet, Rows.Row, Rows.Operand, Rows.empty_operator, Rows.lone, Rows.row_element}
use Rattle.latex2mathml_elements.specs.{Extents.wide, Groups.grouped}
use Rattle.latex2mathml_tex_grammar.specs.Atoms.{Atom, Kind, SignOf, PlusOrMinus, Plain, UprightLetters, UprightIdentifier, Unspaced, Blank, Divider, After, Before, Nothing, atom, element_there}
use Rattle.latex2mathml_tex_grammar.specs.Meaning.{FractionRule, Bar, NoBar, Braced, Bracketed, Bare, LimitPlace, Beside, ByStyle, Movable, Stacked, Box, Phantom, PhantomWidth, PhantomHeight, Smashed, WithoutHeight, WithoutDepth, OverRight, OverLeft, OverBoth, Frame, StrikeUp, StrikeDown, StrikeTwice, Raised, Colored, OnColor}
use Rattle.latex2mathml_tex_grammar.specs.Fences.{delimited_fraction, fenced, sized_delimiter}
use Rattle.latex2mathml_tex_grammar.specs.Heights.{Height, Low, Raised, Tall, fraction_height, integral_height, larger, scripted_height, sized_height}
use Rattle.latex2mathml_tex_grammar.specs.SignAttributes.{sign_attributes}
use Rattle.latex2mathml_tex_grammar.specs.Widths.{room}
use Rattle.latex2mathml_tex_grammar.specs.Symbols.{Class, Ordinary, Operator, Binary, Relation, Opening, Punctuation, Inner, Style, InDisplay, InText, InScript, Alphabet, Upright, Named, Symbol, Letter, UprightLetter, Sign, BigOperator, Integral}

-- an atom, and where its limits are
pub record Core : Type 0 where
  pub atom : Atom
  pub limits : LimitPlace

-- an atom whose scripts are beside it
abbrev pub core : Atom → Core
core x = record { atom = x; limits = Beside }

-- an atom whose limits are at this place
abbrev pub operator : LimitPlace → Atom → Core
operator limits x = record { atom = x; limits = limits }

-- a character as a text
abbrev pub text : ℕ → List ℕ
text c = encode_utf8 c

-- Letters and signs

-- the attributes of a letter that is not italic
abbrev pub upright : Attributes
upright = record plain { upright = true }

-- a letter that is italic by itself
abbrev pub letter : Option Alphabet → ℕ → Atom
letter (Some Upright) c = atom UprightLetters Low (token Mi upright (text c))
letter (Some Named) c = atom UprightLetters Low (token Mi upright (text c))
letter (Some alphabet) c = atom (Plain Ordinary) Low (token Mi plain (text (in_alphabet alphabet c)))
letter None c = atom (Plain Ordinary) Low (token Mi plain (text c))

-- a letter that is upright by itself
abbrev pub upright_letter : Option Alphabet → ℕ → Atom
upright_letter (Some alphabet) c = letter (Some alphabet) c
upright_letter None c = atom UprightIdentifier Low (token Mi upright (text c))

-- the digits of a number in an alphabet
abbrev pub digits_in : Option Alphabet → List ℕ → List ℕ
digits_in None digits = digits
digits_in (Some alphabet) digits = encode_utf8_all (map (in_alphabet alphabet) digits)

-- a number of these digits
abbrev pub number : Option Alphabet → List ℕ → Atom
number alphabet digits = atom (Plain Ordinary) Low (token Mn plain (digits_in alphabet digits))

-- plus, minus, plus-minus and minus-plus
abbrev pub is_plus_or_minus : ℕ → Bool
is_plus_or_minus c = c == 0x2B || c == 0x2212 || c == 0xB1 || c == 0x2213

-- what a sign is to its neighbours, by its class
abbrev pub sign_kind : Class → ℕ → Kind
sign_kind Binary c = if is_plus_or_minus c then PlusOrMinus else SignOf Binary
sign_kind class c = SignOf class

-- a sign of this class
abbrev pub sign : Class → ℕ → Atom
sign class c = atom (sign_kind class c) Low (token Mo (sign_attributes class c) (text c))

-- a sign in the name of an operator: a minus is a hyphen there, and the sign of a product an asterisk
abbrev pub sign_of_name : Class → ℕ → Atom
sign_of_name class c =
    if c == 0x2212 then letter (Some Named) (byte "-") else if c == 0x2217 then letter (Some Named) (byte "*") else sign class c

-- a sign among letters of this alphabet
abbrev pub sign_in : Option Alphabet → Class → ℕ → Atom
sign_in (Some Named) class c = sign_of_name class c
sign_in alphabet class c = sign class c

-- a relation whose sign is this text
abbrev pub relation : List ℕ → Atom
relation sign_text = atom (SignOf Relation) Low (token Mo plain sign_text)

-- a symbol in this style and alphabet, as an element with its kind
abbrev pub symbol : Style → Option Alphabet → Symbol → Core
symbol style alphabet (Letter c) = core (letter alphabet c)
symbol style alphabet (UprightLetter c) = core (upright_letter alphabet c)
symbol style alphabet (Sign class c) = core (sign_in alphabet class c)
symbol style alphabet (BigOperator c) = operator Movable (atom (Plain Operator) Raised (token Mo plain (text c)))
symbol style alphabet (Integral c) = core (atom (Plain Operator) (integral_height style) (token Mo plain (text c)))

-- the name of a function, with limits at this place
abbrev pub function_name : LimitPlace → List ℕ → Core
function_name limits name = operator limits (atom (Unspaced Operator) Low (token Mi plain name))

-- a space of this width, in eighteenths of an em
abbrev pub spacing : ℤ → Atom
spacing width = atom Blank Low (space width)

-- a space of this many thousandths of an em
abbrev pub blank : ℤ → Atom
blank width = atom Blank Low (rectangle (wide width))

-- a token with a stroke through it, U+0338; nothing else can have a stroke
abbrev pub struck : Element → Option Element
struck (token t a sign_text) = Some (token t a (sign_text ++ text 0x0338))
struck x = None

-- Groups and classes

-- what an element is to its neighbours, as an ordinary atom
abbrev pub ordinary_kind : Element → Kind
ordinary_kind (token Mi a letter_text) = if a.upright then UprightIdentifier else Plain Ordinary
ordinary_kind x = Plain Ordinary

-- an element as an ordinary atom
abbrev pub ordinary : Height → Element → Atom
ordinary height x = atom (ordinary_kind x) height x

-- a row in braces as an ordinary atom
abbrev pub braced : Row → Atom
braced row = ordinary row.height (row_element (lone row.last row.elements))

-- an operand as an ordinary atom
abbrev pub group : Operand → Atom
group x = ordinary x.height x.element

-- the space of a sign that is an atom of this class, and was of the class `own`
abbrev pub class_space : Class → Class → Option Space → Option Space
class_space Binary Binary before = before
class_space Relation Relation before = before
class_space Binary own before = Some Medium
class_space Relation own before = Some Thick
class_space Punctuation own before = Some ThinAfter
class_space class own before = before

-- the sign with that space; any other element stays as it is
abbrev pub spaced_as : Class → Class → Element → Element
spaced_as class own (token Mo a sign_text) = token Mo (record a { space = class_space class own a.space }) sign_text
spaced_as class own x = x

-- What a sign that has this space is to its neighbours, as an atom of this class. An operator that says its space has none.
abbrev pub classed_sign : Class → Option Space → Kind
classed_sign Operator None = Plain Operator
classed_sign Operator (Some own) = Unspaced Operator
classed_sign Binary own = SignOf Binary
classed_sign Relation own = SignOf Relation
classed_sign Punctuation own = SignOf Punctuation
classed_sign class own = Plain class

-- what an element that is no sign is to its neighbours, as an atom of this class: it has no space of its own
abbrev pub classed_other : Class → Kind
classed_other Operator = Unspaced Operator
classed_other Binary = Unspaced Binary
classed_other Relation = Unspaced Relation
classed_other Punctuation = Unspaced Punctuation
classed_other class = Plain class

-- what an atom of this class is to its neighbours
abbrev pub classed_kind : Class → Element → Kind
classed_kind class (token Mo a sign_text) = classed_sign class a.space
classed_kind class x = classed_other class

-- where the limits of an atom of this class are
abbrev pub limits_of : Class → LimitPlace
limits_of Operator = ByStyle
limits_of class = Beside

-- an operand as an atom of this class
abbrev pub classed : Class → Operand → Core
classed class x =
    operator (limits_of class) (atom (classed_kind class x.element) x.height (spaced_as class x.class x.element))

-- an operand as the name of a function, with limits at this place
abbrev pub operator_name : LimitPlace → Operand → Core
operator_name limits x = operator limits (atom (Unspaced Operator) x.height x.element)

-- an operand as an atom that keeps its class
abbrev pub shown : Operand → Core
shown x = core (atom (Plain x.class) x.height (grouped x.element))

-- one of three operands, by the style
abbrev pub choice : Style → Operand → Operand → Operand → Core
choice InDisplay display text script = shown display
choice InText display text script = shown text
choice InScript display text script = shown script

-- Boxes

-- an element with this change to its box
abbrev pub around : Boxing → Element → Element
around boxing x = container Mpadded (boxed boxing) (children (x ∷ []))

-- an element that is invisible, and keeps its box
abbrev pub unseen : Element → Element
unseen x = container Mphantom plain (children (x ∷ []))

-- an element in a box. What has no width begins at its place, and is moved to the left from there.
abbrev pub in_box : Box → Element → Element
in_box Phantom x = unseen x
in_box PhantomWidth x = around Flat (unseen x)
in_box PhantomHeight x = around NoWidth (unseen x)
in_box Smashed x = around Flat x
in_box WithoutHeight x = around NoHeight x
in_box WithoutDepth x = around NoDepth x
in_box OverRight x = around NoWidth x
in_box OverLeft x = around NoWidth (around ByItsWidth x)
in_box OverBoth x = around NoWidth (around ByHalfItsWidth x)
in_box Frame x = around Framed x
in_box StrikeUp x = around StruckUp x
in_box StrikeDown x = around StruckDown x
in_box StrikeTwice x = around StruckTwice x
in_box (Raised height) x = container Mpadded (record plain { raised = height }) (children (x ∷ []))
in_box (Colored color) x = container Mstyle (record plain { color = Some color }) (children (x ∷ []))
in_box (OnColor color) x = container Mpadded (record plain { background = Some color }) (children (x ∷ []))

-- an operand in a box, as an ordinary atom
abbrev pub boxed_atom : Box → Operand → Atom
boxed_atom box x = atom (Plain Ordinary) x.height (in_box box x.element)

-- an element that a length raises, where there is one
abbrev pub raised_by : Option ℤ → Element → Element
raised_by None x = x
raised_by (Some height) x = in_box (Raised height) x

-- a black rectangle
abbrev pub black : ℤ → ℤ → Element
black width height = rectangle (record { width = width; height = height; depth = pos 0; is_black = true })

-- a black rectangle
abbrev pub bar : Option ℤ → ℤ → ℤ → Atom
bar raise width height = atom (Plain Ordinary) Tall (raised_by raise (black width height))

-- Marks above and below

-- a mark above or below a base
abbrev pub on_side : Side → Attributes → Element → Element → Element
on_side Above a base mark = pair Mover a base mark
on_side Below a base mark = pair Munder a base mark

-- the attributes of a mark. Chromium takes one that stretches for as narrow as its character, and draws no more of it without a
-- shadow.
abbrev pub mark_attributes : Stretch → Attributes
mark_attributes Stretching = record plain { stretch = Some Stretching; boxing = Some Unclipped }
mark_attributes Rigid = record plain { stretch = Some Rigid }

-- an element with an accent above or below it
abbrev pub accented : Side → ℕ → Stretch → Element → Element
accented side mark width x = on_side side (record plain { accent = Some side }) x (token Mo (mark_attributes width) (text mark))

-- an operand with an accent
abbrev pub accent : Side → ℕ → Stretch → Operand → Core
accent side mark width x = core (atom (Plain Ordinary) (larger Raised x.height) (accented side mark width x.element))

-- an element with a brace above or below it is an operator; its scripts are the labels of the brace
abbrev pub brace : Side → ℕ → Element → Core
brace side mark x =
    operator Stacked (atom (Unspaced Operator) Tall (on_side side plain x (token Mo (mark_attributes Stretching) (text mark))))

-- What a relation with something above it is to its neighbours, whose base is of this class. It has the space of its base, and what
-- is ordinary has none.
abbrev pub stacked_relation : Class → Kind
stacked_relation Ordinary = Unspaced Relation
stacked_relation own = Plain Relation

-- an element above or below a base; together they are this to their neighbours
abbrev pub stack : Side → Kind → Element → Element → Core
stack side kind mark base = core (atom kind Tall (on_side side plain base mark))

-- an arrow as long as the longer of its labels
abbrev pub arrow_sign : ℕ → Element
arrow_sign sign_character = token Mo (mark_attributes Stretching) (text sign_character)

-- the label of an arrow, with the space by which the arrow is longer at both sides
abbrev pub arrow_label : Element → Element
arrow_label x = container Mrow (boxed ArrowLabel) (children (x ∷ []))

-- an arrow with a label above, and perhaps one below
abbrev pub arrow_element : ℕ → Option Element → Element → Element
arrow_element sign_character None above = pair Mover plain (arrow_sign sign_character) (arrow_label above)
arrow_element sign_character (Some below) above =
    triple Munderover plain (arrow_sign sign_character) (arrow_label below) (arrow_label above)

-- an arrow with its labels is a relation
abbrev pub arrow : ℕ → Option Element → Element → Core
arrow sign_character below above = core (atom (Plain Relation) Tall (arrow_element sign_character below above))

-- Fractions, roots, delimiters

-- whether a style is that of a block
abbrev pub is_display : Style → Bool
is_display InDisplay = true
is_display style = false

-- how a style is written in MathML
abbrev pub math_style : Style → MathStyle
math_style InDisplay = DisplayStyle
math_style InText = TextStyle
math_style InScript = ScriptStyle

-- the attributes of an element in a style of its own
abbrev pub style_attributes : Style → Attributes
style_attributes own = record plain { style = Some (math_style own) }

-- an element in a style of its own, where it has one
abbrev pub in_style : Option Style → Element → Element
in_style None x = x
in_style (Some style) x = container Mstyle (style_attributes style) (children (x ∷ []))

-- Null delimiters are around a fraction that has no others. With an empty operator in its row it is ordinary in Firefox too, which
-- leaves more space next to a fraction.
abbrev pub unfenced : Element → Element
unfenced x = container Mrow (boxed NullDelimiters) (children (x ∷ empty_operator ∷ []))

-- a fraction without its line
abbrev pub without_bar : Element → Element → Element
without_bar above below = pair Mfrac (record plain { no_line = true }) above below

-- a fraction in this style, and what its rule puts around it
abbrev pub fraction_element : FractionRule → Style → Element → Element → Element
fraction_element Bar style above below = unfenced (pair Mfrac plain above below)
fraction_element NoBar style above below = delimited_fraction style (codes "(") (codes ")") (without_bar above below)
fraction_element Braced style above below = delimited_fraction style (codes "{") (codes "}") (without_bar above below)
fraction_element Bracketed style above below = delimited_fraction style (codes "[") (codes "]") (without_bar above below)
fraction_element Bare style above below = unfenced (without_bar above below)

-- a fraction in this style, which may be its own
abbrev pub fraction : FractionRule → Option Style → Style → Element → Element → Core
fraction rule own style above below = core (atom (Plain Ordinary) (fraction_height style) (in_style own (fraction_element rule style above below)))

-- how a fraction is drawn, as its author says: its delimiters, where an empty text is no delimiter, whether it has a line, and
-- its style, where it has one of its own
pub record Outline : Type 0 where
  pub opening : List ℕ
  pub closing : List ℕ
  pub has_line : Bool
  pub own : Option Style

-- a fraction with its line or without
abbrev pub quotient : Bool → Element → Element → Element
quotient true above below = pair Mfrac plain above below
quotient false above below = without_bar above below

-- a fraction in this style between delimiters, or between null delimiters if there are none
abbrev pub between_any : Style → List ℕ → List ℕ → Element → Element
between_any style [] [] x = unfenced x
between_any style opening closing x = delimited_fraction style opening closing x

-- a fraction that is drawn as this says, in this style
abbrev pub outlined_fraction : Outline → Style → Element → Element → Core
outlined_fraction o style above below =
    core (atom (Plain Ordinary) (fraction_height style) (in_style o.own (between_any style o.opening o.closing (quotient o.has_line above below))))

-- a square root is ordinary, and taller than a letter
abbrev pub square_root : Operand → Core
square_root x = core (atom (Plain Ordinary) (larger Raised x.height) (container Msqrt plain (children (x.element ∷ []))))

-- so is a root with a degree
abbrev pub root : Element → Operand → Core
root degree x = core (atom (Plain Ordinary) (larger Raised x.height) (pair Mroot plain x.element degree))

-- a delimiter within others
abbrev pub divider : List ℕ → Atom
divider sign_text =
    atom Divider Low (token Mo (record plain { stretch = Some Stretching; fence = true; space = Some Narrow; boxing = room Bigger sign_text }) sign_text)

-- it does not stretch where nothing in its row is taller than a letter
abbrev pub lowered_divider : Element → Element
lowered_divider (token t a sign_text) = token t (if a.fence then record a { stretch = Some Rigid; boxing = None } else a) sign_text
lowered_divider x = x

-- dividers stay stretched if what is between is taller than a letter, and are not stretched otherwise
abbrev pub lowered : Height → List Element → List Element
lowered Low xs = map lowered_divider xs
lowered height xs = xs

-- a row between delimiters
abbrev pub between_delimiters : List ℕ → List ℕ → Row → Core
between_delimiters opening closing row =
    core (atom (Plain Inner) row.height (fenced row.height opening closing (row_element (lowered row.height row.elements))))

-- a delimiter of one size as an element: a group, unless it is a relation. Some browsers draw a base of scripts in another size.
abbrev pub sized_element : Class → Element → Element
sized_element Relation x = x
sized_element class x = grouped x

-- a delimiter of this size and class
abbrev pub sized : Style → Size → Class → List ℕ → Core
sized style size class sign_text = core (atom (Plain class) (sized_height size) (sized_element class (sized_delimiter style size class sign_text)))

-- Scripts

-- what follows an atom: primes, scripts, and where its limits are to be
pub record Scripts : Type 0 where
  pub primes : ℕ
  pub below : Option Element
  pub above : Option Element
  pub limits : LimitPlace
  -- whether a command may say where they are to be
  pub takes_limits : Bool
  -- how high the subscript is
  pub height : Height

-- an operator has limits
abbrev pub takes_limits : Kind → Bool
takes_limits (SignOf Operator) = true
takes_limits (Plain Operator) = true
takes_limits (Unspaced Operator) = true
takes_limits kind = false

-- no scripts after an atom of this kind
abbrev pub no_scripts : Kind → LimitPlace → Scripts
no_scripts kind limits = record { primes = 0; below = None; above = None; limits = limits; takes_limits = takes_limits kind; height = Low }

-- this many primes as one text
abbrev pub primes_text : ℕ → List ℕ
primes_text zero = []
primes_text (suc n) = primes_text n ++ text 0x2032

-- primes are one sign, of which Unicode has those up to four
abbrev pub prime_mark : ℕ → Element
prime_mark primes =
    token Mo (record plain { space = Some NoSpace }) (if primes == 2 then text 0x2033 else if primes == 3 then text 0x2034 else if primes == 4 then text 0x2057 else primes_text primes)

-- a superscript after the primes that precede it
abbrev pub behind_primes : ℕ → Element → Element
behind_primes zero x = x
behind_primes (suc n) x = row_element (x ∷ prime_mark (suc n) ∷ [])

-- the element above
abbrev pub superscript : ℕ → Option Element → Option Element
superscript primes (Some x) = Some x
superscript zero None = None
superscript (suc n) None = Some (prime_mark (suc n))

-- whether scripts are placed below and above
abbrev pub are_stacked : Style → LimitPlace → Bool
are_stacked style Beside = false
are_stacked InDisplay ByStyle = true
are_stacked style ByStyle = false
are_stacked style Movable = true
are_stacked style Stacked = true

-- whether scripts are drawn below and above: except in a block, the browser moves those of a movable sign beside it
abbrev pub are_drawn_stacked : Style → LimitPlace → Bool
are_drawn_stacked style Beside = false
are_drawn_stacked InDisplay limits = true
are_drawn_stacked style Stacked = true
are_drawn_stacked style limits = false

-- a base whose limits the browser must not move
abbrev pub fixed_base : LimitPlace → Element → Element
fixed_base Stacked (token Mo a sign_text) = token Mo (record a { limits_stay = true }) sign_text
fixed_base limits x = x

-- a base with scripts, which are below and above it or beside it
abbrev pub with_scripts : Bool → Element → Option Element → Option Element → Element
with_scripts stacked base None None = base
with_scripts true base (Some below) None = pair Munder plain base below
with_scripts true base None (Some above) = pair Mover plain base above
with_scripts true base (Some below) (Some above) = triple Munderover plain base below above
with_scripts false base (Some below) None = pair Msub plain base below
with_scripts false base None (Some above) = pair Msup plain base above
with_scripts false base (Some below) (Some above) = triple Msubsup plain base below above

-- what a changed atom is to its neighbours: letters are not part of a word
abbrev pub no_letters : Kind → Kind
no_letters UprightLetters = UprightIdentifier
no_letters kind = kind

-- what an atom with scripts is to its neighbours: a sign is not an `mo` of its own either
abbrev pub scripted_kind : Kind → Kind
scripted_kind (SignOf class) = Plain class
scripted_kind PlusOrMinus = Plain Binary
scripted_kind kind = no_letters kind

-- what precedes a base: an operator that begins a group is as at the beginning of a formula
abbrev pub before_base : Kind → Before → Before
before_base (SignOf Operator) Nothing = After Opening
before_base (Plain Operator) Nothing = After Opening
before_base kind before = before

-- the element of a base after what precedes the atom: a sign is the first element of what its scripts are beside
abbrev pub base_there : Style → Before → Atom → Element
base_there style before base = element_there style true (before_base base.kind before) base.kind base.element

-- an atom with these elements below and above it; without any, it stays as it is
abbrev pub scripted_atom : Style → Before → Atom → Scripts → Option Element → Option Element → Atom
scripted_atom style before base scripts None None = base
scripted_atom style before base scripts below above =
    let height = scripted_height style (are_drawn_stacked style scripts.limits) base.height scripts.height (is_some above) in
    atom (scripted_kind base.kind) height (with_scripts (are_stacked style scripts.limits) (fixed_base scripts.limits (base_there style before base)) below above)

-- an atom with what follows it, after what precedes it
abbrev pub scripted : Style → Before → Atom → Scripts → Atom
scripted style before base scripts = scripted_atom style before base scripts scripts.below (superscript scripts.primes scripts.above)
