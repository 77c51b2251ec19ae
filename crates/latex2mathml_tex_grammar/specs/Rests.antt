-- What a change makes of what follows it in its group: the context and the row in which that is read, and what row the
-- group is at its end.
use Rattle.std.specs.Prelude.{ℕ, ◌||◌, Bool, true, false, List, [], ◌∷◌, reverse, Option, Some, None}
use Rattle.latex2mathml_elements.specs.{Attributes.plain, Colors.Color, Element.Element, Element.Mstyle, Element.container, Element.children}
use Rattle.latex2mathml_tex_grammar.specs.Heights.{Tall, larger}
use Rattle.latex2mathml_tex_grammar.specs.{Atoms.Blank, Atoms.Kind, Colors.color_of, Makes.fraction, Makes.in_box, Makes.style_attributes, Meaning.Change, Meaning.Colored, Meaning.ToAlphabet, Meaning.ToStyle, Meaning.ToSize, Meaning.Divides, Meaning.ToColor, Meaning.FractionRule}
use Rattle.latex2mathml_tex_grammar.specs.Refusal.{Refusal, SecondInfix, UnknownColor, refusal_at}
use Rattle.latex2mathml_tex_grammar.specs.Rows.{Row, Look, Restyled, Upper, empty_row, lone, row_element, with_atom, with_operand_ended}
use Rattle.latex2mathml_tex_grammar.specs.Rules.{Context, in_size, lettered, styled}
use Rattle.latex2mathml_tex_grammar.specs.Scanning.{Found, Given, Missing, scan, BeforeColor}
use Rattle.latex2mathml_tex_grammar.specs.Symbols.{Ordinary, Style, InText, TextSize, at_full_size, is_script, scale_between, smaller}
use Rattle.latex2mathml_tex_grammar.specs.Units.{Units}
use Rattle.latex2mathml_tex_grammar.specs.Words.{Words}

-- Styles, colors and sizes

-- elements, the last one first, in this style, where it is their own
abbrev pub in_own_style : Bool → Style → List Element → Element
in_own_style true style xs = container Mstyle (style_attributes style) (children (reverse xs))
in_own_style false style xs = row_element xs

-- an element in a color, where there is one
abbrev pub in_color : Option Color → Element → Element
in_color None x = x
in_color (Some color) x = in_box (Colored color) x

-- elements, the last one first, whose letters are this many thousandths as large as those around them, where these differ
abbrev pub scaled : Option ℕ → List Element → List Element
scaled None xs = xs
scaled (Some scale) xs = container Mstyle (record plain { scale = Some scale }) (children (row_element xs ∷ [])) ∷ []

-- elements that look like this and are read in this style, as one element. The size is inside of the style: some browsers do not
-- make an element that is a script smaller, where it has a size of its own.
abbrev pub drawn : Look → Style → List Element → Element
drawn look style xs = in_color look.color (in_own_style look.has_own_style style (scaled look.scale xs))

-- how what is read in this context looks after a change, or before any
abbrev pub look_after : Option Restyled → Context → Look
look_after None c = record { group = c.style; group_size = c.size; has_own_style = false; color = None; scale = None }
look_after (Some change) c = change.look

-- the elements of a row whose last ones follow a change and look like this; the others are before the change
abbrev pub with_drawn : Look → Style → List Element → List Element → List Element
with_drawn look style [] before = before
with_drawn look style xs before = drawn look style xs ∷ before

-- a row that is read in this style up to here: what follows its last change is one element, if anything does
abbrev pub settled_after : Option Restyled → Style → Row → Row
settled_after None style row = row
settled_after (Some change) style row = record row { elements = with_drawn change.look style row.elements change.before; class = Ordinary; restyled = None }

-- a row that ends here or changes here
abbrev pub settled : Style → Row → Row
settled style row = settled_after row.restyled style row

-- a row before what follows a change and looks like this. What follows may be tall.
abbrev pub begun_anew : Look → Row → Row
begun_anew look row = record row { elements = []; last = Blank; height = larger Tall row.height; restyled = Some (record { before = row.elements; look = look }) }

-- a row that was read in this context, after a change of style
abbrev pub restyled : Context → Row → Row
restyled c row = begun_anew (record (look_after row.restyled c) { has_own_style = true }) (settled c.style row)

-- the same after a change of color
abbrev pub recolored : Color → Context → Row → Row
recolored color c row = begun_anew (record (look_after row.restyled c) { color = Some color }) (settled c.style row)

-- a look whose letters are of this size, and not smaller in the style of a script
abbrev pub with_size : TextSize → Style → Look → Look
with_size size style look = record look { has_own_style = look.has_own_style || is_script style; scale = scale_between size look.group_size }

-- a row that was read in this context, after a change of size
abbrev pub resized : TextSize → Context → Row → Row
resized size c row = begun_anew (with_size size c.style (look_after row.restyled c)) (settled c.style row)

-- how words that are read in this context look after a change of size
abbrev pub look_in_size : TextSize → Context → Look
look_in_size size c = with_size size c.style (look_after None c)

-- these elements of words that are read in this context, with those behind a change of size
abbrev pub with_resized : TextSize → Context → List Element → List Element → Words
with_resized size c before behind = record { elements = with_drawn (look_in_size size c) (at_full_size c.style) behind before; last = None; accent = None }

-- Fractions

-- a row below what is above it, where it is the lower part of a fraction
abbrev pub below : Option Upper → Row → Row
below None row = row
below (Some upper) row = with_atom InText empty_row (fraction upper.rule None upper.style upper.element (row_element row.elements)).atom

-- a row as the fraction whose lower part it is, where it is one
abbrev pub whole_fraction : Row → Row
whole_fraction row = below row.under row

-- the row of what is below a row, before its first atom, where both are a fraction in this style
abbrev pub begun_below : FractionRule → Style → Row → Row
begun_below rule style row = record empty_row { under = Some (record { rule = rule; style = style; element = row_element row.elements }) }

-- elements after a change that these precede: if there are none, a sign that is all of the row has no space
abbrev pub alone_behind : List Element → Kind → List Element → List Element
alone_behind [] last xs = lone last xs
alone_behind before last xs = xs

-- a row at its end, where this was its last change, if there was one. Without a change, what encloses the row removes the space.
abbrev pub alone_after : Option Restyled → Row → Row
alone_after None row = row
alone_after (Some change) row = record row { elements = alone_behind change.before row.last row.elements }

-- a row at its end
abbrev pub with_sign_alone : Row → Row
with_sign_alone row = alone_after row.restyled row

-- the row of a group at its end, where it is read in this style
abbrev pub finished : Style → Row → Row
finished style row = whole_fraction (settled style (with_sign_alone (with_operand_ended row)))

-- What follows a change

-- what follows a change
pub data Rest : Type 0 where
  -- it is read in this context, after this row, from these units on
  GoesOnIn : Context → Row → Units → Rest
  -- the change is refused
  NoRest : Refusal → Rest

-- the context of the lower part of a fraction, which is a whole group that looks like this
abbrev pub context_below : Context → Look → Context
context_below c look = record c { style = smaller look.group; size = look.group_size }

-- what precedes the change is the upper part of a fraction, and what follows it is the lower part. A group has no more than
-- one such fraction.
abbrev pub rest_below : FractionRule → Context → Row → ℕ → Units → Option Upper → Rest
rest_below rule c row place l None =
    let look = look_after row.restyled c in
    GoesOnIn (context_below c look) (begun_below rule look.group (settled c.style (with_operand_ended row))) l
rest_below rule c row place l (Some upper) = NoRest (refusal_at SecondInfix place)

-- what follows is in the color of this name, where there is one
abbrev pub rest_in : List ℕ → Context → Row → ℕ → Units → Option Color → Rest
rest_in name c row place l None = NoRest (refusal_at (UnknownColor name) place)
rest_in name c row place l (Some color) = GoesOnIn c (recolored color c row) l

-- what follows a change of color whose name was found, or was missing
abbrev pub rest_behind_name : Context → Row → ℕ → Found → Rest
rest_behind_name c row place (Given name l) = rest_in name c row place l (color_of name)
rest_behind_name c row place (Missing refusal) = NoRest refusal

-- what follows a change at this place, from these units on
abbrev pub rest_of : Change → Context → Row → ℕ → Units → Rest
rest_of (ToAlphabet alphabet) c row place l = GoesOnIn (lettered c alphabet) row l
rest_of (ToStyle style) c row place l = GoesOnIn (styled c style) (restyled c row) l
rest_of (ToSize size) c row place l = GoesOnIn (in_size c size) (resized size c row) l
rest_of ToColor c row place l = rest_behind_name c row place (scan place l BeforeColor)
rest_of (Divides rule) c row place l = rest_below rule c row place l row.under
