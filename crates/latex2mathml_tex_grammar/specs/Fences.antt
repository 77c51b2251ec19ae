-- Delimiters: those around something, which may stretch, and those of one size.
use Rattle.std.specs.Prelude.{ℕ, ◌==◌, ◌||◌, Bool, false, List, [], ◌∷◌, Option, Some, None, if◌then◌else◌}
use Rattle.std.specs.Str.{chars}
use Rattle.latex2mathml_elements.specs.Attributes.{Form, Prefix, Infix, Postfix, Stretch, Stretching, Rigid, Space, NoSpace, NullDelimiterAfter, Thick, Size, Big, Bigger, VeryBig, Boxing, plain}
use Rattle.latex2mathml_elements.specs.Element.{Mo, Mrow, Element, token, container, children}
use Rattle.latex2mathml_tex_grammar.specs.Heights.{Height, Low, Raised, Tall, Taller}
use Rattle.latex2mathml_tex_grammar.specs.Symbols.{Class, Opening, Closing, Relation, Style, InDisplay, InScript}
use Rattle.latex2mathml_tex_grammar.specs.Widths.{room}

-- whether delimiters stretch around something of this height
abbrev pub stretch_around : Height → Stretch
stretch_around Low = Rigid
stretch_around height = Stretching

-- how wide a delimiter is at most around something of this height: as wide as the one of TeX that is as high
abbrev pub room_around : Height → List ℕ → Option Boxing
room_around Raised sign_text = room Big sign_text
room_around Tall sign_text = room Bigger sign_text
room_around Taller sign_text = room VeryBig sign_text
room_around height sign_text = None

-- the delimiters that browsers know as opening ones
abbrev pub opens : ℕ → Bool
opens c = c == 0x28 || c == 0x5B || c == 0x7B || c == 0x7C || c == 0x2016  -- ( [ { | ‖
    || c == 0x2308 || c == 0x230A || c == 0x27E6 || c == 0x27E8 || c == 0x27EE || c == 0x2983  -- ⌈ ⌊ ⟦ ⟨ ⟮ ⦃

-- the delimiters that browsers know as closing ones
abbrev pub closes : ℕ → Bool
closes c = c == 0x29 || c == 0x5D || c == 0x7D || c == 0x7C || c == 0x2016  -- ) ] } | ‖
    || c == 0x2309 || c == 0x230B || c == 0x27E7 || c == 0x27E9 || c == 0x27EF || c == 0x2984  -- ⌉ ⌋ ⟧ ⟩ ⟯ ⦄

-- whether browsers know a delimiter in this form
abbrev pub is_known : Form → ℕ → Bool
is_known Prefix c = opens c
is_known Infix c = false
is_known Postfix c = closes c

-- at any other one some browsers would leave a space, and an empty one is as wide as TeX's null delimiter
abbrev pub space_of : Form → List ℕ → Option Space
space_of form [] = Some NullDelimiterAfter
space_of form (c ∷ []) = if is_known form c then None else Some NoSpace
space_of form characters = Some NoSpace

-- the space of a delimiter that is this text
abbrev pub fence_space : Form → List ℕ → Option Space
fence_space form sign_text = space_of form (chars sign_text)

-- a delimiter that opens or closes, or an empty one, at something of this height
abbrev pub fence : Height → Form → List ℕ → Element
fence height form sign_text =
    token Mo (record plain { form = Some form; stretch = Some (stretch_around height); space = fence_space form sign_text; boxing = room_around height sign_text }) sign_text

-- an element of this height between delimiters
abbrev pub fenced : Height → List ℕ → List ℕ → Element → Element
fenced height opening closing inside =
    container Mrow plain (children (fence height Prefix opening ∷ inside ∷ fence height Postfix closing ∷ []))

-- the form of a delimiter by `\big` and its like, by its class
abbrev pub form_of : Class → Option Form
form_of Opening = Some Prefix
form_of Closing = Some Postfix
form_of class = None

-- the space around a delimiter by `\big` and its like, by its class
abbrev pub sized_space : Style → Class → Space
sized_space InScript class = NoSpace
sized_space style Relation = Thick
sized_space style class = NoSpace

-- a delimiter of this size and class
abbrev pub sized_delimiter : Style → Size → Class → List ℕ → Element
sized_delimiter style size class sign_text =
    token Mo (record plain { form = form_of class; stretch = Some Stretching; size = Some size; space = Some (sized_space style class); boxing = room size sign_text }) sign_text

-- The delimiters of a fraction in this style are of one size, however high its parts are: in a block that of `\bigg`, and
-- elsewhere that of `\big`.
abbrev pub fraction_size : Style → Size
fraction_size InDisplay = VeryBig
fraction_size style = Big

-- a delimiter of a fraction in this style
abbrev pub fraction_delimiter : Style → Class → List ℕ → Element
fraction_delimiter style class sign_text = sized_delimiter style (fraction_size style) class sign_text

-- a fraction in this style between its delimiters
abbrev pub delimited_fraction : Style → List ℕ → List ℕ → Element → Element
delimited_fraction style opening closing x =
    container Mrow plain (children (fraction_delimiter style Opening opening ∷ x ∷ fraction_delimiter style Closing closing ∷ []))
