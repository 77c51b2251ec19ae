-- What a change makes of rows that hold no character that XML forbids holds none either.
use Rattle.std.proofs.Common.{◌≡◌, ℕ, Bool, true, false, List, [], ◌∷◌, Option, Some, None, refl}
use Rattle.latex2mathml_elements.specs.{Characters.HasAllowedTexts, Colors.Color, Element.Element}
use Rattle.latex2mathml_tex_grammar.specs.{Atoms.Kind, Colors.color_of, Makes.fraction, Meaning.Change, Meaning.ToAlphabet, Meaning.ToStyle, Meaning.ToSize, Meaning.ToColor, Meaning.Divides, Meaning.FractionRule, Symbols.InText, Symbols.Style, Symbols.TextSize, Symbols.at_full_size}
use Rattle.latex2mathml_tex_grammar.specs.Rests.{alone_after, alone_behind, begun_anew, below, drawn, finished, in_color, in_own_style, look_in_size, rest_behind_name, rest_below, rest_in, rest_of, scaled, settled, settled_after, with_drawn, with_resized, with_sign_alone}
use Rattle.latex2mathml_tex_grammar.specs.Scanning.{Found, Given, Missing, scan, BeforeColor}
use Rattle.latex2mathml_tex_grammar.specs.Units.{Units}
use Rattle.latex2mathml_tex_grammar.specs.{Rows.Look, Rows.Restyled, Rows.Row, Rows.Upper, Rows.empty_row, Rows.row_element, Rows.with_operand_ended, Rules.Context}
use Rattle.latex2mathml_tex_grammar.proofs.Allowed.{AreAllowedElements, AreAllowedUnits, AreAllowedWords, IsAllowedBefore, IsAllowedPart, IsAllowedRest, IsAllowedRow, IsAllowedUpper}
use Rattle.latex2mathml_tex_grammar.proofs.AllowedMakes.{fraction_allowed, last_allowed, lone_allowed, row_children_allowed, row_element_allowed, with_atom_allowed}
use Rattle.latex2mathml_tex_grammar.proofs.AllowedRows.{given_allowed}

own_style_allowed : (has_own_style : Bool) (style : Style) (xs : List Element) → AreAllowedElements xs → HasAllowedTexts (in_own_style has_own_style style xs)
own_style_allowed true style xs h = row_children_allowed xs h
own_style_allowed false style xs h = row_element_allowed xs h

in_color_allowed : (color : Option Color) (x : Element) → HasAllowedTexts x → HasAllowedTexts (in_color color x)
in_color_allowed None x h = h
in_color_allowed (Some color) x h = (h, tt)

scaled_allowed : (scale : Option ℕ) (xs : List Element) → AreAllowedElements xs → AreAllowedElements (scaled scale xs)
scaled_allowed None xs h = h
scaled_allowed (Some scale) xs h = ((row_element_allowed xs h, tt), tt)

drawn_allowed : (look : Look) (style : Style) (xs : List Element) → AreAllowedElements xs → HasAllowedTexts (drawn look style xs)
drawn_allowed look style xs h = in_color_allowed look.color _ (own_style_allowed look.has_own_style style (scaled look.scale xs) (scaled_allowed look.scale xs h))

with_drawn_allowed : (look : Look) (style : Style) (xs before : List Element) → AreAllowedElements xs → AreAllowedElements before → AreAllowedElements (with_drawn look style xs before)
with_drawn_allowed look style [] before h k = k
with_drawn_allowed look style (x ∷ xs) before h k = (drawn_allowed look style (x ∷ xs) h, k)

-- words with those behind a change of size
pub resized_allowed : (size : TextSize) (c : Context) (before behind : List Element) → AreAllowedElements before → AreAllowedElements behind → AreAllowedWords (with_resized size c before behind)
resized_allowed size c before behind h k = (with_drawn_allowed (look_in_size size c) (at_full_size c.style) behind before k h, tt)

settled_allowed : (change : Option Restyled) (style : Style) (row : Row) → IsAllowedBefore change → IsAllowedRow row → IsAllowedRow (settled_after change style row)
settled_allowed None style row h k = k
settled_allowed (Some change) style row h k = with_drawn_allowed change.look style row.elements change.before k h

below_allowed : (upper : Option Upper) (row : Row) → IsAllowedUpper upper → IsAllowedRow row → IsAllowedRow (below upper row)
below_allowed None row h k = k
below_allowed (Some upper) row h k =
    with_atom_allowed InText empty_row (fraction upper.rule None upper.style upper.element (row_element row.elements)).atom tt
    (fraction_allowed upper.rule None upper.style upper.element (row_element row.elements) h (row_element_allowed row.elements k))

upper_kept : (change : Option Restyled) (style : Style) (row : Row) → IsAllowedUpper row.under → IsAllowedUpper (settled_after change style row).under
upper_kept None style row h = h
upper_kept (Some change) style row h = h

-- a row at its end
ended_allowed : (row : Row) → IsAllowedPart row → IsAllowedPart (with_operand_ended row)
ended_allowed row h = record { elements = last_allowed _ row.elements h.elements; before = h.before; upper = h.upper }

behind_allowed : (before : List Element) (last : Kind) (xs : List Element) → AreAllowedElements xs → AreAllowedElements (alone_behind before last xs)
behind_allowed [] last xs h = lone_allowed last xs h
behind_allowed (x ∷ before) last xs h = h

alone_allowed : (change : Option Restyled) (row : Row) → IsAllowedPart row → IsAllowedPart (alone_after change row)
alone_allowed None row h = h
alone_allowed (Some change) row h = record { elements = behind_allowed change.before row.last row.elements h.elements; before = h.before; upper = h.upper }

settled_row_allowed : (style : Style) (row : Row) → IsAllowedPart row → IsAllowedRow (settled style row)
settled_row_allowed style row h = settled_allowed row.restyled style row h.before h.elements

pub finished_allowed : (style : Style) (row : Row) → IsAllowedPart row → IsAllowedRow (finished style row)
finished_allowed style row h =
    let ended = with_sign_alone (with_operand_ended row) in
    let part = alone_allowed row.restyled (with_operand_ended row) (ended_allowed row h) in
    below_allowed (settled style ended).under (settled style ended) (upper_kept ended.restyled style ended part.upper) (settled_row_allowed style ended part)

rest_below_allowed : (rule : FractionRule) (c : Context) (row : Row) (place : ℕ) (l : Units) (upper : Option Upper) → IsAllowedPart row → AreAllowedUnits l → IsAllowedRest (rest_below rule c row place l upper)
rest_below_allowed rule c row place l None h k = (
  record {
    elements = tt;
    before = tt;
    upper = row_element_allowed (settled c.style (with_operand_ended row)).elements (settled_row_allowed c.style (with_operand_ended row) (ended_allowed row h));
  },
  k,
)
rest_below_allowed rule c row place l (Some upper) h k = tt

-- after a change of style, color or size
anew_allowed : (c : Context) (row : Row) (look : Look) → IsAllowedPart row → IsAllowedPart (begun_anew look (settled c.style row))
anew_allowed c row look h = record {
  elements = tt;
  before = settled_row_allowed c.style row h;
  upper = upper_kept row.restyled c.style row h.upper;
}

rest_in_allowed : (name : List ℕ) (c : Context) (row : Row) (place : ℕ) (l : Units) (color : Option Color) → IsAllowedPart row → AreAllowedUnits l → IsAllowedRest (rest_in name c row place l color)
rest_in_allowed name c row place l None h k = tt
rest_in_allowed name c row place l (Some color) h k = (anew_allowed c row _ h, k)

behind_name_allowed : (c : Context) (row : Row) (place : ℕ) (l : Units) (found : Found) → scan place l BeforeColor ≡ found → IsAllowedPart row → AreAllowedUnits l → IsAllowedRest (rest_behind_name c row place found)
behind_name_allowed c row place l (Given name m) e h k = rest_in_allowed name c row place m (color_of name) h (given_allowed place l m BeforeColor name e k)
behind_name_allowed c row place l (Missing r) e h k = tt

pub rest_allowed : (change : Change) (c : Context) (row : Row) (place : ℕ) (l : Units) → IsAllowedPart row → AreAllowedUnits l → IsAllowedRest (rest_of change c row place l)
rest_allowed (ToAlphabet alphabet) c row place l h k = (h, k)
rest_allowed (ToStyle style) c row place l h k = (anew_allowed c row _ h, k)
rest_allowed (ToSize size) c row place l h k = (anew_allowed c row _ h, k)
rest_allowed ToColor c row place l h k = behind_name_allowed c row place l (scan place l BeforeColor) refl h k
rest_allowed (Divides rule) c row place l h k = rest_below_allowed rule c row place l row.under h k
