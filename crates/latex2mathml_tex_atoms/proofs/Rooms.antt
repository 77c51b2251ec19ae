-- The room for a delimiter, and its space.
use Rattle.std.proofs.Common.{◌≡◌, ℕ, [], ◌∷◌, None, Some, ap, option_map, refl, sym, true}
use Rattle.std.proofs.Math.Utf8.{scalar}
use Rattle.std.proofs.lemmas.Str.{chars-encodes, chars-nil}
use Rattle.latex2mathml_elements.specs.Attributes.{AtMost, Form, NullDelimiterAfter, Size}
use Rattle.latex2mathml_tex_grammar.specs.Fences.{fence_space, space_of}
use Rattle.latex2mathml_tex_grammar.specs.Widths.{room, width_in, widths_in, widths_of}
use Rattle.latex2mathml_tex_commands.specs.Delimiters.{delimiter_text}

-- the room for the delimiter that is a character
pub room_is : (size : Size) (c : ℕ) → scalar c ≡ true → room size (delimiter_text (Some c)) ≡ option_map (λ w. AtMost (width_in size w)) (widths_of c)
room_is size c is = ap (λ cs. option_map (λ w. AtMost (width_in size w)) (widths_in cs)) (chars-encodes (c ∷ []) (rw is refl))

-- no delimiter has no such room
pub no_room : (size : Size) → None ≡ room size (delimiter_text None)
no_room size = sym (ap (λ cs. option_map (λ w. AtMost (width_in size w)) (widths_in cs)) chars-nil)

-- the space of the delimiter that is a character
pub space_is : (form : Form) (c : ℕ) → scalar c ≡ true → fence_space form (delimiter_text (Some c)) ≡ space_of form (c ∷ [])
space_is form c is = ap (space_of form) (chars-encodes (c ∷ []) (rw is refl))

-- the space of an empty delimiter
pub empty_space : (form : Form) → fence_space form (delimiter_text None) ≡ Some NullDelimiterAfter
empty_space form = ap (space_of form) chars-nil
