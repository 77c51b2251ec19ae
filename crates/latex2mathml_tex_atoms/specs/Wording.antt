-- Changes of words whose elements are the top ones.
use Rattle.std.specs.Prelude.{◌≡◌, ℕ, ◌+◌, List, drop, length, Some}
use Rattle.latex2mathml_elements.specs.Element.{Element}
use Rattle.latex2mathml_builder.specs.Built.{Built, elements_in}
use Rattle.latex2mathml_tex_grammar.specs.Words as words
use Rattle.latex2mathml_tex_grammar.specs.Words.{font_attributes, is_in, with_text}
use Rattle.latex2mathml_tex_atoms.specs.Models.{words_with}
use Rattle.latex2mathml_tex_atoms.specs.declared.atoms.Words.{Words}

-- words with a text in this font at their end, and the same accent
abbrev pub lengthened : words.Font → List ℕ → words.Words → words.Words
lengthened font more ws = record ws { elements = with_text (is_in font ws.last) (font_attributes font) more ws.elements; last = Some font }

-- what `change` makes of the words replaces them, and the elements below stay
pub record Replaced (change : words.Words → words.Words) (before : Words) (old : List Element) (after : Words) (new : List Element) : Type 0 where
  pub words : words_with after new ≡ change (words_with before old)
  pub below : drop after.count new ≡ drop before.count old
  pub grown : length new + before.count ≡ length old + after.count

abbrev pub Replaces : (words.Words → words.Words) → Words → Built → Built → Words → Type 0
Replaces change before old new after = Replaced change before (elements_in old) after (elements_in new)
