-- Changes of the top elements.
use Rattle.std.specs.Prelude.{◌≡◌, ℕ, zero, suc, Bool, false, List, [], ◌∷◌, Option, None, Some, drop}
use Rattle.std.specs.Str.{encode_utf8_all}
use Rattle.latex2mathml_elements.specs.{Attributes.Attributes, Attributes.Stretch, Element.Element, Element.Mo, Element.token}
use Rattle.latex2mathml_attributes.specs.{Arounds.element_around, declared.around.Around.Around}
use Rattle.latex2mathml_builder.specs.Built.{Built, elements_in}
use Rattle.latex2mathml_tex_grammar.specs.Makes
use Rattle.latex2mathml_tex_grammar.specs.{Rows.is_spaced_sign, Widths.Widths}
use Rattle.latex2mathml_tex_atoms.specs.Models.{core_with, top}
use Rattle.latex2mathml_tex_atoms.specs.declared.atoms.Core.{Core as CodeCore}
use Rattle.latex2mathml_tex_atoms.specs.declared.widths.Widths.{Widths as CodeWidths}

-- an operator with this text
abbrev pub delimiter_element : Attributes → List ℕ → Element
delimiter_element a text = token Mo a text

-- the widths of a delimiter
abbrev pub widths_with : CodeWidths → Widths
widths_with w = record { big = w.big; bigger = w.bigger; very_big = w.very_big; biggest = w.biggest }

-- a mark that stretches or does not
abbrev pub mark_element : ℕ → Stretch → Element
mark_element mark stretch = token Mo (Makes.mark_attributes stretch) (encode_utf8_all (mark ∷ []))

-- an element within another, if there is one
abbrev pub within_any : Option Around → Element → Element
within_any None x = x
within_any (Some a) x = element_around a x

-- whether the element below `depth` others is a sign with space at its sides
abbrev pub is_spaced_sign_at : ℕ → List Element → Bool
is_spaced_sign_at depth [] = false
is_spaced_sign_at zero (x ∷ xs) = is_spaced_sign x
is_spaced_sign_at (suc depth) (x ∷ xs) = is_spaced_sign_at depth xs

-- the elements, with the one below `depth` others changed
abbrev pub changed_at : (Element → Element) → ℕ → List Element → List Element
changed_at f depth [] = []
changed_at f zero (x ∷ xs) = f x ∷ xs
changed_at f (suc depth) (x ∷ xs) = x ∷ changed_at f depth xs

-- the element below `depth` others is changed, and all others stay
abbrev pub ChangesAt : (Element → Element) → ℕ → Built → Built → Type 0
ChangesAt f depth old new = elements_in new ≡ changed_at f depth (elements_in old)

-- what this makes of the top element replaces it
abbrev pub ReplacesTop : (Element → Element) → Built → Built → Type 0
ReplacesTop make old new = elements_in new ≡ make (top (elements_in old)) ∷ drop 1 (elements_in old)

-- the elements, with the first `count` changed
abbrev pub mapped_first : (Element → Element) → ℕ → List Element → List Element
mapped_first f count [] = []
mapped_first f zero (x ∷ xs) = x ∷ xs
mapped_first f (suc count) (x ∷ xs) = f x ∷ mapped_first f count xs

-- an atom without scripts was put: its element is on top, and this is what else it is
pub record IsPut (put : CodeCore) (k : Makes.Core) (old new : List Element) : Type 0 where
  pub element : new ≡ k.atom.element ∷ old
  pub is : core_with put k.atom.element ≡ k

-- an atom without scripts was put on the elements of a builder
abbrev pub PutsCore : Makes.Core → Built → Built → CodeCore → Type 0
PutsCore k old new put = IsPut put k (elements_in old) (elements_in new)
