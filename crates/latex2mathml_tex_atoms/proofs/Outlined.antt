-- Fractions between delimiters, if there are any.
use Rattle.std.proofs.Common.{◌≡◌, ℕ, List, [], ◌∷◌, None, Option, Some, ap, arith, length, refl}
use Rattle.std.proofs.lemmas.Str.{length-le-encodes}
use Rattle.std.specs.Str.{encode_utf8_all}
use Rattle.latex2mathml_elements.specs.Element.{Element}
use Rattle.latex2mathml_tex_grammar.specs.{Fences.delimited_fraction, Makes.between_any, Symbols.Style}
use Rattle.latex2mathml_tex_commands.specs.Delimiters.{delimiter_text}

some_text : (c : ℕ) → encode_utf8_all (c ∷ []) ≡ [] → ⊥
some_text c e = absurd (omega (arith, length-le-encodes (c ∷ []), ap length e))

between : (style : Style) (opening closing : List ℕ) (x : Element) → (opening ≡ [] → closing ≡ [] → ⊥) → between_any style opening closing x ≡ delimited_fraction style opening closing x
between style [] [] x some = absurd (some refl refl)
between style [] (c ∷ cs) x some = refl
between style (c ∷ cs) closing x some = refl

pub between_first : (style : Style) (opening closing : Option ℕ) (x : Element) → (opening ≡ None → ⊥) → between_any style (delimiter_text opening) (delimiter_text closing) x ≡ delimited_fraction style (delimiter_text opening) (delimiter_text closing) x
between_first style None closing x some = absurd (some refl)
between_first style (Some c) closing x some = between style (delimiter_text (Some c)) (delimiter_text closing) x (λ e f. some_text c e)

pub between_second : (style : Style) (opening closing : Option ℕ) (x : Element) → (closing ≡ None → ⊥) → between_any style (delimiter_text opening) (delimiter_text closing) x ≡ delimited_fraction style (delimiter_text opening) (delimiter_text closing) x
between_second style opening None x some = absurd (some refl)
between_second style opening (Some c) x some = between style (delimiter_text opening) (delimiter_text (Some c)) x (λ e f. some_text c f)
