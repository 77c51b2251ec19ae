-- Words that a text makes longer.
use Rattle.std.proofs.Common.{◌≡◌, ℕ, ◌+◌, ◌<◌, Bool, false, true, zero, suc, List, [], ◌∷◌, length, take, drop, Option, None, Some, option_map, refl, arith}
use Rattle.latex2mathml_elements.specs.{Attributes.Attributes, Element.Element, Element.Mtext, Element.token}
use Rattle.latex2mathml_builder.specs.Stacks.{is_token, lengthened}
use Rattle.latex2mathml_tex_grammar.specs.Makes.{text}
use Rattle.latex2mathml_tex_grammar.specs.Words as words
use Rattle.latex2mathml_tex_grammar.specs.Words.{font_attributes, is_in, with_text}
use Rattle.latex2mathml_tex_atoms.specs.Models.{font_of}
use Rattle.latex2mathml_tex_atoms.specs.Wording as wording
use Rattle.latex2mathml_tex_atoms.specs.Wording.{Replaced}
use Rattle.latex2mathml_tex_atoms.specs.declared.atoms.Words.{Words}

-- A text after words

pub text_longer : (a : Attributes) (more : List ℕ) (n : ℕ) (xs : List Element) → 0 < n → is_token xs ≡ true → take n (lengthened more xs) ≡ with_text true a more (take n xs)
text_longer a more zero xs some is = absurd (omega arith)
text_longer a more (suc n) (token t b text ∷ xs) some is = refl
text_longer a more (suc n) xs some is = cc

pub below_longer : (more : List ℕ) (n : ℕ) (xs : List Element) → 0 < n → drop n (lengthened more xs) ≡ drop n xs
below_longer more zero xs some = absurd (omega arith)
below_longer more (suc n) (token t a text ∷ xs) some = refl
below_longer more (suc n) xs some = refl

pub not_longer : (more : List ℕ) (xs : List Element) → is_token xs ≡ false → lengthened more xs ≡ xs
not_longer more (token t a text ∷ xs) is = cc
not_longer more xs is = refl

pub as_many : (more : List ℕ) (xs : List Element) → length (lengthened more xs) ≡ length xs
as_many more (token t a text ∷ xs) = refl
as_many more xs = refl

pub text_apart : (a : Attributes) (more : List ℕ) (joins : Bool) (n : ℕ) (xs : List Element) → (joins ≡ true → 0 < n → is_token xs ≡ false) → with_text joins a more (take n xs) ≡ token Mtext a more ∷ take n xs
text_apart a more false n xs apart = refl
text_apart a more true zero xs apart = refl
text_apart a more true (suc n) [] apart = refl
text_apart a more true (suc n) (token t b text ∷ xs) apart = let no : true ≡ false = apart refl (omega arith) in cc
text_apart a more true (suc n) (x ∷ xs) apart = refl

-- words that end in a text of this font have it as their last font
pub same_font : (font : words.Font) (last : Option words.Font) → is_in font last ≡ true → last ≡ Some font
same_font words.Usual None h = cc
same_font words.Usual (Some words.Usual) h = refl
same_font words.Usual (Some words.Typewriter) h = cc
same_font words.Typewriter None h = cc
same_font words.Typewriter (Some words.Usual) h = cc
same_font words.Typewriter (Some words.Typewriter) h = refl

pub take_more : (n : ℕ) (x : Element) (xs : List Element) → take (n + 1) (x ∷ xs) ≡ x ∷ take n xs
take_more n x xs = let same : n + 1 ≡ suc n = omega arith in rw same refl

pub drop_more : (n : ℕ) (x : Element) (xs : List Element) → drop (n + 1) (x ∷ xs) ≡ drop n xs
drop_more n x xs = let same : n + 1 ≡ suc n = omega arith in rw same refl

pub replaced : (before after : Words) (old new : List Element) (font : words.Font) (more : List ℕ) → take after.count new ≡ with_text (is_in font (option_map font_of before.last)) (font_attributes font) more (take before.count old) → option_map font_of after.last ≡ Some font → after.accent ≡ before.accent → drop after.count new ≡ drop before.count old → length new + before.count ≡ length old + after.count → Replaced (wording.lengthened font more) before old after new
replaced before after old new font more first is accent below grown = record { words = rw (first, is, accent) refl; below = below; grown = grown }
