-- Words: what is in `\text` and the like, character by character.
use Rattle.std.specs.Prelude.{ℕ, ◌==◌, ◌||◌, Bool, true, false, List, [], ◌∷◌, ◌++◌, Option, Some, None, if◌then◌else◌}
use Rattle.std.specs.Str.{byte}
use Rattle.latex2mathml_elements.specs.{Attributes.Attributes, Attributes.Monospaced, Attributes.boxed, Attributes.plain, Element.Element, Element.Mtext, Element.token}
use Rattle.latex2mathml_tex_grammar.specs.{Alphabets.in_alphabet, Atoms.Atom, Atoms.Plain, Atoms.atom, Commands.meaning_of, Delimiters.entry_of_name, Dots.centered_dots, Dots.column_dots, Dots.low_dots, Makes.symbol, Makes.text, Rows.row_element, Rows.single, TextCommands.text_accents, TextCommands.text_commands}
use Rattle.latex2mathml_tex_grammar.specs.Heights.{Low}
use Rattle.latex2mathml_tex_grammar.specs.Meaning.{Meaning, Shows, Dots, CenteredDots, VerticalDots, Implication, Spacing, Words as TakesWordsIn, Changes, ToAlphabet, ToSize, Skip, SkipInBraces, Rectangle}
use Rattle.latex2mathml_tex_grammar.specs.Refusal.{Kind, CommandInWords, CharacterInWords, UnknownCommand}
use Rattle.latex2mathml_tex_grammar.specs.Symbols.{Alphabet, BoldItalic, Monospace, Ordinary, Relation, Sign, InText, TextSize}
use Rattle.latex2mathml_tex_grammar.specs.Units.{Piece, Space, Open, Close, Command, Character}

-- The font of a text: the usual one, or one whose characters are all equally wide. Unicode's letters of a typewriter are no
-- substitute, since it has no signs and spaces of their width.
pub data Font : Type 0 where
  Usual : Font
  Typewriter : Font

-- the font of words in an alphabet
abbrev pub font_in : Option Alphabet → Font
font_in (Some Monospace) = Typewriter
font_in alphabet = Usual

-- a part of words: a text in a font, the element of a formula, an accent on the next character, or a change to another alphabet or
-- size, which is nothing by itself and holds up to the end of the group
pub data Word : Type 0 where
  Shown : Font → List ℕ → Word
  Formula : Element → Word
  Accented : ℕ → Word
  Changed : Alphabet → Word
  Resized : TextSize → Word

-- what a unit is in words
pub data WordRule : Type 0 where
  -- a part of words by itself
  IsWord : Word → WordRule
  -- the beginning of words in braces, or their end
  BeginsGroup : WordRule
  EndsGroup : WordRule
  -- the beginning of a formula between dollar signs
  BeginsFormula : WordRule
  -- words in this alphabet, where there is one
  TakesWords : Option Alphabet → WordRule
  -- an atom as in a formula, which takes nothing but lengths
  ShowsAtom : WordRule
  -- it is not allowed in words
  NoWord : Kind → WordRule

-- a space that is not collapsed, U+00A0
abbrev pub word_space : Font → Word
word_space font = Shown font (text 0xA0)

-- a letter or a digit in an alphabet. A typewriter has them as they are, and bold italic is only for formulas.
abbrev pub letter_in : Option Alphabet → ℕ → ℕ
letter_in None c = c
letter_in (Some Monospace) c = c
letter_in (Some BoldItalic) c = c
letter_in (Some alphabet) c = in_alphabet alphabet c

-- the alphabet of the formulas in words: bold italic after `\boldmath`, otherwise none
abbrev pub formula_alphabet : Option Alphabet → Option Alphabet
formula_alphabet (Some BoldItalic) = Some BoldItalic
formula_alphabet alphabet = None

-- a character in an alphabet; quotation marks become typographic ones
abbrev pub word_character : Option Alphabet → ℕ → ℕ
word_character alphabet c = if c == byte "`" then 0x2018 else if c == byte "'" then 0x2019 else letter_in alphabet c

-- such a character as a part of words
abbrev pub shown_character : Option Alphabet → ℕ → Word
shown_character alphabet c = Shown (font_in alphabet) (text (word_character alphabet c))

-- what a character is in words
abbrev pub character_rule : Option Alphabet → ℕ → WordRule
character_rule alphabet c =
    if c == byte "$" then BeginsFormula
    else if c == byte "~" then IsWord (word_space (font_in alphabet))
    else if c == byte "^" || c == byte "&" || c == byte "#" then NoWord (CharacterInWords c)
    else IsWord (shown_character alphabet c)

-- what a command is in words in this font, by its meaning
abbrev pub meaning_rule : Font → List ℕ → Option Meaning → WordRule
meaning_rule font name (Some (Spacing width)) = IsWord (word_space font)
meaning_rule font name (Some (Shows sign)) = IsWord (Formula (single InText (symbol InText None sign).atom).element)
meaning_rule font name (Some Dots) = IsWord (Formula (single InText (symbol InText None low_dots).atom).element)
meaning_rule font name (Some CenteredDots) = IsWord (Formula (single InText (symbol InText None centered_dots).atom).element)
meaning_rule font name (Some VerticalDots) = IsWord (Formula (single InText (symbol InText None column_dots).atom).element)
meaning_rule font name (Some (Implication c)) = IsWord (Formula (single InText (symbol InText None (Sign Relation c)).atom).element)
meaning_rule font name (Some (TakesWordsIn alphabet)) = TakesWords alphabet
meaning_rule font name (Some (Changes (ToAlphabet alphabet))) = IsWord (Changed alphabet)
meaning_rule font name (Some (Changes (ToSize size))) = IsWord (Resized size)
meaning_rule font name (Some Skip) = ShowsAtom
meaning_rule font name (Some SkipInBraces) = ShowsAtom
meaning_rule font name (Some Rectangle) = ShowsAtom
meaning_rule font name (Some meaning) = NoWord (CommandInWords name)
meaning_rule font name None = NoWord (UnknownCommand name)

-- what a command is in words, if it is not one character there: an accent, where it is one, or else what its meaning says
abbrev pub accent_rule : Font → List ℕ → Option ℕ → WordRule
accent_rule font name (Some accent) = IsWord (Accented accent)
accent_rule font name None = meaning_rule font name (meaning_of name)

-- what a command is in words: one character, where it is one, or else as above
abbrev pub command_rule : Font → List ℕ → Option ℕ → WordRule
command_rule font name (Some c) = IsWord (Shown font (text c))
command_rule font name None = accent_rule font name (entry_of_name text_accents name)

-- what a unit is in words in this alphabet
abbrev pub word_rule : Option Alphabet → Piece → WordRule
word_rule alphabet Space = IsWord (word_space (font_in alphabet))
word_rule alphabet Open = BeginsGroup
word_rule alphabet Close = EndsGroup
word_rule alphabet (Character c) = character_rule alphabet c
word_rule alphabet (Command name) = command_rule (font_in alphabet) name (entry_of_name text_commands name)

-- the alphabet of the words after a unit in the same group, where the unit is this in words in an alphabet
abbrev pub alphabet_after : Option Alphabet → WordRule → Option Alphabet
alphabet_after alphabet (IsWord (Changed other)) = Some other
alphabet_after alphabet rule = alphabet

-- the alphabet of the words after a unit in the same group: only a command changes it
abbrev pub alphabet_behind : Option Alphabet → Piece → Option Alphabet
alphabet_behind alphabet (Command name) = alphabet_after alphabet (word_rule alphabet (Command name))
alphabet_behind alphabet piece = alphabet

-- the size of the words after a unit in the same group, if the unit, which is this in words, changes it
abbrev pub size_after : WordRule → Option TextSize
size_after (IsWord (Resized size)) = Some size
size_after rule = None

-- Words so far: their elements, the last one first; the font of the last one, if it is a text; and the accent that the next
-- character gets, if there is one.
pub record Words : Type 0 where
  pub elements : List Element
  pub last : Option Font
  pub accent : Option ℕ

-- words before their first part
abbrev pub no_words : Words
no_words = record { elements = []; last = None; accent = None }

-- the attributes of a text in this font
abbrev pub font_attributes : Font → Attributes
font_attributes Usual = plain
font_attributes Typewriter = boxed Monospaced

-- whether the last element is a text in this font
abbrev pub is_in : Font → Option Font → Bool
is_in Usual (Some Usual) = true
is_in Typewriter (Some Typewriter) = true
is_in font last = false

-- a text, which may make the text before it longer
abbrev pub with_text : Bool → Attributes → List ℕ → List Element → List Element
with_text true a more (token t b before ∷ xs) = token t b (before ++ more) ∷ xs
with_text joins a more xs = token Mtext a more ∷ xs

-- a character, with this accent behind it if there is one
abbrev pub accented : Option ℕ → List ℕ → List ℕ
accented None character = character
accented (Some accent) character = character ++ text accent

-- words with one more character in this font, which gets the accent. It makes a text in the same font longer.
abbrev pub with_character : Font → Words → List ℕ → Words
with_character font ws character = record {
  elements = with_text (is_in font ws.last) (font_attributes font) (accented ws.accent character) ws.elements;
  last = Some font;
  accent = None;
}

-- the font of the last element, if it is a text, or else the usual one
abbrev pub last_font : Option Font → Font
last_font None = Usual
last_font (Some font) = font

-- words without an accent: one that no character follows is put on a space
abbrev pub end_accent : Option ℕ → Words → Words
end_accent None ws = ws
end_accent (Some accent) ws = with_character (last_font ws.last) ws (text 0xA0)

abbrev pub with_accent_ended : Words → Words
with_accent_ended ws = end_accent ws.accent ws

-- these elements, followed by that of a formula, or of a sign
abbrev pub with_formula : List Element → Element → Words
with_formula elements x = record { elements = x ∷ elements; last = None; accent = None }

-- words with one more part
abbrev pub with_word : Words → Word → Words
with_word ws (Shown font character) = with_character font ws character
with_word ws (Formula x) = with_formula (with_accent_ended ws).elements x
with_word ws (Accented accent) = record (with_accent_ended ws) { accent = Some accent }
with_word ws (Changed alphabet) = ws
with_word ws (Resized size) = ws

-- words as one element; no words are an empty text
abbrev pub words_element : List Element → Element
words_element [] = token Mtext plain []
words_element xs = row_element xs

-- the elements of words as an ordinary atom
abbrev pub text_atom : List Element → Atom
text_atom elements = atom (Plain Ordinary) Low (words_element elements)

-- words as an ordinary atom
abbrev pub words_atom : Words → Atom
words_atom ws = text_atom (with_accent_ended ws).elements
