-- Boxes in words, as in `\text{a \underline{b}}`. What a command takes there as its operand is words, too.
use Rattle.std.specs.Prelude.{ℕ, List, Option, Some, None}
use Rattle.latex2mathml_elements.specs.Attributes.{Below, Stretch}
use Rattle.latex2mathml_tex_grammar.specs.{Commands.meaning_of, Delimiters.entry_of_name, Rows.Operand, Rows.as_base, Rows.single, TextCommands.text_accents, TextCommands.text_commands, Words.words_atom}
use Rattle.latex2mathml_tex_grammar.specs.Makes.{Core, accent, boxed_atom, core}
use Rattle.latex2mathml_tex_grammar.specs.Meaning.{Meaning, Accent, Box, Boxed, Colored, Highlight, InColor, OnColor, Raise, Raised}
use Rattle.latex2mathml_tex_grammar.specs.Rules.{Context, Rule, a_color, a_length, gives, reads_words}
use Rattle.latex2mathml_tex_grammar.specs.{Scanning.BeforeLengthInBraces, Symbols.Ordinary}
use Rattle.latex2mathml_tex_grammar.specs.Units.{Piece, Command}

-- what is made of words in words
pub data WordBox : Type 0 where
  -- they are in this box
  BoxedWords : Box → WordBox
  -- they are raised by the length that comes next in braces
  RaisedWords : WordBox
  -- they are in the color that comes next, or on a background of that color
  ColoredWords : WordBox
  HighlightedWords : WordBox
  -- this mark is below them
  MarkedWords : ℕ → Stretch → WordBox

-- what a command makes of words, by its meaning
abbrev pub box_meant : Option Meaning → Option WordBox
box_meant (Some (Boxed box)) = Some (BoxedWords box)
box_meant (Some Raise) = Some RaisedWords
box_meant (Some InColor) = Some ColoredWords
box_meant (Some Highlight) = Some HighlightedWords
box_meant (Some (Accent Below mark width)) = Some (MarkedWords mark width)
box_meant meaning = None

-- the same of a name, unless it is one of these
abbrev pub box_unless : Option ℕ → Option WordBox → Option WordBox
box_unless (Some c) box = None
box_unless None box = box

-- what a command makes of words: it is neither a character of words nor an accent
abbrev pub box_named : List ℕ → Option WordBox
box_named name = box_unless (entry_of_name text_commands name) (box_unless (entry_of_name text_accents name) (box_meant (meaning_of name)))

-- what a unit makes of the words that follow it in words in braces, if it makes something of them
abbrev pub word_box : Piece → Option WordBox
word_box (Command name) = box_named name
word_box piece = None

-- an atom of words, which are its operand
abbrev pub of_words : ℕ → Context → (Operand → Core) → Rule
of_words place c whole = reads_words place c (λ ws. gives (whole (single c.style (words_atom ws))))

-- words in a box
abbrev pub a_box_of_words : ℕ → Context → Box → Rule
a_box_of_words place c box = of_words place c (λ x. core (boxed_atom box (as_base c.style Ordinary x)))

-- what is read after a unit that makes this of words
abbrev pub box_rule : ℕ → Context → WordBox → Rule
box_rule place c (BoxedWords box) = a_box_of_words place c box
box_rule place c RaisedWords = a_length place BeforeLengthInBraces (λ height. a_box_of_words place c (Raised height))
box_rule place c ColoredWords = a_color place (λ color. a_box_of_words place c (Colored color))
box_rule place c HighlightedWords = a_color place (λ color. a_box_of_words place c (OnColor color))
box_rule place c (MarkedWords mark width) = of_words place c (accent Below mark width)
