-- What a command is in words, in the code and in the grammar.
use Rattle.std.specs.Prelude.{◌≡◌, ℕ, Bool, List, Option, None, Some, false, option_map, true}
use Rattle.latex2mathml_tex_grammar.specs.{Makes.symbol, Makes.text, Refusal.CommandInWords, Refusal.UnknownCommand, Rows.single, Symbols.Alphabet, Symbols.InText, Units.Piece}
use Rattle.latex2mathml_tex_grammar.specs.Words.{Accented, Changed, Font, Formula, IsWord, NoWord, Resized, ShowsAtom, Shown, TakesWords, Word, WordRule, alphabet_behind, size_after, word_rule, word_space}
use Rattle.latex2mathml_attributes.specs.Names.{stretch_of}
use Rattle.latex2mathml_tex_grammar.specs.WordBoxes as boxes
use Rattle.latex2mathml_tex_commands.specs.Meanings.{alphabet_of, box_of, symbol_of, text_size_of}
use Rattle.latex2mathml_tex.specs.declared.parse.word_commands.WordCommand.{WordCommand}
use Rattle.latex2mathml_tex.specs.declared.parse.word_commands.WordCommand.TheVariants as command
use Rattle.latex2mathml_tex.specs.declared.parse.word_commands.InBraces.{InBraces}
use Rattle.latex2mathml_tex.specs.declared.parse.word_commands.InBraces.TheVariants as in_braces
use Rattle.latex2mathml_tex.specs.declared.parse.word_commands.WordBox.{WordBox}
use Rattle.latex2mathml_tex.specs.declared.parse.word_commands.WordBox.TheVariants as word_box
use Rattle.latex2mathml_tex.specs.declared.parse.word_commands.WordChange.{WordChange}
use Rattle.latex2mathml_tex.specs.declared.parse.word_commands.WordChange.TheVariants as change

-- a change as a part of words
abbrev pub word_of : WordChange → Word
word_of (change.ToAlphabet alphabet) = Changed (alphabet_of alphabet)
word_of (change.ToSize size) = Resized (text_size_of size)

-- what is made of words
abbrev pub word_box_of : WordBox → boxes.WordBox
word_box_of (word_box.Boxed box) = boxes.BoxedWords (box_of box)
word_box_of word_box.Raised = boxes.RaisedWords
word_box_of word_box.Colored = boxes.ColoredWords
word_box_of word_box.Highlighted = boxes.HighlightedWords
word_box_of (word_box.Marked mark stretch) = boxes.MarkedWords mark (stretch_of stretch)

-- what a command makes of the words after it, if it makes something of them
abbrev pub box_in : WordCommand → Option boxes.WordBox
box_in (command.Box box) = Some (word_box_of box)
box_in other = None

-- the same of a unit in words in braces
abbrev pub boxed_in : InBraces → Option boxes.WordBox
boxed_in (in_braces.Box box) = Some (word_box_of box)
boxed_in other = None

-- whether a unit changes the words after it
abbrev pub is_changed : InBraces → Bool
is_changed (in_braces.Change change) = true
is_changed other = false

-- words after this piece are as those before it
pub record IsKept (a : Option Alphabet) (piece : Piece) : Type 0 where
  pub alphabet : alphabet_behind a piece ≡ a
  pub size : size_after (word_rule a piece) ≡ None

-- what a command with this name is, in words in this font
abbrev pub rule_of : Font → List ℕ → WordCommand → WordRule
rule_of font name (command.Character c) = IsWord (Shown font (text c))
rule_of font name (command.Accent c) = IsWord (Accented c)
rule_of font name command.Space = IsWord (word_space font)
rule_of font name (command.Sign sign) = IsWord (Formula (single InText (symbol InText None (symbol_of sign)).atom).element)
rule_of font name (command.Words alphabet) = TakesWords (option_map alphabet_of alphabet)
rule_of font name (command.Change change) = IsWord (word_of change)
rule_of font name (command.Atom meaning) = ShowsAtom
rule_of font name (command.Box box) = NoWord (CommandInWords name)
rule_of font name command.Forbidden = NoWord (CommandInWords name)
rule_of font name command.Unknown = NoWord (UnknownCommand name)
