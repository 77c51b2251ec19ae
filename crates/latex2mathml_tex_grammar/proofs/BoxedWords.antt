-- Boxes in words: what they begin is allowed, and is the same at each place.
use Rattle.std.proofs.Common.{◌≡◌, ◌∙◌, ℕ, List, Option, Some, None, ap, refl, false, sym}
use Rattle.latex2mathml_tex_grammar.specs.Spacing.{Standing, InWords, standing_behind}
use Rattle.latex2mathml_elements.specs.{Attributes.Below, Attributes.Stretch, Characters.is_forbidden}
use Rattle.latex2mathml_tex_grammar.specs.{Ligatures.ligature_start, Colors.color_of, Commands.meaning_of, Delimiters.entry_of_name, Lengths.width_of, Rows.single, Symbols.Ordinary, TextCommands.text_accents, TextCommands.text_commands}
use Rattle.latex2mathml_tex_grammar.specs.Meaning.{Meaning, Accent, Box, Boxed, Colored, Highlight, InColor, OnColor, Raise, Raised, Words as TakesWordsIn, takes_words}
use Rattle.latex2mathml_tex_grammar.specs.Makes.{accent}
use Rattle.latex2mathml_tex_grammar.specs.Rules.{Context}
use Rattle.latex2mathml_tex_grammar.specs.Scanning.{BeforeLengthInBraces}
use Rattle.latex2mathml_tex_grammar.specs.Units.{Piece, Space, Open, Close, Command, Character}
use Rattle.latex2mathml_tex_grammar.specs.WordBoxes.{BoxedWords, ColoredWords, HighlightedWords, MarkedWords, RaisedWords, WordBox, a_box_of_words, box_meant, box_named, box_rule, box_unless, of_words, word_box}
use Rattle.latex2mathml_tex_grammar.specs.Symbols.{Alphabet}
use Rattle.latex2mathml_tex_grammar.specs.Words.{Font, IsWord, Word, Words, accent_rule, command_rule, font_in, meaning_rule, with_accent_ended, word_rule, words_atom}
use Rattle.latex2mathml_tex_grammar.proofs.Allowed.{AreAllowedWords, IsAllowedOperand, IsAllowedRule}
use Rattle.latex2mathml_tex_grammar.proofs.AllowedMakes.{accent_allowed, as_base_allowed, single_allowed}
use Rattle.latex2mathml_tex_grammar.proofs.AllowedRules.{accent_ended_allowed, in_box_allowed, with_value_allowed, words_element_allowed}
use Rattle.latex2mathml_tex_grammar.proofs.AllowedTables.{Passes, is_allowed_meaning, meaning_passes, not_forbidden}
use Rattle.latex2mathml_tex_grammar.proofs.{AlikeRules.within_words, WordPieces.command_ends}
use Rattle.latex2mathml_tex_grammar.proofs.WordScans.{RulesInWords, both_give, both_read, one_color, one_length}

-- What is allowed

words_allowed : (c : Context) (ws : Words) → AreAllowedWords ws → IsAllowedOperand (single c.style (words_atom ws))
words_allowed c ws h = single_allowed c.style (words_atom ws) (words_element_allowed (with_accent_ended ws).elements (accent_ended_allowed ws h).0)

box_of_words_allowed : (place : ℕ) (c : Context) (box : Box) → IsAllowedRule (a_box_of_words place c box)
box_of_words_allowed place c box = λ ws h. in_box_allowed box _ (as_base_allowed c.style Ordinary (single c.style (words_atom ws)) (words_allowed c ws h))

marked_allowed : (place : ℕ) (c : Context) (mark : ℕ) (width : Stretch) → is_forbidden mark ≡ false → IsAllowedRule (of_words place c (accent Below mark width))
marked_allowed place c mark width h = λ ws k. accent_allowed Below mark width (single c.style (words_atom ws)) h (words_allowed c ws k)

meant_allowed : (place : ℕ) (c : Context) (meaning : Option Meaning) (box : WordBox) → Passes is_allowed_meaning meaning → box_meant meaning ≡ Some box → IsAllowedRule (box_rule place c box)
meant_allowed place c meaning (BoxedWords box) h e = box_of_words_allowed place c box
meant_allowed place c meaning RaisedWords h e = λ text. with_value_allowed _ _ (λ height. box_of_words_allowed place c (Raised height)) (width_of text)
meant_allowed place c meaning ColoredWords h e = λ name. with_value_allowed _ _ (λ color. box_of_words_allowed place c (Colored color)) (color_of name)
meant_allowed place c meaning HighlightedWords h e = λ name. with_value_allowed _ _ (λ color. box_of_words_allowed place c (OnColor color)) (color_of name)
meant_allowed place c (Some (Accent Below mark width)) (MarkedWords other stretch) h e =
    let same : mark ≡ other = cc in marked_allowed place c other stretch (ap is_forbidden (sym same) ∙ not_forbidden mark h)
meant_allowed place c meaning (MarkedWords mark width) h e = cc

-- what is no character and no accent of words, means this
unless_is : (found : Option ℕ) (meant : Option WordBox) {box : WordBox} → box_unless found meant ≡ Some box → meant ≡ Some box
unless_is None meant e = e
unless_is (Some c) meant e = cc

named_is : (name : List ℕ) (box : WordBox) → box_named name ≡ Some box → box_meant (meaning_of name) ≡ Some box
named_is name box e = unless_is (entry_of_name text_accents name) _ (unless_is (entry_of_name text_commands name) _ e)

pub box_rule_allowed : (place : ℕ) (c : Context) (piece : Piece) (box : WordBox) → word_box piece ≡ Some box → IsAllowedRule (box_rule place c box)
box_rule_allowed place c (Command name) box e = meant_allowed place c (meaning_of name) box (meaning_passes name) (named_is name box e)
box_rule_allowed place c Space box e = cc
box_rule_allowed place c Open box e = cc
box_rule_allowed place c Close box e = cc
box_rule_allowed place c (Character character) box e = cc

-- Where units are

no_words_meant : (meaning : Option Meaning) (box : WordBox) → box_meant meaning ≡ Some box → takes_words meaning ≡ false
no_words_meant (Some (TakesWordsIn alphabet)) box e = cc
no_words_meant meaning box e = refl

-- a box in words leaves the units after it in words
pub box_stays : (at : Standing) (piece : Piece) (box : WordBox) → word_box piece ≡ Some box → standing_behind piece (InWords at) ≡ InWords at
box_stays at (Command name) box e = command_ends name (no_words_meant (meaning_of name) box (named_is name box e)) (InWords at) (InWords at) within_words (λ s. cc)
box_stays at Space box e = cc
box_stays at Open box e = cc
box_stays at Close box e = cc
box_stays at (Character character) box e = cc

pub box_rules : (p q : ℕ) (c : Context) (box : WordBox) → RulesInWords (box_rule p c box) (box_rule q c box)
box_rules p q c (BoxedWords box) = both_read (λ ws. both_give)
box_rules p q c RaisedWords = one_length p q BeforeLengthInBraces refl refl (λ height. both_read (λ ws. both_give))
box_rules p q c ColoredWords = one_color p q (λ color. both_read (λ ws. both_give))
box_rules p q c HighlightedWords = one_color p q (λ color. both_read (λ ws. both_give))
box_rules p q c (MarkedWords mark width) = both_read (λ ws. both_give)

-- what is a part of words by itself makes nothing of the words after it
meaning_no_box : (font : Font) (name : List ℕ) (meaning : Option Meaning) {w : Word} → meaning_rule font name meaning ≡ IsWord w → box_meant meaning ≡ None
meaning_no_box font name (Some (Boxed box)) e = cc
meaning_no_box font name (Some Raise) e = cc
meaning_no_box font name (Some InColor) e = cc
meaning_no_box font name (Some Highlight) e = cc
meaning_no_box font name (Some (Accent Below mark width)) e = cc
meaning_no_box font name meaning e = refl

accent_no_box : (font : Font) (name : List ℕ) (accent : Option ℕ) {w : Word} → accent_rule font name accent ≡ IsWord w → box_unless accent (box_meant (meaning_of name)) ≡ None
accent_no_box font name (Some c) e = refl
accent_no_box font name None e = meaning_no_box font name (meaning_of name) e

command_no_box : (font : Font) (name : List ℕ) (found : Option ℕ) {w : Word} → command_rule font name found ≡ IsWord w → box_unless found (box_unless (entry_of_name text_accents name) (box_meant (meaning_of name))) ≡ None
command_no_box font name (Some c) e = refl
command_no_box font name None e = accent_no_box font name (entry_of_name text_accents name) e

pub word_no_box : (a : Option Alphabet) (piece : Piece) {w : Word} → word_rule a piece ≡ IsWord w → word_box piece ≡ None
word_no_box a (Command name) e = command_no_box (font_in a) name (entry_of_name text_commands name) e
word_no_box a Space e = refl
word_no_box a Open e = refl
word_no_box a Close e = refl
word_no_box a (Character character) e = refl

-- no ligature begins with what makes something of words
pub box_no_start : (accent : Option ℕ) (a : Option Alphabet) (piece : Piece) {box : WordBox} → word_box piece ≡ Some box → ligature_start accent a piece ≡ None
box_no_start accent a (Command name) e = refl
box_no_start accent a Space e = refl
box_no_start accent a Open e = refl
box_no_start accent a Close e = refl
box_no_start accent a (Character character) e = cc
