-- What each piece is in words, and where the unit after it is.
use Rattle.std.proofs.Common.{◌≡◌, ℕ, Bool, true, false, List, Option, Some, None, refl, subst, sym, ◌==◌, if◌then◌else◌, ◌||◌}
use Rattle.std.specs.Str.{byte}
use Rattle.latex2mathml_tex_grammar.specs.{Commands.meaning_of, Delimiters.entry_of_name, TextCommands.text_accents, TextCommands.text_commands}
use Rattle.latex2mathml_tex_grammar.specs.Meaning.{Meaning, takes_words, Shows, FunctionName, Dots, CenteredDots, VerticalDots, Implication, Spacing, Styled, Words as TakesWordsIn, Fraction, Root, Accent, Brace, Stack, StackedRelation, OperatorName, Negation, Slash, Sized, Left, Middle, Right, Limits, NoLimits, Classed, Changes, ToAlphabet, ToStyle, ToSize, Divides, ToColor, BeginTable, EndTable, LineBreak, Substack, Skip, SkipInBraces, Boxed, Smash, ContinuedFraction, GeneralFraction, Choice, Raise, InColor, Highlight, Rectangle, Arrow}
use Rattle.latex2mathml_tex_grammar.specs.{Next.is_space_piece, Refusal.Kind, Symbols.Alphabet, Symbols.TextSize}
use Rattle.latex2mathml_tex_grammar.specs.Spacing.{Standing, BeforeWords, InWords, BetweenDollars, standing_behind, is_in_words}
use Rattle.latex2mathml_tex_grammar.specs.Units.{Piece, Space, Open, Close, Command, Character}
use Rattle.latex2mathml_tex_grammar.specs.Words.{Font, Word, Shown, Formula, Accented, Changed, Resized, font_in, size_after, WordRule, IsWord, BeginsGroup, EndsGroup, BeginsFormula, TakesWords, ShowsAtom, NoWord, word_rule, command_rule, accent_rule, meaning_rule}
use Rattle.latex2mathml_tex_grammar.proofs.{AlikeRules.WordsStand, AlikeRules.before_words, AlikeRules.within_words, Plain.TakesNone, Plain.takes_none, Spaces.IsPlain, Spaces.character_stays, Plain.text_accent_plain, Plain.text_command_plain}

-- the piece is all of the words where words are due, or one part of words in braces
abbrev pub EndsWord : Piece → Type 0
EndsWord piece = (before at : Standing) → WordsStand before at → (is_in_words before ≡ false → is_space_piece piece ≡ false) → standing_behind piece before ≡ at

character_ends : (c : ℕ) → (c == byte "$") ≡ false → EndsWord (Character c)
character_ends c h before at before_words s = rw h refl
character_ends c h before at within_words s = character_stays _ c h

-- a dollar sign begins a formula, after which units are where they are after the words
dollar_begins : (c : ℕ) → (c == byte "$") ≡ true → (before at : Standing) → WordsStand before at → standing_behind (Character c) before ≡ BetweenDollars at
dollar_begins c h before at before_words = rw h refl
dollar_begins c h before at within_words = rw h refl

space_ends : EndsWord Space
space_ends before at before_words s = cc (s refl)
space_ends before at within_words s = refl

pub command_ends : (name : List ℕ) → TakesNone name → EndsWord (Command name)
command_ends name h before at before_words s = rw h refl
command_ends name h before at within_words s = rw h refl

-- the command takes nothing but lengths, and makes a space or a bar of them
pub data TakesLengths (name : List ℕ) : Type 0 where
  skips : meaning_of name ≡ Some Skip → TakesLengths name
  skips_in_braces : meaning_of name ≡ Some SkipInBraces → TakesLengths name
  is_bar : meaning_of name ≡ Some Rectangle → TakesLengths name

-- what a piece is in words
data InAWord : Piece → WordRule → Type 0 where
  a_word : {piece : Piece} {w : Word} → EndsWord piece → InAWord piece (IsWord w)
  a_formula : {c : ℕ} → (c == byte "$") ≡ true → InAWord (Character c) BeginsFormula
  more_words : {name : List ℕ} {a : Option Alphabet} → takes_words (meaning_of name) ≡ true → InAWord (Command name) (TakesWords a)
  an_atom : {name : List ℕ} → TakesNone name → TakesLengths name → InAWord (Command name) ShowsAtom
  no_word_here : {piece : Piece} {kind : Kind} → InAWord piece (NoWord kind)
  opens : InAWord Open BeginsGroup
  closes : InAWord Close EndsGroup

by_meaning : (font : Font) (name : List ℕ) (meaning : Option Meaning) → meaning_of name ≡ meaning → InAWord (Command name) (meaning_rule font name meaning)
by_meaning font name None e = no_word_here
by_meaning font name (Some (Shows s)) e = a_word (command_ends name (rw e refl))
by_meaning font name (Some (FunctionName limits own)) e = no_word_here
by_meaning font name (Some Dots) e = a_word (command_ends name (rw e refl))
by_meaning font name (Some CenteredDots) e = a_word (command_ends name (rw e refl))
by_meaning font name (Some VerticalDots) e = a_word (command_ends name (rw e refl))
by_meaning font name (Some (Implication c)) e = a_word (command_ends name (rw e refl))
by_meaning font name (Some (Spacing width)) e = a_word (command_ends name (rw e refl))
by_meaning font name (Some (Styled alphabet)) e = no_word_here
by_meaning font name (Some (TakesWordsIn alphabet)) e = more_words (rw e refl)
by_meaning font name (Some (Fraction bar own)) e = no_word_here
by_meaning font name (Some Root) e = no_word_here
by_meaning font name (Some (Accent side mark width)) e = no_word_here
by_meaning font name (Some (Brace side mark)) e = no_word_here
by_meaning font name (Some (Stack side)) e = no_word_here
by_meaning font name (Some StackedRelation) e = no_word_here
by_meaning font name (Some OperatorName) e = no_word_here
by_meaning font name (Some Negation) e = no_word_here
by_meaning font name (Some Slash) e = no_word_here
by_meaning font name (Some (Sized size class)) e = no_word_here
by_meaning font name (Some Left) e = no_word_here
by_meaning font name (Some Middle) e = no_word_here
by_meaning font name (Some Right) e = no_word_here
by_meaning font name (Some Limits) e = no_word_here
by_meaning font name (Some NoLimits) e = no_word_here
by_meaning font name (Some (Classed class)) e = no_word_here
by_meaning font name (Some (Changes (ToAlphabet alphabet))) e = a_word (command_ends name (rw e refl))
by_meaning font name (Some (Changes (ToStyle style))) e = no_word_here
by_meaning font name (Some (Changes (ToSize size))) e = a_word (command_ends name (rw e refl))
by_meaning font name (Some (Changes (Divides rule))) e = no_word_here
by_meaning font name (Some (Changes ToColor)) e = no_word_here
by_meaning font name (Some BeginTable) e = no_word_here
by_meaning font name (Some EndTable) e = no_word_here
by_meaning font name (Some LineBreak) e = no_word_here
by_meaning font name (Some Substack) e = no_word_here
by_meaning font name (Some Skip) e = an_atom (rw e refl) (skips e)
by_meaning font name (Some SkipInBraces) e = an_atom (rw e refl) (skips_in_braces e)
by_meaning font name (Some (Boxed box)) e = no_word_here
by_meaning font name (Some Smash) e = no_word_here
by_meaning font name (Some ContinuedFraction) e = no_word_here
by_meaning font name (Some GeneralFraction) e = no_word_here
by_meaning font name (Some Choice) e = no_word_here
by_meaning font name (Some Raise) e = no_word_here
by_meaning font name (Some InColor) e = no_word_here
by_meaning font name (Some Highlight) e = no_word_here
by_meaning font name (Some Rectangle) e = an_atom (rw e refl) (is_bar e)
by_meaning font name (Some (Arrow sign_character)) e = no_word_here

-- one or the other
either : {piece : Piece} {r s : WordRule} (b : Bool) → (b ≡ true → InAWord piece r) → (b ≡ false → InAWord piece s) → InAWord piece (if b then r else s)
either true x y = x refl
either false x y = y refl

by_accent : (font : Font) (name : List ℕ) (found : Option ℕ) → entry_of_name text_accents name ≡ found → InAWord (Command name) (accent_rule font name found)
by_accent font name (Some c) e = a_word (command_ends name (text_accent_plain name c e))
by_accent font name None e = by_meaning font name (meaning_of name) refl

by_entry : (font : Font) (name : List ℕ) (found : Option ℕ) → entry_of_name text_commands name ≡ found → InAWord (Command name) (command_rule font name found)
by_entry font name (Some c) e = a_word (command_ends name (text_command_plain name c e))
by_entry font name None e = by_accent font name (entry_of_name text_accents name) refl

in_a_word : (a : Option Alphabet) (piece : Piece) → InAWord piece (word_rule a piece)
in_a_word a Space = a_word space_ends
in_a_word a Open = opens
in_a_word a Close = closes
in_a_word a (Character c) =
    either (c == byte "$") a_formula (λ h.
    either (c == byte "~") (λ e. a_word (character_ends c h)) (λ e.
    either (c == byte "^" || c == byte "&" || c == byte "#") (λ e. no_word_here) (λ e. a_word (character_ends c h))))
in_a_word a (Command name) = by_entry (font_in a) name (entry_of_name text_commands name) refl

word_is : {piece : Piece} {r : WordRule} {w : Word} → InAWord piece r → r ≡ IsWord w → EndsWord piece
word_is (a_word ends) e = ends
word_is (a_formula ends) e = cc
word_is (more_words h) e = cc
word_is (an_atom h k) e = cc
word_is no_word_here e = cc
word_is opens e = cc
word_is closes e = cc

formula_is : {piece : Piece} {r : WordRule} → InAWord piece r → r ≡ BeginsFormula → (before at : Standing) → WordsStand before at → standing_behind piece before ≡ BetweenDollars at
formula_is (a_word ends) e before at w = cc
formula_is (a_formula {c = c} h) e before at w = dollar_begins c h before at w
formula_is (more_words h) e before at w = cc
formula_is (an_atom h k) e before at w = cc
formula_is no_word_here e before at w = cc
formula_is opens e before at w = cc
formula_is closes e before at w = cc

group_begins : (before at : Standing) → WordsStand before at → standing_behind Open before ≡ InWords at
group_begins before at before_words = refl
group_begins before at within_words = refl

group_is : {piece : Piece} {r : WordRule} → InAWord piece r → r ≡ BeginsGroup → (before at : Standing) → WordsStand before at → standing_behind piece before ≡ InWords at
group_is (a_word ends) e before at w = cc
group_is (a_formula h) e before at w = cc
group_is (more_words h) e before at w = cc
group_is (an_atom h k) e before at w = cc
group_is no_word_here e before at w = cc
group_is opens e before at w = group_begins before at w
group_is closes e before at w = cc

more_begin : (name : List ℕ) → takes_words (meaning_of name) ≡ true → (before at : Standing) → WordsStand before at → standing_behind (Command name) before ≡ BeforeWords at
more_begin name h before at before_words = rw h refl
more_begin name h before at within_words = rw h refl

words_are : {piece : Piece} {r : WordRule} {b : Option Alphabet} → InAWord piece r → r ≡ TakesWords b → (before at : Standing) → WordsStand before at → standing_behind piece before ≡ BeforeWords at
words_are (a_word ends) e before at w = cc
words_are (a_formula h) e before at w = cc
words_are (more_words {name = name} h) e before at w = more_begin name h before at w
words_are (an_atom h k) e before at w = cc
words_are no_word_here e before at w = cc
words_are opens e before at w = cc
words_are closes e before at w = cc

-- The same holds of the unit after each piece.

pub word_ends : (a : Option Alphabet) (piece : Piece) (w : Word) → word_rule a piece ≡ IsWord w → EndsWord piece
word_ends a piece w e = word_is (in_a_word a piece) e

pub formula_begins : (a : Option Alphabet) (piece : Piece) → word_rule a piece ≡ BeginsFormula → (before at : Standing) → WordsStand before at → standing_behind piece before ≡ BetweenDollars at
formula_begins a piece e before at w = formula_is (in_a_word a piece) e before at w

pub words_begin : (a : Option Alphabet) (piece : Piece) → word_rule a piece ≡ BeginsGroup → (before at : Standing) → WordsStand before at → standing_behind piece before ≡ InWords at
words_begin a piece e before at w = group_is (in_a_word a piece) e before at w

pub words_follow : (a b : Option Alphabet) (piece : Piece) → word_rule a piece ≡ TakesWords b → (before at : Standing) → WordsStand before at → standing_behind piece before ≡ BeforeWords at
words_follow a b piece e before at w = words_are (in_a_word a piece) e before at w

-- a change of size is a part of words
pub size_is : (r : WordRule) {size : TextSize} → size_after r ≡ Some size → r ≡ IsWord (Resized size)
size_is (IsWord (Shown font text)) e = cc
size_is (IsWord (Formula x)) e = cc
size_is (IsWord (Accented accent)) e = cc
size_is (IsWord (Changed alphabet)) e = cc
size_is (IsWord (Resized size)) e = cc
size_is BeginsGroup e = cc
size_is EndsGroup e = cc
size_is BeginsFormula e = cc
size_is (TakesWords a) e = cc
size_is ShowsAtom e = cc
size_is (NoWord kind) e = cc

pub size_changes : (a : Option Alphabet) (piece : Piece) {size : TextSize} → size_after (word_rule a piece) ≡ Some size → EndsWord piece
size_changes a piece {size} e = word_ends a piece (Resized size) (size_is (word_rule a piece) e)

-- a command that takes a length in words
pub record IsLengthCommand (piece : Piece) : Type 0 where
  pub name : List ℕ
  pub is : piece ≡ Command name
  pub none : TakesNone name
  pub takes : TakesLengths name

atom_is : {piece : Piece} {r : WordRule} → InAWord piece r → r ≡ ShowsAtom → IsLengthCommand piece
atom_is (a_word ends) e = cc
atom_is (a_formula h) e = cc
atom_is (more_words h) e = cc
atom_is (an_atom {name = name} h k) e = record { name = name; is = refl; none = h; takes = k }
atom_is no_word_here e = cc
atom_is opens e = cc
atom_is closes e = cc

pub length_command : (a : Option Alphabet) (piece : Piece) → word_rule a piece ≡ ShowsAtom → IsLengthCommand piece
length_command a piece e = atom_is (in_a_word a piece) e

pub length_ends : (piece : Piece) → IsLengthCommand piece → (before at : Standing) → WordsStand before at → standing_behind piece before ≡ at
length_ends piece h before at w = rw h.is (command_ends h.name h.none before at w (λ e. refl))

pub length_plain : (piece : Piece) → IsLengthCommand piece → IsPlain piece
length_plain piece h = subst IsPlain (sym h.is) (takes_none h.name h.none)
