-- The rule of a unit without a character that XML forbids gives none, and the same holds of marks and in words.
use Rattle.std.proofs.Common.{◌≡◌, ℕ, ℤ, pos, Bool, true, false, ◌==◌, List, [], ◌∷◌, ◌++◌, Option, Some, None, refl, sym, ap, subst, ◌∙◌, append-nil}
use Rattle.std.specs.{Bool.⊤, Char.is_ascii_digit, Str.byte}
use Rattle.latex2mathml_elements.specs.{Attributes.Attributes, Element.Element, Element.token, Element.space, Element.rectangle, Element.container, Element.pair, Element.triple, Element.table}
use Rattle.latex2mathml_elements.specs.Characters.{is_forbidden, IsAllowed, HasAllowedTexts}
use Rattle.latex2mathml_elements.proofs.{Characters.allowed_both, Characters.allowed_char, Characters.allowed_plain, Plain.IsPlain}
use Rattle.latex2mathml_tex_grammar.specs.{Commands.meaning_of, Commands.symbol_of, Delimiters.entry_of_name, Delimiters.negated_of, Delimiters.delimiter_of, TextCommands.text_accents, TextCommands.text_commands, Dots.centered_dots, Dots.column_dots, Dots.low_dots}
use Rattle.latex2mathml_tex_grammar.specs.Makes.{Core, core, Scripts, letter, symbol, spacing, struck, text, in_box, raised_by, black, arrow, Outline, quotient, between_any, outlined_fraction, choice, sized_element}
use Rattle.latex2mathml_tex_grammar.specs.Refusal.{Refusal, OutsideTable, MisplacedCharacter, CharacterInWords, refusal_at}
use Rattle.latex2mathml_tex_grammar.specs.Meaning.{Meaning, Shows, FunctionName, Dots, CenteredDots, VerticalDots, Implication, Spacing, Styled, Words as TakesWordsIn, Fraction, Root, Accent, Brace, Stack, StackedRelation, OperatorName, Negation, Slash, Sized, Left, Middle, Right, Limits, NoLimits, Classed, Changes, ToAlphabet, ToStyle, ToSize, Divides, ToColor, BeginTable, EndTable, LineBreak, Substack, Skip, SkipInBraces, Boxed, Smash, ContinuedFraction, GeneralFraction, Choice, Bar, FractionRule, Box, Phantom, PhantomWidth, PhantomHeight, Smashed, WithoutHeight, WithoutDepth, OverRight, OverLeft, OverBoth, Frame, StrikeUp, StrikeDown, StrikeTwice, Raise, InColor, Highlight, Rectangle, Arrow, Raised, Colored, OnColor}
use Rattle.latex2mathml_tex_grammar.specs.{Colors.color_of, Lengths.width_of}
use Rattle.latex2mathml_tex_grammar.specs.Atoms.{Plain}
use Rattle.latex2mathml_tex_grammar.specs.Rows.{as_base, lone, Operand, row_element}
use Rattle.latex2mathml_tex_grammar.specs.Rules.{Context, Rule, dots_before, gives, refuses, takes_if, a_character, a_digit, decimal, after_digits, a_number, a_symbol, begins_none, character_rule, struck_atom, slashed, a_box, a_fraction, meaning_rule, command_rule, rule, with_value, a_bar, a_left_brace, a_right_brace, empty_braces, an_outer_delimiter, has_width, a_line, numbered_style, a_style, an_outlined_fraction, a_general_fraction, a_choice, own_style}
use Rattle.latex2mathml_tex_grammar.specs.Starts.{OperandStart, NoStart, GroupStart, DigitStart, operand_start, start_of_digit, Mark, Prime, Below, Above as AboveMark, LimitsAt, step_of, step_of_mark}
use Rattle.latex2mathml_tex_grammar.specs.Fences.{sized_delimiter}
use Rattle.latex2mathml_tex_grammar.specs.Symbols.{Class, InDisplay, InText, InScript, Inner, Ordinary, Relation, Alphabet, BoldItalic, Monospace, Sign, Style, Symbol}
use Rattle.latex2mathml_tex_grammar.specs.Units.{Piece, Space, Open, Close, Command, Character}
use Rattle.latex2mathml_tex_grammar.specs.Words.{Font, Word, font_attributes, font_in, is_in, last_font, letter_in, Shown, Formula, Accented, Changed, Resized, WordRule, IsWord, BeginsFormula, NoWord, Words, word_space, word_character, with_text, accented, with_character, end_accent, with_accent_ended, with_word, words_element, word_rule, character_rule as word_of_character, meaning_rule as word_of_meaning, accent_rule as word_of_accent, command_rule as word_of_command, shown_character}
use Rattle.latex2mathml_tex_grammar.proofs.Allowed.{IsAllowedPiece, AreAllowedElements, IsAllowedAccent, IsAllowedElement, IsAllowedCore, IsAllowedOperand, AreAllowedScripts, AreAllowedWords, IsAllowedWord, IsAllowedWordRule, IsAllowedStep, IsAllowedRule, AreGiven}
use Rattle.latex2mathml_tex_grammar.proofs.AllowedMakes.{letter_allowed, upright_letter_allowed, symbol_allowed, number_allowed, lone_allowed, row_element_allowed, single_allowed, struck_allowed, as_base_allowed, classed_allowed, accent_allowed, brace_allowed, stack_allowed, fraction_allowed, in_style_allowed, delimited_allowed, unfenced_allowed, between_allowed, behind_primes_allowed}
use Rattle.latex2mathml_elements.specs.Columns.{Alike, Centered, Dense}
use Rattle.latex2mathml_elements.specs.{Groups.grouped}
use Rattle.latex2mathml_tex_grammar.specs.Environments.{environment_of}
use Rattle.latex2mathml_tex_grammar.proofs.AllowedRows.{a_table_allowed, environment_allowed, environment_passes}
use Rattle.latex2mathml_tex_grammar.proofs.AllowedTables.{IsAllowedText, Passes, allowed_text, in_alphabet_allowed, is_allowed, is_allowed_meaning, is_allowed_symbol, meaning_passes, negated_allowed, delimiter_allowed, not_forbidden, symbol_passes, text_accent_passes, text_command_passes}
use Rattle.latex2mathml_tex_grammar.proofs.AllowedUnits.{a_digit_plain, a_point_plain, digit_plain, plain_both, point_plain}
use Rattle.latex2mathml_tex_grammar.proofs.Choices.{of_chosen, of_either}

-- What tests give

digit_given : (given : List ℕ) → AreGiven (a_digit ∷ []) given → IsPlain given
digit_given given (piece, (first, (rest, (e, (whole, none))))) =
    subst IsPlain (sym (whole ∙ ap (λ k. first ++ k) none ∙ append-nil first)) (a_digit_plain piece first e)

point_given : (given : List ℕ) → AreGiven (a_character (byte ".") ∷ a_digit ∷ []) given → IsPlain given
point_given given (piece, (first, (rest, (e, (whole, more))))) =
    subst IsPlain (sym whole) (plain_both first rest (a_point_plain piece first e) (digit_given rest more))

-- one text of a table
module _ (test : Piece → Option (List ℕ)) (allowed : (piece : Piece) → IsAllowedText (test piece)) where
  pub text_given : (given : List ℕ) → AreGiven (test ∷ []) given → IsAllowed given
  text_given given (piece, (first, (rest, (e, (whole, none))))) =
      subst IsAllowed (sym (whole ∙ ap (λ k. first ++ k) none ∙ append-nil first)) (subst IsAllowedText e (allowed piece))

-- braces give nothing

left_brace_empty : (piece : Piece) (text : List ℕ) → a_left_brace piece ≡ Some text → text ≡ []
left_brace_empty Open text e = cc
left_brace_empty Space text e = cc
left_brace_empty Close text e = cc
left_brace_empty (Command name) text e = cc
left_brace_empty (Character c) text e = cc

right_brace_empty : (piece : Piece) (text : List ℕ) → a_right_brace piece ≡ Some text → text ≡ []
right_brace_empty Close text e = cc
right_brace_empty Space text e = cc
right_brace_empty Open text e = cc
right_brace_empty (Command name) text e = cc
right_brace_empty (Character c) text e = cc

closing_given : (given : List ℕ) → AreGiven (a_right_brace ∷ []) given → given ≡ []
closing_given given (piece, (first, (rest, (e, (whole, none))))) =
    whole ∙ ap (λ t. t ++ rest) (right_brace_empty piece first e) ∙ none

empty_given : (given : List ℕ) → AreGiven empty_braces given → IsAllowed given
empty_given given (piece, (first, (rest, (e, (whole, closed))))) =
    subst IsAllowed (sym (whole ∙ ap (λ t. t ++ rest) (left_brace_empty piece first e) ∙ closing_given rest closed)) (allowed_plain [] refl)

pub delimiter_given : (given : List ℕ) → AreGiven (delimiter_of ∷ []) given → IsAllowed given
delimiter_given = text_given delimiter_of delimiter_allowed

-- Characters

decimal_allowed : (c : Context) (whole : List ℕ) → IsPlain whole → IsAllowedRule (decimal c whole)
decimal_allowed c whole h digits k = number_allowed c.alphabet (whole ++ digits) (plain_both whole digits h k)

after_digits_allowed : (c : Context) (whole : List ℕ) → IsPlain whole → IsAllowedRule (after_digits c whole)
after_digits_allowed c whole h =
    (λ point given. decimal_allowed c (whole ++ point) (plain_both whole point h (point_given point given)), number_allowed c.alphabet whole h)

a_number_allowed : (c : Context) (digit : ℕ) → IsPlain (digit ∷ []) → IsAllowedRule (a_number c digit)
a_number_allowed c digit h digits k = after_digits_allowed c (digit ∷ digits) (plain_both (digit ∷ []) digits h k)

a_symbol_allowed : (c : Context) (character : ℕ) (s : Option Symbol) → is_forbidden character ≡ false → Passes is_allowed_symbol s → IsAllowedRule (a_symbol c character s)
a_symbol_allowed c character None h k = upright_letter_allowed c.alphabet character h
a_symbol_allowed c character (Some s) h k = symbol_allowed c.style c.alphabet s k

-- the rule of a point
abbrev point_rule : Context → ℕ → Rule
point_rule c character = takes_if (a_digit ∷ []) (λ digit. decimal c (character ∷ digit)) (a_symbol c character (symbol_of character))

-- what holds of each rule that a character may have holds of its rule
of_character_rule : (P : Rule → Type 0) (c : Context) (character place : ℕ) → (is_ascii_digit character ≡ true → P (a_number c character)) → P (gives (core (letter c.alphabet character))) → ((character == byte ".") ≡ true → P (point_rule c character)) → P (gives (core (spacing (pos 6)))) → ((r : Refusal) → P (refuses r)) → P (a_symbol c character (symbol_of character)) → P (character_rule c character place)
of_character_rule P c character place digit a_letter point blank refused other =
    let misplaced = of_either P (begins_none character) (refused (refusal_at (MisplacedCharacter character) place)) other in
    let no_table = of_either P (character == byte "&") (refused (refusal_at OutsideTable place)) misplaced in
    of_chosen P _ digit (λ no. of_either P _ a_letter (of_chosen P _ point (λ no. of_either P _ blank no_table)))

point_allowed : (c : Context) (character : ℕ) → is_forbidden character ≡ false → (character == byte ".") ≡ true → IsAllowedRule (point_rule c character)
point_allowed c character h is =
    (λ digit given. decimal_allowed c (character ∷ digit) (plain_both (character ∷ []) digit (point_plain character is) (digit_given digit given)), a_symbol_allowed c character _ h (symbol_passes character))

character_allowed : (c : Context) (character place : ℕ) → is_forbidden character ≡ false → IsAllowedRule (character_rule c character place)
character_allowed c character place h =
    of_character_rule IsAllowedRule c character place
    (λ is. a_number_allowed c character (digit_plain character is))
    (letter_allowed c.alphabet character h)
    (point_allowed c character h)
    tt
    (λ r. tt)
    (a_symbol_allowed c character _ h (symbol_passes character))

-- Commands

struck_atom_allowed : (place : ℕ) (x : Core) (found : Option Element) → IsAllowedElement found → IsAllowedRule (struck_atom place x found)
struck_atom_allowed place x None h = tt
struck_atom_allowed place x (Some element) h = h

slashed_allowed : (x : Operand) (found : Option Element) → IsAllowedOperand x → IsAllowedElement found → IsAllowedCore (slashed x found)
slashed_allowed x None h k = h
slashed_allowed x (Some element) h k = k

with_text_allowed : (joins : Bool) (a : Attributes) (more : List ℕ) (xs : List Element) → IsAllowed more → AreAllowedElements xs → AreAllowedElements (with_text joins a more xs)
with_text_allowed true a more [] h k = (h, k)
with_text_allowed true a more (token t b before ∷ xs) h k = (allowed_both before more k.0 h, k.1)
with_text_allowed true a more (space width ∷ xs) h k = (h, k)
with_text_allowed true a more (rectangle e ∷ xs) h k = (h, k)
with_text_allowed true a more (container c b ys ∷ xs) h k = (h, k)
with_text_allowed true a more (pair p b y z ∷ xs) h k = (h, k)
with_text_allowed true a more (triple t b x y z ∷ xs) h k = (h, k)
with_text_allowed true a more (table b rows ∷ xs) h k = (h, k)
with_text_allowed false a more xs h k = (h, k)

accented_allowed : (accent : Option ℕ) (character : List ℕ) → IsAllowedAccent accent → IsAllowed character → IsAllowed (accented accent character)
accented_allowed None character h k = k
accented_allowed (Some accent) character h k = allowed_both character (text accent) k h

with_character_allowed : (font : Font) (ws : Words) (character : List ℕ) → AreAllowedWords ws → IsAllowed character → AreAllowedWords (with_character font ws character)
with_character_allowed font ws character h k =
    (with_text_allowed (is_in font ws.last) (font_attributes font) (accented ws.accent character) ws.elements (accented_allowed ws.accent character h.1 k) h.0, tt)

end_accent_allowed : (accent : Option ℕ) (ws : Words) → AreAllowedWords ws → AreAllowedWords (end_accent accent ws)
end_accent_allowed None ws h = h
end_accent_allowed (Some accent) ws h = with_character_allowed (last_font ws.last) ws (text 0xA0) h (allowed_char 0xA0 refl)

pub accent_ended_allowed : (ws : Words) → AreAllowedWords ws → AreAllowedWords (with_accent_ended ws)
accent_ended_allowed ws h = end_accent_allowed ws.accent ws h

pub words_element_allowed : (xs : List Element) → AreAllowedElements xs → HasAllowedTexts (words_element xs)
words_element_allowed [] h = allowed_plain [] refl
words_element_allowed (x ∷ xs) h = row_element_allowed (x ∷ xs) h

pub with_value_allowed : {A : Type 0} (r : Refusal) (more : A → Rule) → ((x : A) → IsAllowedRule (more x)) → (x : Option A) → IsAllowedRule (with_value r more x)
with_value_allowed r more h None = tt
with_value_allowed r more h (Some x) = h x

raised_allowed : (raise : Option ℤ) (x : Element) → HasAllowedTexts x → HasAllowedTexts (raised_by raise x)
raised_allowed None x h = h
raised_allowed (Some height) x h = (h, tt)

bar_allowed : (place : ℕ) (raise : Option ℤ) → IsAllowedRule (a_bar place raise)
bar_allowed place raise text =
    with_value_allowed _ _ (λ width other. with_value_allowed _ _ (λ height. raised_allowed raise (black width height) tt) (width_of other)) (width_of text)

arrow_allowed : (sign_character : ℕ) (below : Option Element) (above : Element) → is_forbidden sign_character ≡ false → IsAllowedElement below → HasAllowedTexts above → IsAllowedCore (arrow sign_character below above)
arrow_allowed sign_character None above h k i = (allowed_char sign_character h, (i, tt))
arrow_allowed sign_character (Some below) above h k i = (allowed_char sign_character h, (k, tt), (i, tt))

pub in_box_allowed : (box : Box) (x : Element) → HasAllowedTexts x → HasAllowedTexts (in_box box x)
in_box_allowed Phantom x h = (h, tt)
in_box_allowed PhantomWidth x h = ((h, tt), tt)
in_box_allowed PhantomHeight x h = ((h, tt), tt)
in_box_allowed Smashed x h = (h, tt)
in_box_allowed WithoutHeight x h = (h, tt)
in_box_allowed WithoutDepth x h = (h, tt)
in_box_allowed OverRight x h = (h, tt)
in_box_allowed OverLeft x h = ((h, tt), tt)
in_box_allowed OverBoth x h = ((h, tt), tt)
in_box_allowed Frame x h = (h, tt)
in_box_allowed StrikeUp x h = (h, tt)
in_box_allowed StrikeDown x h = (h, tt)
in_box_allowed StrikeTwice x h = (h, tt)
in_box_allowed (Raised height) x h = (h, tt)
in_box_allowed (Colored color) x h = (h, tt)
in_box_allowed (OnColor color) x h = (h, tt)

a_box_allowed : (place : ℕ) (c : Context) (box : Box) → IsAllowedRule (a_box place c box)
a_box_allowed place c box = λ x k. in_box_allowed box _ (as_base_allowed c.style Ordinary x k)

a_fraction_allowed : (place : ℕ) (c : Context) (rule : FractionRule) (own : Option Style) → IsAllowedRule (a_fraction place c rule own)
a_fraction_allowed place c rule own = λ above k below i. fraction_allowed rule own (own_style own c.style) above.element below.element k i

grouped_allowed : (x : Element) → HasAllowedTexts x → HasAllowedTexts (grouped x)
grouped_allowed (token t a text) h = (h, tt)
grouped_allowed (space width) h = h
grouped_allowed (rectangle e) h = h
grouped_allowed (container t a xs) h = h
grouped_allowed (pair p a x y) h = h
grouped_allowed (triple t a x y z) h = h
grouped_allowed (table a rows) h = h

sized_element_allowed : (class : Class) (x : Element) → HasAllowedTexts x → HasAllowedTexts (sized_element class x)
sized_element_allowed Relation x h = h
sized_element_allowed class x h = grouped_allowed x h

choice_allowed : (style : Style) (display text script : Operand) → IsAllowedOperand display → IsAllowedOperand text → IsAllowedOperand script → IsAllowedCore (choice style display text script)
choice_allowed InDisplay display text script h k i = grouped_allowed display.element h
choice_allowed InText display text script h k i = grouped_allowed text.element k
choice_allowed InScript display text script h k i = grouped_allowed script.element i

choice_rule_allowed : (place : ℕ) (c : Context) → IsAllowedRule (a_choice place c)
choice_rule_allowed place c = λ display h text k script i smallest j. choice_allowed c.style display text script h k i

-- an outline whose delimiters are allowed
abbrev IsAllowedOutline : Outline → Type 0
IsAllowedOutline o = IsAllowed o.opening × IsAllowed o.closing

quotient_allowed : (has_line : Bool) (above below : Element) → HasAllowedTexts above → HasAllowedTexts below → HasAllowedTexts (quotient has_line above below)
quotient_allowed true above below h k = (h, k)
quotient_allowed false above below h k = (h, k)

between_any_allowed : (style : Style) (opening closing : List ℕ) (x : Element) → IsAllowed opening → IsAllowed closing → HasAllowedTexts x → HasAllowedTexts (between_any style opening closing x)
between_any_allowed style [] [] x h k i = unfenced_allowed x i
between_any_allowed style [] (c ∷ cs) x h k i = delimited_allowed style [] (c ∷ cs) x h k i
between_any_allowed style (c ∷ cs) closing x h k i = delimited_allowed style (c ∷ cs) closing x h k i

outlined_allowed : (o : Outline) (style : Style) (above below : Element) → IsAllowedOutline o → HasAllowedTexts above → HasAllowedTexts below → IsAllowedCore (outlined_fraction o style above below)
outlined_allowed o style above below (h, k) i j =
    in_style_allowed o.own _ (between_any_allowed style o.opening o.closing _ h k (quotient_allowed o.has_line above below i j))

-- what is between braces
braced_given : (given : List ℕ) → AreGiven (a_left_brace ∷ delimiter_of ∷ a_right_brace ∷ []) given → IsAllowed given
braced_given given (piece, (first, (rest, (e, (whole, (inner, (text, (last, (f, (behind, closed)))))))))) =
    let none = left_brace_empty piece first e in
    let end = closing_given last closed in
    subst IsAllowed (sym (whole ∙ ap (λ t. t ++ rest) none ∙ behind ∙ ap (λ t. text ++ t) end ∙ append-nil text)) (subst IsAllowedText f (delimiter_allowed inner))

outer_delimiter_allowed : (place : ℕ) (more : List ℕ → Rule) → ((text : List ℕ) → IsAllowed text → IsAllowedRule (more text)) → IsAllowedRule (an_outer_delimiter place more)
outer_delimiter_allowed place more h =
    (λ text given. h text (delimiter_given text given), (λ text given. h text (braced_given text given), (λ text given. h text (empty_given text given), tt)))

line_allowed : (place : ℕ) (more : Bool → Rule) → ((has_line : Bool) → IsAllowedRule (more has_line)) → IsAllowedRule (a_line place more)
line_allowed place more h = (λ usual given. h true, λ text. with_value_allowed _ _ (λ width. h (has_width width)) (width_of text))

style_allowed : (place : ℕ) (more : Option Style → Rule) → ((own : Option Style) → IsAllowedRule (more own)) → IsAllowedRule (a_style place more)
style_allowed place more h = λ number. with_value_allowed _ _ h (numbered_style number)

outlined_rule_allowed : (place : ℕ) (c : Context) (o : Outline) → IsAllowedOutline o → IsAllowedRule (an_outlined_fraction place c o)
outlined_rule_allowed place c o h = λ above i below j. outlined_allowed o (own_style o.own c.style) above.element below.element h i j

module _ (place : ℕ) (c : Context) where
  -- what follows a line, and what follows delimiters
  abbrev behind_line : List ℕ → List ℕ → Bool → Option Style → Rule
  behind_line opening closing has_line own =
      an_outlined_fraction place c (record { opening = opening; closing = closing; has_line = has_line; own = own })

  abbrev behind_delimiters : List ℕ → List ℕ → Bool → Rule
  behind_delimiters opening closing has_line = a_style place (behind_line opening closing has_line)

  abbrev behind_opening : List ℕ → List ℕ → Rule
  behind_opening opening closing = a_line place (behind_delimiters opening closing)

  outline_allowed : (opening closing : List ℕ) → IsAllowed opening → IsAllowed closing → (has_line : Bool) → IsAllowedRule (behind_delimiters opening closing has_line)
  outline_allowed opening closing h k has_line =
      style_allowed place (behind_line opening closing has_line)
      (λ own. outlined_rule_allowed place c (record { opening = opening; closing = closing; has_line = has_line; own = own }) (h, k))

  general_fraction_allowed : IsAllowedRule (a_general_fraction place c)
  general_fraction_allowed =
      outer_delimiter_allowed place (λ opening. an_outer_delimiter place (behind_opening opening))
      (λ opening h. outer_delimiter_allowed place (behind_opening opening)
      (λ closing k. line_allowed place (behind_delimiters opening closing) (outline_allowed opening closing h k)))

dots_before_allowed : (c : Context) (dots : ℕ) → is_allowed dots ≡ true → IsAllowedRule (dots_before c dots)
dots_before_allowed c dots h = (allowed_char dots (not_forbidden dots h), symbol_allowed c.style c.alphabet (Sign Inner dots) h)

meaning_rule_allowed : (place : ℕ) (c : Context) (meaning : Meaning) → is_allowed_meaning meaning ≡ true → IsAllowedRule (meaning_rule place c meaning)
meaning_rule_allowed place c (Shows s) h = symbol_allowed c.style c.alphabet s h
meaning_rule_allowed place c (FunctionName limits name) h = allowed_text name h
meaning_rule_allowed place c Dots h = (symbol_allowed c.style c.alphabet centered_dots refl, dots_before_allowed c 0x2026 refl)
meaning_rule_allowed place c CenteredDots h = dots_before_allowed c 0x22EF refl
meaning_rule_allowed place c VerticalDots h = (allowed_char 0x22EE refl, (tt, tt))
meaning_rule_allowed place c (Implication sign_character) h = (tt, (allowed_char sign_character (not_forbidden sign_character h), (tt, tt)))
meaning_rule_allowed place c (Spacing width) h = tt
meaning_rule_allowed place c Skip h = λ text. with_value_allowed _ _ (λ width. tt) (width_of text)
meaning_rule_allowed place c SkipInBraces h = λ text. with_value_allowed _ _ (λ width. tt) (width_of text)
meaning_rule_allowed place c Raise h = λ text. with_value_allowed _ _ (λ height. a_box_allowed place c (Raised height)) (width_of text)
meaning_rule_allowed place c InColor h = λ name. with_value_allowed _ _ (λ color. a_box_allowed place c (Colored color)) (color_of name)
meaning_rule_allowed place c Highlight h = λ name. with_value_allowed _ _ (λ color. a_box_allowed place c (OnColor color)) (color_of name)
meaning_rule_allowed place c Rectangle h =
    (λ bracket given text. with_value_allowed _ _ (λ height. bar_allowed place (Some height)) (width_of text), bar_allowed place None)
meaning_rule_allowed place c (Arrow sign_character) h = (
  λ bracket given below k above i. arrow_allowed sign_character (Some (row_element below.elements)) above.element (not_forbidden sign_character h) (row_element_allowed below.elements k) i,
  λ above i. arrow_allowed sign_character None above.element (not_forbidden sign_character h) tt i,
)
meaning_rule_allowed place c (Boxed box) h = a_box_allowed place c box
meaning_rule_allowed place c Smash h =
    (λ top given. a_box_allowed place c WithoutHeight, (λ bottom given. a_box_allowed place c WithoutDepth, a_box_allowed place c Smashed))
meaning_rule_allowed place c (Styled alphabet) h = λ x k. k
meaning_rule_allowed place c (TakesWordsIn alphabet) h = λ ws k. words_element_allowed (with_accent_ended ws).elements (accent_ended_allowed ws k).0
meaning_rule_allowed place c (Fraction rule own) h = a_fraction_allowed place c rule own
meaning_rule_allowed place c ContinuedFraction h =
    (λ left given. a_fraction_allowed place c Bar (Some InDisplay), (λ right given. a_fraction_allowed place c Bar (Some InDisplay), a_fraction_allowed place c Bar (Some InDisplay)))
meaning_rule_allowed place c GeneralFraction h = general_fraction_allowed place c
meaning_rule_allowed place c Choice h = choice_rule_allowed place c
meaning_rule_allowed place c Root h =
    (λ bracket given degree k x i. (i, row_element_allowed degree.elements k), λ x k. (k, tt))
meaning_rule_allowed place c (Accent side mark width) h = λ x k. accent_allowed side mark width x (not_forbidden mark h) k
meaning_rule_allowed place c (Brace side mark) h = λ x k. brace_allowed side mark x.element (not_forbidden mark h) k
meaning_rule_allowed place c (Stack side) h = λ mark k base i. stack_allowed side (Plain base.class) mark.element _ k (as_base_allowed c.style base.class base i)
meaning_rule_allowed place c StackedRelation h = λ mark k base i. (as_base_allowed c.style Relation base i, k)
meaning_rule_allowed place c OperatorName h = (λ star given x k. k, λ x k. k)
meaning_rule_allowed place c Negation h =
    (λ sign_text given. text_given negated_of negated_allowed sign_text given, λ x k. struck_atom_allowed place x (struck x.atom.element) (struck_allowed x.atom.element k))
meaning_rule_allowed place c Slash h = λ x k. slashed_allowed x (struck x.element) k (struck_allowed x.element k)
meaning_rule_allowed place c (Sized size class) h =
    let allowed = λ (sign_text : List ℕ) (k : IsAllowed sign_text). sized_element_allowed class (sized_delimiter c.style size class sign_text) k in
    (λ sign_text given. allowed sign_text (braced_given sign_text given), allowed)
meaning_rule_allowed place c Left h = λ opening k row i closing j. between_allowed opening closing row k j i
meaning_rule_allowed place c Middle h = tt
meaning_rule_allowed place c Right h = tt
meaning_rule_allowed place c Limits h = tt
meaning_rule_allowed place c NoLimits h = tt
meaning_rule_allowed place c (Classed class) h = λ x k. classed_allowed class (as_base c.style class x) (as_base_allowed c.style class x k)
meaning_rule_allowed place c (Changes change) h = tt
meaning_rule_allowed place c BeginTable h = λ name. environment_allowed place c name (environment_of name) (environment_passes name)
meaning_rule_allowed place c EndTable h = tt
meaning_rule_allowed place c LineBreak h = tt
meaning_rule_allowed place c Substack h = λ brace lines at k. a_table_allowed None (Alike Dense Centered) InScript c.style lines tt k

command_allowed : (place : ℕ) (c : Context) (name : List ℕ) (meaning : Option Meaning) → Passes is_allowed_meaning meaning → IsAllowedRule (command_rule place c name meaning)
command_allowed place c name None h = tt
command_allowed place c name (Some meaning) h = meaning_rule_allowed place c meaning h

-- the rule of a unit
pub rule_allowed : (place : ℕ) (c : Context) (piece : Piece) → IsAllowedPiece piece → IsAllowedRule (rule place c piece)
rule_allowed place c Open h = λ row k. row_element_allowed (lone row.last row.elements) (lone_allowed row.last row.elements k)
rule_allowed place c Close h = tt
rule_allowed place c Space h = tt
rule_allowed place c (Character character) h = character_allowed c character place h
rule_allowed place c (Command name) h = command_allowed place c name (meaning_of name) (meaning_passes name)

-- The digit with which an operand begins

abbrev pub IsPlainStart : OperandStart → Type 0
IsPlainStart (DigitStart digit) = IsPlain digit
IsPlainStart start = ⊤

of_start : (P : OperandStart → Type 0) (piece : Piece) → P NoStart → P GroupStart → P (start_of_digit (a_digit piece)) → P (operand_start piece)
of_start P piece no_start group digit = of_either P _ no_start (of_either P _ group digit)

digit_start_plain : (digit : Option (List ℕ)) → ((given : List ℕ) → digit ≡ Some given → IsPlain given) → IsPlainStart (start_of_digit digit)
digit_start_plain None h = tt
digit_start_plain (Some digit) h = h digit refl

pub start_plain : (piece : Piece) → IsPlainStart (operand_start piece)
start_plain piece = of_start IsPlainStart piece tt tt (digit_start_plain (a_digit piece) (a_digit_plain piece))

-- Marks

step_of_allowed : (scripts : Scripts) (below above : Option Element) (mark : Mark) → AreAllowedScripts scripts → IsAllowedStep (Some (step_of scripts below above mark))
step_of_allowed scripts below None Prime h = h
step_of_allowed scripts below (Some x) Prime h = tt
step_of_allowed scripts None above Below h = λ x k. (k, h.1)
step_of_allowed scripts (Some x) above Below h = tt
step_of_allowed scripts below None AboveMark h = λ x k. (h.0, behind_primes_allowed scripts.primes x.element k)
step_of_allowed scripts below (Some x) AboveMark h = tt
step_of_allowed scripts below above (LimitsAt place) h = of_either (λ step. IsAllowedStep (Some step)) scripts.takes_limits h tt

pub step_allowed : (scripts : Scripts) (mark : Option Mark) → AreAllowedScripts scripts → IsAllowedStep (step_of_mark scripts mark)
step_allowed scripts None h = tt
step_allowed scripts (Some mark) h = step_of_allowed scripts scripts.below scripts.above mark h

-- Words

word_space_allowed : IsAllowed (text 0xA0)
word_space_allowed = allowed_char 0xA0 refl

letter_in_allowed : (alphabet : Option Alphabet) (c : ℕ) → is_forbidden c ≡ false → is_forbidden (letter_in alphabet c) ≡ false
letter_in_allowed None c h = h
letter_in_allowed (Some Monospace) c h = h
letter_in_allowed (Some BoldItalic) c h = h
letter_in_allowed (Some alphabet) c h = in_alphabet_allowed alphabet c h

word_character_allowed : (alphabet : Option Alphabet) (c : ℕ) → is_forbidden c ≡ false → is_forbidden (word_character alphabet c) ≡ false
word_character_allowed alphabet c h =
    of_either (λ k. is_forbidden k ≡ false) (c == byte "`") {x = 0x2018} refl (of_either (λ k. is_forbidden k ≡ false) (c == byte "'") {x = 0x2019} {y = letter_in alphabet c} refl (letter_in_allowed alphabet c h))

pub shown_character_allowed : (alphabet : Option Alphabet) (c : ℕ) → is_forbidden c ≡ false → IsAllowedWord (shown_character alphabet c)
shown_character_allowed alphabet c h = allowed_char (word_character alphabet c) (word_character_allowed alphabet c h)

pub of_word_character : (P : WordRule → Type 0) (alphabet : Option Alphabet) (c : ℕ) → P BeginsFormula → P (IsWord (word_space (font_in alphabet))) → P (NoWord (CharacterInWords c)) → P (IsWord (Shown (font_in alphabet) (text (word_character alphabet c)))) → P (word_of_character alphabet c)
of_word_character P alphabet c formula a_space no_word other = of_either P _ formula (of_either P _ a_space (of_either P _ no_word other))

word_of_character_allowed : (alphabet : Option Alphabet) (c : ℕ) → is_forbidden c ≡ false → IsAllowedWordRule (word_of_character alphabet c)
word_of_character_allowed alphabet c h =
    of_word_character IsAllowedWordRule alphabet c tt word_space_allowed tt (shown_character_allowed alphabet c h)

word_of_meaning_allowed : (font : Font) (name : List ℕ) (meaning : Option Meaning) → Passes is_allowed_meaning meaning → IsAllowedWordRule (word_of_meaning font name meaning)
word_of_meaning_allowed font name None h = tt
word_of_meaning_allowed font name (Some (Shows s)) h = single_allowed InText (symbol InText None s).atom (symbol_allowed InText None s h)
word_of_meaning_allowed font name (Some (FunctionName limits own)) h = tt
word_of_meaning_allowed font name (Some Dots) h = single_allowed InText (symbol InText None low_dots).atom (symbol_allowed InText None low_dots refl)
word_of_meaning_allowed font name (Some CenteredDots) h = single_allowed InText (symbol InText None centered_dots).atom (symbol_allowed InText None centered_dots refl)
word_of_meaning_allowed font name (Some VerticalDots) h = single_allowed InText (symbol InText None column_dots).atom (symbol_allowed InText None column_dots refl)
word_of_meaning_allowed font name (Some (Implication c)) h = single_allowed InText (symbol InText None (Sign Relation c)).atom (symbol_allowed InText None (Sign Relation c) h)
word_of_meaning_allowed font name (Some (Spacing width)) h = word_space_allowed
word_of_meaning_allowed font name (Some (Styled alphabet)) h = tt
word_of_meaning_allowed font name (Some (TakesWordsIn alphabet)) h = tt
word_of_meaning_allowed font name (Some (Fraction rule own)) h = tt
word_of_meaning_allowed font name (Some Root) h = tt
word_of_meaning_allowed font name (Some (Accent side mark width)) h = tt
word_of_meaning_allowed font name (Some (Brace side mark)) h = tt
word_of_meaning_allowed font name (Some (Stack side)) h = tt
word_of_meaning_allowed font name (Some StackedRelation) h = tt
word_of_meaning_allowed font name (Some OperatorName) h = tt
word_of_meaning_allowed font name (Some Negation) h = tt
word_of_meaning_allowed font name (Some Slash) h = tt
word_of_meaning_allowed font name (Some (Sized size class)) h = tt
word_of_meaning_allowed font name (Some Left) h = tt
word_of_meaning_allowed font name (Some Middle) h = tt
word_of_meaning_allowed font name (Some Right) h = tt
word_of_meaning_allowed font name (Some Limits) h = tt
word_of_meaning_allowed font name (Some NoLimits) h = tt
word_of_meaning_allowed font name (Some (Classed class)) h = tt
word_of_meaning_allowed font name (Some (Changes (ToAlphabet alphabet))) h = tt
word_of_meaning_allowed font name (Some (Changes (ToStyle style))) h = tt
word_of_meaning_allowed font name (Some (Changes (ToSize size))) h = tt
word_of_meaning_allowed font name (Some (Changes (Divides rule))) h = tt
word_of_meaning_allowed font name (Some (Changes ToColor)) h = tt
word_of_meaning_allowed font name (Some BeginTable) h = tt
word_of_meaning_allowed font name (Some EndTable) h = tt
word_of_meaning_allowed font name (Some LineBreak) h = tt
word_of_meaning_allowed font name (Some Substack) h = tt
word_of_meaning_allowed font name (Some Skip) h = tt
word_of_meaning_allowed font name (Some SkipInBraces) h = tt
word_of_meaning_allowed font name (Some (Boxed box)) h = tt
word_of_meaning_allowed font name (Some Smash) h = tt
word_of_meaning_allowed font name (Some ContinuedFraction) h = tt
word_of_meaning_allowed font name (Some GeneralFraction) h = tt
word_of_meaning_allowed font name (Some Choice) h = tt
word_of_meaning_allowed font name (Some Raise) h = tt
word_of_meaning_allowed font name (Some InColor) h = tt
word_of_meaning_allowed font name (Some Highlight) h = tt
word_of_meaning_allowed font name (Some Rectangle) h = tt
word_of_meaning_allowed font name (Some (Arrow sign_character)) h = tt

word_of_accent_allowed : (font : Font) (name : List ℕ) (found : Option ℕ) → Passes is_allowed found → IsAllowedWordRule (word_of_accent font name found)
word_of_accent_allowed font name (Some c) h = allowed_char c (not_forbidden c h)
word_of_accent_allowed font name None h = word_of_meaning_allowed font name (meaning_of name) (meaning_passes name)

word_of_command_allowed : (font : Font) (name : List ℕ) (found : Option ℕ) → Passes is_allowed found → IsAllowedWordRule (word_of_command font name found)
word_of_command_allowed font name (Some c) h = allowed_char c (not_forbidden c h)
word_of_command_allowed font name None h = word_of_accent_allowed font name (entry_of_name text_accents name) (text_accent_passes name)

pub word_rule_allowed : (alphabet : Option Alphabet) (piece : Piece) → IsAllowedPiece piece → IsAllowedWordRule (word_rule alphabet piece)
word_rule_allowed alphabet Space h = word_space_allowed
word_rule_allowed alphabet Open h = tt
word_rule_allowed alphabet Close h = tt
word_rule_allowed alphabet (Character c) h = word_of_character_allowed alphabet c h
word_rule_allowed alphabet (Command name) h = word_of_command_allowed (font_in alphabet) name (entry_of_name text_commands name) (text_command_passes name)

pub with_word_allowed : (ws : Words) (w : Word) → AreAllowedWords ws → IsAllowedWord w → AreAllowedWords (with_word ws w)
with_word_allowed ws (Shown font character) h k = with_character_allowed font ws character h k
with_word_allowed ws (Formula x) h k = ((k, (accent_ended_allowed ws h).0), tt)
with_word_allowed ws (Accented accent) h k = ((accent_ended_allowed ws h).0, k)
with_word_allowed ws (Changed alphabet) h k = h
with_word_allowed ws (Resized size) h k = h
