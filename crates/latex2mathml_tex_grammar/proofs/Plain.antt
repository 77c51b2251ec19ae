-- The pieces that do not change where units of a formula are: all but dollar signs and what takes words.
use Rattle.std.proofs.Common.{◌≡◌, ◌==◌, ℕ, Bool, true, false, ◌&&◌, inl, inr, List, [], ◌∷◌, Option, Some, None, codes, not, refl, sym, ap, subst, if◌then◌else◌}
use Rattle.std.proofs.{lemmas.Bool.cases_Bool, lemmas.Slice.Eq.bytes_eq-Decides}
use Rattle.std.specs.{Str.byte, Str.bytes_eq}
use Rattle.latex2mathml_tex_grammar.specs.{Commands.command_entries, Commands.meaning_of, CommandsFromM.commands_from_m, CommandsUpToL.commands_up_to_l}
use Rattle.latex2mathml_tex_grammar.specs.Delimiters.{delimiter_characters, delimiter_commands, delimiter_of, negated_characters, negated_commands, negated_of, entry_of_name, text_of}
use Rattle.latex2mathml_tex_grammar.specs.{Rules.a_character, Rules.a_digit, TextCommands.text_accents, TextCommands.text_commands}
use Rattle.latex2mathml_tex_grammar.specs.Meaning.{takes_words}
use Rattle.latex2mathml_tex_grammar.specs.Meaning.{Change, Changes, Meaning}
use Rattle.latex2mathml_tex_grammar.specs.Starts.{change_meant, change_by, ChangeStart, Mark, Prime, Below, Above, LimitsAt, Step, atom_start, DividerStart, start_of_mark, OperandStart, DigitStart, GroupStart, NoStart, operand_start, is_no_operand, is_open, start_of_digit, mark_of, step_of_mark, is_command}
use Rattle.latex2mathml_tex_grammar.specs.{Makes.Scripts, Rules.Ending, Rules.WholeText, Rules.InBraces, Rules.InBrackets, Rules.InDollars, Rules.InDelimiters, Rules.InCell, Rules.InLabel}
use Rattle.latex2mathml_tex_grammar.specs.Units.{Piece, Space, Open, Close, Command, Character}
use Rattle.latex2mathml_tex_grammar.specs.Diagrams.{sign_of_arrow}
use Rattle.latex2mathml_tex_grammar.proofs.Spaces.{in_formula, in_dollars, no_dollar, IsPlain, ArePlain, character_plain, digit_plain}

pub open_plain : IsPlain Open
open_plain at in_formula = refl
open_plain at in_dollars = refl

pub close_plain : IsPlain Close
close_plain at in_formula = refl
close_plain at in_dollars = refl

-- the command takes no words
abbrev pub TakesNone : List ℕ → Type 0
TakesNone name = takes_words (meaning_of name) ≡ false

pub takes_none : (name : List ℕ) → TakesNone name → IsPlain (Command name)
takes_none name h at in_formula = rw h refl
takes_none name h at in_dollars = rw h refl

-- the commands with these names take no words

pub right_plain : TakesNone (codes "right")
unfolding meaning_of command_entries commands_up_to_l commands_from_m
right_plain = refl

pub middle_plain : TakesNone (codes "middle")
unfolding meaning_of command_entries commands_up_to_l commands_from_m
middle_plain = refl

pub end_plain : TakesNone (codes "end")
unfolding meaning_of command_entries commands_up_to_l commands_from_m
end_plain = refl

pub break_plain : TakesNone (codes "\\")
unfolding meaning_of command_entries commands_up_to_l commands_from_m
break_plain = refl

pub cr_plain : TakesNone (codes "cr")
unfolding meaning_of command_entries commands_up_to_l commands_from_m
cr_plain = refl

pub newline_plain : TakesNone (codes "newline")
unfolding meaning_of command_entries commands_up_to_l commands_from_m
newline_plain = refl

limits_plain : TakesNone (codes "limits")
unfolding meaning_of command_entries commands_up_to_l commands_from_m
limits_plain = refl

nolimits_plain : TakesNone (codes "nolimits")
unfolding meaning_of command_entries commands_up_to_l commands_from_m
nolimits_plain = refl

displaylimits_plain : TakesNone (codes "displaylimits")
unfolding meaning_of command_entries commands_up_to_l commands_from_m
displaylimits_plain = refl

-- neither do those of the tables

abbrev take_none : List (List ℕ × ℕ) → Bool
take_none [] = true
take_none (entry ∷ entries) = not (takes_words (meaning_of entry.0)) && take_none entries

delimiters_plain : take_none delimiter_commands ≡ true
unfolding meaning_of command_entries commands_up_to_l commands_from_m delimiter_commands
delimiters_plain = refl

negated_plain : take_none negated_commands ≡ true
unfolding meaning_of command_entries commands_up_to_l commands_from_m negated_commands
negated_plain = refl

-- names that compare as equal are the same
pub named : (key name : List ℕ) → TakesNone key → bytes_eq key name ≡ true → TakesNone name
named key name h e = subst TakesNone ((bytes_eq-Decides key name).0 e) h

pub is_named : (key name : List ℕ) → TakesNone key → bytes_eq name key ≡ true → TakesNone name
is_named key name h e = subst TakesNone (sym ((bytes_eq-Decides name key).0 e)) h

texts_plain : take_none text_commands ≡ true
unfolding meaning_of command_entries commands_up_to_l commands_from_m text_commands
texts_plain = refl

accents_plain : take_none text_accents ≡ true
unfolding meaning_of command_entries commands_up_to_l commands_from_m text_accents
accents_plain = refl

both_hold : (a b : Bool) → not a && b ≡ true → (a ≡ false) × (b ≡ true)
both_hold true b e = cc
both_hold false b e = (refl, e)

in_table : (name found : List ℕ) (entries : List (List ℕ × ℕ)) → take_none entries ≡ true → text_of (entry_of_name entries name) ≡ Some found → TakesNone name
in_table name found [] h e = cc
in_table name found (entry ∷ entries) h e =
    let both = both_hold (takes_words (meaning_of entry.0)) (take_none entries) h in
    elim (cases_Bool (bytes_eq entry.0 name)) [
      | inl s ↦ named entry.0 name both.0 s
      | inr s ↦ in_table name found entries both.1 (rw s at e)
    ]

pub text_command_plain : (name : List ℕ) (c : ℕ) → entry_of_name text_commands name ≡ Some c → TakesNone name
text_command_plain name c e = in_table name _ text_commands texts_plain (ap text_of e)

pub text_accent_plain : (name : List ℕ) (c : ℕ) → entry_of_name text_accents name ≡ Some c → TakesNone name
text_accent_plain name c e = in_table name _ text_accents accents_plain (ap text_of e)

-- a dollar sign is not in the tables
no_delimiter : delimiter_of (Character (byte "$")) ≡ None
unfolding delimiter_characters
no_delimiter = refl

not_negated : negated_of (Character (byte "$")) ≡ None
unfolding negated_characters
not_negated = refl

pub delimiter_plain : ArePlain delimiter_of
delimiter_plain (Command name) found e = takes_none name (in_table name found delimiter_commands delimiters_plain e)
delimiter_plain (Character c) found e = character_plain c (no_dollar (λ c. delimiter_of (Character c)) no_delimiter (λ s. cc) c e)
delimiter_plain Space found e = cc
delimiter_plain Open found e = cc
delimiter_plain Close found e = cc

pub negated_of_plain : ArePlain negated_of
negated_of_plain (Command name) found e = takes_none name (in_table name found negated_commands negated_plain e)
negated_of_plain (Character c) found e = character_plain c (no_dollar (λ c. negated_of (Character c)) not_negated (λ s. cc) c e)
negated_of_plain Space found e = cc
negated_of_plain Open found e = cc
negated_of_plain Close found e = cc

pub a_character_plain : (d : ℕ) → (byte "$" == d) ≡ false → ArePlain (a_character d)
a_character_plain d h (Character c) found e = character_plain c (no_dollar {x = None} (λ c. a_character d (Character c)) (rw h refl) (λ s. cc) c e)
a_character_plain d h (Command name) found e = cc
a_character_plain d h Space found e = cc
a_character_plain d h Open found e = cc
a_character_plain d h Close found e = cc

pub sign_of_arrow_plain : ArePlain sign_of_arrow
sign_of_arrow_plain (Character c) found e = character_plain c (no_dollar (λ c. sign_of_arrow (Character c)) refl (λ s. cc) c e)
sign_of_arrow_plain (Command name) found e = cc
sign_of_arrow_plain Space found e = cc
sign_of_arrow_plain Open found e = cc
sign_of_arrow_plain Close found e = cc

-- a mark is plain
pub mark_plain : (piece : Piece) (mark : Mark) → mark_of piece ≡ Some mark → IsPlain piece
mark_plain (Character c) mark e = character_plain c (no_dollar (λ c. mark_of (Character c)) refl (λ s. cc) c e)
mark_plain Space mark e = cc
mark_plain Open mark e = cc
mark_plain Close mark e = cc
mark_plain (Command name) mark e = elim (cases_Bool (bytes_eq name (codes "limits"))) [
  | inl s ↦ takes_none name (is_named (codes "limits") name limits_plain s)
  | inr s ↦ elim (cases_Bool (bytes_eq name (codes "nolimits"))) [
    | inl t ↦ takes_none name (is_named (codes "nolimits") name nolimits_plain t)
    | inr t ↦ elim (cases_Bool (bytes_eq name (codes "displaylimits"))) [
      | inl d ↦ takes_none name (is_named (codes "displaylimits") name displaylimits_plain d)
      | inr d ↦ absurd (cc (rw (s, t, d) at e))
    ]
  ]
]

pub step_plain : (piece : Piece) (scripts : Scripts) (step : Step) → step_of_mark scripts (mark_of piece) ≡ Some step → IsPlain piece
step_plain piece scripts step e = step_of (mark_of piece) refl e
  where
    step_of : (mark : Option Mark) → mark_of piece ≡ mark → step_of_mark scripts mark ≡ Some step → IsPlain piece
    step_of None p e = cc
    step_of (Some mark) p e = mark_plain piece mark p

-- no mark begins a divider, and no change does
none : (change : Option Change) (mark : Option Mark) → start_of_mark change mark ≡ DividerStart → ⊥
none (Some change) None e = cc
none None None e = cc
none change (Some Prime) e = cc
none change (Some Below) e = cc
none change (Some Above) e = cc
none change (Some (LimitsAt place)) e = cc

-- so is what begins a divider
pub divider_plain : (ending : Ending) (piece : Piece) → atom_start ending piece ≡ DividerStart → IsPlain piece
divider_plain (InDelimiters place) piece e = elim (cases_Bool (is_command (codes "middle") piece)) [
  | inl s ↦ middle_is piece s
  | inr s ↦ absurd (none (change_by piece) (mark_of piece) (rw s at e))
]
  where
    middle_is : (piece : Piece) → is_command (codes "middle") piece ≡ true → IsPlain piece
    middle_is (Command name) s = takes_none name (named (codes "middle") name middle_plain s)
    middle_is (Character c) s = cc
    middle_is Space s = cc
    middle_is Open s = cc
    middle_is Close s = cc
divider_plain WholeText piece e = absurd (none (change_by piece) (mark_of piece) e)
divider_plain (InBraces place) piece e = absurd (none (change_by piece) (mark_of piece) e)
divider_plain (InBrackets place) piece e = absurd (none (change_by piece) (mark_of piece) e)
divider_plain (InDollars place) piece e = absurd (none (change_by piece) (mark_of piece) e)
divider_plain (InCell end place) piece e = absurd (none (change_by piece) (mark_of piece) e)
divider_plain (InLabel direction place) piece e = absurd (none (change_by piece) (mark_of piece) e)

-- and so is what changes the rest of its group

no_words : {change : Change} (meaning : Option Meaning) → change_meant meaning ≡ Some change → takes_words meaning ≡ false
no_words None e = cc
no_words (Some (Changes change)) e = refl
no_words (Some meaning) e = cc

change_plain : {change : Change} (piece : Piece) → change_by piece ≡ Some change → IsPlain piece
change_plain (Command name) e = takes_none name (no_words (meaning_of name) e)
change_plain (Character c) e = cc
change_plain Space e = cc
change_plain Open e = cc
change_plain Close e = cc

is_change : {change : Change} (found : Option Change) (mark : Option Mark) → start_of_mark found mark ≡ ChangeStart change → found ≡ Some change
is_change (Some other) None e = cc
is_change None None e = cc
is_change found (Some Prime) e = cc
is_change found (Some Below) e = cc
is_change found (Some Above) e = cc
is_change found (Some (LimitsAt place)) e = cc

pub change_start_plain : (ending : Ending) (piece : Piece) (change : Change) → atom_start ending piece ≡ ChangeStart change → IsPlain piece
change_start_plain (InDelimiters place) piece change e = elim (cases_Bool (is_command (codes "middle") piece)) [
  | inl s ↦ absurd (cc (rw s at e))
  | inr s ↦ change_plain piece (is_change (change_by piece) (mark_of piece) (rw s at e))
]
change_start_plain WholeText piece change e = change_plain piece (is_change (change_by piece) (mark_of piece) e)
change_start_plain (InBraces place) piece change e = change_plain piece (is_change (change_by piece) (mark_of piece) e)
change_start_plain (InBrackets place) piece change e = change_plain piece (is_change (change_by piece) (mark_of piece) e)
change_start_plain (InDollars place) piece change e = change_plain piece (is_change (change_by piece) (mark_of piece) e)
change_start_plain (InCell end place) piece change e = change_plain piece (is_change (change_by piece) (mark_of piece) e)
change_start_plain (InLabel direction place) piece change e = change_plain piece (is_change (change_by piece) (mark_of piece) e)

-- How operands begin

abbrev start : Bool → Bool → Option (List ℕ) → OperandStart
start none opens digit = if none then NoStart else if opens then GroupStart else start_of_digit digit

group_is : (none opens : Bool) (digit : Option (List ℕ)) → start none opens digit ≡ GroupStart → opens ≡ true
group_is true opens digit e = cc
group_is false true digit e = refl
group_is false false None e = cc
group_is false false (Some digit) e = cc

digit_is : (none opens : Bool) (digit : Option (List ℕ)) {found : List ℕ} → start none opens digit ≡ DigitStart found → digit ≡ Some found
digit_is true opens digit e = cc
digit_is false true digit e = cc
digit_is false false None e = cc
digit_is false false (Some digit) e = cc

open_is : (piece : Piece) → is_open piece ≡ true → IsPlain piece
open_is Open e = open_plain
open_is Space e = cc
open_is Close e = cc
open_is (Command name) e = cc
open_is (Character c) e = cc

pub group_start_plain : (piece : Piece) → operand_start piece ≡ GroupStart → IsPlain piece
group_start_plain piece e = open_is piece (group_is (is_no_operand piece) (is_open piece) (a_digit piece) e)

pub digit_start_plain : (piece : Piece) (digit : List ℕ) → operand_start piece ≡ DigitStart digit → IsPlain piece
digit_start_plain piece digit e = digit_plain piece digit (digit_is (is_no_operand piece) (is_open piece) (a_digit piece) e)
