-- What is taken unit by unit among units that are alike but for white space.
use Rattle.std.proofs.Common.{◌≡◌, ◌==◌, ◌||◌, ℕ, Bool, true, false, List, [], ◌++◌, codes, refl, sym, ap, subst, ◌∙◌, if◌then◌else◌}
use Rattle.std.specs.{Char.encode_utf8, Str.byte}
use Rattle.latex2mathml_tex_grammar.specs.{Commands.command_entries, Commands.meaning_of, CommandsFromM.commands_from_m, CommandsUpToL.commands_up_to_l}
use Rattle.latex2mathml_tex_grammar.specs.{Meaning.takes_words, RowGaps.gap_at, RowGaps.space_found}
use Rattle.latex2mathml_tex_grammar.specs.Refusal.{UnknownColumn, Refusal}
use Rattle.latex2mathml_tex_grammar.specs.Scanning.{Name, ColumnList, RepeatedColumns, Number, ColorName, BeforeColor, InModel, Spot, BeforeArgument, InArgument, BeforeGap, InGap, BeforeTimes, InTimes, BeforeRepeated, BeforeBrace, BeforePosition, InPosition, BehindPosition, BeforeStar, BehindStar, BeforeLength, BeforeLengthInBraces, InLength, BehindSign, InNumber, InDecimals, BehindLetter, BehindLength, AtBracket, AtBrace, AtUnit, BeforeRow, Deed, Passes, Adds, Ends, Leaves, Misses, Refuses, deed, done, is_line, may_end, found_at_end, with_character, Found, Given, Missing, scan, behind_found, past, past_break, past_gap}
use Rattle.latex2mathml_tex_grammar.specs.Spacing.{Standing, standing_behind, AreAlike, both_end, both_stop, same_piece, space_before, space_behind}
use Rattle.latex2mathml_tex_grammar.specs.Units.{Piece, Space, Open, Close, Command, Character, Unit, Units, Next}
use Rattle.latex2mathml_tex_grammar.proofs.{Plain.TakesNone, Plain.takes_none, Plain.open_plain, Plain.close_plain, Plain.is_named}
use Rattle.latex2mathml_tex_grammar.proofs.Spaces.{IsCalm, IsPlain, behind_plain, character_plain, no_dollar}

-- Units that are taken are plain

abbrev pub takes : Deed → Bool
takes (Passes spot) = true
takes (Adds c spot) = true
takes Ends = true
takes Leaves = false
takes Misses = false
takes (Refuses kind) = false

-- no dollar sign is taken
no_dollar_taken : (spot : Spot) → takes (deed spot (Character (byte "$"))) ≡ false
no_dollar_taken (BeforeArgument a) = refl
no_dollar_taken (InArgument Name) = refl
no_dollar_taken (InArgument ColumnList) = refl
no_dollar_taken (InArgument RepeatedColumns) = refl
no_dollar_taken (InArgument Number) = refl
no_dollar_taken (InArgument ColorName) = refl
no_dollar_taken BeforeColor = refl
no_dollar_taken InModel = refl
no_dollar_taken (BeforeGap a) = refl
no_dollar_taken (InGap a n) = refl
no_dollar_taken BeforeTimes = refl
no_dollar_taken (InTimes n) = refl
no_dollar_taken BeforeRepeated = refl
no_dollar_taken BeforeBrace = refl
no_dollar_taken BeforePosition = refl
no_dollar_taken InPosition = refl
no_dollar_taken BehindPosition = refl
no_dollar_taken BeforeStar = refl
no_dollar_taken BehindStar = refl
no_dollar_taken BeforeLength = refl
no_dollar_taken BeforeLengthInBraces = refl
no_dollar_taken (InLength end) = refl
no_dollar_taken (BehindSign end) = refl
no_dollar_taken (InNumber end) = refl
no_dollar_taken (InDecimals end n) = refl
no_dollar_taken (BehindLetter end first) = refl
no_dollar_taken (BehindLength AtBracket) = refl
no_dollar_taken (BehindLength AtBrace) = refl
no_dollar_taken (BehindLength AtUnit) = refl
no_dollar_taken BeforeRow = refl

-- a character that is taken is no dollar sign
pub taken_no_dollar : (spot : Spot) (c : ℕ) → takes (deed spot (Character c)) ≡ true → (c == byte "$") ≡ false
taken_no_dollar spot c h = no_dollar (λ c. takes (deed spot (Character c))) (no_dollar_taken spot) (λ s. cc) c h

character_taken : (spot : Spot) (c : ℕ) → takes (deed spot (Character c)) ≡ true → IsPlain (Character c)
character_taken spot c h = character_plain c (taken_no_dollar spot c h)

-- nor a command that takes words

hline_plain : TakesNone (codes "hline")
unfolding meaning_of command_entries commands_up_to_l commands_from_m
hline_plain = refl

hdashline_plain : TakesNone (codes "hdashline")
unfolding meaning_of command_entries commands_up_to_l commands_from_m
hdashline_plain = refl

toprule_plain : TakesNone (codes "toprule")
unfolding meaning_of command_entries commands_up_to_l commands_from_m
toprule_plain = refl

midrule_plain : TakesNone (codes "midrule")
unfolding meaning_of command_entries commands_up_to_l commands_from_m
midrule_plain = refl

bottomrule_plain : TakesNone (codes "bottomrule")
unfolding meaning_of command_entries commands_up_to_l commands_from_m
bottomrule_plain = refl

-- one of two holds
pub either_holds : {A : Type 0} (a b : Bool) → (a ≡ true → A) → (b ≡ true → A) → a || b ≡ true → A
either_holds true b f g h = f refl
either_holds false b f g h = g h

line_plain : (name : List ℕ) → is_line name ≡ true → TakesNone name
line_plain name h =
    either_holds _ _
    (either_holds _ _
    (either_holds _ _
    (either_holds _ _ (is_named (codes "hline") name hline_plain) (is_named (codes "hdashline") name hdashline_plain))
    (is_named (codes "toprule") name toprule_plain))
    (is_named (codes "midrule") name midrule_plain))
    (is_named (codes "bottomrule") name bottomrule_plain) h

taken_if : (b : Bool) (x y : Deed) → takes y ≡ false → takes (if b then x else y) ≡ true → b ≡ true
taken_if true x y none h = refl
taken_if false x y none h = cc

taken_unless : (b : Bool) (x y : Deed) → takes x ≡ false → takes (if b then x else y) ≡ true → b ≡ false
taken_unless true x y none h = cc
taken_unless false x y none h = refl

command_taken : (spot : Spot) (name : List ℕ) → takes (deed spot (Command name)) ≡ true → TakesNone name
command_taken (InGap a n) name h = taken_unless (takes_words (meaning_of name)) (Refuses UnknownColumn) (Passes (InGap a n)) refl h
command_taken BeforeRow name h = line_plain name (taken_if (is_line name) (Passes BeforeRow) Leaves refl h)
command_taken (BeforeArgument a) name h = cc
command_taken (InArgument Name) name h = cc
command_taken (InArgument ColumnList) name h = cc
command_taken (InArgument RepeatedColumns) name h = cc
command_taken (InArgument Number) name h = cc
command_taken (InArgument ColorName) name h = cc
command_taken BeforeColor name h = cc
command_taken InModel name h = cc
command_taken (BeforeGap a) name h = cc
command_taken BeforeTimes name h = cc
command_taken (InTimes n) name h = cc
command_taken BeforeRepeated name h = cc
command_taken BeforeBrace name h = cc
command_taken BeforePosition name h = cc
command_taken InPosition name h = cc
command_taken BehindPosition name h = cc
command_taken BeforeStar name h = cc
command_taken BehindStar name h = cc
command_taken BeforeLength name h = cc
command_taken BeforeLengthInBraces name h = cc
command_taken (InLength end) name h = cc
command_taken (BehindSign end) name h = cc
command_taken (InNumber end) name h = cc
command_taken (InDecimals end n) name h = cc
command_taken (BehindLetter end first) name h = cc
command_taken (BehindLength AtBracket) name h = cc
command_taken (BehindLength AtBrace) name h = cc
command_taken (BehindLength AtUnit) name h = cc

taken_plain : (spot : Spot) (piece : Piece) → takes (deed spot piece) ≡ true → IsPlain piece
taken_plain spot Space h = λ at calm. refl
taken_plain spot Open h = open_plain
taken_plain spot Close h = close_plain
taken_plain spot (Command name) h = takes_none name (command_taken spot name h)
taken_plain spot (Character c) h = character_taken spot c h

-- What is found

-- the same is found, with alike units after it, or it is refused for the same reason
pub data FoundAlike (at : Standing) : Found → Found → Type 0 where
  both_given : {l m : Units} (text : List ℕ) → AreAlike at l m → FoundAlike at (Given text l) (Given text m)
  both_missing : {r q : Refusal} → r.kind ≡ q.kind → FoundAlike at (Missing r) (Missing q)

pub longer : {at : Standing} {x y : Found} (c : ℕ) → FoundAlike at x y → FoundAlike at (with_character c x) (with_character c y)
longer c (both_given text h) = both_given (encode_utf8 c ++ text) h
longer c (both_missing e) = both_missing e

pub ended : {at : Standing} {l m : Units} (r q : Refusal) (b : Bool) → AreAlike at l m → r.kind ≡ q.kind → FoundAlike at (found_at_end b l r) (found_at_end b m q)
ended r q true h e = both_given [] h
ended r q false h e = both_missing e

done_alike : {at : Standing} {l m : Units} (p q : ℕ) (spot : Spot) (u v : Unit) → u.piece ≡ v.piece → AreAlike (standing_behind u.piece at) l m → IsCalm at → (standing_behind u.piece at ≡ at → (next : Spot) → FoundAlike at (scan p l next) (scan q m next)) → (d : Deed) → (takes d ≡ true → IsPlain u.piece) → FoundAlike at (done p spot d u l (scan p l)) (done q spot d v m (scan q m))
done_alike {at = at} p q spot u v e h calm more (Passes next) plain = more (plain refl at calm) next
done_alike {at = at} p q spot u v e h calm more (Adds c next) plain = longer c (more (plain refl at calm) next)
done_alike p q spot u v e h calm more Ends plain = both_given [] (behind_plain u.piece (plain refl) calm h)
done_alike p q spot u v e h calm more Leaves plain = both_given [] (same_piece e h)
done_alike p q spot u v e h calm more Misses plain = both_missing refl
done_alike p q spot u v e h calm more (Refuses kind) plain = both_missing refl

pub scan_alike : {at : Standing} {l m : Units} (p q : ℕ) → IsCalm at → AreAlike at l m → (spot : Spot) → FoundAlike at (scan p l spot) (scan q m spot)
scan_alike p q calm both_end spot = ended _ _ (may_end spot) both_end refl
scan_alike p q calm (both_stop e) spot = ended _ _ (may_end spot) (both_stop e) e
scan_alike {at = at} {m = m} p q calm (space_before {u = u} {l = l} w e h) spot =
    let same : scan p l spot ≡ scan p (Next u l) spot = rw e refl in subst (λ k. FoundAlike at k (scan q m spot)) same (scan_alike p q calm h spot)
scan_alike {at = at} {l = l} p q calm (space_behind {u = u} {m = m} w e h) spot =
    let same : scan q m spot ≡ scan q (Next u m) spot = rw e refl in subst (λ k. FoundAlike at (scan p l spot) k) same (scan_alike p q calm h spot)
scan_alike {at = at} p q calm (same_piece {u = u} {v = v} {l = l} {m = m} e h) spot =
    let here = done_alike p q spot u v e h calm (λ same next. subst (λ k. FoundAlike k (scan p l next) (scan q m next)) same (scan_alike p q (subst IsCalm (sym same) calm) h next)) (deed spot u.piece) (taken_plain spot u.piece) in
    subst (λ d. FoundAlike at (scan p (Next u l) spot) (done q spot d v m (scan q m))) (ap (deed spot) e) here

-- what is found in one is found in the other

pub record FoundToo (at : Standing) (spot : Spot) (place : ℕ) (text : List ℕ) (l m : Units) : Type 0 where
  pub rest : Units
  pub is : scan place m spot ≡ Given text rest
  pub alike : AreAlike at l rest

pub given_there : {at : Standing} {spot : Spot} {place : ℕ} {text : List ℕ} {k m : Units} {x y : Found} → FoundAlike at x y → x ≡ Given text k → y ≡ scan place m spot → FoundToo at spot place text k m
given_there {at = at} {spot = spot} {place = place} {text = text} {k = k} {m = m} (both_given {l = j} {m = n} other h) p q =
    let same : other ≡ text = cc in
    let rest : j ≡ k = cc in
    subst (λ t. FoundToo at spot place t k m) same (subst (λ j. FoundToo at spot place other j m) rest (record { rest = n; is = sym q; alike = h }))
given_there (both_missing e) p q = cc

pub found_too : {at : Standing} {l m k : Units} {text : List ℕ} (p q : ℕ) (spot : Spot) → IsCalm at → AreAlike at l m → scan p l spot ≡ Given text k → FoundToo at spot q text k m
found_too p q spot calm h e = given_there (scan_alike p q calm h spot) e refl

same_refusal : {r q : Refusal} → Missing r ≡ Missing q → r.kind ≡ q.kind
same_refusal {r} {q} e = (let same : r ≡ q = cc in ap (λ r. r.kind) same)

pub missing_there : {at : Standing} {x y : Found} {r : Refusal} → FoundAlike at x y → x ≡ Missing r → (q : Refusal) × (r.kind ≡ q.kind) × (y ≡ Missing q)
missing_there (both_given text h) p = cc
missing_there (both_missing {q = q} e) p = (q, sym (same_refusal p) ∙ e, refl)

pub refused_too : {at : Standing} {l m : Units} {r : Refusal} (p q : ℕ) (spot : Spot) → IsCalm at → AreAlike at l m → scan p l spot ≡ Missing r → (t : Refusal) × (r.kind ≡ t.kind) × (scan q m spot ≡ Missing t)
refused_too p q spot calm h e = missing_there (scan_alike p q calm h spot) e

pub behind_alike : {at : Standing} {l m : Units} {x y : Found} → FoundAlike at x y → AreAlike at l m → AreAlike at (behind_found l x) (behind_found m y)
behind_alike (both_given text k) h = k
behind_alike (both_missing e) h = h

pub past_too : {at : Standing} {l m : Units} (spot : Spot) → IsCalm at → AreAlike at l m → AreAlike at (past spot l) (past spot m)
past_too spot calm h = behind_alike (scan_alike 0 0 calm h spot) h

pub past_gap_too : {at : Standing} {l m : Units} → IsCalm at → AreAlike at l m → AreAlike at (past_gap l) (past_gap m)
past_gap_too calm h = past_too BeforeLength calm (past_too BeforeStar calm h)

space_alike : {at : Standing} {x y : Found} → FoundAlike at x y → space_found x ≡ space_found y
space_alike (both_given text h) = refl
space_alike (both_missing e) = refl

pub gap_too : {at : Standing} {l m : Units} → IsCalm at → AreAlike at l m → gap_at l ≡ gap_at m
gap_too calm h = space_alike (scan_alike 0 0 calm (past_too BeforeStar calm h) BeforeLength)

pub past_break_too : {at : Standing} {l m : Units} → IsCalm at → AreAlike at l m → AreAlike at (past_break l) (past_break m)
past_break_too calm h = past_too BeforeRow calm (past_gap_too calm h)
