-- Where what is due leads, step by step, whatever it is for.
use Rattle.std.proofs.Common.{ap, Bool, true, false, ◌≡◌, ℕ, IsTrue, IsFalse, List, [], ◌∷◌, Option, Some, None, refl, subst, sym}
use Rattle.latex2mathml_tex_grammar.specs.{Atoms.Atom, Delimiters.delimiter_of}
use Rattle.latex2mathml_tex_grammar.specs.Makes.{core, Core, number, Scripts, no_scripts, scripted}
use Rattle.latex2mathml_tex_grammar.specs.{Meaning.Beside, Meaning.Change, Next.past_space, Next.follows, Next.next_are, Next.digits_next, Next.refusal_here}
use Rattle.latex2mathml_tex_grammar.specs.Reading.{Outcome, Read, Refused, ReadsRule, ReadsWords, rule_gives, rule_refuses, operand_read, operand_refused, core_read, core_refused, core_missing, core_stopped, atoms_read, atoms_refused, words_read, words_refused, units_taken, units_missing, unit_follows, no_unit_follows, digits_taken, delimiter_taken, delimiter_missing, group_operand, group_refused, digit_operand, other_operand, other_refused, no_operand, operand_at_end, operand_stopped, scripts_end, mark_taken, script_read, script_refused, mark_refused, ReadsAtom, on_empty_row, base_read, base_refused, text_ends, never_ended, atoms_stopped, atoms_end, atom_read, atom_refused, rest_read, change_refused, word_stands, group_of_words, formula_read, formula_refused, words_in_alphabet, no_word, word_missing, word_at_end, word_stopped, words_end, words_never_ended, words_stopped, atom_in_words, atom_refused_in_words, part_of_words, box_in_words, box_refused_in_words, word_read, word_refused, ligature_read, words_resized, words_resized_refused, found_taken, found_refused, passed_over, rows_read, rows_refused, ReadsRows, rows_to_end}
use Rattle.latex2mathml_tex_grammar.specs.Refusal.{Kind, MissingArgument, UnclosedBrace, MissingDelimiter, Refusal, refusal_at}
use Rattle.latex2mathml_tex_grammar.specs.Rests.{Rest, GoesOnIn, NoRest, finished, rest_of}
use Rattle.latex2mathml_tex_grammar.specs.Rows.{Operand, Row, empty_row, single}
use Rattle.latex2mathml_tex_grammar.specs.Rules.{Context, formula_in_words, in_size, in_words, styled, Ending, InBraces, InDollars, begun, Rule, gives, refuses, reads_operand, reads_core, reads_atoms, reads_words, takes_if, if_follows, takes_digits, takes_delimiter, rule, takes_found, passes_over, reads_rows, TableEnd}
use Rattle.latex2mathml_tex_grammar.specs.Starts.{ChangeStart, ScriptStart, RuleStart, NoStart, GroupStart, DigitStart, OtherStart, atom_start, operand_start, mark_of, GoesOn, TakesOperand, Forbidden, step_of_mark, step_next, empty_base, ends, unended, is_close, left_behind}
use Rattle.latex2mathml_elements.specs.Columns.{Columns}
use Rattle.latex2mathml_tex_grammar.specs.RowLines.{line_next, lined}
use Rattle.latex2mathml_tex_grammar.specs.Scanning.{Spot, BeforeRow, Given, Missing, past, scan}
use Rattle.latex2mathml_tex_grammar.specs.Tables.{Lines}
use Rattle.latex2mathml_tex.specs.Tables.{RowsLead}
use Rattle.latex2mathml_tex_grammar.specs.Symbols.{InScript, Alphabet, TextSize}
use Rattle.latex2mathml_tex_grammar.specs.Units.{Piece, Unit, Units, Next, End, Stop}
use Rattle.latex2mathml_tex_grammar.specs.Ligatures.{joined, ligature_start}
use Rattle.latex2mathml_tex_grammar.proofs.Ligatures.{change_no_start}
use Rattle.latex2mathml_tex_grammar.specs.WordBoxes.{WordBox, box_rule, of_words, word_box}
use Rattle.latex2mathml_tex_grammar.proofs.BoxedWords.{word_no_box}
use Rattle.latex2mathml_tex_grammar.specs.Words.{Formula, words_atom, Resized, ShowsAtom, Word, Words, no_words, with_accent_ended, with_word, IsWord, BeginsGroup, Changed, EndsGroup, BeginsFormula, TakesWords, NoWord, alphabet_behind, shown_character, size_after, word_rule}
use Rattle.latex2mathml_tex.specs.Levels.{AtomMade, CoreMade, FollowsChange, Leads, Level, PartMade, RestLeads, RuleLeads, ScriptsLead, Then, WordLeads, as_atom_in_words, as_operand, as_resized, as_words, row, operand, part, words}
use Rattle.latex2mathml_tex.specs.Levels.{core as core_level}

-- A rule that leads somewhere

module _ {K : Outcome Core → Type 0} {l : Units} where
  pub given : {x : Core} → RuleLeads (gives x) K l → K (Read x l)
  given k = k.to _ rule_gives

  pub refused : {r : Refusal} → RuleLeads (refuses r) K l → K (Refused r)
  refused k = k.to _ rule_refuses

  pub operand_due : {place : ℕ} {c : Context} (then : Operand → Rule) → RuleLeads (reads_operand place c then) K l → Leads (operand place c (Then then K)) l
  operand_due then k (Read x m) d = record { to = λ o ds. k.to o (operand_read d ds) }
  operand_due then k (Refused r) d = k.to _ (operand_refused d)

  pub row_due : {ending : Ending} {c : Context} (then : Row → Rule) → RuleLeads (reads_atoms ending c then) K l → Leads (row ending c (begun ending) (Then then K)) l
  row_due then k (Read x m) d = record { to = λ o ds. k.to o (atoms_read d ds) }
  row_due then k (Refused r) d = k.to _ (atoms_refused d)

  -- words that are an operand are due within its level
  words_as_operand : {place : ℕ} {c : Context} (whole : Operand → Core) → RuleLeads (of_words place c whole) K l → (o : Outcome Core) → ReadsRule (reads_words place c (λ ws. gives (core (words_atom ws)))) l o → CoreMade (operand place c (Then (λ x. gives (whole x)) K)) o
  words_as_operand whole k o (words_read d rule_gives) = record { to = λ o ds. k.to o (words_read d ds) }
  words_as_operand whole k o (words_refused d) = k.to _ (words_refused d)

  pub words_operand_due : {place : ℕ} {c : Context} (whole : Operand → Core) → RuleLeads (of_words place c whole) K l → RuleLeads (reads_words place c (λ ws. gives (core (words_atom ws)))) (CoreMade (operand place c (Then (λ x. gives (whole x)) K))) l
  words_operand_due whole k = record { to = words_as_operand whole k }

  pub words_due : {place : ℕ} {c : Context} (then : Words → Rule) → RuleLeads (reads_words place c then) K l → WordLeads (part (Then then K)) place c no_words (past_space l)
  words_due then k (Read ws m) d = record { to = λ o ds. k.to o (words_read d ds) }
  words_due then k (Refused r) d = k.to _ (words_refused d)

  -- an atom without scripts is due
  core_outcome : {place : ℕ} {c : Context} (then : Core → Rule) → RuleLeads (reads_core place c then) K l → (o : Outcome Core) → ReadsRule (reads_core place c (λ x. gives x)) l o → Then then K o
  core_outcome then k o (core_read p d rule_gives) = record { to = λ o ds. k.to o (core_read p d ds) }
  core_outcome then k o (core_refused p d) = k.to _ (core_refused p d)
  core_outcome then k o (core_missing p) = k.to _ (core_missing p)
  core_outcome then k o (core_stopped p) = k.to _ (core_stopped p)

  pub core_due : {place : ℕ} {c : Context} (then : Core → Rule) → RuleLeads (reads_core place c then) K l → Leads (core_level place c (Then then K)) l
  core_due then k = record { to = λ o d. core_outcome then k o d }

  pub taken : {tests : List (Piece → Option (List ℕ))} (then : List ℕ → Rule) {otherwise : Rule} {texts : List ℕ} {m : Units} → next_are tests l ≡ Some (texts, m) → RuleLeads (takes_if tests then otherwise) K l → RuleLeads (then texts) K m
  taken then e k = record { to = λ o d. k.to o (units_taken e d) }

  pub not_taken : {tests : List (Piece → Option (List ℕ))} {then : List ℕ → Rule} {otherwise : Rule} → next_are tests l ≡ None → RuleLeads (takes_if tests then otherwise) K l → RuleLeads otherwise K l
  not_taken e k = record { to = λ o d. k.to o (units_missing e d) }

  pub follows_next : {test : Piece → Bool} {then otherwise : Rule} → follows test l ≡ true → RuleLeads (if_follows test then otherwise) K l → RuleLeads then K l
  follows_next e k = record { to = λ o d. k.to o (unit_follows e d) }

  pub none_follows : {test : Piece → Bool} {then otherwise : Rule} → follows test l ≡ false → RuleLeads (if_follows test then otherwise) K l → RuleLeads otherwise K l
  none_follows e k = record { to = λ o d. k.to o (no_unit_follows e d) }

  pub digits : (then : List ℕ → Rule) → RuleLeads (takes_digits then) K l → RuleLeads (then (digits_next l).0) K (digits_next l).1
  digits then k = record { to = λ o d. k.to o (digits_taken d) }

  pub delimited : (then : List ℕ → Rule) {text : List ℕ} {m : Units} → next_are (delimiter_of ∷ []) l ≡ Some (text, m) → RuleLeads (takes_delimiter then) K l → RuleLeads (then text) K m
  delimited then e k = record { to = λ o d. k.to o (delimiter_taken e d) }

  pub undelimited : {then : List ℕ → Rule} → next_are (delimiter_of ∷ []) l ≡ None → RuleLeads (takes_delimiter then) K l → K (Refused (refusal_here MissingDelimiter (past_space l)))
  undelimited e k = k.to _ (delimiter_missing e)

  pub found : {spot : Spot} {place : ℕ} (then : List ℕ → Rule) {text : List ℕ} {m : Units} → scan place l spot ≡ Given text m → RuleLeads (takes_found spot place then) K l → RuleLeads (then text) K m
  found then e k = record { to = λ o d. k.to o (found_taken e d) }

  pub not_found : {spot : Spot} {place : ℕ} {then : List ℕ → Rule} {r : Refusal} → scan place l spot ≡ Missing r → RuleLeads (takes_found spot place then) K l → K (Refused r)
  not_found e k = k.to _ (found_refused e)

  pub passed : {spot : Spot} {then : Rule} → RuleLeads (passes_over spot then) K l → RuleLeads then K (past spot l)
  passed k = record { to = λ o d. k.to o (passed_over d) }

  pub rows_due : {end : TableEnd} {place : ℕ} {columns : Columns} {c : Context} (then : Lines → ℕ → Rule) → RuleLeads (reads_rows end place columns c then) K l → (o : Outcome Lines) → ReadsRows end place columns c (lined (line_next l) []) [] (past BeforeRow l) o → RowsLead then K o
  rows_due then k (Read lines m) d = record {
    at_unit = λ u n p. record { to = λ o ds. k.to o (rows_read d p ds) };
    at_end = λ at p. record { to = λ o ds. k.to o (rows_to_end d p ds) };
  }
  rows_due then k (Refused r) d = k.to _ (rows_refused d)

-- Atoms after a row

module _ {ending : Ending} {c : Context} {xs : Row} {K : Outcome Row → Type 0} {l : Units} where
  pub row_ends_text : {at : ℕ} → past_space l ≡ End at → unended ending ≡ None → Leads (row ending c xs K) l → K (Read (finished c.style xs) (End at))
  row_ends_text p e k = k _ (text_ends p e)

  pub row_unended : {at : ℕ} {r : Refusal} → past_space l ≡ End at → unended ending ≡ Some r → Leads (row ending c xs K) l → K (Refused r)
  row_unended p e k = k _ (never_ended p e)

  pub row_stopped : {r : Refusal} → past_space l ≡ Stop r → Leads (row ending c xs K) l → K (Refused r)
  row_stopped p k = k _ (atoms_stopped p)

  pub row_ended : {u : Unit} {m : Units} → past_space l ≡ Next u m → IsTrue (ends ending u.piece) → Leads (row ending c xs K) l → K (Read (finished c.style xs) (left_behind ending u m))
  row_ended p e k = k _ (atoms_end p e)

  -- an atom begins
  pub atom_due : {u : Unit} {m : Units} → past_space l ≡ Next u m → IsFalse (ends ending u.piece) → Leads (row ending c xs K) l → (o : Outcome Atom) → ReadsAtom ending c xs.before u m o → AtomMade (row ending c xs K) o
  atom_due p e k (Read x n) d = λ o ds. k o (atom_read p e d ds)
  atom_due p e k (Refused r) d = k _ (atom_refused p e d)

  pub scripts_due : {u : Unit} {m : Units} → past_space l ≡ Next u m → IsFalse (ends ending u.piece) → atom_start ending u.piece ≡ ScriptStart → Leads (row ending c xs K) l → ScriptsLead (row ending c xs K) empty_base (no_scripts empty_base.kind Beside) (Next u m)
  scripts_due p e s k = λ o d. atom_due p e k o (on_empty_row s d)

  base_made : {u : Unit} {m : Units} → past_space l ≡ Next u m → IsFalse (ends ending u.piece) → atom_start ending u.piece ≡ RuleStart → Leads (row ending c xs K) l → (o : Outcome Core) → ReadsRule (rule u.place c u.piece) m o → CoreMade (row ending c xs K) o
  base_made p e s k (Read x n) d = λ o ds. atom_due p e k o (base_read s d ds)
  base_made p e s k (Refused r) d = atom_due p e k _ (base_refused s d)

  pub base_due : {u : Unit} {m : Units} → past_space l ≡ Next u m → IsFalse (ends ending u.piece) → atom_start ending u.piece ≡ RuleStart → Leads (row ending c xs K) l → RuleLeads (rule u.place c u.piece) (CoreMade (row ending c xs K)) m
  base_due p e s k = record { to = λ o d. base_made p e s k o d }

  -- what follows a change is due
  going_on : {u : Unit} {m : Units} {change : Change} → past_space l ≡ Next u m → IsFalse (ends ending u.piece) → atom_start ending u.piece ≡ ChangeStart change → Leads (row ending c xs K) l → (rest : Rest) → rest_of change c xs u.place m ≡ rest → FollowsChange ending K rest
  going_on p e s k (GoesOnIn d ys n) r = λ o reads. k o (rest_read p e s r reads)
  going_on p e s k (NoRest refusal) r = k _ (change_refused p e s r)

  pub rest_due : {u : Unit} {m : Units} {change : Change} → past_space l ≡ Next u m → IsFalse (ends ending u.piece) → atom_start ending u.piece ≡ ChangeStart change → Leads (row ending c xs K) l → RestLeads change u.place (row ending c xs K) m
  rest_due {u = u} {m = m} {change = change} p e s k = going_on p e s k (rest_of change c xs u.place m) refl

-- What follows an atom

-- where the operand of a script leads
abbrev pub ScriptLeads : Level → Atom → (Operand → Scripts) → Outcome Operand → Type 0
ScriptLeads level base with_operand (Read x n) = ScriptsLead level base (with_operand x) n
ScriptLeads level base with_operand (Refused r) = AtomMade level (Refused r)

module _ (ending : Ending) (c : Context) (xs : Row) (K : Outcome Row → Type 0) {l : Units} where
  pub scripts_ended : {base : Atom} {scripts : Scripts} → step_next scripts (past_space l) ≡ None → ScriptsLead (row ending c xs K) base scripts l → AtomMade (row ending c xs K) (Read (scripted c.style xs.before base scripts) l)
  scripts_ended e k = k _ (scripts_end e)

  pub marked : {base : Atom} {scripts more : Scripts} {u : Unit} {m : Units} → past_space l ≡ Next u m → step_of_mark scripts (mark_of u.piece) ≡ Some (GoesOn more) → ScriptsLead (row ending c xs K) base scripts l → ScriptsLead (row ending c xs K) base more m
  marked p e k = λ o d. k o (mark_taken p e d)

  pub script_twice : {base : Atom} {scripts : Scripts} {kind : Kind} {u : Unit} {m : Units} → past_space l ≡ Next u m → step_of_mark scripts (mark_of u.piece) ≡ Some (Forbidden kind) → ScriptsLead (row ending c xs K) base scripts l → K (Refused (refusal_at kind u.place))
  script_twice p e k = k _ (mark_refused p e)

  pub script_due : {base : Atom} {scripts : Scripts} {with_operand : Operand → Scripts} {u : Unit} {m : Units} → past_space l ≡ Next u m → step_of_mark scripts (mark_of u.piece) ≡ Some (TakesOperand with_operand) → ScriptsLead (row ending c xs K) base scripts l → Leads (operand u.place (styled c InScript) (ScriptLeads (row ending c xs K) base with_operand)) m
  script_due p e k (Read x n) d = λ o ds. k o (script_read p e d ds)
  script_due p e k (Refused r) d = k _ (script_refused p e d)

-- Operands

module _ {place : ℕ} {c : Context} {K : Outcome Operand → Type 0} {l : Units} where
  pub group_due : {u : Unit} {m : Units} → past_space l ≡ Next u m → operand_start u.piece ≡ GroupStart → Leads (operand place c K) l → Leads (row (InBraces u.place) c empty_row (λ o. K (as_operand o))) m
  group_due p e k (Read xs n) d = k _ (group_operand p e d)
  group_due p e k (Refused r) d = k _ (group_refused p e d)

  pub digit_due : {u : Unit} {m : Units} {digit : List ℕ} → past_space l ≡ Next u m → operand_start u.piece ≡ DigitStart digit → Leads (operand place c K) l → K (Read (single c.style (number c.alphabet digit)) m)
  digit_due p e k = k _ (digit_operand p e)

  other_made : {u : Unit} {m : Units} → past_space l ≡ Next u m → operand_start u.piece ≡ OtherStart → Leads (operand place c K) l → (o : Outcome Core) → ReadsRule (rule u.place c u.piece) m o → CoreMade (operand place c K) o
  other_made p e k (Read x n) d = k _ (other_operand p e d)
  other_made p e k (Refused r) d = k _ (other_refused p e d)

  pub other_due : {u : Unit} {m : Units} → past_space l ≡ Next u m → operand_start u.piece ≡ OtherStart → Leads (operand place c K) l → RuleLeads (rule u.place c u.piece) (CoreMade (operand place c K)) m
  other_due p e k = record { to = λ o d. other_made p e k o d }

  pub none_due : {u : Unit} {m : Units} → past_space l ≡ Next u m → operand_start u.piece ≡ NoStart → Leads (operand place c K) l → K (Refused (refusal_at MissingArgument place))
  none_due p e k = k _ (no_operand p e)

  pub operand_ended : {at : ℕ} → past_space l ≡ End at → Leads (operand place c K) l → K (Refused (refusal_at MissingArgument place))
  operand_ended p k = k _ (operand_at_end p)

  pub operand_halted : {r : Refusal} → past_space l ≡ Stop r → Leads (operand place c K) l → K (Refused r)
  operand_halted p k = k _ (operand_stopped p)

-- Atoms without scripts

module _ {place : ℕ} {c : Context} {K : Outcome Core → Type 0} {l : Units} where
  negated_made : {u : Unit} {m : Units} → past_space l ≡ Next u m → Leads (core_level place c K) l → (o : Outcome Core) → ReadsRule (rule u.place c u.piece) m o → K o
  negated_made p k (Read x n) d = k.to _ (core_read p d rule_gives)
  negated_made p k (Refused r) d = k.to _ (core_refused p d)

  pub negated_due : {u : Unit} {m : Units} → past_space l ≡ Next u m → Leads (core_level place c K) l → RuleLeads (rule u.place c u.piece) (CoreMade (core_level place c K)) m
  negated_due p k = record { to = λ o d. negated_made p k o d }

  pub core_ended : {at : ℕ} → past_space l ≡ End at → Leads (core_level place c K) l → K (Refused (refusal_at MissingArgument place))
  core_ended p k = k.to _ (core_missing p)

  pub core_halted : {r : Refusal} → past_space l ≡ Stop r → Leads (core_level place c K) l → K (Refused r)
  core_halted p k = k.to _ (core_stopped p)

-- Words

module _ (level : Level) {place : ℕ} {c : Context} {ws : Words} {l : Units} {u : Unit} where
  pub word_given : {w : Word} → word_rule c.alphabet u.piece ≡ IsWord w → WordLeads level place c ws (Next u l) → PartMade level (Read (with_word ws w) l)
  word_given e k = k _ (word_stands e)

  pub group_of_words_due : word_rule c.alphabet u.piece ≡ BeginsGroup → WordLeads level place c ws (Next u l) → PartMade (words u.place c (PartMade level)) (Read ws l)
  group_of_words_due e k = λ o d. k o (group_of_words e d)

  pub formula_due : word_rule c.alphabet u.piece ≡ BeginsFormula → WordLeads level place c ws (Next u l) → Leads (row (InDollars u.place) (formula_in_words c) (begun (InDollars u.place)) (λ o. PartMade level (as_words (with_accent_ended ws).elements o))) l
  formula_due e k (Read xs m) d = k _ (formula_read e d)
  formula_due e k (Refused r) d = k _ (formula_refused e d)

  pub words_in_alphabet_due : {a : Option Alphabet} → word_rule c.alphabet u.piece ≡ TakesWords a → WordLeads level place c ws (Next u l) → WordLeads level u.place (in_words c a) ws (past_space l)
  words_in_alphabet_due e k = λ o d. k o (words_in_alphabet e d)

  -- an atom in words
  atom_shown : word_rule c.alphabet u.piece ≡ ShowsAtom → WordLeads level place c ws (Next u l) → (o : Outcome Core) → ReadsRule (rule u.place c u.piece) l o → PartMade level (as_atom_in_words (with_accent_ended ws).elements o)
  atom_shown e k (Read x m) d = k _ (atom_in_words e d)
  atom_shown e k (Refused r) d = k _ (atom_refused_in_words e d)

  pub atom_in_words_due : word_rule c.alphabet u.piece ≡ ShowsAtom → WordLeads level place c ws (Next u l) → RuleLeads (rule u.place c u.piece) (λ o. PartMade level (as_atom_in_words (with_accent_ended ws).elements o)) l
  atom_in_words_due e k = record { to = atom_shown e k }

  pub word_refused_at : {kind : Kind} → word_rule c.alphabet u.piece ≡ NoWord kind → WordLeads level place c ws (Next u l) → PartMade level (Refused (refusal_at kind u.place))
  word_refused_at e k = k _ (no_word e)

  pub word_is_missing : word_rule c.alphabet u.piece ≡ EndsGroup → WordLeads level place c ws (Next u l) → PartMade level (Refused (refusal_at MissingArgument place))
  word_is_missing e k = k _ (word_missing e)

pub word_ended : (level : Level) {place at : ℕ} {c : Context} {ws : Words} → WordLeads level place c ws (End at) → PartMade level (Refused (refusal_at MissingArgument place))
word_ended level k = k _ word_at_end

pub word_halted : (level : Level) {place : ℕ} {c : Context} {ws : Words} {r : Refusal} → WordLeads level place c ws (Stop r) → PartMade level (Refused r)
word_halted level k = k _ word_stopped

module _ {place : ℕ} {c : Context} {K : Outcome Words → Type 0} {ws : Words} where
  pub words_ended : {u : Unit} {l : Units} → IsTrue (is_close u.piece) → PartMade (words place c K) (Read ws (Next u l)) → K (Read (with_accent_ended ws) l)
  words_ended e k = k _ (words_end e)

  pub words_unended : {at : ℕ} → PartMade (words place c K) (Read ws (End at)) → K (Refused (refusal_at UnclosedBrace place))
  words_unended k = k _ words_never_ended

  pub words_halted : {r : Refusal} → PartMade (words place c K) (Read ws (Stop r)) → K (Refused r)
  words_halted k = k _ words_stopped

  -- another part of words is due, in the same alphabet as those after it
  pub word_due : {u : Unit} {l : Units} → IsFalse (is_close u.piece) → size_after (word_rule c.alphabet u.piece) ≡ None → ligature_start ws.accent c.alphabet u.piece ≡ None → word_box u.piece ≡ None → alphabet_behind c.alphabet u.piece ≡ c.alphabet → PartMade (words place c K) (Read ws (Next u l)) → WordLeads (words place c K) place c ws (Next u l)
  word_due e no_size none no_box same k (Read vs m) d = λ o ds. k o (word_read e no_size none (part_of_words no_box d) (subst (λ a. ReadsWords place (in_words c a) vs m o) (sym same) ds))
  word_due e no_size none no_box same k (Refused r) d = k _ (word_refused e no_size none (part_of_words no_box d))

  -- what is made of the words after a unit, and the words after them
  box_shown : {u : Unit} {l : Units} {box : WordBox} → IsFalse (is_close u.piece) → size_after (word_rule c.alphabet u.piece) ≡ None → ligature_start ws.accent c.alphabet u.piece ≡ None → word_box u.piece ≡ Some box → alphabet_behind c.alphabet u.piece ≡ c.alphabet → PartMade (words place c K) (Read ws (Next u l)) → (o : Outcome Core) → ReadsRule (box_rule u.place c box) l o → PartMade (words place c K) (as_atom_in_words (with_accent_ended ws).elements o)
  box_shown e no_size none is same k (Read x m) d = λ o ds. k o (word_read e no_size none (box_in_words is d) (subst (λ a. ReadsWords place (in_words c a) (with_word ws (Formula x.atom.element)) m o) (sym same) ds))
  box_shown e no_size none is same k (Refused r) d = k _ (word_refused e no_size none (box_refused_in_words is d))

  pub box_due : {u : Unit} {l : Units} {box : WordBox} → IsFalse (is_close u.piece) → size_after (word_rule c.alphabet u.piece) ≡ None → ligature_start ws.accent c.alphabet u.piece ≡ None → word_box u.piece ≡ Some box → alphabet_behind c.alphabet u.piece ≡ c.alphabet → PartMade (words place c K) (Read ws (Next u l)) → RuleLeads (box_rule u.place c box) (λ o. PartMade (words place c K) (as_atom_in_words (with_accent_ended ws).elements o)) l
  box_due e no_size none is same k = record { to = box_shown e no_size none is same k }

  -- what a character and those that join it are set as, and the words after it
  pub joined_due : {u : Unit} {l : Units} {first : ℕ} → ligature_start ws.accent c.alphabet u.piece ≡ Some first → PartMade (words place c K) (Read ws (Next u l)) → PartMade (words place c K) (Read (with_word ws (shown_character c.alphabet (joined first l).0)) (joined first l).1)
  joined_due e k = λ o ds. k o (ligature_read e ds)

  -- the words after a change are in its alphabet
  pub changed_due : {u : Unit} {l : Units} {a : Alphabet} → IsFalse (is_close u.piece) → word_rule c.alphabet u.piece ≡ IsWord (Changed a) → alphabet_behind c.alphabet u.piece ≡ Some a → PartMade (words place c K) (Read ws (Next u l)) → PartMade (words place (in_words c (Some a)) K) (Read ws l)
  changed_due {u = u} {l = l} e rule behind k = λ o ds. k o (word_read e (ap size_after rule) (change_no_start ws.accent c.alphabet u.piece rule) (part_of_words (word_no_box c.alphabet u.piece rule) (word_stands rule)) (subst (λ a. ReadsWords place (in_words c a) ws l o) (sym behind) ds))

  -- the words after a change of size are in that size
  pub resized_due : {u : Unit} {l : Units} {size : TextSize} → word_rule c.alphabet u.piece ≡ IsWord (Resized size) → PartMade (words place c K) (Read ws (Next u l)) → PartMade (words place (in_size c size) (λ o. K (as_resized size c (with_accent_ended ws).elements o))) (Read no_words l)
  resized_due rule k (Read vs m) d = k _ (words_resized (ap size_after rule) d)
  resized_due rule k (Refused r) d = k _ (words_resized_refused (ap size_after rule) d)
