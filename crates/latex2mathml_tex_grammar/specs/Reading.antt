-- Reading: the outcome of units, which is atoms or a refusal. The table of rules says what each unit begins; the relations
-- here say how rules are read, and they are the same for every rule. White space in formulas is ignored.
use Rattle.std.specs.Prelude.{◌≡◌, ℕ, Bool, true, false, IsTrue, IsFalse, List, [], ◌∷◌, length, Option, Some, None}
use Rattle.latex2mathml_elements.specs.{Columns.Columns, Element.Element}
use Rattle.latex2mathml_tex_grammar.specs.{Atoms.Atom, Atoms.Before, Delimiters.delimiter_of, Rows.Row, Rows.empty_row, Rows.lone, Rows.row_element, Rows.with_atom, Rows.Operand, Rows.operand_of, Rows.single}
use Rattle.latex2mathml_tex_grammar.specs.Makes.{Core, core, number, divider, Scripts, no_scripts, scripted}
use Rattle.latex2mathml_tex_grammar.specs.{Meaning.Beside, Meaning.Change, Next.past_space, Next.next_are, Next.follows, Next.digits_next, Next.refusal_here}
use Rattle.latex2mathml_tex_grammar.specs.Ligatures.{joined, ligature_start}
use Rattle.latex2mathml_tex_grammar.specs.Diagrams.{arrow_of, before_arrow, fills_cell, sign_of_arrow}
use Rattle.latex2mathml_tex_grammar.specs.{RowGaps.gap_at, RowLines.line_next, RowLines.lined}
use Rattle.latex2mathml_tex_grammar.specs.Refusal.{Kind, MissingArgument, UnclosedBrace, MissingDelimiter, IncompleteArrow, Refusal, refusal_at}
use Rattle.latex2mathml_tex_grammar.specs.Rests.{GoesOnIn, NoRest, finished, rest_of, with_resized}
use Rattle.latex2mathml_tex_grammar.specs.Rules.{Context, formula_in_words, in_size, in_words, styled, Ending, InBraces, InDollars, begun, Rule, gives, refuses, reads_operand, reads_core, reads_atoms, reads_words, takes_if, if_follows, takes_digits, takes_delimiter, rule, arrow_rule, TableEnd, InCell, takes_found, passes_over, reads_rows}
use Rattle.latex2mathml_tex_grammar.specs.Starts.{DividerStart, ScriptStart, RuleStart, ChangeStart, NoStart, GroupStart, DigitStart, OtherStart, atom_start, operand_start, mark_of, GoesOn, TakesOperand, Forbidden, step_of_mark, step_next, empty_base, ends, unended, is_close, left_behind, PartsCells, BeginsArrow, EndsRow, EndsTable, cell_end}
use Rattle.latex2mathml_tex_grammar.specs.Scanning.{Spot, BeforeRow, Given, Missing, scan, past, past_break, past_gap}
use Rattle.latex2mathml_tex_grammar.specs.Symbols.{InScript, Alphabet, TextSize}
use Rattle.latex2mathml_tex_grammar.specs.{Tables.Lines, Tables.begun_cell, Tables.cell_of, Tables.a_row, Tables.with_last}
use Rattle.latex2mathml_tex_grammar.specs.Units.{Piece, Unit, Units, Next, End, Stop}
use Rattle.latex2mathml_tex_grammar.specs.WordBoxes.{WordBox, box_rule, word_box}
use Rattle.latex2mathml_tex_grammar.specs.Words.{Word, Formula, Words, no_words, with_accent_ended, with_word, IsWord, BeginsGroup, EndsGroup, BeginsFormula, TakesWords, ShowsAtom, NoWord, alphabet_behind, shown_character, size_after, word_rule}

-- what was read, with the units that are left, or the refusal
pub data Outcome (A : Type 0) : Type 0 where
  Read : A → Units → Outcome A
  Refused : Refusal → Outcome A

mutual
  -- the outcome of the parts of a rule
  pub data ReadsRule : Rule → Units → Outcome Core → Type 0 where
    -- nothing more is read
    rule_gives : {x : Core} {l : Units}
        → ReadsRule (gives x) l (Read x l)
    -- the formula is refused here
    rule_refuses : {r : Refusal} {l : Units}
        → ReadsRule (refuses r) l (Refused r)
    -- the operand is read, then what follows it
    operand_read : {place : ℕ} {c : Context} {then : Operand → Rule} {l m : Units} {x : Operand} {o : Outcome Core}
        → ReadsOperand place c l (Read x m)
        → ReadsRule (then x) m o
        → ReadsRule (reads_operand place c then) l o
    operand_refused : {place : ℕ} {c : Context} {then : Operand → Rule} {l : Units} {r : Refusal}
        → ReadsOperand place c l (Refused r)
        → ReadsRule (reads_operand place c then) l (Refused r)
    -- an atom without scripts is read, then what follows it
    core_read : {place : ℕ} {c : Context} {then : Core → Rule} {l m n : Units} {u : Unit} {x : Core} {o : Outcome Core}
        → past_space l ≡ Next u m
        → ReadsRule (rule u.place c u.piece) m (Read x n)
        → ReadsRule (then x) n o
        → ReadsRule (reads_core place c then) l o
    core_refused : {place : ℕ} {c : Context} {then : Core → Rule} {l m : Units} {u : Unit} {r : Refusal}
        → past_space l ≡ Next u m
        → ReadsRule (rule u.place c u.piece) m (Refused r)
        → ReadsRule (reads_core place c then) l (Refused r)
    core_missing : {place at : ℕ} {c : Context} {then : Core → Rule} {l : Units}
        → past_space l ≡ End at
        → ReadsRule (reads_core place c then) l (Refused (refusal_at MissingArgument place))
    core_stopped : {place : ℕ} {c : Context} {then : Core → Rule} {l : Units} {r : Refusal}
        → past_space l ≡ Stop r
        → ReadsRule (reads_core place c then) l (Refused r)
    -- the atoms are read up to their ending, then what follows them
    atoms_read : {ending : Ending} {c : Context} {then : Row → Rule} {l m : Units} {row : Row} {o : Outcome Core}
        → ReadsAtoms ending c (begun ending) l (Read row m)
        → ReadsRule (then row) m o
        → ReadsRule (reads_atoms ending c then) l o
    atoms_refused : {ending : Ending} {c : Context} {then : Row → Rule} {l : Units} {r : Refusal}
        → ReadsAtoms ending c (begun ending) l (Refused r)
        → ReadsRule (reads_atoms ending c then) l (Refused r)
    -- the words are read, then what follows them. White space before the words is ignored.
    words_read : {place : ℕ} {c : Context} {then : Words → Rule} {l m : Units} {ws : Words} {o : Outcome Core}
        → ReadsWord place c no_words (past_space l) (Read ws m)
        → ReadsRule (then ws) m o
        → ReadsRule (reads_words place c then) l o
    words_refused : {place : ℕ} {c : Context} {then : Words → Rule} {l : Units} {r : Refusal}
        → ReadsWord place c no_words (past_space l) (Refused r)
        → ReadsRule (reads_words place c then) l (Refused r)
    -- the units come next, and the first rule goes on after them
    units_taken : {tests : List (Piece → Option (List ℕ))} {then : List ℕ → Rule} {otherwise : Rule} {l m : Units} {texts : List ℕ} {o : Outcome Core}
        → next_are tests l ≡ Some (texts, m)
        → ReadsRule (then texts) m o
        → ReadsRule (takes_if tests then otherwise) l o
    -- they do not come next, and the second rule goes on
    units_missing : {tests : List (Piece → Option (List ℕ))} {then : List ℕ → Rule} {otherwise : Rule} {l : Units} {o : Outcome Core}
        → next_are tests l ≡ None
        → ReadsRule otherwise l o
        → ReadsRule (takes_if tests then otherwise) l o
    -- a unit that passes the test comes next, and the first rule goes on
    unit_follows : {test : Piece → Bool} {then otherwise : Rule} {l : Units} {o : Outcome Core}
        → follows test l ≡ true
        → ReadsRule then l o
        → ReadsRule (if_follows test then otherwise) l o
    -- no such unit comes next, and the second rule goes on
    no_unit_follows : {test : Piece → Bool} {then otherwise : Rule} {l : Units} {o : Outcome Core}
        → follows test l ≡ false
        → ReadsRule otherwise l o
        → ReadsRule (if_follows test then otherwise) l o
    -- the digits that come next are taken
    digits_taken : {then : List ℕ → Rule} {l : Units} {o : Outcome Core}
        → ReadsRule (then (digits_next l).0) (digits_next l).1 o
        → ReadsRule (takes_digits then) l o
    -- a delimiter comes next, and is taken
    delimiter_taken : {then : List ℕ → Rule} {l m : Units} {sign_text : List ℕ} {o : Outcome Core}
        → next_are (delimiter_of ∷ []) l ≡ Some (sign_text, m)
        → ReadsRule (then sign_text) m o
        → ReadsRule (takes_delimiter then) l o
    delimiter_missing : {then : List ℕ → Rule} {l : Units}
        → next_are (delimiter_of ∷ []) l ≡ None
        → ReadsRule (takes_delimiter then) l (Refused (refusal_here MissingDelimiter (past_space l)))
    -- what is to be found comes next, and is taken
    found_taken : {spot : Spot} {place : ℕ} {then : List ℕ → Rule} {l m : Units} {text : List ℕ} {o : Outcome Core}
        → scan place l spot ≡ Given text m
        → ReadsRule (then text) m o
        → ReadsRule (takes_found spot place then) l o
    found_refused : {spot : Spot} {place : ℕ} {then : List ℕ → Rule} {l : Units} {r : Refusal}
        → scan place l spot ≡ Missing r
        → ReadsRule (takes_found spot place then) l (Refused r)
    -- what is found is ignored, and the rule goes on after it
    passed_over : {spot : Spot} {then : Rule} {l : Units} {o : Outcome Core}
        → ReadsRule then (past spot l) o
        → ReadsRule (passes_over spot then) l o
    -- the rows, and a line before them, are read up to their end, which is taken, then what follows it
    rows_read : {end : TableEnd} {place : ℕ} {columns : Columns} {c : Context} {then : Lines → ℕ → Rule} {l m n : Units} {u : Unit} {lines : Lines} {o : Outcome Core}
        → ReadsRows end place columns c (lined (line_next l) []) [] (past BeforeRow l) (Read lines m)
        → past_space m ≡ Next u n
        → ReadsRule (then lines u.place) n o
        → ReadsRule (reads_rows end place columns c then) l o
    -- rows that are a whole text end with the text
    rows_to_end : {end : TableEnd} {place at : ℕ} {columns : Columns} {c : Context} {then : Lines → ℕ → Rule} {l m : Units} {lines : Lines} {o : Outcome Core}
        → ReadsRows end place columns c (lined (line_next l) []) [] (past BeforeRow l) (Read lines m)
        → past_space m ≡ End at
        → ReadsRule (then lines at) (End at) o
        → ReadsRule (reads_rows end place columns c then) l o
    rows_refused : {end : TableEnd} {place : ℕ} {columns : Columns} {c : Context} {then : Lines → ℕ → Rule} {l : Units} {r : Refusal}
        → ReadsRows end place columns c (lined (line_next l) []) [] (past BeforeRow l) (Refused r)
        → ReadsRule (reads_rows end place columns c then) l (Refused r)

  -- the outcome of an operand, which is a group, one digit, or an atom without scripts; the place is that of what takes it
  pub data ReadsOperand : ℕ → Context → Units → Outcome Operand → Type 0 where
    group_operand : {place : ℕ} {c : Context} {l m n : Units} {u : Unit} {row : Row}
        → past_space l ≡ Next u m
        → operand_start u.piece ≡ GroupStart
        → ReadsAtoms (InBraces u.place) c empty_row m (Read row n)
        → ReadsOperand place c l (Read (operand_of row) n)
    group_refused : {place : ℕ} {c : Context} {l m : Units} {u : Unit} {r : Refusal}
        → past_space l ≡ Next u m
        → operand_start u.piece ≡ GroupStart
        → ReadsAtoms (InBraces u.place) c empty_row m (Refused r)
        → ReadsOperand place c l (Refused r)
    digit_operand : {place : ℕ} {c : Context} {l m : Units} {u : Unit} {digit : List ℕ}
        → past_space l ≡ Next u m
        → operand_start u.piece ≡ DigitStart digit
        → ReadsOperand place c l (Read (single c.style (number c.alphabet digit)) m)
    other_operand : {place : ℕ} {c : Context} {l m n : Units} {u : Unit} {x : Core}
        → past_space l ≡ Next u m
        → operand_start u.piece ≡ OtherStart
        → ReadsRule (rule u.place c u.piece) m (Read x n)
        → ReadsOperand place c l (Read (single c.style x.atom) n)
    other_refused : {place : ℕ} {c : Context} {l m : Units} {u : Unit} {r : Refusal}
        → past_space l ≡ Next u m
        → operand_start u.piece ≡ OtherStart
        → ReadsRule (rule u.place c u.piece) m (Refused r)
        → ReadsOperand place c l (Refused r)
    no_operand : {place : ℕ} {c : Context} {l m : Units} {u : Unit}
        → past_space l ≡ Next u m
        → operand_start u.piece ≡ NoStart
        → ReadsOperand place c l (Refused (refusal_at MissingArgument place))
    operand_at_end : {place at : ℕ} {c : Context} {l : Units}
        → past_space l ≡ End at
        → ReadsOperand place c l (Refused (refusal_at MissingArgument place))
    operand_stopped : {place : ℕ} {c : Context} {l : Units} {r : Refusal}
        → past_space l ≡ Stop r
        → ReadsOperand place c l (Refused r)

  -- the outcome of an atom after what precedes it, with these scripts and what follows them
  pub data ReadsScripts : Context → Before → Atom → Scripts → Units → Outcome Atom → Type 0 where
    -- no mark comes next
    scripts_end : {c : Context} {before : Before} {base : Atom} {scripts : Scripts} {l : Units}
        → step_next scripts (past_space l) ≡ None
        → ReadsScripts c before base scripts l (Read (scripted c.style before base scripts) l)
    -- a mark, and those after it
    mark_taken : {c : Context} {before : Before} {base : Atom} {scripts more : Scripts} {l m : Units} {u : Unit} {o : Outcome Atom}
        → past_space l ≡ Next u m
        → step_of_mark scripts (mark_of u.piece) ≡ Some (GoesOn more)
        → ReadsScripts c before base more m o
        → ReadsScripts c before base scripts l o
    -- a mark with its operand, and those after it
    script_read : {c : Context} {before : Before} {base : Atom} {scripts : Scripts} {with_operand : Operand → Scripts} {l m n : Units} {u : Unit} {x : Operand} {o : Outcome Atom}
        → past_space l ≡ Next u m
        → step_of_mark scripts (mark_of u.piece) ≡ Some (TakesOperand with_operand)
        → ReadsOperand u.place (styled c InScript) m (Read x n)
        → ReadsScripts c before base (with_operand x) n o
        → ReadsScripts c before base scripts l o
    script_refused : {c : Context} {before : Before} {base : Atom} {scripts : Scripts} {with_operand : Operand → Scripts} {l m : Units} {u : Unit} {r : Refusal}
        → past_space l ≡ Next u m
        → step_of_mark scripts (mark_of u.piece) ≡ Some (TakesOperand with_operand)
        → ReadsOperand u.place (styled c InScript) m (Refused r)
        → ReadsScripts c before base scripts l (Refused r)
    -- a second script, or limits of what is not an operator
    mark_refused : {c : Context} {before : Before} {base : Atom} {scripts : Scripts} {kind : Kind} {l m : Units} {u : Unit}
        → past_space l ≡ Next u m
        → step_of_mark scripts (mark_of u.piece) ≡ Some (Forbidden kind)
        → ReadsScripts c before base scripts l (Refused (refusal_at kind u.place))

  -- the outcome of the atom that this unit begins after what precedes it, followed by these units
  pub data ReadsAtom : Ending → Context → Before → Unit → Units → Outcome Atom → Type 0 where
    divider_read : {ending : Ending} {c : Context} {before : Before} {u : Unit} {l m : Units} {x : Core}
        → atom_start ending u.piece ≡ DividerStart
        → ReadsRule (takes_delimiter (λ sign_text. gives (core (divider sign_text)))) l (Read x m)
        → ReadsAtom ending c before u l (Read x.atom m)
    divider_refused : {ending : Ending} {c : Context} {before : Before} {u : Unit} {l : Units} {r : Refusal}
        → atom_start ending u.piece ≡ DividerStart
        → ReadsRule (takes_delimiter (λ sign_text. gives (core (divider sign_text)))) l (Refused r)
        → ReadsAtom ending c before u l (Refused r)
    on_empty_row : {ending : Ending} {c : Context} {before : Before} {u : Unit} {l : Units} {o : Outcome Atom}
        → atom_start ending u.piece ≡ ScriptStart
        → ReadsScripts c before empty_base (no_scripts empty_base.kind Beside) (Next u l) o
        → ReadsAtom ending c before u l o
    base_read : {ending : Ending} {c : Context} {before : Before} {u : Unit} {l m : Units} {x : Core} {o : Outcome Atom}
        → atom_start ending u.piece ≡ RuleStart
        → ReadsRule (rule u.place c u.piece) l (Read x m)
        → ReadsScripts c before x.atom (no_scripts x.atom.kind x.limits) m o
        → ReadsAtom ending c before u l o
    base_refused : {ending : Ending} {c : Context} {before : Before} {u : Unit} {l : Units} {r : Refusal}
        → atom_start ending u.piece ≡ RuleStart
        → ReadsRule (rule u.place c u.piece) l (Refused r)
        → ReadsAtom ending c before u l (Refused r)

  -- the outcome of a row with the atoms that follow, up to their ending, which is taken unless it ends a cell
  pub data ReadsAtoms : Ending → Context → Row → Units → Outcome Row → Type 0 where
    -- a formula that is the whole text ends with it, and so do its rows
    text_ends : {ending : Ending} {c : Context} {row : Row} {l : Units} {at : ℕ}
        → past_space l ≡ End at
        → unended ending ≡ None
        → ReadsAtoms ending c row l (Read (finished c.style row) (End at))
    never_ended : {ending : Ending} {c : Context} {row : Row} {l : Units} {at : ℕ} {r : Refusal}
        → past_space l ≡ End at
        → unended ending ≡ Some r
        → ReadsAtoms ending c row l (Refused r)
    atoms_stopped : {ending : Ending} {c : Context} {row : Row} {l : Units} {r : Refusal}
        → past_space l ≡ Stop r
        → ReadsAtoms ending c row l (Refused r)
    atoms_end : {ending : Ending} {c : Context} {row : Row} {l m : Units} {u : Unit}
        → past_space l ≡ Next u m
        → IsTrue (ends ending u.piece)
        → ReadsAtoms ending c row l (Read (finished c.style row) (left_behind ending u m))
    -- an atom, and the atoms after it
    atom_read : {ending : Ending} {c : Context} {row : Row} {l m n : Units} {u : Unit} {x : Atom} {o : Outcome Row}
        → past_space l ≡ Next u m
        → IsFalse (ends ending u.piece)
        → ReadsAtom ending c row.before u m (Read x n)
        → ReadsAtoms ending c (with_atom c.style row x) n o
        → ReadsAtoms ending c row l o
    atom_refused : {ending : Ending} {c : Context} {row : Row} {l m : Units} {u : Unit} {r : Refusal}
        → past_space l ≡ Next u m
        → IsFalse (ends ending u.piece)
        → ReadsAtom ending c row.before u m (Refused r)
        → ReadsAtoms ending c row l (Refused r)
    -- a change, and what follows it
    rest_read : {ending : Ending} {c d : Context} {row xs : Row} {change : Change} {l m n : Units} {u : Unit} {o : Outcome Row}
        → past_space l ≡ Next u m
        → IsFalse (ends ending u.piece)
        → atom_start ending u.piece ≡ ChangeStart change
        → rest_of change c row u.place m ≡ GoesOnIn d xs n
        → ReadsAtoms ending d xs n o
        → ReadsAtoms ending c row l o
    change_refused : {ending : Ending} {c : Context} {row : Row} {change : Change} {r : Refusal} {l m : Units} {u : Unit}
        → past_space l ≡ Next u m
        → IsFalse (ends ending u.piece)
        → atom_start ending u.piece ≡ ChangeStart change
        → rest_of change c row u.place m ≡ NoRest r
        → ReadsAtoms ending c row l (Refused r)

  -- the outcome of a table with these rows and these cells of the next row, and with those that follow, up to its end, which
  -- is not taken
  pub data ReadsRows : TableEnd → ℕ → Columns → Context → List Element → List Element → Units → Outcome Lines → Type 0 where
    cell_read : {end : TableEnd} {place : ℕ} {columns : Columns} {c : Context} {rows cells : List Element} {l m : Units} {row : Row} {o : Outcome Lines}
        → ReadsAtoms (InCell end place) c (begun_cell columns (length cells)) l (Read row m)
        → ReadsBehindCell end place columns c rows cells (cell_of row) m o
        → ReadsRows end place columns c rows cells l o
    cell_refused : {end : TableEnd} {place : ℕ} {columns : Columns} {c : Context} {rows cells : List Element} {l : Units} {r : Refusal}
        → ReadsAtoms (InCell end place) c (begun_cell columns (length cells)) l (Refused r)
        → ReadsRows end place columns c rows cells l (Refused r)

  -- the outcome of a table after one more cell, of these elements
  pub data ReadsBehindCell : TableEnd → ℕ → Columns → Context → List Element → List Element → List Element → Units → Outcome Lines → Type 0 where
    next_cell : {end : TableEnd} {place : ℕ} {columns : Columns} {c : Context} {rows cells cell : List Element} {l m : Units} {u : Unit} {o : Outcome Lines}
        → past_space l ≡ Next u m
        → cell_end u.piece ≡ PartsCells
        → ReadsRows end place columns c rows (row_element cell ∷ cells) m o
        → ReadsBehindCell end place columns c rows cells cell l o
    -- an arrow, which is a cell, and the cells after it
    arrow_read : {end : TableEnd} {place : ℕ} {columns : Columns} {c : Context} {rows cells cell : List Element} {l m k n : Units} {u : Unit} {sign : List ℕ} {x : Core} {o : Outcome Lines}
        → past_space l ≡ Next u m
        → cell_end u.piece ≡ BeginsArrow
        → next_are (sign_of_arrow ∷ []) m ≡ Some (sign, k)
        → ReadsRule (arrow_rule u.place c (arrow_of sign)) k (Read x n)
        → ReadsRows end place columns c rows (x.atom.element ∷ before_arrow (fills_cell (arrow_of sign) (length cells) cell) cell cells) n o
        → ReadsBehindCell end place columns c rows cells cell l o
    arrow_refused : {end : TableEnd} {place : ℕ} {columns : Columns} {c : Context} {rows cells cell : List Element} {l m k : Units} {u : Unit} {sign : List ℕ} {r : Refusal}
        → past_space l ≡ Next u m
        → cell_end u.piece ≡ BeginsArrow
        → next_are (sign_of_arrow ∷ []) m ≡ Some (sign, k)
        → ReadsRule (arrow_rule u.place c (arrow_of sign)) k (Refused r)
        → ReadsBehindCell end place columns c rows cells cell l (Refused r)
    no_arrow : {end : TableEnd} {place : ℕ} {columns : Columns} {c : Context} {rows cells cell : List Element} {l m : Units} {u : Unit}
        → past_space l ≡ Next u m
        → cell_end u.piece ≡ BeginsArrow
        → next_are (sign_of_arrow ∷ []) m ≡ None
        → ReadsBehindCell end place columns c rows cells cell l (Refused (refusal_at IncompleteArrow u.place))
    -- a row of these cells, with the space below it, and the line and the rows after it
    next_row : {end : TableEnd} {place : ℕ} {columns : Columns} {c : Context} {rows cells cell : List Element} {l m : Units} {u : Unit} {o : Outcome Lines}
        → past_space l ≡ Next u m
        → cell_end u.piece ≡ EndsRow
        → ReadsRows end place columns c (lined (line_next (past_gap m)) (a_row columns (gap_at m) (row_element cell) cells ∷ rows)) [] (past_break m) o
        → ReadsBehindCell end place columns c rows cells cell l o
    -- the end of the table is not taken
    table_ends : {end : TableEnd} {place : ℕ} {columns : Columns} {c : Context} {rows cells cell : List Element} {l m : Units} {u : Unit}
        → past_space l ≡ Next u m
        → cell_end u.piece ≡ EndsTable
        → ReadsBehindCell end place columns c rows cells cell l (Read (with_last columns rows cells cell) l)
    -- neither is the end of the text; only the cells of rows that are a whole text can end with it
    text_ends_table : {end : TableEnd} {place at : ℕ} {columns : Columns} {c : Context} {rows cells cell : List Element} {l : Units}
        → past_space l ≡ End at
        → ReadsBehindCell end place columns c rows cells cell l (Read (with_last columns rows cells cell) l)

  -- the outcome of words with one more part; the place is that of what takes the part. White space counts.
  pub data ReadsWord : ℕ → Context → Words → Units → Outcome Words → Type 0 where
    word_stands : {place : ℕ} {c : Context} {ws : Words} {l : Units} {u : Unit} {w : Word}
        → word_rule c.alphabet u.piece ≡ IsWord w
        → ReadsWord place c ws (Next u l) (Read (with_word ws w) l)
    group_of_words : {place : ℕ} {c : Context} {ws : Words} {l : Units} {u : Unit} {o : Outcome Words}
        → word_rule c.alphabet u.piece ≡ BeginsGroup
        → ReadsWords u.place c ws l o
        → ReadsWord place c ws (Next u l) o
    formula_read : {place : ℕ} {c : Context} {ws : Words} {l m : Units} {u : Unit} {row : Row}
        → word_rule c.alphabet u.piece ≡ BeginsFormula
        → ReadsAtoms (InDollars u.place) (formula_in_words c) (begun (InDollars u.place)) l (Read row m)
        → ReadsWord place c ws (Next u l) (Read (with_word ws (Formula (row_element (lone row.last row.elements)))) m)
    formula_refused : {place : ℕ} {c : Context} {ws : Words} {l : Units} {u : Unit} {r : Refusal}
        → word_rule c.alphabet u.piece ≡ BeginsFormula
        → ReadsAtoms (InDollars u.place) (formula_in_words c) (begun (InDollars u.place)) l (Refused r)
        → ReadsWord place c ws (Next u l) (Refused r)
    words_in_alphabet : {place : ℕ} {c : Context} {a : Option Alphabet} {ws : Words} {l : Units} {u : Unit} {o : Outcome Words}
        → word_rule c.alphabet u.piece ≡ TakesWords a
        → ReadsWord u.place (in_words c a) ws (past_space l) o
        → ReadsWord place c ws (Next u l) o
    -- an atom that takes lengths, as in a formula
    atom_in_words : {place : ℕ} {c : Context} {ws : Words} {l m : Units} {u : Unit} {x : Core}
        → word_rule c.alphabet u.piece ≡ ShowsAtom
        → ReadsRule (rule u.place c u.piece) l (Read x m)
        → ReadsWord place c ws (Next u l) (Read (with_word ws (Formula x.atom.element)) m)
    atom_refused_in_words : {place : ℕ} {c : Context} {ws : Words} {l : Units} {u : Unit} {r : Refusal}
        → word_rule c.alphabet u.piece ≡ ShowsAtom
        → ReadsRule (rule u.place c u.piece) l (Refused r)
        → ReadsWord place c ws (Next u l) (Refused r)
    no_word : {place : ℕ} {c : Context} {ws : Words} {l : Units} {u : Unit} {kind : Kind}
        → word_rule c.alphabet u.piece ≡ NoWord kind
        → ReadsWord place c ws (Next u l) (Refused (refusal_at kind u.place))
    word_missing : {place : ℕ} {c : Context} {ws : Words} {l : Units} {u : Unit}
        → word_rule c.alphabet u.piece ≡ EndsGroup
        → ReadsWord place c ws (Next u l) (Refused (refusal_at MissingArgument place))
    word_at_end : {place at : ℕ} {c : Context} {ws : Words}
        → ReadsWord place c ws (End at) (Refused (refusal_at MissingArgument place))
    word_stopped : {place : ℕ} {c : Context} {ws : Words} {r : Refusal}
        → ReadsWord place c ws (Stop r) (Refused r)

  -- the outcome of words in braces with one more part, which may be a box
  pub data ReadsPart : ℕ → Context → Words → Units → Outcome Words → Type 0 where
    part_of_words : {place : ℕ} {c : Context} {ws : Words} {l : Units} {u : Unit} {o : Outcome Words}
        → word_box u.piece ≡ None
        → ReadsWord place c ws (Next u l) o
        → ReadsPart place c ws (Next u l) o
    box_in_words : {place : ℕ} {c : Context} {ws : Words} {l m : Units} {u : Unit} {box : WordBox} {x : Core}
        → word_box u.piece ≡ Some box
        → ReadsRule (box_rule u.place c box) l (Read x m)
        → ReadsPart place c ws (Next u l) (Read (with_word ws (Formula x.atom.element)) m)
    box_refused_in_words : {place : ℕ} {c : Context} {ws : Words} {l : Units} {u : Unit} {box : WordBox} {r : Refusal}
        → word_box u.piece ≡ Some box
        → ReadsRule (box_rule u.place c box) l (Refused r)
        → ReadsPart place c ws (Next u l) (Refused r)

  -- the outcome of words with those that follow, up to their brace, which is taken; the place is where they begin
  pub data ReadsWords : ℕ → Context → Words → Units → Outcome Words → Type 0 where
    words_end : {place : ℕ} {c : Context} {ws : Words} {l : Units} {u : Unit}
        → IsTrue (is_close u.piece)
        → ReadsWords place c ws (Next u l) (Read (with_accent_ended ws) l)
    words_never_ended : {place at : ℕ} {c : Context} {ws : Words}
        → ReadsWords place c ws (End at) (Refused (refusal_at UnclosedBrace place))
    words_stopped : {place : ℕ} {c : Context} {ws : Words} {r : Refusal}
        → ReadsWords place c ws (Stop r) (Refused r)
    -- a part, and the words after it
    word_read : {place : ℕ} {c : Context} {ws vs : Words} {l m : Units} {u : Unit} {o : Outcome Words}
        → IsFalse (is_close u.piece)
        → size_after (word_rule c.alphabet u.piece) ≡ None
        → ligature_start ws.accent c.alphabet u.piece ≡ None
        → ReadsPart place c ws (Next u l) (Read vs m)
        → ReadsWords place (in_words c (alphabet_behind c.alphabet u.piece)) vs m o
        → ReadsWords place c ws (Next u l) o
    word_refused : {place : ℕ} {c : Context} {ws : Words} {l : Units} {u : Unit} {r : Refusal}
        → IsFalse (is_close u.piece)
        → size_after (word_rule c.alphabet u.piece) ≡ None
        → ligature_start ws.accent c.alphabet u.piece ≡ None
        → ReadsPart place c ws (Next u l) (Refused r)
        → ReadsWords place c ws (Next u l) (Refused r)
    -- a character with those that join it, and the words after them
    ligature_read : {place : ℕ} {c : Context} {ws : Words} {l : Units} {u : Unit} {first : ℕ} {o : Outcome Words}
        → ligature_start ws.accent c.alphabet u.piece ≡ Some first
        → ReadsWords place c (with_word ws (shown_character c.alphabet (joined first l).0)) (joined first l).1 o
        → ReadsWords place c ws (Next u l) o
    -- a change of size, and the words after it
    words_resized : {place : ℕ} {c : Context} {ws vs : Words} {l m : Units} {u : Unit} {size : TextSize}
        → size_after (word_rule c.alphabet u.piece) ≡ Some size
        → ReadsWords place (in_size c size) no_words l (Read vs m)
        → ReadsWords place c ws (Next u l) (Read (with_resized size c (with_accent_ended ws).elements vs.elements) m)
    words_resized_refused : {place : ℕ} {c : Context} {ws : Words} {l : Units} {u : Unit} {size : TextSize} {r : Refusal}
        → size_after (word_rule c.alphabet u.piece) ≡ Some size
        → ReadsWords place (in_size c size) no_words l (Refused r)
        → ReadsWords place c ws (Next u l) (Refused r)
