-- What the parser's frames mean: each is a level that was entered. A frame holds no elements: those that were read for it are
-- the first of the elements that are given next to it, the uppermost first.
use Rattle.std.specs.Prelude.{◌≡◌, ℕ, zero, suc, ◌+◌, IsFalse, List, [], ◌∷◌, drop, reverse, take, option_map, Some}
use Rattle.latex2mathml_elements.specs.{Attributes.Above, Attributes.plain, Element.Element, Element.Mover, Element.Munderover, Element.pair, Element.triple}
use Rattle.latex2mathml_attributes.specs.Names.{side_of, stretch_of}
use Rattle.latex2mathml_tex_grammar.specs.Makes as makes
use Rattle.latex2mathml_tex_grammar.specs.Heights.{Height, Tall}
use Rattle.latex2mathml_tex_grammar.specs.Makes.{Core, braced, core, group, classed, operator_name, accent, brace, stack, stacked_relation, fraction, outlined_fraction, square_root, root, between_delimiters, struck, boxed_atom, choice, arrow_label}
use Rattle.latex2mathml_tex_grammar.specs.Reading.{Outcome, Read, Refused, ReadsAtoms, ReadsRule}
use Rattle.latex2mathml_tex_grammar.specs.{Formulas.alone, Formulas.formula_context, Atoms.Before, Atoms.Nothing, Atoms.Plain, Atoms.atom, Symbols.Style, Symbols.InScript, Symbols.InText, Symbols.Relation, Units.Units, Symbols.Ordinary}
use Rattle.latex2mathml_tex_grammar.specs.Rows.{Operand, Row, as_base, row_element}
use Rattle.latex2mathml_tex_grammar.specs.Rules as rules
use Rattle.latex2mathml_tex_grammar.specs.Separators.{text_columns}
use Rattle.latex2mathml_tex_grammar.specs.Rules.{Context, begun, Rule, gives, of_one, of_two, a_label, after_label, reads_operand, rows_of_text, slashed, struck_atom, takes_delimiter, WholeText, InBraces, InBrackets, InDollars, InDelimiters, InCell, InLabel}
use Rattle.latex2mathml_tex_grammar.specs.Words.{words_atom}
use Rattle.latex2mathml_tex.specs.Levels.{AtomMade, as_atom_in_words, as_operand, as_resized, as_words, CoreMade, Level, OperandMade, PartMade, ScriptsLead, Then}
use Rattle.latex2mathml_tex.specs.Levels as level
use Rattle.latex2mathml_tex_commands.specs.Meanings.{box_of, class_of, fraction_rule_of, limit_place_of, style_of, text_size_of}
use Rattle.latex2mathml_tex_atoms.specs.Models.{context_of, core_with, has_script, operand_with, row_count, row_with, script_count, scripts_with, top}
use Rattle.latex2mathml_tex_atoms.specs.Outlines.{outline_of}
use Rattle.latex2mathml_tex.specs.Tables.{ArrowMade, TableMade, cells_of, rows_of, table_end, table_of}
use Rattle.latex2mathml_tex_grammar.specs.Diagrams.{Direction, first_label, joined_arrow}
use Rattle.latex2mathml_tex_commands.specs.Diagrams.{direction_of}
use Rattle.latex2mathml_tex_commands.specs.Delimiters.{delimiter_text}
use Rattle.latex2mathml_tex_atoms.specs.declared.atoms.{Core.Core as CodeCore, Operand.Operand as CodeOperand, Scripts.Scripts}
use Rattle.latex2mathml_tex.specs.declared.parse.Form.{Form}
use Rattle.latex2mathml_tex.specs.declared.parse.Form.TheVariants as form
use Rattle.latex2mathml_tex.specs.declared.parse.endings.{Ending.Ending, Labeled.Labeled}
use Rattle.latex2mathml_tex.specs.declared.parse.frames.{First.First, Frame.Frame, Last.Last}
use Rattle.latex2mathml_tex.specs.declared.parse.endings.Ending.TheVariants as ending
use Rattle.latex2mathml_tex.specs.declared.parse.frames.First.TheVariants as first
use Rattle.latex2mathml_tex.specs.declared.parse.frames.Frame.TheVariants as frame
use Rattle.latex2mathml_tex.specs.declared.parse.frames.Last.TheVariants as last
use Rattle.latex2mathml_attributes.specs.declared.attributes.Side.{Side}
use Rattle.latex2mathml_attributes.specs.declared.attributes.Side.TheVariants as side

-- the outcome of units that are read in this form
abbrev pub ReadsAs : Form → Style → Units → Outcome Row → Type 0
ReadsAs form.Atoms style l = ReadsAtoms WholeText (formula_context style) (begun WholeText) l
ReadsAs form.Rows style l = λ o. (p : Outcome Core) × ReadsRule (rows_of_text (text_columns l) (formula_context style)) l p × (o ≡ alone style p)

-- a formula: its units, its style, and the form that it is read in
pub record Start : Type 0 where
  pub units : Units
  pub style : Style
  pub form : Form

-- the outcome of the whole formula
abbrev pub Whole : Start → Outcome Row → Type 0
Whole s = ReadsAs s.form s.style s.units

-- the level of the whole formula
abbrev pub whole_level : Start → Level
whole_level s = level.row WholeText (formula_context s.style) (begun WholeText) (Whole s)

-- Rows

abbrev pub ending_of : Ending → ℕ → rules.Ending
ending_of ending.Text place = WholeText
ending_of ending.Group place = InBraces place
ending_of ending.Operand place = InBraces place
ending_of ending.Degree place = InBrackets place
ending_of ending.BelowArrow place = InBrackets place
ending_of (ending.Delimiters opening) place = InDelimiters place
ending_of (ending.Formula n) place = InDollars place
ending_of (ending.Cell t) place = InCell (table_end t) place
ending_of (ending.FirstLabel k) place = InLabel (direction_of k.direction) place
ending_of (ending.SecondLabel k) place = InLabel (direction_of k.direction) place

-- the context of what is due at a level
abbrev pub context_at : Level → Context
context_at (level.row e c xs K) = c
context_at (level.operand place c K) = c
context_at (level.core place c K) = c
context_at (level.part K) = formula_context (InText)
context_at (level.words place c K) = formula_context (InText)

-- what precedes what is due at a level, if that is an atom of a row
abbrev pub before_at : Level → Before
before_at (level.row e c xs K) = xs.before
before_at l = Nothing

-- what follows the atoms between delimiters
abbrev pub after_delimiters : List ℕ → Row → Rule
after_delimiters opening row = takes_delimiter (λ closing. gives (between_delimiters opening closing row))

-- an atom of an arrow, the label below it, and what is the label above it
abbrev pub labeled_arrow : Element → Element → Element → Core
labeled_arrow sign label above = core (atom (Plain Relation) Tall (triple Munderover plain sign label (arrow_label above)))

-- what follows the first label of an arrow in a diagram
abbrev pub behind_first_label : Direction → ℕ → Context → Element → Row → Rule
behind_first_label d place around arrow first =
    after_label place d (a_label place around d (λ second. gives (joined_arrow d arrow (first_label d (row_element first.elements)) (row_element second.elements))))

-- where the outcome of such an arrow leads, within this level; these elements are those of its table
abbrev pub LabeledMade : Labeled → List Element → Level → Outcome Core → Type 0
LabeledMade k xs l =
    ArrowMade (table_of k.diagram) k.place (rows_of (table_of k.diagram) xs) (cells_of (table_of k.diagram) xs) (context_at l) (CoreMade l)

-- where the outcome of a row leads, within this level; these elements are below the row's own
abbrev pub RowMade : Start → Ending → ℕ → List Element → Level → Outcome Row → Type 0
RowMade s ending.Text place xs l = Whole s
RowMade s ending.Group place xs l = Then (λ row. gives (core (braced row))) (CoreMade l)
RowMade s ending.Operand place xs l = λ o. OperandMade l (as_operand o)
RowMade s ending.Degree place xs l = Then (λ row. of_one place (context_at l) (root (row_element row.elements))) (CoreMade l)
RowMade s ending.BelowArrow place xs l = Then (λ row. of_one place (rules.styled (context_at l) InScript) (λ x. labeled_arrow (top xs) (arrow_label (row_element row.elements)) x.element)) (CoreMade l)
RowMade s (ending.Delimiters opening) place xs l = Then (after_delimiters (delimiter_text opening)) (CoreMade l)
RowMade s (ending.Formula n) place xs l = λ o. PartMade l (as_words (take n xs) o)
RowMade s (ending.Cell t) place xs l = TableMade t place xs (context_at l) (CoreMade l)
RowMade s (ending.FirstLabel k) place xs l = Then (behind_first_label (direction_of k.direction) place (context_at l) (top xs)) (LabeledMade k (drop 1 xs) l)
RowMade s (ending.SecondLabel k) place xs l = Then (λ row. after_label place (direction_of k.direction) (gives (joined_arrow (direction_of k.direction) (top (drop 1 xs)) (top xs) (row_element row.elements)))) (LabeledMade k (drop 2 xs) l)

-- Operands

-- the first of these elements as an operand
abbrev pub operand_in : CodeOperand → List Element → Operand
operand_in operand xs = operand_with operand (top xs)

-- what the last operand makes; the one before it is the uppermost element here
abbrev pub made_of : Last → List Element → Operand → Core
made_of last.Group xs y = core (group y)
made_of last.SquareRoot xs y = square_root y
made_of last.Root xs y = root (top xs) y
made_of (last.Accent s c w) xs y = accent (side_of s) c (stretch_of w) y
made_of (last.Brace s c) xs y = brace (side_of s) c y.element
made_of (last.OperatorName limits) xs y = operator_name (limit_place_of limits) y
made_of (last.Choice style o) xs y = choice (style_of style) (operand_in o (drop 1 (drop 1 xs))) (operand_in o (drop 1 xs)) (operand_in o xs)
made_of last.Slash xs y = slashed y (struck y.element)
made_of (last.Classed class style) xs y = classed (class_of class) (as_base (style_of style) (class_of class) y)
made_of (last.Boxed b style) xs y = core (boxed_atom (box_of b) (as_base (style_of style) Ordinary y))
made_of (last.Fraction rule own style) xs y = fraction (fraction_rule_of rule) (option_map style_of own) (style_of style) (top xs) y.element
made_of (last.Outlined o style) xs y = outlined_fraction (outline_of o) (style_of style) (top xs) y.element
made_of (last.Stack s style) xs y = stack (side_of s) (Plain y.class) (top xs) (as_base (style_of style) y.class y).element
made_of (last.StackedRelation style) xs y = stack Above (stacked_relation y.class) (top xs) (as_base (style_of style) Relation y).element
made_of last.OverArrow xs y = core (atom (Plain Relation) Tall (pair Mover plain (top xs) (arrow_label y.element)))
made_of last.OverAndUnderArrow xs y = labeled_arrow (top (drop 1 xs)) (top xs) y.element

-- what follows an operand before the last one, which this place takes in this context, at a level of the outer context; the
-- operands before it are the uppermost elements here
abbrev pub after_first : First → ℕ → Context → Context → List Element → Operand → Rule
after_first (first.Fraction rule own style) place c outer xs x =
    of_one place c (λ y. fraction (fraction_rule_of rule) (option_map style_of own) (style_of style) x.element y.element)
after_first (first.Outlined o style) place c outer xs x = of_one place c (λ y. outlined_fraction (outline_of o) (style_of style) x.element y.element)
after_first (first.Stack s) place c outer xs x = of_one place outer (λ y. stack (side_of s) (Plain y.class) x.element (as_base outer.style y.class y).element)
after_first first.StackedRelation place c outer xs x = of_one place outer (λ y. stack Above (stacked_relation y.class) x.element (as_base outer.style Relation y).element)
after_first first.InBlock place c outer xs x = reads_operand place c (λ y. of_two place c c (λ z w. choice c.style x y z))
after_first (first.InLine o) place c outer xs y = of_two place c c (λ z w. choice c.style (operand_in o xs) y z)
after_first (first.InScripts o) place c outer xs z = of_one place c (λ w. choice c.style (operand_in o (drop 1 xs)) (operand_in o xs) z)

-- how many marks of primes are above the other elements of a script that is being read
abbrev pub primes_put : Side → ℕ → ℕ
primes_put side.Below primes = 0
primes_put side.Above zero = 0
primes_put side.Above (suc n) = 1

-- a superscript after the mark of primes, which is uppermost, if there are primes
abbrev pub behind_mark : ℕ → List Element → Element → Element
behind_mark zero xs x = x
behind_mark (suc n) xs x = row_element (x ∷ top xs ∷ [])

-- the scripts with this element of this height on a side
abbrev pub with_script : Side → makes.Scripts → List Element → Element → Height → makes.Scripts
with_script side.Below scripts xs x height = record scripts { below = Some x; height = height }
with_script side.Above scripts xs x height = record scripts { above = Some (behind_mark scripts.primes xs x) }

-- the elements given next to a script's frame, without the mark of primes
abbrev pub past_primes : Side → Scripts → List Element → List Element
past_primes s scripts xs = drop (primes_put s scripts.primes) xs

-- the atom that is the base of scripts
abbrev pub base_of : CodeCore → Scripts → List Element → Core
base_of c scripts xs = core_with c (top (drop (script_count scripts) xs))

-- where the outcome of a script's operand leads; it is read where there is no script on this side
abbrev pub ScriptMade : Level → CodeCore → Scripts → Side → List Element → Outcome Operand → Type 0
ScriptMade l c scripts s xs (Read x m) =
    IsFalse (has_script s scripts)
    × ScriptsLead l (base_of c scripts (past_primes s scripts xs)).atom (with_script s (scripts_with scripts (past_primes s scripts xs)) xs x.element x.height) m
ScriptMade l c scripts s xs (Refused r) = AtomMade l (Refused r)

-- Frames

-- the level within a frame
abbrev pub enter : Start → Frame → List Element → Level → Level
enter s (frame.Row e place c row) xs l = level.row (ending_of e place) (context_of c) (row_with row xs) (RowMade s e place (drop (row_count row) xs) l)
enter s (frame.Last made place c) xs l = level.operand place (context_of c) (Then (λ y. gives (made_of made xs y)) (CoreMade l))
enter s (frame.First one place c) xs l = level.operand place (context_of c) (Then (after_first one place (context_of c) (context_at l) xs) (CoreMade l))
enter s (frame.Negation place c) xs l = level.core place (context_of c) (Then (λ x. struck_atom place x (struck x.atom.element)) (CoreMade l))
enter s (frame.Script base scripts on place c) xs l = level.operand place (context_of c) (ScriptMade l base scripts on xs)
enter s frame.Text xs l = level.part (Then (λ ws. gives (core (words_atom ws))) (CoreMade l))
enter s (frame.Words place c) xs l = level.words place (context_of c) (PartMade l)
enter s (frame.AtomInWords n place c) xs l = level.core place (context_of c) (λ o. PartMade l (as_atom_in_words (take n xs) o))
enter s (frame.Resized n size c) xs l = level.part (λ o. PartMade l (as_resized (text_size_of size) (context_of c) (take n xs) o))

-- how many of the elements given next to a frame belong to it
abbrev pub ending_count : Ending → ℕ
ending_count ending.BelowArrow = 1
ending_count (ending.Formula n) = n
ending_count (ending.Cell t) = t.cells + t.rows
ending_count (ending.FirstLabel k) = 1 + (k.diagram.cells + k.diagram.rows)
ending_count (ending.SecondLabel k) = 2 + (k.diagram.cells + k.diagram.rows)
ending_count e = 0

abbrev pub last_count : Last → ℕ
last_count last.Root = 1
last_count (last.Fraction rule own style) = 1
last_count (last.Outlined o style) = 1
last_count (last.Stack s style) = 1
last_count (last.StackedRelation style) = 1
last_count last.OverArrow = 1
last_count last.OverAndUnderArrow = 2
last_count (last.Choice style o) = 3
last_count l = 0

abbrev pub first_count : First → ℕ
first_count (first.InLine o) = 1
first_count (first.InScripts o) = 2
first_count f = 0

abbrev pub element_count : Frame → ℕ
element_count (frame.Row e place c row) = row_count row + ending_count e
element_count (frame.Last made place c) = last_count made
element_count (frame.First one place c) = first_count one
element_count (frame.Script base scripts on place c) = primes_put on scripts.primes + (script_count scripts + 1)
element_count (frame.Resized n size c) = n
element_count (frame.AtomInWords n place c) = n
element_count f = 0

-- the level inside all frames, the innermost first
abbrev pub inside_all : Start → List Frame → List Element → Level
inside_all s [] xs = whole_level s
inside_all s (f ∷ fs) xs = enter s f xs (inside_all s fs (drop (element_count f) xs))

-- the level inside all frames, the innermost last, as on the stack
abbrev pub inside : Start → List Frame → List Element → Level
inside s fs xs = inside_all s (reverse fs) xs

-- the level within one more frame
abbrev pub within : Start → List Frame → Frame → List Element → Level
within s fs f xs = enter s f xs (inside s fs (drop (element_count f) xs))
