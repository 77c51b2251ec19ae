-- The rules of formulas: what a unit begins, as one table. A rule says what is read, from left to right, and at its end
-- gives an atom or a refusal.
use Rattle.std.specs.Prelude.{ℕ, zero, ℤ, pos, ◌==◌, ◌||◌, Bool, nat_le, length, true, false, List, [], ◌∷◌, ◌++◌, Option, Some, None, if◌then◌else◌}
use Rattle.std.specs.{Char.is_ascii_alphabetic, Char.is_ascii_digit, Str.byte, Str.bytes_eq}
use Rattle.latex2mathml_elements.specs.{Attributes.Above, Columns.Columns, Columns.Centered, Columns.LeftAligned, Columns.RightAligned, Columns.Dense, Columns.Usual, Columns.Alike, Columns.InDiagram, Columns.density_in, Element.Element}
use Rattle.latex2mathml_tex_grammar.specs.{Atoms.After, Atoms.Before, Atoms.Nothing, Atoms.Plain, Atoms.atom, Commands.meaning_of, Commands.symbol_of, Delimiters.delimiter_of, Delimiters.negated_of, Dots.centered_dots, Dots.centers_dots, Dots.closes_dots, Rows.Row, Rows.Operand, Rows.as_base, Rows.empty_row, Rows.row_element}
use Rattle.latex2mathml_tex_grammar.specs.Environments.{Environment, Bracket, NoBracket, Position, Alignment, columns_of, fitted, listed, written_out, environment_of}
use Rattle.latex2mathml_tex_grammar.specs.Heights.{Low}
use Rattle.latex2mathml_tex_grammar.specs.Makes.{Core, core, letter, upright_letter, number, relation, symbol, function_name, spacing, braced, group, classed, no_letters, operator_name, accent, brace, stack, stacked_relation, fraction, square_root, root, between_delimiters, sized, struck, blank, boxed_atom, bar, arrow, Outline, outlined_fraction, choice}
use Rattle.latex2mathml_tex_grammar.specs.Meaning.{Meaning, Shows, FunctionName, Dots, CenteredDots, VerticalDots, Implication, Spacing, Styled, Words as TakesWordsIn, Fraction, Root, Accent, Brace, Stack, StackedRelation, OperatorName, Negation, Slash, Sized, Left, Middle, Right, Limits, NoLimits, Classed, Changes, Beside, ByStyle, FractionRule, BeginTable, EndTable, LineBreak, Substack, Skip, SkipInBraces, Box, Smashed, WithoutHeight, WithoutDepth, Boxed, Smash, Raise, InColor, Highlight, Rectangle, Arrow, Raised, Colored, OnColor, ContinuedFraction, GeneralFraction, Bar, Choice}
use Rattle.latex2mathml_tex_grammar.specs.Refusal.{UnknownCommand, MissingArgument, MissingDelimiter, ChangeAsArgument, UnopenedBrace, RightWithoutLeft, MiddleWithoutLeft, LimitsWithoutOperator, NothingToNegate, OutsideTable, MisplacedCharacter, Refusal, refusal_at, UnknownEnvironment, EndWithoutBegin, OtherName, TooManyColumns, IncompleteArrow, LengthTooLarge, UnknownColor}
use Rattle.latex2mathml_tex_grammar.specs.Scanning.{Spot, Argument, Name, ColumnList, RepeatedColumns, Number, BeforeArgument, BeforeBrace, BeforePosition, AtUnit, BeforeLengthInBraces, BeforeStar, InLength, AtBracket, ColorName, BeforeColor}
use Rattle.latex2mathml_tex_grammar.specs.{Colors.color_of, Lengths.width_of}
use Rattle.latex2mathml_tex_grammar.specs.Diagrams.{Direction, DiagramArrow, Labeled, LongEquals, HighBars, NoArrow, direction_sign, in_diagram, labeled_arrow, long_equals, high_bars}
use Rattle.latex2mathml_elements.specs.Colors.{Color}
use Rattle.latex2mathml_tex_grammar.specs.SpacedSigns.{implication, spaced_dots, vertical_dots}
use Rattle.latex2mathml_tex_grammar.specs.Symbols.{Style, InDisplay, InText, InScript, smaller, TextSize, NormalSize, at_full_size, Alphabet, Named, Opening, Ordinary, Relation, Symbol, Inner, Sign}
use Rattle.latex2mathml_tex_grammar.specs.Tables.{Lines, a_table}
use Rattle.latex2mathml_tex_grammar.specs.Units.{Piece, Space, Open, Close, Command, Character}
use Rattle.latex2mathml_tex_grammar.specs.Words.{Words, formula_alphabet, words_atom}

-- the context in which a unit is read: the style, the alphabet of letters and digits, where there is one, and their size
pub record Context : Type 0 where
  pub style : Style
  pub alphabet : Option Alphabet
  pub size : TextSize

-- a context of letters of the usual size
abbrev pub in_context : Style → Option Alphabet → Context
in_context style alphabet = record { style = style; alphabet = alphabet; size = NormalSize }

-- a context in another style, in another alphabet, and of letters of another size, which are not in the style of a script
abbrev pub styled : Context → Style → Context
styled c style = record c { style = style }

abbrev pub lettered : Context → Alphabet → Context
lettered c alphabet = record c { alphabet = Some alphabet }

abbrev pub in_size : Context → TextSize → Context
in_size c size = record c { style = at_full_size c.style; size = size }

-- the context of words in this alphabet, where there is one
abbrev pub in_words : Context → Option Alphabet → Context
in_words c alphabet = record c { alphabet = alphabet }

-- the context of a formula in words
abbrev pub formula_in_words : Context → Context
formula_in_words c = record c { style = InText; alphabet = formula_alphabet c.alphabet }

-- how a table ends: an environment with `\end`, and so does a diagram, whose cells also end at arrows; rows in braces, each of one
-- cell, with their brace; and rows that are a whole text with the text
pub data TableEnd : Type 0 where
  ByName : TableEnd
  OfDiagram : TableEnd
  ByBrace : TableEnd
  ByText : TableEnd

-- what encloses a sequence of atoms and so ends it, with the place where that begins
pub data Ending : Type 0 where
  WholeText : Ending
  InBraces : ℕ → Ending
  InBrackets : ℕ → Ending
  InDollars : ℕ → Ending
  -- up to the `\right` of a `\left`
  InDelimiters : ℕ → Ending
  -- in a cell of a table: up to what ends the cell
  InCell : TableEnd → ℕ → Ending
  -- in a label of an arrow: up to the sign of the arrow, or what ends the cells of its diagram
  InLabel : Direction → ℕ → Ending

-- What precedes the first atom of a row with this ending. A formula begins as if after an opening sign. A group may be one sign,
-- which keeps its space as an operand.
abbrev pub before_first : Ending → Before
before_first WholeText = After Opening
before_first (InDollars place) = After Opening
before_first (InDelimiters place) = After Opening
before_first ending = Nothing

-- a row with this ending before its first atom
abbrev pub begun : Ending → Row
begun ending = record empty_row { before = before_first ending }

-- what a command or character reads next, and what it then makes
pub data Rule : Type 0 where
  -- nothing more is read, and this is the atom
  gives : Core → Rule
  -- nothing more is read, and the formula is refused
  refuses : Refusal → Rule
  -- an operand in a context, and what follows it. The place is that of what takes the operand.
  reads_operand : ℕ → Context → (Operand → Rule) → Rule
  -- an atom without scripts, and what follows it
  reads_core : ℕ → Context → (Core → Rule) → Rule
  -- atoms up to an ending, which is taken, and what follows it
  reads_atoms : Ending → Context → (Row → Rule) → Rule
  -- an operand of words in a context
  reads_words : ℕ → Context → (Words → Rule) → Rule
  -- if units that pass these tests come next, they are taken and the first rule follows, otherwise the second
  takes_if : List (Piece → Option (List ℕ)) → (List ℕ → Rule) → Rule → Rule
  -- if a unit that passes this test comes next, the first rule follows, otherwise the second; the unit is not taken
  if_follows : (Piece → Bool) → Rule → Rule → Rule
  -- the longest run of digits is taken
  takes_digits : (List ℕ → Rule) → Rule
  -- a delimiter, which must come next, is taken
  takes_delimiter : (List ℕ → Rule) → Rule
  -- what is found from this spot on is taken; it must come next. The place is that of what takes it.
  takes_found : Spot → ℕ → (List ℕ → Rule) → Rule
  -- what is found from this spot on is passed over
  passes_over : Spot → Rule → Rule
  -- rows of a table that begins at this place, in these columns, up to its end, which is taken, and what follows it; the
  -- number is the place of the end
  reads_rows : TableEnd → ℕ → Columns → Context → (Lines → ℕ → Rule) → Rule

-- The tests of units, which answer with a text

-- this text, if so
abbrev pub only_if : Bool → List ℕ → Option (List ℕ)
only_if true cs = Some cs
only_if false cs = None

-- the test for a digit
abbrev pub a_digit : Piece → Option (List ℕ)
a_digit (Character c) = only_if (is_ascii_digit c) (c ∷ [])
a_digit piece = None

-- the test for a character
abbrev pub a_character : ℕ → Piece → Option (List ℕ)
a_character d (Character c) = only_if (c == d) (c ∷ [])
a_character d piece = None

-- Rules of one operand and of two

-- a rule of one operand
abbrev pub of_one : ℕ → Context → (Operand → Core) → Rule
of_one place c whole = reads_operand place c (λ x. gives (whole x))

-- a rule of two operands
abbrev pub of_two : ℕ → Context → Context → (Operand → Operand → Core) → Rule
of_two place c d whole = reads_operand place c (λ x. of_one place d (whole x))

-- Numbers: digits, and a point between digits

-- the digits after the point of a number
abbrev pub decimal : Context → List ℕ → Rule
decimal c whole = takes_digits (λ more. gives (core (number c.alphabet (whole ++ more))))

-- a point and a digit go on with a number
abbrev pub after_digits : Context → List ℕ → Rule
after_digits c whole =
    takes_if (a_character (byte ".") ∷ a_digit ∷ []) (λ point. decimal c (whole ++ point)) (gives (core (number c.alphabet whole)))

-- a number begins with a digit
abbrev pub a_number : Context → ℕ → Rule
a_number c digit = takes_digits (λ more. after_digits c (digit ∷ more))

-- a character that is a sign or a letter, or any other
abbrev pub a_symbol : Context → ℕ → Option Symbol → Rule
a_symbol c character (Some s) = gives (symbol c.style c.alphabet s)
a_symbol c character None = gives (core (upright_letter c.alphabet character))

-- a character that does not begin an atom
abbrev pub begins_none : ℕ → Bool
begins_none character = character == byte "#" || character == byte "$" || character == byte "_" || character == byte "^" || character == byte "'"

-- the rule of a character
abbrev pub character_rule : Context → ℕ → ℕ → Rule
character_rule c character place =
    if is_ascii_digit character then a_number c character
    else if is_ascii_alphabetic character then gives (core (letter c.alphabet character))
    else if character == byte "." then takes_if (a_digit ∷ []) (λ digit. decimal c (character ∷ digit)) (a_symbol c character (symbol_of character))
    else if character == byte "~" then gives (core (spacing (pos 6)))
    else if character == byte "&" then refuses (refusal_at OutsideTable place)
    else if begins_none character then refuses (refusal_at (MisplacedCharacter character) place)
    else a_symbol c character (symbol_of character)

-- such dots, with a thin space after them where what comes next asks for that
abbrev pub dots_before : Context → ℕ → Rule
dots_before c dots = if_follows (closes_dots dots) (gives (spaced_dots dots)) (gives (symbol c.style c.alphabet (Sign Inner dots)))

-- dots, in the middle of the line where what comes next asks for that
abbrev pub some_dots : Context → Rule
some_dots c = if_follows centers_dots (gives (symbol c.style c.alphabet centered_dots)) (dots_before c 0x2026)

-- a style of its own, if there is one, or else the style around it
abbrev pub own_style : Option Style → Style → Style
own_style None style = style
own_style (Some own) style = own

-- a fraction, whose parts are in a smaller style
abbrev pub a_fraction : ℕ → Context → FractionRule → Option Style → Rule
a_fraction place c rule own =
    let style = own_style own c.style in
    let part = styled c (smaller style) in
    of_two place part part (λ above below. fraction rule own style above.element below.element)

-- a root, whose degree is in square brackets
abbrev pub a_root : ℕ → Context → Rule
a_root place c =
    takes_if (a_character (byte "[") ∷ [])
    (λ bracket. reads_atoms (InBrackets place) (styled c InScript) (λ degree. of_one place c (root (row_element degree.elements))))
    (of_one place c square_root)

-- the name of an operator, in upright letters; with a star it has limits
abbrev pub an_operator_name : ℕ → Context → Rule
an_operator_name place c =
    let named = lettered c Named in
    takes_if (a_character (byte "*") ∷ []) (λ star. of_one place named (operator_name ByStyle)) (of_one place named (operator_name Beside))

-- an atom with a stroke through it, where it is a leaf
abbrev pub struck_atom : ℕ → Core → Option Element → Rule
struck_atom place x None = refuses (refusal_at NothingToNegate place)
struck_atom place x (Some element) = gives (core (atom (no_letters x.atom.kind) x.atom.height element))

-- a negated relation has a character of its own, or a stroke
abbrev pub a_negation : ℕ → Context → Rule
a_negation place c =
    takes_if (negated_of ∷ []) (λ sign_text. gives (core (relation sign_text))) (reads_core place c (λ x. struck_atom place x (struck x.atom.element)))

-- an operand with a stroke through it, where it is a leaf
abbrev pub slashed : Operand → Option Element → Core
slashed x None = core (group x)
slashed x (Some element) = core (atom (Plain Ordinary) Low element)

-- a table of rows that were read, where its end has the same name as its beginning
abbrev pub ended_table : ℕ → Context → Environment → Columns → Lines → Bool → Rule
ended_table place c e columns lines true = gives (a_table e.delimiters columns e.style c.style lines)
ended_table place c e columns lines false = refuses (refusal_at OtherName place)

-- how an environment in these columns ends
abbrev pub end_in : Columns → TableEnd
end_in InDiagram = OfDiagram
end_in columns = ByName

-- the rows of an environment of this name, in these columns
abbrev pub rows_rule : ℕ → Context → List ℕ → Environment → Columns → Rule
rows_rule place c name e columns =
    reads_rows (end_in columns) place columns (styled c e.style)
    (λ lines end. takes_found (BeforeArgument Name) end (λ other. ended_table end c e columns lines (bytes_eq other name)))

-- how many columns an author may list
abbrev pub most_columns : ℕ
most_columns = 32

-- the rows of an environment, in the columns that these signs list
abbrev pub listed_rule : ℕ → Context → List ℕ → Environment → List ℕ → Rule
listed_rule place c name e signs =
    if nat_le (length (columns_of signs)) most_columns then rows_rule place c name e (fitted (density_in e.columns) (listed signs))
    else refuses (refusal_at TooManyColumns place)

-- the rows of an environment, after what is in braces after its name
abbrev pub argument_rule : ℕ → Context → List ℕ → Environment → Option Argument → Rule
argument_rule place c name e None = rows_rule place c name e e.columns
argument_rule place c name e (Some ColumnList) = takes_found (BeforeArgument ColumnList) place (λ signs. listed_rule place c name e (written_out signs))
argument_rule place c name e (Some Number) = takes_found (BeforeArgument Number) place (λ number. rows_rule place c name e e.columns)
argument_rule place c name e (Some RepeatedColumns) = rows_rule place c name e e.columns
argument_rule place c name e (Some Name) = rows_rule place c name e e.columns
argument_rule place c name e (Some ColorName) = rows_rule place c name e e.columns

-- this character in brackets
abbrev pub in_brackets : ℕ → List (Piece → Option (List ℕ))
in_brackets c = a_character (byte "[") ∷ a_character c ∷ a_character (byte "]") ∷ []

-- columns in which a letter in brackets says how cells are aligned
abbrev pub alignment_rule : ℕ → Context → List ℕ → Environment → Rule
alignment_rule place c name e =
    takes_if (in_brackets (byte "l")) (λ letter. rows_rule place c name e (Alike Usual LeftAligned))
    (takes_if (in_brackets (byte "c")) (λ letter. rows_rule place c name e (Alike Usual Centered))
    (takes_if (in_brackets (byte "r")) (λ letter. rows_rule place c name e (Alike Usual RightAligned)) (rows_rule place c name e e.columns)))

-- the rows of an environment, after what is in brackets after its name
abbrev pub bracket_rule : ℕ → Context → List ℕ → Environment → Bracket → Rule
bracket_rule place c name e NoBracket = argument_rule place c name e e.argument
bracket_rule place c name e Position = passes_over BeforePosition (argument_rule place c name e e.argument)
bracket_rule place c name e Alignment = alignment_rule place c name e

-- the rule of the environment of this name, where there is one
abbrev pub environment_rule : ℕ → Context → List ℕ → Option Environment → Rule
environment_rule place c name None = refuses (refusal_at (UnknownEnvironment name) place)
environment_rule place c name (Some e) = bracket_rule place c name e e.bracket

-- what follows a label of an arrow, after the sign of the arrow, which must come next
abbrev pub after_label : ℕ → Direction → Rule → Rule
after_label place direction more =
    takes_if (a_character (direction_sign direction) ∷ []) (λ sign. more) (refuses (refusal_at IncompleteArrow place))

-- a label of an arrow, and what follows it
abbrev pub a_label : ℕ → Context → Direction → (Row → Rule) → Rule
a_label place c direction more = reads_atoms (InLabel direction place) (styled c InScript) (λ label. after_label place direction (more label))

-- an arrow of a diagram, with its labels
abbrev pub arrow_rule : ℕ → Context → DiagramArrow → Rule
arrow_rule place c (Labeled direction) =
    a_label place c direction (λ first. a_label place c direction (λ second.
    gives (labeled_arrow direction (row_element first.elements) (row_element second.elements))))
arrow_rule place c LongEquals = gives long_equals
arrow_rule place c HighBars = gives high_bars
arrow_rule place c NoArrow = gives (in_diagram (row_element []))

-- rows in braces, each of one cell, as small as a script
abbrev pub a_substack : ℕ → Context → Rule
a_substack place c =
    takes_found BeforeBrace place (λ brace. reads_rows ByBrace place (Alike Dense Centered) (styled c InScript) (λ lines end. gives (a_table None (Alike Dense Centered) InScript c.style lines)))

-- the rows of a whole text in these columns, in the style of a block
abbrev pub rows_of_text : Columns → Context → Rule
rows_of_text columns c = reads_rows ByText 0 columns (styled c InDisplay) (λ lines end. gives (a_table None columns InDisplay c.style lines))

-- what follows a value, where there is one
abbrev pub with_value : {A : Type 0} → Refusal → (A → Rule) → Option A → Rule
with_value none more None = refuses none
with_value none more (Some x) = more x

-- a length, which must come next, and what follows it
abbrev pub a_length : ℕ → Spot → (ℤ → Rule) → Rule
a_length place spot more = takes_found spot place (λ text. with_value (refusal_at LengthTooLarge place) more (width_of text))

-- a space as wide as a length says
abbrev pub a_skip : ℕ → Spot → Rule
a_skip place spot = a_length place spot (λ width. gives (core (blank width)))

-- a black rectangle, whose width and height come next in braces
abbrev pub a_bar : ℕ → Option ℤ → Rule
a_bar place raise =
    a_length place BeforeLengthInBraces (λ width. a_length place BeforeLengthInBraces (λ height. gives (core (bar raise width height))))

-- a black rectangle, after the length in brackets that raises it, if one comes next
abbrev pub a_rectangle : ℕ → Rule
a_rectangle place =
    takes_if (a_character (byte "[") ∷ []) (λ bracket. a_length place (InLength AtBracket) (λ height. a_bar place (Some height))) (a_bar place None)

-- a color, whose name must come next, and what follows it
abbrev pub a_color : ℕ → (Color → Rule) → Rule
a_color place more = takes_found BeforeColor place (λ name. with_value (refusal_at (UnknownColor name) place) more (color_of name))

-- an arrow: what is below it, in brackets, if anything is, and what is above it
abbrev pub an_arrow : ℕ → Context → ℕ → Rule
an_arrow place c sign_character =
    let small = styled c InScript in
    takes_if (a_character (byte "[") ∷ [])
    (λ bracket. reads_atoms (InBrackets place) small (λ below. of_one place small (λ above. arrow sign_character (Some (row_element below.elements)) above.element)))
    (of_one place small (λ above. arrow sign_character None above.element))

-- an operand in a box, where a sign has no space
abbrev pub a_box : ℕ → Context → Box → Rule
a_box place c box = of_one place c (λ x. core (boxed_atom box (as_base c.style Ordinary x)))

-- an operand in a box without height and depth; `[t]` takes away only the height, and `[b]` only the depth
abbrev pub a_smash : ℕ → Context → Rule
a_smash place c =
    takes_if (in_brackets (byte "t")) (λ top. a_box place c WithoutHeight)
    (takes_if (in_brackets (byte "b")) (λ bottom. a_box place c WithoutDepth) (a_box place c Smashed))

-- `[l]` and `[r]`, which push the numerator to a side, are ignored
abbrev pub a_continued_fraction : ℕ → Context → Rule
a_continued_fraction place c =
    let whole = a_fraction place c Bar (Some InDisplay) in
    takes_if (in_brackets (byte "l")) (λ left. whole) (takes_if (in_brackets (byte "r")) (λ right. whole) whole)

-- Fractions whose delimiters, line and style the author gives

-- the test for a left brace
abbrev pub a_left_brace : Piece → Option (List ℕ)
a_left_brace Open = Some []
a_left_brace piece = None

-- the test for a right brace
abbrev pub a_right_brace : Piece → Option (List ℕ)
a_right_brace Close = Some []
a_right_brace piece = None

-- braces with nothing in them
abbrev pub empty_braces : List (Piece → Option (List ℕ))
empty_braces = a_left_brace ∷ a_right_brace ∷ []

-- a delimiter, which may be in braces; empty braces mean no delimiter
abbrev pub an_outer_delimiter : ℕ → (List ℕ → Rule) → Rule
an_outer_delimiter place more =
    takes_if (delimiter_of ∷ []) more
    (takes_if (a_left_brace ∷ delimiter_of ∷ a_right_brace ∷ []) more
    (takes_if empty_braces more (refuses (refusal_at MissingDelimiter place))))

-- a delimiter with a size, which may be in braces as well
abbrev pub a_sized_delimiter : (List ℕ → Rule) → Rule
a_sized_delimiter more = takes_if (a_left_brace ∷ delimiter_of ∷ a_right_brace ∷ []) more (takes_delimiter more)

-- whether there is a line: there is none where its width in braces is zero
abbrev pub has_width : ℤ → Bool
has_width (pos zero) = false
has_width width = true

-- whether a fraction has a line, as `\genfrac` says: the usual one by empty braces, or one of some width
abbrev pub a_line : ℕ → (Bool → Rule) → Rule
a_line place more = takes_if empty_braces (λ usual. more true) (a_length place BeforeLengthInBraces (λ width. more (has_width width)))

-- the style of this number, where there is one; no number means the style around the fraction
abbrev pub numbered_style : List ℕ → Option (Option Style)
numbered_style [] = Some None
numbered_style (c ∷ []) =
    if c == byte "0" then Some (Some InDisplay)
    else if c == byte "1" then Some (Some InText)
    else if c == byte "2" || c == byte "3" then Some (Some InScript)
    else None
numbered_style digits = None

-- the style of a fraction, as `\genfrac` says
abbrev pub a_style : ℕ → (Option Style → Rule) → Rule
a_style place more = takes_found (BeforeArgument Number) place (λ number. with_value (refusal_at MissingArgument place) more (numbered_style number))

-- how a fraction is drawn, which comes next, and what follows it
abbrev pub an_outline : ℕ → (Outline → Rule) → Rule
an_outline place more =
    an_outer_delimiter place (λ opening. an_outer_delimiter place (λ closing. a_line place (λ has_line. a_style place (λ own.
    more (record { opening = opening; closing = closing; has_line = has_line; own = own })))))

-- the two parts of a fraction that is drawn as this says
abbrev pub an_outlined_fraction : ℕ → Context → Outline → Rule
an_outlined_fraction place c o =
    let style = own_style o.own c.style in
    let part = styled c (smaller style) in
    of_two place part part (λ above below. outlined_fraction o style above.element below.element)

-- a fraction by `\genfrac`
abbrev pub a_general_fraction : ℕ → Context → Rule
a_general_fraction place c = an_outline place (an_outlined_fraction place c)

-- one of four operands, by the style; the fourth is for scripts of scripts, which are in the style of scripts here
abbrev pub a_choice : ℕ → Context → Rule
a_choice place c =
    reads_operand place c (λ display. reads_operand place c (λ text. of_two place c c (λ script smallest. choice c.style display text script)))

-- the rule of a command with this meaning, at this place
abbrev pub meaning_rule : ℕ → Context → Meaning → Rule
meaning_rule place c (Shows s) = gives (symbol c.style c.alphabet s)
meaning_rule place c (FunctionName limits name) = gives (function_name limits name)
meaning_rule place c Dots = some_dots c
meaning_rule place c CenteredDots = dots_before c 0x22EF
meaning_rule place c VerticalDots = gives vertical_dots
meaning_rule place c (Implication arrow_sign) = gives (implication arrow_sign)
meaning_rule place c (Spacing width) = gives (core (spacing width))
meaning_rule place c Skip = a_skip place (InLength AtUnit)
meaning_rule place c SkipInBraces = passes_over BeforeStar (a_skip place BeforeLengthInBraces)
meaning_rule place c (Boxed box) = a_box place c box
meaning_rule place c Smash = a_smash place c
meaning_rule place c Raise = a_length place BeforeLengthInBraces (λ height. a_box place c (Raised height))
meaning_rule place c InColor = a_color place (λ color. a_box place c (Colored color))
meaning_rule place c Highlight = a_color place (λ color. a_box place c (OnColor color))
meaning_rule place c Rectangle = a_rectangle place
meaning_rule place c (Arrow sign_character) = an_arrow place c sign_character
meaning_rule place c (Styled alphabet) = of_one place (lettered c alphabet) (λ x. core (group x))
meaning_rule place c (TakesWordsIn alphabet) = reads_words place (in_words c alphabet) (λ ws. gives (core (words_atom ws)))
meaning_rule place c (Fraction rule own) = a_fraction place c rule own
meaning_rule place c ContinuedFraction = a_continued_fraction place c
meaning_rule place c GeneralFraction = a_general_fraction place c
meaning_rule place c Root = a_root place c
meaning_rule place c (Accent side mark width) = of_one place c (accent side mark width)
meaning_rule place c (Brace side mark) = of_one place c (λ x. brace side mark x.element)
meaning_rule place c Choice = a_choice place c
meaning_rule place c (Stack side) = of_two place (styled c InScript) c (λ mark base. stack side (Plain base.class) mark.element (as_base c.style base.class base).element)
meaning_rule place c StackedRelation = of_two place (styled c InScript) c (λ mark base. stack Above (stacked_relation base.class) mark.element (as_base c.style Relation base).element)
meaning_rule place c OperatorName = an_operator_name place c
meaning_rule place c Negation = a_negation place c
meaning_rule place c Slash = of_one place c (λ x. slashed x (struck x.element))
meaning_rule place c (Sized size class) = a_sized_delimiter (λ sign_text. gives (sized c.style size class sign_text))
meaning_rule place c Left = takes_delimiter (λ opening. reads_atoms (InDelimiters place) c (λ row. takes_delimiter (λ closing. gives (between_delimiters opening closing row))))
meaning_rule place c Middle = refuses (refusal_at MiddleWithoutLeft place)
meaning_rule place c Right = refuses (refusal_at RightWithoutLeft place)
meaning_rule place c Limits = refuses (refusal_at LimitsWithoutOperator place)
meaning_rule place c NoLimits = refuses (refusal_at LimitsWithoutOperator place)
meaning_rule place c (Classed class) = of_one place c (λ x. classed class (as_base c.style class x))
-- among atoms it is not an atom, and changes what follows it
meaning_rule place c (Changes change) = refuses (refusal_at ChangeAsArgument place)
meaning_rule place c BeginTable = takes_found (BeforeArgument Name) place (λ name. environment_rule place c name (environment_of name))
meaning_rule place c EndTable = refuses (refusal_at EndWithoutBegin place)
meaning_rule place c LineBreak = refuses (refusal_at OutsideTable place)
meaning_rule place c Substack = a_substack place c

-- the rule of the command of this name, by its meaning, where it has one
abbrev pub command_rule : ℕ → Context → List ℕ → Option Meaning → Rule
command_rule place c name (Some meaning) = meaning_rule place c meaning
command_rule place c name None = refuses (refusal_at (UnknownCommand name) place)

-- the rule of a unit that begins an atom
abbrev pub rule : ℕ → Context → Piece → Rule
rule place c Open = reads_atoms (InBraces place) c (λ row. gives (core (braced row)))
rule place c Close = refuses (refusal_at UnopenedBrace place)
rule place c (Character character) = character_rule c character place
rule place c (Command name) = command_rule place c name (meaning_of name)
-- white space is skipped before an atom begins
rule place c Space = refuses (refusal_at MissingArgument place)
