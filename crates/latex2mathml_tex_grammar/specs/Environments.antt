-- The environments: each is a table. A name is its bytes.
use Rattle.std.specs.Prelude.{ℕ, ◌+◌, ◌-◌, ◌*◌, ◌==◌, ◌||◌, Bool, true, false, List, [], ◌∷◌, ◌++◌, Option, Some, None, codes, if◌then◌else◌}
use Rattle.std.specs.{List.after_first, List.before_first, List.repeat, Str.byte, Str.bytes_eq}
use Rattle.latex2mathml_elements.specs.Columns.{Centered, LeftAligned, RightAligned, Density, Dense, Usual, Stretched, Opened, SpaceAround, Column, Columns, Alike, InPairs, AroundRelation, InDiagram, Broken, Listed, column_at}
use Rattle.latex2mathml_elements.specs.Lines.{Line, NoLine, OneLine, TwoLines, Dashes}
use Rattle.latex2mathml_tex_grammar.specs.Scanning.{Argument, ColumnList, Number}
use Rattle.latex2mathml_tex_grammar.specs.Symbols.{Style, InDisplay, InText, InScript}

-- Columns

-- the number of these digits, of which there are at most two
abbrev pub number_of : List ℕ → ℕ
number_of [] = 0
number_of (c ∷ []) = c - byte "0"
number_of (c ∷ d ∷ more) = 10 * (c - byte "0") + (d - byte "0")

-- a number, and the signs after a brace, which are repeated so many times
abbrev pub repeated : List ℕ → List ℕ
repeated cs = repeat (number_of (before_first (λ c. c == byte "{") cs)) (after_first (λ c. c == byte "{") cs)

-- signs of columns with all repetitions written out, as `ccc` instead of `*3{c}`. A repetition goes up to a closing brace.
abbrev mutual
  pub written_out : List ℕ → List ℕ
  written_out [] = []
  written_out (c ∷ cs) = if c == byte "*" then repeated (before_first (λ d. d == byte "}") cs) ++ written_behind cs else c ∷ written_out cs

  -- the same for what is after that brace
  pub written_behind : List ℕ → List ℕ
  written_behind [] = []
  written_behind (c ∷ cs) = if c == byte "}" then written_out cs else written_behind cs

-- whether a sign among columns is a line
abbrev pub is_line_sign : ℕ → Bool
is_line_sign c = c == byte "|" || c == byte ":"

-- whether signs of columns begin with a line
abbrev pub begins_with_line : List ℕ → Bool
begins_with_line [] = false
begins_with_line (c ∷ cs) = is_line_sign c

-- the line of a sign; several are drawn as two
abbrev pub line_of : ℕ → Bool → Line
line_of c true = TwoLines
line_of c false = if c == byte ":" then Dashes else OneLine

-- the line that signs of columns begin with, if they begin with one
abbrev pub line_at : List ℕ → Line
line_at [] = NoLine
line_at (c ∷ cs) = if is_line_sign c then line_of c (begins_with_line cs) else NoLine

-- the column of a letter, with this line after it
abbrev pub column_of : ℕ → Line → Column
column_of c line = record {
  density = Usual;
  alignment = if c == byte "l" then LeftAligned else if c == byte "r" then RightAligned else Centered;
  spacing = SpaceAround;
  before = NoLine;
  after = line;
}

-- the columns that these signs say: a letter is a column, and has the line after it that comes next
abbrev pub columns_of : List ℕ → List Column
columns_of [] = []
columns_of (c ∷ cs) = if is_line_sign c then columns_of cs else column_of c (line_at cs) ∷ columns_of cs

-- the columns that these signs say
abbrev pub listed : List ℕ → Columns
listed signs = Listed (line_at signs) (columns_of signs)

-- listed columns in an environment: dense rows are one column, aligned like the first of these
abbrev pub fitted : Density → Columns → Columns
fitted Dense columns = Alike Dense (column_at columns 0).alignment
fitted density columns = columns

-- Environments

-- what may be in brackets after the name of an environment
pub data Bracket : Type 0 where
  NoBracket : Bracket
  -- a letter that says how the environment is placed in its line
  Position : Bracket
  -- a letter that says how cells are aligned in their columns
  Alignment : Bracket

-- what an environment says of its table, and of what comes before the cells
pub record Environment : Type 0 where
  -- the delimiters around it, where it has any; an empty text is no delimiter
  pub delimiters : Option (List ℕ × List ℕ)
  pub columns : Columns
  -- the style of its cells
  pub style : Style
  pub bracket : Bracket
  -- what is in braces after its name
  pub argument : Option Argument

-- an environment of cells in these columns and this style, without anything else
abbrev pub cells_in : Columns → Style → Environment
cells_in columns style = record { delimiters = None; columns = columns; style = style; bracket = NoBracket; argument = None }

-- centered columns in text style
abbrev pub matrix : Environment
matrix = cells_in (Alike Usual Centered) InText

-- an environment with delimiters around it
abbrev pub between : List ℕ → List ℕ → Environment → Environment
between opening closing e = record e { delimiters = Some (opening, closing) }

-- centered columns in display style
abbrev pub lines : Environment
lines = cells_in (Alike Opened Centered) InDisplay

-- pairs of columns in display style
abbrev pub pairs : Environment
pairs = cells_in InPairs InDisplay

-- an environment that may be given a position, in brackets
abbrev pub placed : Environment → Environment
placed e = record e { bracket = Position }

-- a matrix whose cells are in the middle, unless a letter says otherwise
abbrev pub starred : Environment → Environment
starred e = record e { bracket = Alignment }

-- an environment with this argument, in braces
abbrev pub with_argument : Argument → Environment → Environment
with_argument argument e = record e { argument = Some argument }

-- the two sides of a relation, and the relation between them
abbrev pub around_relation : Environment
around_relation = cells_in AroundRelation InDisplay

-- cases, and the condition of each, in this style
abbrev pub cases : Style → Environment
cases = cells_in (Alike Stretched LeftAligned)

-- one formula that is broken into lines
abbrev pub broken : Environment
broken = cells_in Broken InDisplay

-- small rows in a script, or in a line of text
abbrev pub small : Environment
small = cells_in (Alike Dense Centered) InScript

-- the table of environments, in the order of bytes
unfoldable pub environments : List (List ℕ × Environment)
environments =
    (codes "Bmatrix", between (codes "{") (codes "}") matrix) ∷
    (codes "Bmatrix*", between (codes "{") (codes "}") (starred matrix)) ∷
    (codes "CD", cells_in InDiagram InText) ∷
    (codes "Vmatrix", between (0xE2 ∷ 0x80 ∷ 0x96 ∷ []) (0xE2 ∷ 0x80 ∷ 0x96 ∷ []) matrix) ∷  -- ‖
    (codes "Vmatrix*", between (0xE2 ∷ 0x80 ∷ 0x96 ∷ []) (0xE2 ∷ 0x80 ∷ 0x96 ∷ []) (starred matrix)) ∷  -- ‖
    (codes "align", pairs) ∷
    (codes "align*", pairs) ∷
    (codes "alignat", with_argument Number pairs) ∷
    (codes "alignat*", with_argument Number pairs) ∷
    (codes "aligned", placed pairs) ∷
    (codes "alignedat", with_argument Number (placed pairs)) ∷
    (codes "array", with_argument ColumnList (placed matrix)) ∷
    (codes "bmatrix", between (codes "[") (codes "]") matrix) ∷
    (codes "bmatrix*", between (codes "[") (codes "]") (starred matrix)) ∷
    (codes "cases", between (codes "{") [] (cases InText)) ∷
    (codes "darray", with_argument ColumnList (placed (record matrix { style = InDisplay }))) ∷
    (codes "dcases", between (codes "{") [] (cases InDisplay)) ∷
    (codes "displaymath", lines) ∷
    (codes "drcases", between [] (codes "}") (cases InDisplay)) ∷
    (codes "eqnarray", around_relation) ∷
    (codes "eqnarray*", around_relation) ∷
    (codes "equation", lines) ∷
    (codes "equation*", lines) ∷
    (codes "flalign", pairs) ∷
    (codes "flalign*", pairs) ∷
    (codes "gather", lines) ∷
    (codes "gather*", lines) ∷
    (codes "gathered", placed lines) ∷
    (codes "math", matrix) ∷
    (codes "matrix", matrix) ∷
    (codes "matrix*", starred matrix) ∷
    (codes "multline", broken) ∷
    (codes "multline*", broken) ∷
    (codes "pmatrix", between (codes "(") (codes ")") matrix) ∷
    (codes "pmatrix*", between (codes "(") (codes ")") (starred matrix)) ∷
    (codes "rcases", between [] (codes "}") (cases InText)) ∷
    (codes "smallmatrix", small) ∷
    (codes "split", pairs) ∷
    (codes "subarray", with_argument ColumnList small) ∷
    (codes "substack", small) ∷
    (codes "vmatrix", between (codes "|") (codes "|") matrix) ∷
    (codes "vmatrix*", between (codes "|") (codes "|") (starred matrix)) ∷
    []

-- the entry with this name, where there is one
abbrev pub entry_environment : List (List ℕ × Environment) → List ℕ → Option Environment
entry_environment [] name = None
entry_environment (entry ∷ entries) name = if bytes_eq entry.0 name then Some entry.1 else entry_environment entries name

-- the environment of this name, if there is one
unfoldable pub environment_of : List ℕ → Option Environment
environment_of name = entry_environment environments name
