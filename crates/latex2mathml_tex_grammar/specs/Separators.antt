-- The columns of rows outside of all tables: pairs of columns if `&` separates their cells, and otherwise one in the middle.
use Rattle.std.specs.Prelude.{ℕ, zero, suc, ◌-◌, ◌==◌, ◌||◌, Bool, true, false, codes, if◌then◌else◌}
use Rattle.std.specs.Str.{byte, bytes_eq}
use Rattle.latex2mathml_elements.specs.Columns.{Columns}
use Rattle.latex2mathml_tex_grammar.specs.Environments.{lines, pairs}
use Rattle.latex2mathml_tex_grammar.specs.Units.{Piece, Open, Close, Command, Character, Units, Next, End, Stop}

-- how many groups and tables a unit is in that follows this one, which is in this many
abbrev pub depth_behind : Piece → ℕ → ℕ
depth_behind Open depth = suc depth
depth_behind Close depth = depth - 1
depth_behind (Command name) depth =
    if bytes_eq name (codes "begin") then suc depth
    else if bytes_eq name (codes "end") then depth - 1
    else depth
depth_behind piece depth = depth

-- whether a unit separates cells outside of all tables, if it is in this many groups and tables
abbrev pub separates : Piece → ℕ → Bool
separates (Character c) zero = c == byte "&"
separates piece depth = false

-- whether one of these units separates cells outside of all tables; the first of them is in this many groups and tables
abbrev pub has_separator : ℕ → Units → Bool
has_separator depth (Next u l) = separates u.piece depth || has_separator (depth_behind u.piece depth) l
has_separator depth (End place) = false
has_separator depth (Stop r) = false

-- the columns of rows whose cells are separated, and of rows of one cell each
abbrev pub columns_by : Bool → Columns
columns_by true = pairs.columns
columns_by false = lines.columns

-- the columns of the rows of a text
abbrev pub text_columns : Units → Columns
text_columns l = columns_by (has_separator 0 l)
