-- Bars that divide an argument: the bar before the condition of a set, and those between the parts of a bracket of Dirac.
-- What takes the place of such a bar closes a group before it and opens one behind it. So each part of an argument in braces is a
-- group. A bar in a group divides nothing, nor does one that is the delimiter of a command like `\left`.
use Rattle.std.specs.Prelude.{ℕ, zero, suc, ◌-◌, Bool, true, false, ◌&&◌, List, [], ◌∷◌, ◌++◌, map, Option, Some, codes, if◌then◌else◌}
use Rattle.std.specs.Str.{byte}
use Rattle.latex2mathml_tex_grammar.specs.{Commands.meaning_of, Next.is_space_piece}
use Rattle.latex2mathml_tex_grammar.specs.Meaning.{Meaning, BeginTable, EndTable, Sized, Left, Middle, Right}
use Rattle.latex2mathml_tex_grammar.specs.Pieces.{Brace, Opening, Closing, NoBrace, brace_of, is_character, is_command}
use Rattle.latex2mathml_tex_grammar.specs.Units.{Piece, Open, Close, Command, Unit, unit}

-- which bars divide an argument, and what takes their place
pub data Bars : Type 0 where
  -- the first bar, as a relation
  FirstAsRelation : Bars
  -- the first bar, single or double, as high as what is around it
  FirstStretched : Bars
  -- each such bar
  EachStretched : Bars

-- whether double bars divide, too
abbrev pub has_double : Bars → Bool
has_double FirstAsRelation = false
has_double bars = true

-- a bar as high as what is around it, with spaces at its sides
abbrev pub stretched_bar : List ℕ → Piece → List Piece
stretched_bar space bar = Close ∷ Command space ∷ Command (codes "middle") ∷ bar ∷ Command space ∷ Open ∷ []

-- the pieces that take the place of this bar
abbrev pub divider : Bars → Piece → List Piece
divider FirstAsRelation bar = Close ∷ Command (codes "mid") ∷ Open ∷ []
divider FirstStretched bar = stretched_bar (codes ";") bar
divider EachStretched bar = stretched_bar (codes ",") bar

-- a double bar as one piece
abbrev pub double_bar : Piece
double_bar = Command (codes "|")

-- whether a piece is a single bar
abbrev pub is_bar : Piece → Bool
is_bar = is_character (byte "|")

-- whether a piece is a double bar
abbrev pub is_double_bar : Piece → Bool
is_double_bar = is_command (codes "|")

-- whether the next unit is a single bar; white space is ignored
abbrev pub bar_follows : List Unit → Bool
bar_follows [] = false
bar_follows (u ∷ us) = if is_space_piece u.piece then bar_follows us else is_bar u.piece

-- the bar that a unit is
pub data Bar : Type 0 where
  NoBar : Bar
  -- a bar of one unit
  Whole : Bar
  -- the first of two single bars, which are a double bar
  Half : Bar

-- which dividing bar this piece is, before these units
abbrev pub bar_of : Bars → Piece → List Unit → Bar
bar_of bars piece us =
    if is_bar piece then (if has_double bars && bar_follows us then Half else Whole)
    else if has_double bars && is_double_bar piece then Whole
    else NoBar

-- Groups, and delimiters

-- what a command with this meaning opens or closes, as braces do
abbrev pub group_by : Option Meaning → Brace
group_by (Some Left) = Opening
group_by (Some Right) = Closing
group_by (Some BeginTable) = Opening
group_by (Some EndTable) = Closing
group_by meaning = NoBrace

-- whether a piece opens or closes a group
abbrev pub group_of : Piece → Brace
group_of (Command name) = group_by (meaning_of name)
group_of piece = brace_of piece

-- how many groups are open behind a piece
abbrev pub depth_behind : Brace → ℕ → ℕ
depth_behind Opening depth = suc depth
depth_behind Closing depth = depth - 1
depth_behind NoBrace depth = depth

-- whether a command with this meaning takes a delimiter
abbrev pub delimiter_due : Option Meaning → Bool
delimiter_due (Some (Sized size class)) = true
delimiter_due (Some Left) = true
delimiter_due (Some Middle) = true
delimiter_due (Some Right) = true
delimiter_due meaning = false

-- whether a piece takes the next unit as its delimiter
abbrev pub takes_delimiter : Piece → Bool
takes_delimiter (Command name) = delimiter_due (meaning_of name)
takes_delimiter piece = false

-- what comes next in an argument
pub data Spot : Type 0 where
  -- a unit, which may be a dividing bar
  AtAny : Spot
  -- the delimiter of a command
  AtDelimiter : Spot
  -- the second half of a double bar
  AtHalf : Spot
  -- what no bar divides any more
  AtRest : Spot

-- what comes behind a dividing bar
abbrev pub behind_bar : Bars → Spot
behind_bar EachStretched = AtAny
behind_bar bars = AtRest

-- what comes behind a unit that stays
abbrev pub behind_kept : Spot → Piece → Spot
behind_kept AtRest piece = AtRest
behind_kept AtDelimiter piece = if is_space_piece piece then AtDelimiter else AtAny
behind_kept spot piece = if takes_delimiter piece then AtDelimiter else AtAny

-- these pieces, at this place
abbrev pub at_place : ℕ → List Piece → List Unit
at_place place = map (λ piece. unit piece place)

-- what a unit becomes that is this bar, and what comes behind it
abbrev pub divided : Bars → Bar → Unit → List Unit × Spot
divided bars NoBar u = (u ∷ [], behind_kept AtAny u.piece)
divided bars Whole u = (at_place u.place (divider bars u.piece), behind_bar bars)
divided bars Half u = (at_place u.place (divider bars double_bar), AtHalf)

-- what a unit in no group becomes before these units, and what comes behind it
abbrev pub divided_at : Spot → Bars → Unit → List Unit → List Unit × Spot
divided_at AtAny bars u us = divided bars (bar_of bars u.piece us) u
divided_at AtDelimiter bars u us = (u ∷ [], behind_kept AtDelimiter u.piece)
divided_at AtHalf bars u us = ([], if is_space_piece u.piece then AtHalf else behind_bar bars)
divided_at AtRest bars u us = (u ∷ [], behind_kept AtRest u.piece)

-- the same where this many groups are open
abbrev pub divided_in : ℕ → Spot → Bars → Unit → List Unit → List Unit × Spot
divided_in zero spot bars u us = divided_at spot bars u us
divided_in (suc depth) spot bars u us = (u ∷ [], behind_kept spot u.piece)

-- the rest of an argument, where this many groups are open
abbrev pub split_from : Bars → ℕ → Spot → List Unit → List Unit
split_from bars depth spot [] = []
split_from bars depth spot (u ∷ us) =
    (divided_in depth spot bars u us).0
    ++ split_from bars (depth_behind (group_of u.piece) depth) (divided_in depth spot bars u us).1 us

-- an argument, with what takes the place of the bars that divide it
abbrev pub split : Bars → List Unit → List Unit
split bars us = split_from bars 0 AtAny us
