-- What is taken unit by unit: the name of an environment, its columns, a number, a color, a length. Each unit is at
-- a spot, which decides what the unit does. White space is ignored.
use Rattle.std.specs.Prelude.{ℕ, zero, suc, ◌+◌, ◌==◌, ◌&&◌, ◌||◌, Bool, true, false, nat_lt, List, [], ◌++◌, if◌then◌else◌, codes}
use Rattle.std.specs.{Char.encode_utf8, Char.is_ascii_digit, Str.byte, Str.bytes_eq}
use Rattle.latex2mathml_tex_grammar.specs.{Commands.meaning_of, Meaning.takes_words}
use Rattle.latex2mathml_tex_grammar.specs.Refusal.{Kind, MissingArgument, MissingLength, MissingName, UnknownColumn, Refusal, refusal_at}
use Rattle.latex2mathml_tex_grammar.specs.Units.{Piece, Space, Open, Close, Command, Character, Unit, Units, Next, End, Stop}

-- what is in braces after `\begin` and the like
pub data Argument : Type 0 where
  -- the name of an environment
  Name : Argument
  -- the columns of a table
  ColumnList : Argument
  -- among them, columns that are repeated
  RepeatedColumns : Argument
  -- a number
  Number : Argument
  -- a color: its name, or its components in a model
  ColorName : Argument

-- what ends a length: a bracket, a brace, or its unit
pub data LengthEnd : Type 0 where
  AtBracket : LengthEnd
  AtBrace : LengthEnd
  AtUnit : LengthEnd

-- where a unit is
pub data Spot : Type 0 where
  -- before the brace of an argument, and after it
  BeforeArgument : Argument → Spot
  InArgument : Argument → Spot
  -- before the brace of a color, or the bracket of its model, and in that bracket
  BeforeColor : Spot
  InModel : Spot
  -- in columns: before the brace of what is between two, or of the width of one; and within it, in this many more braces
  BeforeGap : Argument → Spot
  InGap : Argument → ℕ → Spot
  -- in columns, after a star: before the brace of the number, in the number after this many digits, and before the brace of
  -- the columns that are repeated
  BeforeTimes : Spot
  InTimes : ℕ → Spot
  BeforeRepeated : Spot
  -- before a brace, which is all that is taken
  BeforeBrace : Spot
  -- before a letter in brackets, which says how a table is placed in its line
  BeforePosition : Spot
  InPosition : Spot
  BehindPosition : Spot
  -- after the sign that ends a row: before its star, and after it
  BeforeStar : Spot
  BehindStar : Spot
  -- before a length in brackets or in braces
  BeforeLength : Spot
  BeforeLengthInBraces : Spot
  -- before a length, after its sign, in its number, after this many decimals, after the first letter of its unit, and after
  -- the second
  InLength : LengthEnd → Spot
  BehindSign : LengthEnd → Spot
  InNumber : LengthEnd → Spot
  InDecimals : LengthEnd → ℕ → Spot
  BehindLetter : LengthEnd → ℕ → Spot
  BehindLength : LengthEnd → Spot
  -- before a row, where lines may be drawn
  BeforeRow : Spot

-- what a unit does
pub data Deed : Type 0 where
  -- it is ignored, and the next unit is at this spot
  Passes : Spot → Deed
  -- it adds this character, and the next unit is at this spot
  Adds : ℕ → Spot → Deed
  -- it is the last one
  Ends : Deed
  -- the unit before it is the last one
  Leaves : Deed
  -- what was to be taken is not here
  Misses : Deed
  -- the unit is refused
  Refuses : Kind → Deed

-- passes a unit if it may be there
abbrev pub passes_if : Bool → Spot → Deed
passes_if true spot = Passes spot
passes_if false spot = Misses

-- takes a unit for the text if it may be there
abbrev pub adds_if : Bool → ℕ → Spot → Deed
adds_if true c spot = Adds c spot
adds_if false c spot = Misses

-- ends here if that is allowed
abbrev pub ends_if : Bool → Deed
ends_if true = Ends
ends_if false = Misses

-- The characters of an argument

-- a dollar sign is not part of a name
abbrev pub name_deed : Argument → ℕ → Deed
name_deed a c = if c == byte "$" then Misses else Adds c (InArgument a)

-- a column on the left, in the middle, or on the right, or a line, which may be dashed; a column that has a width is on the left, and its width is
-- ignored
abbrev pub column_deed : Argument → ℕ → Deed
column_deed a c =
    if c == byte "l" || c == byte "c" || c == byte "r" || c == byte "|" || c == byte ":" then Adds c (InArgument a)
    else if c == byte "p" || c == byte "m" || c == byte "b" then Adds (byte "l") (BeforeGap a)
    else if c == byte "@" then Passes (BeforeGap a)
    else Refuses UnknownColumn

-- a column, or the star before columns that are repeated
abbrev pub listed_deed : ℕ → Deed
listed_deed c = if c == byte "*" then Adds c BeforeTimes else column_deed ColumnList c

-- a brace before a color, or a bracket before the model in which the color is given
abbrev pub color_deed : Piece → Deed
color_deed Open = Passes (InArgument ColorName)
color_deed (Character c) = adds_if (c == byte "[") c InModel
color_deed piece = Misses

-- the name of a model, up to its bracket
abbrev pub model_deed : Piece → Deed
model_deed (Character c) =
    if c == byte "]" then Adds c (BeforeArgument ColorName)
    else if c == byte "$" then Misses
    else Adds c InModel
model_deed piece = Misses

-- a character in an argument
abbrev pub character_deed : Argument → ℕ → Deed
character_deed Name c = name_deed Name c
character_deed ColumnList c = listed_deed c
character_deed RepeatedColumns c = column_deed RepeatedColumns c
character_deed Number c = adds_if (is_ascii_digit c) c (InArgument Number)
character_deed ColorName c = name_deed ColorName c

-- any unit other than a character or the brace that ends the argument
abbrev pub other_deed : Argument → Deed
other_deed Name = Misses
other_deed ColumnList = Refuses UnknownColumn
other_deed RepeatedColumns = Refuses UnknownColumn
other_deed Number = Misses
other_deed ColorName = Misses

-- a brace ends the argument; the one that ends repeated columns is kept, and other columns may follow
abbrev pub closing_deed : Argument → Deed
closing_deed Name = Ends
closing_deed ColumnList = Ends
closing_deed RepeatedColumns = Adds (byte "}") (InArgument ColumnList)
closing_deed Number = Ends
closing_deed ColorName = Ends

-- a unit in an argument, which a brace ends
abbrev pub argument_deed : Argument → Piece → Deed
argument_deed a (Character c) = character_deed a c
argument_deed a Close = closing_deed a
argument_deed a Open = other_deed a
argument_deed a Space = other_deed a
argument_deed a (Command name) = other_deed a

-- how deep braces may be nested
abbrev pub most_braces : ℕ
most_braces = 100

-- where the unit after a closing brace is: the brace closes the innermost open one, or else ends what is in braces among columns
abbrev pub behind_brace : Argument → ℕ → Spot
behind_brace a zero = InArgument a
behind_brace a (suc n) = InGap a n

-- what is in braces among columns is ignored; words, and formulas in words, are refused there
abbrev pub gap_deed : Argument → ℕ → Piece → Deed
gap_deed a n Open = if nat_lt n most_braces then Passes (InGap a (n + 1)) else Refuses UnknownColumn
gap_deed a n Close = Passes (behind_brace a n)
gap_deed a n (Command name) = if takes_words (meaning_of name) then Refuses UnknownColumn else Passes (InGap a n)
gap_deed a n (Character c) = if c == byte "$" then Refuses UnknownColumn else Passes (InGap a n)
gap_deed a n Space = Passes (InGap a n)

-- how many digits the number of repetitions may have
abbrev pub most_digits : ℕ
most_digits = 2

-- a unit in the number of repetitions, after this many digits
abbrev pub times_deed : ℕ → Piece → Deed
times_deed n (Character c) = if is_ascii_digit c && nat_lt n most_digits then Adds c (InTimes (n + 1)) else Refuses UnknownColumn
times_deed n Close = if n == 0 then Refuses UnknownColumn else Passes BeforeRepeated
times_deed n piece = Refuses UnknownColumn

-- one deed for an opening brace, the other for any other unit
abbrev pub brace_deed : Deed → Deed → Piece → Deed
brace_deed opened otherwise Open = opened
brace_deed opened otherwise piece = otherwise

-- Lengths

-- the units of length of TeX, and pixels
abbrev pub is_unit_of_length : ℕ → ℕ → Bool
is_unit_of_length c d =
    (d == byte "c" && (c == byte "c" || c == byte "p"))
    || (d == byte "d" && c == byte "d")
    || (d == byte "m" && (c == byte "c" || c == byte "e" || c == byte "m"))
    || (d == byte "n" && c == byte "i")
    || (d == byte "p" && (c == byte "b" || c == byte "s"))
    || (d == byte "t" && c == byte "p")
    || (d == byte "u" && c == byte "m")
    || (d == byte "x" && (c == byte "e" || c == byte "p"))

-- whether a letter begins the name of a unit of length, such as `em`
abbrev pub begins_unit_of_length : ℕ → Bool
begins_unit_of_length c =
    c == byte "b" || c == byte "c" || c == byte "d" || c == byte "e" || c == byte "i" || c == byte "m" || c == byte "p" || c == byte "s"

-- a number begins
abbrev pub number_deed : LengthEnd → ℕ → Deed
number_deed end c = if is_ascii_digit c then Adds c (InNumber end) else adds_if (c == byte ".") c (InDecimals end 0)

-- a character where a length has its sign
abbrev pub sign_deed : LengthEnd → ℕ → Deed
sign_deed end c =
    if c == byte "-" then Adds c (BehindSign end)
    else if c == byte "+" then Passes (BehindSign end)
    else number_deed end c

-- a character where the unit of a length begins
abbrev pub unit_deed : LengthEnd → ℕ → Deed
unit_deed end c = adds_if (begins_unit_of_length c) c (BehindLetter end c)

-- more decimals than this make no difference
abbrev pub most_decimals : ℕ
most_decimals = 5

-- a character after the point of a length, where decimals that change nothing are passed
abbrev pub decimal_deed : LengthEnd → ℕ → ℕ → Deed
decimal_deed end n c =
    if is_ascii_digit c then (if nat_lt n most_decimals then Adds c (InDecimals end (n + 1)) else Passes (InDecimals end n))
    else unit_deed end c

-- what a character does in a length
abbrev pub length_deed : Spot → ℕ → Deed
length_deed (InLength end) c = sign_deed end c
length_deed (BehindSign end) c = number_deed end c
length_deed (InNumber end) c =
    if is_ascii_digit c then Adds c (InNumber end)
    else if c == byte "." then Adds c (InDecimals end 0)
    else unit_deed end c
length_deed (InDecimals end n) c = decimal_deed end n c
length_deed (BehindLetter end first) c = adds_if (is_unit_of_length first c) c (BehindLength end)
length_deed spot c = Misses

-- a unit in a length
abbrev pub in_length : Spot → Piece → Deed
in_length spot (Character c) = length_deed spot c
in_length spot piece = Misses

-- what a unit does after a length
abbrev pub ending_deed : LengthEnd → Piece → Deed
ending_deed AtBracket (Character c) = ends_if (c == byte "]")
ending_deed AtBrace Close = Ends
ending_deed AtUnit piece = Leaves
ending_deed end piece = Misses

-- whether a letter is a position of a table
abbrev pub is_position : ℕ → Bool
is_position c = c == byte "t" || c == byte "b" || c == byte "c"

-- what a character does in brackets and before them
abbrev pub bracket_deed : Spot → ℕ → Deed
bracket_deed BeforePosition c = passes_if (c == byte "[") InPosition
bracket_deed InPosition c = passes_if (is_position c) BehindPosition
bracket_deed BehindPosition c = ends_if (c == byte "]")
bracket_deed BeforeLength c = passes_if (c == byte "[") (InLength AtBracket)
bracket_deed spot c = Misses

-- a unit in brackets
abbrev pub in_brackets : Spot → Piece → Deed
in_brackets spot (Character c) = bracket_deed spot c
in_brackets spot piece = Misses

-- Rows

-- a unit where a star may be
abbrev pub star_deed : Piece → Deed
star_deed (Character c) = if c == byte "*" then Passes BehindStar else Leaves
star_deed piece = Leaves

-- the lines between rows
abbrev pub is_line : List ℕ → Bool
is_line name = bytes_eq name (codes "hline") || bytes_eq name (codes "hdashline") || bytes_eq name (codes "toprule") || bytes_eq name (codes "midrule") || bytes_eq name (codes "bottomrule")

-- a unit before a row, where lines are passed
abbrev pub row_deed : Piece → Deed
row_deed (Command name) = if is_line name then Passes BeforeRow else Leaves
row_deed piece = Leaves

-- What the unit at a spot does

-- what a unit other than white space does at a spot
abbrev pub deed_there : Spot → Piece → Deed
deed_there (BeforeArgument a) piece = brace_deed (Passes (InArgument a)) Misses piece
deed_there (InArgument a) piece = argument_deed a piece
deed_there BeforeColor piece = color_deed piece
deed_there InModel piece = model_deed piece
deed_there (BeforeGap a) piece = brace_deed (Passes (InGap a 0)) (Refuses UnknownColumn) piece
deed_there (InGap a n) piece = gap_deed a n piece
deed_there BeforeTimes piece = brace_deed (Passes (InTimes 0)) (Refuses UnknownColumn) piece
deed_there (InTimes n) piece = times_deed n piece
deed_there BeforeRepeated piece = brace_deed (Adds (byte "{") (InArgument RepeatedColumns)) (Refuses UnknownColumn) piece
deed_there BeforeBrace piece = brace_deed Ends Misses piece
deed_there BeforeStar piece = star_deed piece
deed_there BehindStar piece = Leaves
deed_there BeforeRow piece = row_deed piece
deed_there BeforeLengthInBraces piece = brace_deed (Passes (InLength AtBrace)) Misses piece
deed_there (InLength end) piece = in_length (InLength end) piece
deed_there (BehindSign end) piece = in_length (BehindSign end) piece
deed_there (InNumber end) piece = in_length (InNumber end) piece
deed_there (InDecimals end n) piece = in_length (InDecimals end n) piece
deed_there (BehindLetter end first) piece = in_length (BehindLetter end first) piece
deed_there (BehindLength end) piece = ending_deed end piece
deed_there spot piece = in_brackets spot piece

-- what a unit does at a spot
abbrev pub deed : Spot → Piece → Deed
deed spot Space = Passes spot
deed spot piece = deed_there spot piece

-- whether nothing has to follow
abbrev pub may_end : Spot → Bool
may_end BeforeStar = true
may_end BehindStar = true
may_end BeforeRow = true
may_end (BehindLength AtUnit) = true
may_end spot = false

-- the kind of refusal where what was to be taken is missing
abbrev pub missing : Spot → Kind
missing (BeforeArgument Name) = MissingName
missing (InArgument Name) = MissingName
missing BeforeLengthInBraces = MissingLength
missing (InLength end) = MissingLength
missing (BehindSign end) = MissingLength
missing (InNumber end) = MissingLength
missing (InDecimals end n) = MissingLength
missing (BehindLetter end first) = MissingLength
missing (BehindLength end) = MissingLength
missing spot = MissingArgument

-- what was taken: a text, as its bytes, and the units after it; or why it is refused
pub data Found : Type 0 where
  Given : List ℕ → Units → Found
  Missing : Refusal → Found

-- what was found, after this character
abbrev pub with_character : ℕ → Found → Found
with_character c (Given more l) = Given (encode_utf8 c ++ more) l
with_character c (Missing r) = Missing r

-- the result of a unit, where `behind` gives what is found after it from each spot on; `place` is that of what takes it
abbrev pub done : ℕ → Spot → Deed → Unit → Units → (Spot → Found) → Found
done place spot (Passes next) u l behind = behind next
done place spot (Adds c next) u l behind = with_character c (behind next)
done place spot Ends u l behind = Given [] l
done place spot Leaves u l behind = Given [] (Next u l)
done place spot Misses u l behind = Missing (refusal_at (missing spot) place)
done place spot (Refuses kind) u l behind = Missing (refusal_at kind u.place)

-- where units end: an empty text if it may end there
abbrev pub found_at_end : Bool → Units → Refusal → Found
found_at_end true l refusal = Given [] l
found_at_end false l refusal = Missing refusal

-- what is found among these units from this spot on
abbrev pub scan : ℕ → Units → Spot → Found
scan place (Next u us) spot = done place spot (deed spot u.piece) u us (scan place us)
scan place (End at) spot = found_at_end (may_end spot) (End at) (refusal_at (missing spot) place)
scan place (Stop refusal) spot = found_at_end (may_end spot) (Stop refusal) refusal

-- the units after what was found, or all of them, where it is not here
abbrev pub behind_found : Units → Found → Units
behind_found l (Given text m) = m
behind_found l (Missing refusal) = l

-- the units after what is found from a spot on, or all of them if nothing is
abbrev pub past : Spot → Units → Units
past spot l = behind_found l (scan 0 l spot)

-- the units after the star and the length that may follow the sign that ends a row
abbrev pub past_gap : Units → Units
past_gap l = past BeforeLength (past BeforeStar l)

-- the units after the sign that ends a row: its star, a length, and the lines before the next row are skipped
abbrev pub past_break : Units → Units
past_break l = past BeforeRow (past_gap l)
