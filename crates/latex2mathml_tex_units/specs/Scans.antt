-- Where a unit is when units are taken one by one, and what it does there, as the definitions have it.
use Rattle.std.specs.Prelude.{◌≡◌, ℕ, List, ◌++◌, Option, Some, None}
use Rattle.latex2mathml_tex_grammar.specs.Refusal.{Refusal, UnknownColumn}
use Rattle.latex2mathml_tex_grammar.specs.Scanning as scanning
use Rattle.latex2mathml_tex_grammar.specs.Scanning.{Found, Given, Missing}
use Rattle.latex2mathml_tex_grammar.specs.Units.{Units}
use Rattle.latex2mathml_tex_units.specs.{Errors.refusal_of, declared.error.TexError.TexError}
use Rattle.latex2mathml_tex_units.specs.declared.scanning.{Argument.Argument, Deed.Deed, LengthEnd.LengthEnd, Spot.Spot}
use Rattle.latex2mathml_tex_units.specs.declared.scanning.Argument.TheVariants as argument
use Rattle.latex2mathml_tex_units.specs.declared.scanning.Deed.TheVariants as deed
use Rattle.latex2mathml_tex_units.specs.declared.scanning.LengthEnd.TheVariants as length_end
use Rattle.latex2mathml_tex_units.specs.declared.scanning.Spot.TheVariants as spot

abbrev pub argument_of : Argument → scanning.Argument
argument_of argument.Name = scanning.Name
argument_of argument.ColumnList = scanning.ColumnList
argument_of argument.RepeatedColumns = scanning.RepeatedColumns
argument_of argument.Number = scanning.Number
argument_of argument.ColorName = scanning.ColorName

abbrev pub length_end_of : LengthEnd → scanning.LengthEnd
length_end_of length_end.AtBracket = scanning.AtBracket
length_end_of length_end.AtBrace = scanning.AtBrace
length_end_of length_end.AtUnit = scanning.AtUnit

abbrev pub spot_of : Spot → scanning.Spot
spot_of (spot.BeforeArgument a) = scanning.BeforeArgument (argument_of a)
spot_of (spot.InArgument a) = scanning.InArgument (argument_of a)
spot_of (spot.BeforeGap a) = scanning.BeforeGap (argument_of a)
spot_of (spot.InGap a n) = scanning.InGap (argument_of a) n
spot_of spot.BeforeTimes = scanning.BeforeTimes
spot_of (spot.InTimes n) = scanning.InTimes n
spot_of spot.BeforeRepeated = scanning.BeforeRepeated
spot_of spot.BeforeBrace = scanning.BeforeBrace
spot_of spot.BeforePosition = scanning.BeforePosition
spot_of spot.InPosition = scanning.InPosition
spot_of spot.BehindPosition = scanning.BehindPosition
spot_of spot.BeforeColor = scanning.BeforeColor
spot_of spot.InModel = scanning.InModel
spot_of spot.BeforeStar = scanning.BeforeStar
spot_of spot.BehindStar = scanning.BehindStar
spot_of spot.BeforeLength = scanning.BeforeLength
spot_of spot.BeforeLengthInBraces = scanning.BeforeLengthInBraces
spot_of (spot.InLength end) = scanning.InLength (length_end_of end)
spot_of (spot.BehindSign end) = scanning.BehindSign (length_end_of end)
spot_of (spot.InNumber end) = scanning.InNumber (length_end_of end)
spot_of (spot.InDecimals end n) = scanning.InDecimals (length_end_of end) n
spot_of (spot.BehindLetter end c) = scanning.BehindLetter (length_end_of end) c
spot_of (spot.BehindLength end) = scanning.BehindLength (length_end_of end)
spot_of spot.BeforeRow = scanning.BeforeRow

abbrev pub deed_of : Deed → scanning.Deed
deed_of (deed.Passes next) = scanning.Passes (spot_of next)
deed_of (deed.Adds c next) = scanning.Adds c (spot_of next)
deed_of deed.Ends = scanning.Ends
deed_of deed.Leaves = scanning.Leaves
deed_of deed.Misses = scanning.Misses
deed_of deed.Refuses = scanning.Refuses UnknownColumn

-- what is found, preceded by a text
abbrev pub behind_text : List ℕ → Found → Found
behind_text text (Given more l) = Given (text ++ more) l
behind_text text (Missing r) = Missing r

-- if no error is returned, this text was found, and these units are left; otherwise it is refused as the error says
abbrev pub IsFound : Option TexError → List ℕ → Units → Found → Type 0
IsFound None text l found = found ≡ Given text l
IsFound (Some error) text l found = (r : Refusal) × (refusal_of error ≡ Some r) × (found ≡ Missing r)
