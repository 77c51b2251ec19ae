-- The refusals that errors report.
use Rattle.std.specs.Prelude.{Bool, true, false, IfErr, IfSome, Option, Result, Some, None, option_map, string_bytes}
use Rattle.latex2mathml_attributes.specs.declared.attributes.Side.{Side}
use Rattle.latex2mathml_attributes.specs.declared.attributes.Side.TheVariants as side
use Rattle.latex2mathml_tex_grammar.specs.Refusal as refusal
use Rattle.latex2mathml_tex_units.specs.declared.error.{TexError.TexError, TexErrorKind.TexErrorKind}
use Rattle.latex2mathml_tex_units.specs.declared.error.TexErrorKind.TheVariants as kind

-- the kind of refusal; running out of memory is none
abbrev pub kind_of_error : TexErrorKind → Option refusal.Kind
kind_of_error kind.LoneBackslash = Some refusal.LoneBackslash
kind_of_error (kind.ForbiddenCharacter c) = Some (refusal.ForbiddenCharacter c)
kind_of_error (kind.UnknownCommand name) = Some (refusal.UnknownCommand (string_bytes name))
kind_of_error kind.MissingArgument = Some refusal.MissingArgument
kind_of_error kind.UnclosedBrace = Some refusal.UnclosedBrace
kind_of_error kind.UnclosedBracket = Some refusal.UnclosedBracket
kind_of_error kind.UnclosedDollar = Some refusal.UnclosedDollar
kind_of_error kind.LeftWithoutRight = Some refusal.LeftWithoutRight
kind_of_error kind.UnopenedBrace = Some refusal.UnopenedBrace
kind_of_error kind.RightWithoutLeft = Some refusal.RightWithoutLeft
kind_of_error kind.MiddleWithoutLeft = Some refusal.MiddleWithoutLeft
kind_of_error kind.LimitsWithoutOperator = Some refusal.LimitsWithoutOperator
kind_of_error kind.SecondSubscript = Some refusal.SecondSubscript
kind_of_error kind.SecondSuperscript = Some refusal.SecondSuperscript
kind_of_error kind.MissingLength = Some refusal.MissingLength
kind_of_error kind.LengthTooLarge = Some refusal.LengthTooLarge
kind_of_error (kind.UnknownColor name) = Some (refusal.UnknownColor (string_bytes name))
kind_of_error kind.ChangeAsArgument = Some refusal.ChangeAsArgument
kind_of_error kind.SecondInfix = Some refusal.SecondInfix
kind_of_error kind.MissingDelimiter = Some refusal.MissingDelimiter
kind_of_error kind.NothingToNegate = Some refusal.NothingToNegate
kind_of_error kind.OutsideTable = Some refusal.OutsideTable
kind_of_error kind.IncompleteArrow = Some refusal.IncompleteArrow
kind_of_error kind.MissingName = Some refusal.MissingName
kind_of_error (kind.UnknownEnvironment name) = Some (refusal.UnknownEnvironment (string_bytes name))
kind_of_error kind.BeginWithoutEnd = Some refusal.BeginWithoutEnd
kind_of_error kind.EndWithoutBegin = Some refusal.EndWithoutBegin
kind_of_error kind.OtherName = Some refusal.OtherName
kind_of_error kind.UnknownColumn = Some refusal.UnknownColumn
kind_of_error kind.TooManyColumns = Some refusal.TooManyColumns
kind_of_error (kind.MisplacedCharacter c) = Some (refusal.MisplacedCharacter c)
kind_of_error (kind.CommandInWords name) = Some (refusal.CommandInWords (string_bytes name))
kind_of_error (kind.CharacterInWords c) = Some (refusal.CharacterInWords c)
kind_of_error kind.TooManyExpansions = Some refusal.TooManyExpansions
kind_of_error kind.MissingMacroName = Some refusal.MissingMacroName
kind_of_error kind.WrongParameters = Some refusal.WrongParameters
kind_of_error kind.WrongUse = Some refusal.WrongUse
kind_of_error kind.UnknownParameter = Some refusal.UnknownParameter
kind_of_error kind.NoDefinition = Some refusal.NoDefinition
kind_of_error kind.OutOfMemory = None

-- the refusal that an error reports
abbrev pub refusal_of : TexError → Option refusal.Refusal
refusal_of error = option_map (λ k. refusal.refusal_at k error.place) (kind_of_error error.kind)

-- the error is running out of memory, or this holds of the refusal that it reports
abbrev pub IfRefused : {A : Type 0} → Result A TexError → (refusal.Refusal → Type 0) → Type 0
IfRefused result P = IfErr result (λ error. IfSome (refusal_of error) P)

-- whether the error is that `&` or `\\` is outside of all tables
abbrev pub is_outside_kind : TexErrorKind → Bool
is_outside_kind kind.OutsideTable = true
is_outside_kind k = false

-- the error of running out of memory: no place of the text is at fault
abbrev pub out_of_memory : TexError
out_of_memory = record { kind = kind.OutOfMemory; place = 0 }

-- why a second script on this side is refused
abbrev pub second_on : Side → TexErrorKind
second_on side.Below = kind.SecondSubscript
second_on side.Above = kind.SecondSuperscript
