-- The texts of refusals and of errors.
use Rattle.std.specs.Prelude.{ℕ, ◌-◌, true, List, ◌++◌, Option, Some, None, codes, decimal, length, replicate}
use Rattle.std.specs.{Char.encode_utf8, Fmt.digits, Str.byte}
use Rattle.latex2mathml_tex_units.specs.Errors.{kind_of_error, refusal_of}
use Rattle.latex2mathml_tex_units.specs.declared.error.{TexError.TexError, TexErrorKind.TexErrorKind}
use Rattle.latex2mathml_tex_grammar.specs.Refusal as kind

-- a number in hexadecimal, with at least four digits
abbrev pub four_digits : ℕ → List ℕ
four_digits n = replicate (4 - length (digits 16 true n)) (byte "0") ++ digits 16 true n

-- a kind of refusal in words
abbrev pub kind_text : kind.Kind → List ℕ
kind_text kind.LoneBackslash = codes "a backslash ends the formula"
kind_text (kind.ForbiddenCharacter c) = codes "forbidden character U+" ++ four_digits c
kind_text (kind.UnknownCommand name) = codes "unknown command \\" ++ name
kind_text kind.MissingArgument = codes "an argument is missing"
kind_text kind.UnclosedBrace = codes "{ is not closed"
kind_text kind.UnclosedBracket = codes "[ is not closed"
kind_text kind.UnclosedDollar = codes "$ is not closed"
kind_text kind.LeftWithoutRight = codes "\\left without \\right"
kind_text kind.UnopenedBrace = codes "} closes nothing"
kind_text kind.RightWithoutLeft = codes "\\right without \\left"
kind_text kind.MiddleWithoutLeft = codes "\\middle outside of \\left and \\right"
kind_text kind.LimitsWithoutOperator = codes "limits without an operator"
kind_text kind.SecondSubscript = codes "a second subscript"
kind_text kind.SecondSuperscript = codes "a second superscript"
kind_text kind.MissingLength = codes "a length is missing"
kind_text kind.LengthTooLarge = codes "a length of more than 16384 points"
kind_text (kind.UnknownColor name) = codes "unknown color " ++ name
kind_text kind.ChangeAsArgument = codes "a command for the rest of a group is no argument"
kind_text kind.SecondInfix = codes "a second \\over or the like in one group"
kind_text kind.MissingDelimiter = codes "a delimiter is missing"
kind_text kind.NothingToNegate = codes "nothing to negate"
kind_text kind.OutsideTable = codes "a sign of tables outside of a table"
kind_text kind.IncompleteArrow = codes "an arrow is not complete"
kind_text kind.MissingName = codes "the name of an environment is missing"
kind_text (kind.UnknownEnvironment name) = codes "unknown environment " ++ name
kind_text kind.BeginWithoutEnd = codes "\\begin without \\end"
kind_text kind.EndWithoutBegin = codes "\\end without \\begin"
kind_text kind.OtherName = codes "\\end has another name than \\begin"
kind_text kind.UnknownColumn = codes "unknown column"
kind_text kind.TooManyColumns = codes "more than 32 columns"
kind_text (kind.MisplacedCharacter c) = encode_utf8 c ++ codes " has no meaning here"
kind_text (kind.CommandInWords name) = codes "\\" ++ (name ++ codes " in words")
kind_text (kind.CharacterInWords c) = encode_utf8 c ++ codes " in words"
kind_text kind.TooManyExpansions = codes "too many macros are expanded"
kind_text kind.MissingMacroName = codes "no name to define"
kind_text kind.WrongParameters = codes "wrong parameters of a definition"
kind_text kind.WrongUse = codes "the use of a macro does not match its definition"
kind_text kind.UnknownParameter = codes "a body has no such argument"
kind_text kind.NoDefinition = codes "not a definition"

-- a refusal in words: its kind and its place
abbrev pub refusal_text : kind.Refusal → List ℕ
refusal_text refusal = kind_text refusal.kind ++ (codes " at " ++ decimal refusal.place)

-- the text of a refusal, which `text` gives, or that of running out of memory
abbrev pub text_by : {A : Type 0} → (A → List ℕ) → Option A → List ℕ
text_by text (Some refused) = text refused
text_by text None = codes "out of memory"

-- the kind of an error in words
abbrev pub error_kind_text : TexErrorKind → List ℕ
error_kind_text error = text_by kind_text (kind_of_error error)

-- an error in words: running out of memory is about no place
abbrev pub error_text : TexError → List ℕ
error_text error = text_by refusal_text (refusal_of error)
