-- What the words of the command line ask for. The first word is the program's name.
use Rattle.std.specs.Prelude.{◌≡◌, ◌≢◌, ℕ, Bool, true, false, List, [], ◌∷◌, Option, Some, None, Result, IfOk, codes, map, option_map}
use Rattle.clap.specs.Words.{App, FailsBy, Row, Rule, Text, fault_of, first_of, matches_of, new_app, new_rule, one_of, with_rule}
use Rattle.clap.specs.Simple.{on_top}
use Rattle.clap.specs.declared.error.{Error.Error, kind.ErrorKind.ErrorKind}
use Rattle.clap.specs.declared.error.kind.ErrorKind.TheVariants.{DisplayHelp, DisplayVersion, OutOfMemory}
use Rattle.clap.specs.declared.builder.action.ArgAction.TheVariants.{SetTrue}
use Rattle.clap.specs.declared.builder.value_parser.ValueParser.{ValueParser}
use Rattle.clap.specs.declared.builder.value_parser.ValueParser.TheVariants.{Names}
use Rattle.latex2mathml_tokens.specs.declared.DisplayStyle.TheVariants.{Block, Inline}
use Rattle.latex2mathml_tex_program.specs.declared.request.{Display.Display, Request.Request}
use Rattle.latex2mathml_tex_program.specs.declared.request.Display.TheVariants.{All, Each}

-- the parser accepts one of three words
abbrev pub IsChoice : ValueParser → Type 0
IsChoice (Names names) = map (λ name. name.now) names.now ≡ codes "inline" ∷ codes "block" ∷ codes "each" ∷ []
IsChoice parser = ⊥

-- `--display DISPLAY`, which is `inline` if it is not given
abbrev pub display_rule : ValueParser → Rule
display_rule choice = record (new_rule (codes "display")) {
  long = Some (codes "display");
  value_names = 1;
  defaults = codes "inline" ∷ [];
  parser = Some choice;
}

-- an option that takes no value, such as `--null`
abbrev pub flag_rule : Text → Rule
flag_rule name = record (new_rule name) {
  long = Some name;
  action = Some SetTrue;
}

-- `--definitions FILE`
abbrev pub definitions_rule : Rule
definitions_rule = record (new_rule (codes "definitions")) {
  long = Some (codes "definitions");
  value_names = 1;
}

-- the program, as far as reading its words is concerned
abbrev pub program : ValueParser → App
program choice =
    with_rule (with_rule (with_rule (with_rule (on_top (λ s. record s { has_version = true }) (new_app (codes "tex2mathml")))
    (display_rule choice)) (flag_rule (codes "null"))) definitions_rule) (flag_rule (codes "annotation"))

-- the value of `--display` asks for this. It is one of three, as the parse has checked.
abbrev pub IsDisplay : Option Text → Display → Type 0
IsDisplay value (All Block) = value ≡ Some (codes "block")
IsDisplay value (All Inline) = (value ≢ Some (codes "block")) × (value ≢ Some (codes "each"))
IsDisplay value Each = value ≡ Some (codes "each")

-- an option that takes no value has the text `true` or `false`, which says whether it is given
abbrev pub IsGiven : Option Text → Bool → Type 0
IsGiven None is_given = is_given ≡ false
IsGiven (Some text) is_given = (text ≡ codes "true" → is_given ≡ true) × (text ≡ codes "false" → is_given ≡ false)

-- the matches of the arguments ask for this
abbrev pub IsAsked : List Row → Request → Type 0
IsAsked rows request =
    IsDisplay (first_of (codes "display") rows) request.format.display
    × IsGiven (one_of (codes "annotation") rows) request.format.is_annotated
    × IsGiven (one_of (codes "null") rows) request.is_many
    × (option_map (λ name. name.now) request.definitions ≡ first_of (codes "definitions") rows)

-- The answer to the words: the request, or an error whose kind says what is wrong with them or what else they ask for. Out of
-- memory may replace any other result.
abbrev pub IsRequested : List Text → Result Request Error → Type 0
IsRequested words result =
    (choice : ValueParser)
    × IsChoice choice
    × FailsBy (fault_of (program choice) words) result
    × IfOk result (IsAsked (matches_of (program choice) words))

-- the exit status for an error of this kind
abbrev pub status_of_kind : ErrorKind → ℕ
status_of_kind DisplayHelp = 0
status_of_kind DisplayVersion = 0
status_of_kind OutOfMemory = 1
status_of_kind kind = 2
