-- The program as `clap` reads its words, and what its matches ask for.
use Rattle.std.proofs.Common.{◌≡◌, ◌∙◌, List, [], ◌∷◌, Some, Result, Ok, Err, inl, ap, codes, subst, sym, true}
use Rattle.std.specs.Prelude.{IfOk, IsErrAnd, option_map}
use Rattle.std.specs.Borrow.{Bor}
use Rattle.clap.proofs.WalkLemmas.{first_value-rows, one_text-rows}
use Rattle.clap.specs.Kinds.{Kinds}
use Rattle.clap.specs.Simple.{app_of_fields, on_top}
use Rattle.clap.specs.Words.{FailsBy, HasKind, Rule, Text, app_of, first_of, first_value, found_of, kind_of, matches_of, new_app, new_rule, one_of, one_text, rows_of, rule_of}
use Rattle.clap.specs.declared.builder.action.ArgAction.TheVariants.{SetTrue}
use Rattle.clap.specs.declared.builder.arg.Arg.{Arg}
use Rattle.clap.specs.declared.builder.command.Command.{Command}
use Rattle.clap.specs.declared.builder.command.Command.TheOpen.{Command-F}
use Rattle.clap.specs.declared.builder.command.Command.TheViews.{out-Command}
use Rattle.clap.specs.declared.builder.texts.Texts.TheVariants.{One}
use Rattle.clap.specs.declared.builder.value_parser.ValueParser.{ValueParser}
use Rattle.clap.specs.declared.error.Error.{Error}
use Rattle.clap.specs.declared.error.kind.ErrorKind.TheVariants.{OutOfMemory}
use Rattle.clap.specs.declared.parser.matches.ArgMatches.{ArgMatches}
use Rattle.latex2mathml_tex_program.specs.Requests.{IsAsked, IsDisplay, IsGiven, definitions_rule, display_rule, flag_rule, program}
use Rattle.latex2mathml_tex_program.specs.declared.request.Request.{Request}

-- memory ran out
pub no_memory : (kinds : Kinds) (P : Request → Type 0) (result : Result Request Error)
    → IsErrAnd result (λ e. kind_of e ≡ OutOfMemory)
    → FailsBy kinds result × IfOk result P
no_memory kinds P (Ok request) is = absurd is
no_memory kinds P (Err e) is = (inl is, tt)

-- the words ask for no request
pub no_request : (kinds : Kinds) (P : Request → Type 0) (result : Result Request Error) (error : Error)
    → IsErrAnd result (λ e. e ≡ error)
    → HasKind kinds error
    → FailsBy kinds result × IfOk result P
no_request kinds P (Ok request) error is has = absurd is
no_request kinds P (Err e) error is has = (subst (HasKind kinds) (sym is) has, tt)

-- a command that gets a version, a text about it and its usage
pub versioned : (first second third fourth : Command) (name : Text) (version about usage : Bor Text)
    → app_of first ≡ new_app name
    → out-Command second ≡ record (out-Command first) { version = Some version }
    → out-Command third ≡ record (out-Command second) { about = Some about }
    → out-Command fourth ≡ record (out-Command third) { usage_str = Some usage }
    → app_of fourth ≡ on_top (λ s. record s { has_version = true }) (new_app name)
versioned first second third fourth name version about usage named has told shown =
    ap app_of_fields (shown ∙ ap (λ (f : Command-F Command). record f { usage_str = Some usage })
    (told ∙ ap (λ (f : Command-F Command). record f { about = Some about }) has))
    ∙ ap (on_top (λ s. record s { has_version = true })) named

-- `--display`
pub display_given : (new long named parsed default helped : Arg) (word name value help : Bor Text) (choice : ValueParser)
    → rule_of new ≡ new_rule (codes "display")
    → long ≡ record new { long = Some word }
    → word.now ≡ codes "display"
    → named ≡ record long { val_names = One name }
    → parsed ≡ record named { value_parser = parsed.value_parser }
    → parsed.value_parser ≡ Some choice
    → default ≡ record parsed { default_vals = One value }
    → value.now ≡ codes "inline"
    → helped ≡ record default { help = Some help }
    → rule_of helped ≡ display_rule choice
display_given new long named parsed default helped word name value help choice is_new is_long is_word is_named is_parsed is_choice is_default is_value is_helped =
    ap rule_of is_helped
    ∙ ap rule_of is_default
    ∙ ap (λ (r : Rule). record r { defaults = value.now ∷ [] })
    (ap rule_of is_parsed
    ∙ ap (λ (r : Rule). record r { parser = parsed.value_parser })
    (ap rule_of is_named
    ∙ ap (λ (r : Rule). record r { value_names = 1 })
    (ap rule_of is_long
    ∙ ap (λ (r : Rule). record r { long = Some word.now }) is_new)))
    ∙ ap (λ (t : Text). record (new_rule (codes "display")) { long = Some t; value_names = 1; defaults = value.now ∷ []; parser = parsed.value_parser }) is_word
    ∙ ap (λ (t : Text). record (new_rule (codes "display")) { long = Some (codes "display"); value_names = 1; defaults = t ∷ []; parser = parsed.value_parser }) is_value
    ∙ ap (λ p. record (new_rule (codes "display")) { long = Some (codes "display"); value_names = 1; defaults = codes "inline" ∷ []; parser = p }) is_choice

-- an option that takes no value
pub flag_given : (new long set helped : Arg) (word help : Bor Text)
    → rule_of new ≡ new_rule word.now
    → long ≡ record new { long = Some word }
    → set ≡ record long { action = Some SetTrue }
    → helped ≡ record set { help = Some help }
    → rule_of helped ≡ flag_rule word.now
flag_given new long set helped word help is_new is_long is_set is_helped =
    ap rule_of is_helped
    ∙ ap rule_of is_set
    ∙ ap (λ (r : Rule). record r { action = Some SetTrue })
    (ap rule_of is_long ∙ ap (λ (r : Rule). record r { long = Some word.now }) is_new)

-- `--definitions`
pub definitions_given : (new long named helped : Arg) (word name help : Bor Text)
    → rule_of new ≡ new_rule (codes "definitions")
    → long ≡ record new { long = Some word }
    → word.now ≡ codes "definitions"
    → named ≡ record long { val_names = One name }
    → helped ≡ record named { help = Some help }
    → rule_of helped ≡ definitions_rule
definitions_given new long named helped word name help is_new is_long is_word is_named is_helped =
    ap rule_of is_helped
    ∙ ap rule_of is_named
    ∙ ap (λ (r : Rule). record r { value_names = 1 })
    (ap rule_of is_long ∙ ap (λ (r : Rule). record r { long = Some word.now }) is_new)
    ∙ ap (λ (t : Text). record (new_rule (codes "definitions")) { long = Some t; value_names = 1 }) is_word

-- the request that the matches hold
pub asked : (words : List Text) (choice : ValueParser) (matches : ArgMatches) (request : Request)
    → rows_of (found_of matches) ≡ matches_of (program choice) words
    → IsDisplay (first_value (found_of matches) (codes "display")) request.format.display
    → IsGiven (one_text (found_of matches) (codes "annotation")) request.format.is_annotated
    → IsGiven (one_text (found_of matches) (codes "null")) request.is_many
    → option_map (λ name. name.now) request.definitions ≡ first_value (found_of matches) (codes "definitions")
    → IsAsked (matches_of (program choice) words) request
asked words choice matches request rows is_display is_annotated is_many is_name = (
  subst (λ v. IsDisplay v request.format.display) (first_value-rows (found_of matches) (codes "display") ∙ ap (first_of (codes "display")) rows) is_display,
  subst (λ v. IsGiven v request.format.is_annotated) (one_text-rows (found_of matches) (codes "annotation") ∙ ap (one_of (codes "annotation")) rows) is_annotated,
  subst (λ v. IsGiven v request.is_many) (one_text-rows (found_of matches) (codes "null") ∙ ap (one_of (codes "null")) rows) is_many,
  is_name ∙ first_value-rows (found_of matches) (codes "definitions") ∙ ap (first_of (codes "definitions")) rows,
)
