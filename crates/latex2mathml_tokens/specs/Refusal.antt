-- Why a formula or a document is refused, as values, and the texts of refusals.
use Rattle.std.specs.Prelude.{ℕ, List, ◌++◌, Option, Some, None, IfErr, IfSome, Result, codes, string_bytes}
use Rattle.latex2mathml_tokens.specs.{Tok.Tok, Tok.tok, Tok.token_text, declared.error.LatexError.LatexError}
use Rattle.latex2mathml_tokens.specs.declared.error.LatexError.TheVariants as error

-- No formula is refused for its dollar signs: that is a refusal of a document.
pub data Refusal : Type 0 where
  -- the token that is expected, and the one that was found
  UnexpectedToken : Tok → Tok → Refusal
  -- after which token a parenthesis is missing, and the token that was found
  MissingParensethis : Tok → Tok → Refusal
  UnknownEnvironment : List ℕ → Refusal
  InvalidNumberOfDollarSigns : Refusal
  deriving Discrete as Refusal-discrete

-- the refusal that an error reports; running out of memory is not a refusal
abbrev pub refusal_of : LatexError → Option Refusal
refusal_of (error.UnexpectedToken expected got) = Some (UnexpectedToken (tok expected) (tok got))
refusal_of (error.MissingParensethis location got) = Some (MissingParensethis (tok location) (tok got))
refusal_of (error.UnknownEnvironment name) = Some (UnknownEnvironment (string_bytes name))
refusal_of error.InvalidNumberOfDollarSigns = Some InvalidNumberOfDollarSigns
refusal_of error.OutOfMemory = None

-- the fact holds of the refusal if the result is an error that reports one
abbrev pub IfRefused : {T : Type 0} → Result T LatexError → (Refusal → Type 0) → Type 0
IfRefused answer P = IfErr answer (λ e. IfSome (refusal_of e) P)

abbrev pub refusal_text : Refusal → List ℕ
refusal_text (UnexpectedToken expected got) = codes "The token \"" ++ (token_text expected ++ (codes "\" is expected, but the token \"" ++ (token_text got ++ codes "\" is found.\"")))
refusal_text (MissingParensethis location got) = codes "There must be a parenthesis after \"" ++ (token_text location ++ (codes "\", but not found. Insted, \"" ++ (token_text got ++ codes "\" is found.")))
refusal_text (UnknownEnvironment name) = codes "An unknown environment \"" ++ (name ++ codes "\" is found")
refusal_text InvalidNumberOfDollarSigns = codes "The number of dollar sings found is invalid."

-- the text of an error
abbrev pub error_text : Option Refusal → List ℕ
error_text (Some refusal) = refusal_text refusal
error_text None = codes "Memory could not be found."
