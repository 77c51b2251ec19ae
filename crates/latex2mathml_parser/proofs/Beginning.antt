-- How the rules of lexemes begin.
use Rattle.std.proofs.Common.{arith, ◌≡◌, ℕ, List, [], ◌∷◌, ◌++◌, refl, ap, ◌∙◌}
use Rattle.latex2mathml_parser.specs.{Frames.innermost, Frames.inside, Marks.rest_of, declared.parse.frames.Frame.Frame}
use Rattle.latex2mathml_grammar.specs.Grammar.{core, first_or_end, refuses, rule, sized, token_seen}
use Rattle.latex2mathml_parser.specs.Levels.{due_of, Leads, Level, Made, MayBegin, RuleLeads}
use Rattle.latex2mathml_trees.specs.Tree.{Tree}
use Rattle.latex2mathml_tokens.specs.{Lexemes.lexeme_tok, Refusal.UnexpectedToken, declared.lexeme.Lexeme.Lexeme}
use Rattle.latex2mathml_tokens.specs.Tok.{Tok, EOF, Letter, Middle, Paren}
use Rattle.latex2mathml_tokens.specs.declared.attribute.Variant.TheVariants.{Italic}
use Rattle.latex2mathml_parser.specs.declared.parse.frames.Due.{Due}
use Rattle.latex2mathml_parser.specs.declared.parse.frames.Due.TheVariants as due
use Rattle.latex2mathml_tokens.specs.declared.lexeme.Lexeme.TheVariants as lexeme
use Rattle.latex2mathml_tokens.specs.declared.names.Paren.{Paren as ParenName}
use Rattle.latex2mathml_parser.specs.declared.parse.frames.Frame.TheVariants as frame
use Rattle.latex2mathml_parser.proofs.{Levels.begun, Levels.begun_at_end, Stacks.due_of_inside, Stacks.innermost_push, Stacks.put_on}

-- only the end is the lexeme of the end
pub is_end : (t : Lexeme) → lexeme_tok t ≡ EOF → t ≡ lexeme.EOF
is_end t e = grind (arith)

-- a lexeme that is not the end was taken
pub stood : (t : Lexeme) (place to : List Tok) → (t ≡ lexeme.EOF → ⊥) → lexeme_tok t ≡ first_or_end place → to ≡ rest_of place → place ≡ lexeme_tok t ∷ to
stood t place to h e f = grind (arith, is_end)

-- a letter was taken, which ends no group
pub letter_stood : (c : ℕ) (place to : List Tok) → Letter c Italic ≡ first_or_end place → to ≡ rest_of place → place ≡ Letter c Italic ∷ to
letter_stood c place to e f = grind (arith)

letter_may : (d : Due) (c : ℕ) (to : List Tok) → MayBegin d (Letter c Italic ∷ to)
letter_may (due.Member end) c to = λ e. grind (arith)
letter_may d c to = tt

pub letter_begins : (c : ℕ) (fs : List Frame) {place to : List Tok} → place ≡ Letter c Italic ∷ to → MayBegin (innermost fs) place
letter_begins c fs {place} {to} e = rw e (letter_may (innermost fs) c to)

-- a lexeme that is not a parenthesis has no size
pub not_sized : (size : List ℕ) (got : Lexeme) → ((p : ParenName) → got ≡ lexeme.Paren p → ⊥) → sized size (lexeme_tok got) ≡ refuses (UnexpectedToken (Paren []) (lexeme_tok got))
not_sized size got h = grind (arith)

-- what may begin here or at the end
seen_begun : (l : Level) (place to : List Tok) (t : Tok) → ((any : List Tok) → MayBegin (due_of l) any) → t ≡ first_or_end place → to ≡ rest_of place → Leads l place → RuleLeads (rule t) (Made core l) to
seen_begun l [] to t may e same k = rw (e, same) (begun_at_end l (may []) k)
seen_begun l (u ∷ us) to t may e same k = rw (e, same) (begun l (u ∷ us) us u (may (u ∷ us)) refl k)

-- the lexeme after `\middle` is seen, and begins the operator
pub stretch_begun : (input : List Tok) (fs gs : List Frame) (ts : List Tree) (got : Lexeme) (place to : List Tok) → gs ≡ fs ++ frame.Stretch got ∷ [] → lexeme_tok got ≡ first_or_end place → to ≡ rest_of place → RuleLeads (rule Middle) (Made core (inside input fs ts)) place → RuleLeads (rule (lexeme_tok got)) (Made core (inside input gs ts)) to
stretch_begun input fs gs ts got place to on e same k =
    seen_begun (inside input gs ts) place to (lexeme_tok got) (λ any. rw (due_of_inside input gs ts ∙ ap innermost on ∙ innermost_push fs (frame.Stretch got)) tt) e same
    (put_on input fs gs (frame.Stretch got) ts place on (rw e (record { to = λ o d. k.to o (token_seen d) })))
