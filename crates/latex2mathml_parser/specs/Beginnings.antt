-- How the rule of a lexeme begins.
use Rattle.std.specs.Prelude.{◌≡◌, ◌≤◌, List}
use Rattle.latex2mathml_grammar.specs.{Grammar.Rule, Grammar.core, Grammar.error_rule, Grammar.gives, Grammar.reads_members, Grammar.reads_part, Grammar.rule, Openers.opens}
use Rattle.latex2mathml_parser.specs.{Frames.sort_made, Frames.standing_of, Frames.tree_count, Frames.unfit, Levels.remaining, Steps.frame_weight}
use Rattle.latex2mathml_parser.specs.declared.parse.begin.Beginning.{Beginning}
use Rattle.latex2mathml_parser.specs.declared.parse.begin.Beginning.TheVariants as beginning
use Rattle.latex2mathml_parser.specs.declared.parse.frames.Frame.{Frame}
use Rattle.latex2mathml_parts.specs.{Parts.arity, Parts.put, Parts.top, declared.kind.Kind.Kind}
use Rattle.latex2mathml_tokens.specs.{Lexemes.lexeme_tok, Tok.Tok, declared.lexeme.Lexeme.Lexeme}
use Rattle.latex2mathml_trees.specs.Tree.{Tree}

-- the lexeme is a core by itself: a part of this kind, which has no operands
abbrev pub IsLeafOf : Lexeme → Kind → Type 0
IsLeafOf t k = (arity k ≡ 0) × ((ts : List Tree) → rule (lexeme_tok t) ≡ gives (top (put k ts)))

-- the rule of the lexeme is that of this frame, which has no tree yet
pub record IsFrameOf (t : Lexeme) (f : Frame) : Type 0 where
  pub same : (ts : List Tree) → rule (lexeme_tok t) ≡ remaining (standing_of f ts)
  pub makes : sort_made f ≡ core
  pub begun : tree_count f ≡ 0
  pub fit : unfit f ≡ 0
  pub light : frame_weight f ≤ 7
  pub opener : opens (lexeme_tok t) ≡ 1

-- the rule of the lexeme begins like this
abbrev pub IsBeginningOf : Lexeme → Beginning → Type 0
IsBeginningOf t (beginning.Leaf k) = IsLeafOf t k
IsBeginningOf t (beginning.Frame f) = IsFrameOf t f

-- the rule of this token takes more than the token before it waits for a part, or the token begins no rule
abbrev pub TakesMore : Tok → Rule → Type 0
TakesMore t (gives x) = gives x ≡ error_rule t
TakesMore t (reads_part s then) = ⊥
TakesMore t (reads_members end then) = ⊥
TakesMore t r = Unit {0}

abbrev pub IsSpecial : Lexeme → Type 0
IsSpecial t = TakesMore (lexeme_tok t) (rule (lexeme_tok t))
