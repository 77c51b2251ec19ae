-- The steps of the parser: what holds between two of them, what is counted, and how much is left to do.
use Rattle.std.specs.Prelude.{◌≡◌, Bool, true, false, ℕ, ◌+◌, ◌*◌, ◌<◌, ◌≤◌, List, [], drop, length, sum_by, IfOk, IfSome, Result}
use Rattle.std.specs.declared.alloc.AllocError.{AllocError}
use Rattle.latex2mathml_parser.specs.Frames.{awaits, tree_count, innermost, inside, sort_made, standing_of}
use Rattle.latex2mathml_grammar.specs.Counts.{ReadsNodes}
use Rattle.latex2mathml_grammar.specs.Grammar.{core, gives, node, Outcome, Read, Reads, Refused, Rule}
use Rattle.latex2mathml_parser.specs.Levels.{Leads, Level, Made, RuleLeads, Accepts, remaining}
use Rattle.latex2mathml_grammar.specs.Openers.{opens}
use Rattle.latex2mathml_parser.specs.{Unread.GoesOn, Unread.OpensFor, Unread.Unread, declared.parse.Parser.Parser}
use Rattle.latex2mathml_trees.specs.{Tree.Tree}
use Rattle.latex2mathml_parts.specs.{Forests.trees_in, Parts.top}
use Rattle.latex2mathml_tokens.specs.{Lexemes.lexeme_tok, Refusal.Refusal, Refusal.refusal_of, Tok.Tok, declared.error.LatexError.LatexError, declared.lexeme.Lexeme.Lexeme}
use Rattle.latex2mathml_tokens.specs.declared.lexeme.Lexeme.TheVariants as lexeme
use Rattle.latex2mathml_parser.specs.{declared.parse.State.State, declared.parse.frames.Due.Due, declared.parse.frames.Frame.Frame}
use Rattle.latex2mathml_parser.specs.declared.parse.State.TheVariants as state
use Rattle.latex2mathml_parser.specs.declared.parse.frames.Due.TheVariants as due
use Rattle.latex2mathml_parser.specs.declared.parse.frames.Frame.TheVariants as frame

-- the level that the parser is at, without the last n trees
abbrev pub level : ℕ → List Tok → Parser → Level
level n input p = inside input p.frames.stack.items (drop n (trees_in p.parts))

abbrev pub last_tree : Parser → Tree
last_tree p = top (trees_in p.parts)

-- the last tree is read, down to the tokens that are left
abbrev pub last_tree_read : Parser → Outcome Tree
last_tree_read p = Read (last_tree p) p.lexer.list

-- every outcome of the rest of a core's rule leads on from the level without the last n trees
abbrev pub GoesOnBy : Rule → ℕ → List Tok → Parser → Type 0
GoesOnBy r n input p = RuleLeads r (Made core (level n input p)) p.lexer.list

-- every outcome of the rest of this frame's rule leads on; the last trees belong to the frame
abbrev pub GoesOnIn : Frame → List Tok → Parser → Type 0
GoesOnIn f input p = RuleLeads (remaining (standing_of f (trees_in p.parts))) (Made (sort_made f) (level (tree_count f) input p)) p.lexer.list

-- the node of the formula is read: it is the last tree
abbrev pub Ends : List Tok → Parser → Type 0
Ends input p = (p.frames.stack.items ≡ []) × Reads node input (last_tree_read p)

-- the node of the formula is refused by this error
abbrev pub IsRefusedBy : LatexError → List Tok → Type 0
IsRefusedBy error input = IfSome (refusal_of error) (λ r. Reads node input (Refused r))

-- what holds between two steps, where these tokens were left before the node of the formula
abbrev pub Holds : List Tok → Parser → State → Type 0
Holds input p state.Next = Leads (level 0 input p) p.lexer.list
Holds input p state.Core = GoesOnBy (gives (last_tree p)) 1 input p
Holds input p state.Part = Accepts (level 1 input p) (last_tree_read p)
Holds input p state.End = Ends input p
Holds input p state.Refused = IsRefusedBy p.refusal input

-- the last state: the node is read, or the formula is refused
abbrev pub last_state : Bool → State
last_state true = state.End
last_state false = state.Refused

-- there are trees for all frames, and n more
abbrev pub HasTrees : ℕ → Parser → Type 0
HasTrees n p = sum_by tree_count p.frames.stack.items + n ≤ length (trees_in p.parts)

-- how many trees a state refers to
abbrev pub trees_of_state : State → ℕ
trees_of_state state.Next = 0
trees_of_state state.Core = 1
trees_of_state state.Part = 1
trees_of_state state.End = 1
trees_of_state state.Refused = 0

-- how much work a frame still brings, apart from the part that it waits for
abbrev pub frame_weight : Frame → ℕ
frame_weight (frame.Members g n) = 1
frame_weight (frame.First k) = 5
frame_weight f = 2

-- the work that the tokens that are left and the frames still bring
abbrev pub to_do : Parser → ℕ
to_do p = 16 * length p.lexer.list + sum_by frame_weight p.frames.stack.items

abbrev pub state_weight : State → Due → ℕ
state_weight state.Next (due.Member end) = 2
state_weight state.Next d = 5
state_weight state.Core d = 4
state_weight state.Part d = 3
state_weight state.End d = 0
state_weight state.Refused d = 0

-- what is due
abbrev pub due_in : Parser → Due
due_in p = innermost p.frames.stack.items

abbrev pub weight_of : State → Parser → ℕ
weight_of s p = state_weight s (due_in p)

-- how much work a frame that is put back brings, with the part that it waits for
abbrev pub weight_put_back : Frame → ℕ
weight_put_back f = frame_weight f + state_weight state.Next (awaits f) + 1

-- how much is left to do: it falls with every step
abbrev pub work : Parser → State → ℕ
work p s = to_do p + weight_of s p

-- The counts went on, whatever the answer is. At most one frame was opened for each token that was taken, and n more.
pub record Counted (n : ℕ) (old new : Parser) : Type 0 where
  pub counts : GoesOn old.lexer new.lexer
  pub frames : OpensFor old.lexer new.lexer (old.frames.greatest + n) new.frames.greatest

-- the stack itself: it holds at most one frame for each token that was taken, and the greatest number that it held before
abbrev pub StacksWithin : Parser → Parser → Type 0
StacksWithin old new = length new.frames.stack.items + old.lexer.tokens ≤ old.frames.greatest + new.lexer.tokens

-- The state comes next: there are trees for it, and less than the bound is left to do.
pub record Follows (bound : ℕ) (p : Parser) (s : State) : Type 0 where
  pub trees : HasTrees (trees_of_state s) p
  pub falls : work p s < bound

-- A step, whatever its answer is: its counts, with n more frames, and that less than `to_do old + more` is left to do
-- after it.
pub record IsStep (n more : ℕ) (old new : Parser) (answer : Result State AllocError) : Type 0 where
  pub counted : Counted n old new
  pub follows : IfOk answer (Follows (to_do old + more) new)

-- The frame of a stretched operator was opened, and this lexeme was taken after `\middle`. A frame may be opened for it
-- unless it is the end.
pub record IsStretched (old new : Parser) (got : Lexeme) : Type 0 where
  pub trees : HasTrees 0 new
  pub more : (got ≡ lexeme.EOF → ⊥) → (to_do new + 14 ≤ to_do old) × (length new.lexer.list < length old.lexer.list)
      × OpensFor old.lexer new.lexer (old.frames.greatest + 1) (new.frames.greatest + opens (lexeme_tok got))
  pub falls : to_do new ≤ to_do old + 2

-- a node after others is refused, and some of its tokens were taken
abbrev pub IsRefusedWithin : Unread → Unread → Refusal → Type 0
IsRefusedWithin old new r =
    (place : List Tok) × ReadsNodes old.list place × Reads node place (Refused r) × (length new.list < length place)
