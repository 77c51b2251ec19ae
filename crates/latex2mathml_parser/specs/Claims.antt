-- What the parser's functions answer: what held before a call holds of the state that it returns, for all tokens that
-- were left before the node of the formula.
use Rattle.std.specs.Prelude.{◌≡◌, Bool, true, false, ℕ, List, [], ◌∷◌, ◌++◌, IfOk, IfSome, None, Result, String}
use Rattle.std.specs.Prelude.{codes, drop, reverse, string_bytes, take}
use Rattle.std.specs.declared.alloc.AllocError.{AllocError}
use Rattle.std.specs.declared.alloc.Global.{Global}
use Rattle.latex2mathml_grammar.specs.Grammar.{ReadsFormula, Read, Reads, Refused, Refuses, Rule, first, gives, node}
use Rattle.latex2mathml_grammar.specs.Grammar.{single as a_single}
use Rattle.latex2mathml_grammar.specs.Rendering.{math_print}
use Rattle.latex2mathml_parser.specs.Beginnings.{IsLeafOf}
use Rattle.latex2mathml_parser.specs.Frames.{after_first, after_members, tree_count, with_limits, within}
use Rattle.latex2mathml_parser.specs.Marks.{MarkStands}
use Rattle.latex2mathml_parser.specs.Levels.{Accepts, Leads, Made, end_token}
use Rattle.latex2mathml_parser.specs.Steps.{GoesOnBy, GoesOnIn, Holds, IsRefusedWithin, due_in, last_state, last_tree, last_tree_read, level}
use Rattle.latex2mathml_parser.specs.{declared.parse.Parser.Parser, declared.parse.State.State}
use Rattle.latex2mathml_parser.specs.declared.parse.State.TheVariants as state
use Rattle.latex2mathml_parser.specs.declared.parse.frames.Due.TheVariants as due
use Rattle.latex2mathml_parser.specs.{declared.parse.frames.Frame.Frame, declared.parse.frames.Group.Group}
use Rattle.latex2mathml_parser.specs.declared.parse.frames.Frame.TheVariants as frame
use Rattle.latex2mathml_parser.specs.{declared.parse.frames.GroupEnd.GroupEnd, declared.parse.frames.Pair.Pair}
use Rattle.latex2mathml_parts.specs.{Forests.trees_in, Parts.arity, Parts.put, Parts.top, declared.kind.Kind.Kind}
use Rattle.latex2mathml_tokens.specs.{Attributes.display_text, Lexemes.lexeme_tok, Refusal.MissingParensethis, Refusal.refusal_of, Tok.Tok, Tok.tok}
use Rattle.latex2mathml_tokens.specs.{declared.DisplayStyle.DisplayStyle, declared.lexeme.Lexeme.Lexeme, declared.token.Token.Token}
use Rattle.latex2mathml_trees.specs.{Print.print, Tree.Tree}

-- what the state claims before the call, the answer claims after it
abbrev pub Keeps : State → Parser → Parser → Result State AllocError → Type 0
Keeps s old new answer = (input : List Tok) → Holds input old s → IfOk answer (Holds input new)

-- what the state claims before the call, the last state claims after it, at the end of the node
abbrev pub Finishes : State → Parser → Parser → Result Bool AllocError → Type 0
Finishes s old new answer = (input : List Tok) → Holds input old s → IfOk answer (λ read. Holds input new (last_state read))

-- the rest of a core's rule is read, without the last n trees
abbrev pub Proceeds : Rule → ℕ → Parser → Parser → Result State AllocError → Type 0
Proceeds r n old new answer = (input : List Tok) → GoesOnBy r n input old → IfOk answer (Holds input new)

-- the rest of this frame's rule is read; the last trees belong to it
abbrev pub Enters : Frame → Parser → Parser → Result State AllocError → Type 0
Enters f old new answer = (input : List Tok) → GoesOnIn f input old → IfOk answer (Holds input new)

-- the last tree is the part that this frame waited for
abbrev pub Delivers : Frame → Parser → Parser → Result State AllocError → Type 0
Delivers f old new answer =
    (input : List Tok)
    → Accepts (within input old.frames.stack.items f (drop 1 (trees_in old.parts))) (last_tree_read old)
    → IfOk answer (Holds input new)

-- the last tree is a single
abbrev pub FollowsSingle : Parser → Parser → Result State AllocError → Type 0
FollowsSingle old new answer =
    (input : List Tok) → Made a_single (level 1 input old) (last_tree_read old) → IfOk answer (Holds input new)

-- a part of this kind is the core, with the last trees as its operands
abbrev pub Puts : Kind → Parser → Parser → Result State AllocError → Type 0
Puts k old new answer = Proceeds (gives (top (put k (trees_in old.parts)))) (arity k) old new answer

-- the last n trees are the members of a group that has ended
abbrev pub EndsGroup : Group → ℕ → Parser → Parser → Result State AllocError → Type 0
EndsGroup g n old new answer =
    Proceeds (after_members g (drop n (trees_in old.parts)) (reverse (take n (trees_in old.parts))))
    (tree_count (frame.Members g n)) old new answer

-- the end of the innermost group was taken
abbrev pub EndsInnermost : Parser → Parser → Result State AllocError → Type 0
EndsInnermost old new answer =
    (input : List Tok) (end : GroupEnd)
    → due_in old ≡ due.Member end
    → Leads (level 0 input old) (end_token end ∷ old.lexer.list)
    → IfOk answer (Holds input new)

-- the node is refused, because this lexeme follows the token in place of a fence
abbrev pub LacksFence : Token → Lexeme → List Tok → Type 0
LacksFence location got input = Reads node input (Refused (MissingParensethis (tok location) (lexeme_tok got)))

-- the rule of an operator with its limits
abbrev pub limited : ℕ → Pair → Pair → Parser → Rule
limited c below above p = with_limits c below above (trees_in p.parts)

-- what follows the last tree, which is the first single of a pair
abbrev pub after_single : Pair → Parser → Rule
after_single pair p = after_first pair (drop 1 (trees_in p.parts)) (last_tree p)

-- the lexeme is a node by itself: a part of this kind, with no mark after it
abbrev pub IsLoneLeaf : Lexeme → List Tok → Kind → Type 0
IsLoneLeaf t place k = IsLeafOf t k × MarkStands None (first place)

-- the tag that opens the `math` element
abbrev pub math_opening : DisplayStyle → List ℕ
math_opening display = codes "<math xmlns=\"http://www.w3.org/1998/Math/MathML\" display=\"" ++ (display_text display ++ codes "\">")

-- a reading of the tokens that are left is appended, as a `math` element, and no token is left
abbrev pub AppendsMath : Parser → DisplayStyle → Parser → String Global → String Global → Type 0
AppendsMath p display q old new =
    ((xs : List Tree) × ReadsFormula p.lexer.list xs × (string_bytes new ≡ string_bytes old ++ math_print display xs))
    × (q.lexer.list ≡ [])

-- the formula is refused, for the reason that the parser holds: a node is, and some of its tokens were taken
abbrev pub HoldsRefusal : Parser → Parser → Type 0
HoldsRefusal p q =
    IfSome (refusal_of q.refusal) (Refuses p.lexer.list)
    × IfSome (refusal_of q.refusal) (IsRefusedWithin p.lexer q.lexer)

-- the markup is the `math` element of a reading of the tokens that are left
abbrev pub IsMathOf : Parser → DisplayStyle → List ℕ → Type 0
IsMathOf p display markup = (xs : List Tree) × ReadsFormula p.lexer.list xs × (markup ≡ math_print display xs)

-- No rule is open any more: a node of these tokens was read, down to those that are left, and its print follows what was
-- there. Or the formula is refused.
abbrev pub IsAppended : List Tok → Parser → String Global → String Global → Bool → Type 0
IsAppended input p old new true =
    (p.frames.stack.items ≡ [])
    × ((x : Tree) × Reads node input (Read x p.lexer.list) × (string_bytes new ≡ string_bytes old ++ print x))
IsAppended input p old new false = Holds input p state.Refused
