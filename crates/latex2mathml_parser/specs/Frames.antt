-- What the parser's frames mean: each is an unfinished rule, at the part that it waits for. A frame holds no tree: what
-- was read of its rule are the first trees of the list given with it, in which the last tree read comes first. These
-- definitions serve the contracts of the parser's functions.
use Rattle.std.specs.Prelude.{◌≡◌, ℕ, ◌+◌, ◌-◌, Bool, true, false, List, [], ◌∷◌, ◌++◌, drop, reverse, take}
use Rattle.latex2mathml_grammar.specs.Grammar.{Sort, core, single, node, operand, Rule, gives, reads_part, reads_sign, of_one, of_degree, with_second, under_slash, after_fence_members, stretched_or_refused, after_environment_members, Reads}
use Rattle.latex2mathml_parser.specs.Levels.{Standing, awaits_part, awaits_members, due_at, Level, part, level_of_rule}
use Rattle.latex2mathml_parser.specs.{Marks.sign_token, declared.parse.frames.Due.Due, declared.parse.frames.Frame.Frame}
use Rattle.latex2mathml_trees.specs.{Productions.group_tree, Productions.stretched_operator, Style.styled}
use Rattle.latex2mathml_trees.specs.Tree.{Tree, operator, subscript, superscript}
use Rattle.latex2mathml_parts.specs.Parts.{arity, fence_text, put, top, words_of}
use Rattle.latex2mathml_parts.specs.declared.kind.Kind.{Kind}
use Rattle.latex2mathml_parts.specs.declared.kind.Kind.TheVariants as kind
use Rattle.latex2mathml_tokens.specs.{Lexemes.lexeme_tok, Tok.Tok, Tok.Circumflex, Tok.Underscore}
use Rattle.latex2mathml_parser.specs.declared.parse.frames.Due.TheVariants as due
use Rattle.latex2mathml_parser.specs.declared.parse.frames.Frame.TheVariants as frame
use Rattle.latex2mathml_parser.specs.{declared.parse.frames.Group.Group, declared.parse.frames.GroupEnd.GroupEnd}
use Rattle.latex2mathml_parser.specs.declared.parse.frames.Group.TheVariants as group
use Rattle.latex2mathml_parser.specs.declared.parse.frames.GroupEnd.TheVariants as group_end
use Rattle.latex2mathml_parser.specs.{declared.parse.frames.Pair.Pair, declared.lexer.mark.Sign.Sign}
use Rattle.latex2mathml_parser.specs.declared.parse.frames.Pair.TheVariants as pair
use Rattle.latex2mathml_parser.specs.declared.lexer.mark.Sign.TheVariants.{Sub, Sup}

-- the base x with the script y of this sign
abbrev pub script : Sign → Tree → Tree → Tree
script Sub x y = subscript x y
script Sup x y = superscript x y

-- the end of a group
abbrev pub end_of : Group → GroupEnd
end_of group.Brace = group_end.Brace
end_of group.Degree = group_end.Bracket
end_of (group.Fence opening) = group_end.Right
end_of group.Environment = group_end.End

-- what follows the members of a group, where these trees were read before them
abbrev pub after_members : Group → List Tree → List Tree → Rule
after_members group.Brace ts xs = gives (group_tree xs)
after_members group.Degree ts xs = of_degree xs
after_members (group.Fence opening) ts xs = after_fence_members (fence_text opening) xs
after_members group.Environment ts xs = after_environment_members (words_of (top ts)) xs

-- the sign before a second single
abbrev pub pair_sign : Pair → Sign
pair_sign (pair.Overbrace c) = Sup
pair_sign (pair.Underbrace c) = Sub
pair_sign (pair.BigOp c Sub) = Sup
pair_sign (pair.BigOp c Sup) = Sub
pair_sign (pair.Integral c Sub) = Sup
pair_sign (pair.Integral c Sup) = Sub

-- what a rule of one or two singles makes of one, and of two
abbrev pub one_of_pair : Pair → Kind
one_of_pair (pair.Overbrace c) = kind.Overbrace c
one_of_pair (pair.Underbrace c) = kind.Underbrace c
one_of_pair (pair.BigOp c Sub) = kind.LimitBelow c
one_of_pair (pair.BigOp c Sup) = kind.LimitAbove c
one_of_pair (pair.Integral c Sub) = kind.LimitSub c
one_of_pair (pair.Integral c Sup) = kind.LimitSup c

abbrev pub two_of_pair : Pair → Kind
two_of_pair (pair.Overbrace c) = kind.OverbraceWith c
two_of_pair (pair.Underbrace c) = kind.UnderbraceWith c
two_of_pair (pair.BigOp c Sub) = kind.LimitsBelowAbove c
two_of_pair (pair.BigOp c Sup) = kind.LimitsAboveBelow c
two_of_pair (pair.Integral c Sub) = kind.LimitsSubSup c
two_of_pair (pair.Integral c Sup) = kind.LimitsSupSub c

-- what follows the first single
abbrev pub after_first : Pair → List Tree → Tree → Rule
after_first p ts =
    with_second (sign_token (pair_sign p)) (λ x. top (put (one_of_pair p) (x ∷ ts))) (λ x y. top (put (two_of_pair p) (y ∷ x ∷ ts)))

-- the rule of an operator with its limits: `below` or `above` reads the rest, according to the sign that comes first
abbrev pub with_limits : ℕ → Pair → Pair → List Tree → Rule
with_limits c below above ts =
    reads_sign Underscore (reads_part single (after_first below ts))
    (reads_sign Circumflex (reads_part single (after_first above ts)) (gives (operator c)))

-- the unfinished rule, at the part that is to be read next
abbrev pub standing_of : Frame → List Tree → Standing
standing_of (frame.Members g n) ts = awaits_members (end_of g) (λ xs. after_members g (drop n ts) (reverse (take n ts) ++ xs))
standing_of (frame.Operand k) ts = awaits_part operand (λ x. gives (top (put k (x ∷ ts))))
standing_of (frame.First k) ts = awaits_part operand (λ x. of_one (λ y. top (put k (y ∷ x ∷ ts))))
standing_of (frame.Style v) ts = awaits_part operand (λ x. gives (styled v x))
standing_of (frame.Single p) ts = awaits_part single (after_first p ts)
standing_of (frame.Last k) ts = awaits_part single (λ x. gives (top (put k (x ∷ ts))))
standing_of frame.Slashed ts = awaits_part node under_slash
standing_of (frame.Stretch got) ts = awaits_part single (λ x. stretched_or_refused (lexeme_tok got) (stretched_operator x))
standing_of (frame.Script sign) ts = awaits_part node (λ y. gives (script sign (top ts) y))

-- the sort of part that the frame's rule makes
abbrev pub sort_made : Frame → Sort
sort_made (frame.Script sign) = node
sort_made f = core

-- what the frame waits for
abbrev pub awaits : Frame → Due
awaits f = due_at (standing_of f [])

-- a script may follow what is due
abbrev pub takes_script : Due → Bool
takes_script (due.Member end) = true
takes_script due.Node = true
takes_script due.Single = false
takes_script due.Core = false

-- how many of the trees belong to the frame. The name of an environment is below its members.
abbrev pub tree_count : Frame → ℕ
tree_count (frame.Members group.Environment n) = n + 1
tree_count (frame.Members g n) = n
tree_count (frame.Operand k) = arity k - 1
tree_count (frame.Last k) = arity k - 1
tree_count (frame.Script sign) = 1
tree_count f = 0

-- 0 where the part that the frame makes has as many operands as were read and are still awaited
abbrev pub unfit : Frame → ℕ
unfit (frame.Operand k) = 1 - arity k
unfit (frame.Last k) = 1 - arity k
unfit (frame.First k) = (2 - arity k) + (arity k - 2)
unfit f = 0

abbrev pub enter : Frame → List Tree → Level → Level
enter f ts l = level_of_rule (standing_of f ts) (sort_made f) l

-- the level of one node of the formula, where these tokens were left before it
abbrev pub whole : List Tok → Level
whole input = part node (Reads node input)

-- the level inside all frames, the innermost first
abbrev pub inside_all : Level → List Frame → List Tree → Level
inside_all l [] ts = l
inside_all l (f ∷ fs) ts = enter f ts (inside_all l fs (drop (tree_count f) ts))

-- the level inside all frames, the innermost last, as on the stack
abbrev pub inside : List Tok → List Frame → List Tree → Level
inside input fs ts = inside_all (whole input) (reverse fs) ts

-- the level inside these frames and one more, which is inside them
abbrev pub within : List Tok → List Frame → Frame → List Tree → Level
within input fs f ts = enter f ts (inside input fs (drop (tree_count f) ts))

abbrev pub first_due : List Frame → Due
first_due [] = due.Node
first_due (f ∷ fs) = awaits f

-- what is due: what the innermost frame waits for, or a node of the formula
abbrev pub innermost : List Frame → Due
innermost fs = first_due (reverse fs)

-- a stack with this frame on top of the others
abbrev pub IsOn : Frame → List Frame → List Frame → Type 0
IsOn f fs gs = gs ≡ fs ++ f ∷ []

-- this frame is on top of others
abbrev pub IsInnermost : Frame → List Frame → Type 0
IsInnermost f gs = (fs : List Frame) × IsOn f fs gs

-- the frame is not one of a group
abbrev pub IsNoGroup : Frame → Type 0
IsNoGroup (frame.Members g n) = ⊥
IsNoGroup f = Unit {0}

-- no frame is on the stack, before or after
abbrev pub AreEmpty : List Frame → List Frame → Type 0
AreEmpty fs gs = (fs ≡ []) × (gs ≡ [])
