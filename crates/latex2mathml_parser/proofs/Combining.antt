-- Trees that are made of the last trees, and where they lead.
use Rattle.std.proofs.Common.{◌≡◌, ℕ, ◌+◌, ◌-◌, ◌≤◌, List, [], ◌∷◌, ◌++◌, length, drop, drop-drop, take, reverse, refl, sym, ap, ◌∙◌, arith, add-one, append_assoc, append-nil}
use Rattle.std.proofs.{lemmas.List.reverse-append}
use Rattle.latex2mathml_parser.specs.Frames.{after_members, end_of, innermost, inside, one_of_pair, script, standing_of, tree_count, two_of_pair, within}
use Rattle.latex2mathml_grammar.specs.Grammar.{core, gives, Read, group_ends}
use Rattle.latex2mathml_parser.specs.Levels.{Accepts, end_token, Leads, Made, remaining, RuleLeads}
use Rattle.latex2mathml_parser.specs.{Steps.GoesOnBy, Steps.GoesOnIn, Steps.last_tree, Steps.last_tree_read, Steps.level, declared.lexer.mark.Sign.Sign, declared.parse.Parser.Parser}
use Rattle.latex2mathml_trees.specs.Tree.{Tree}
use Rattle.latex2mathml_parts.specs.{Forests.trees_in, Parts.arity, Parts.put, Parts.top, declared.kind.Kind.Kind}
use Rattle.latex2mathml_parts.specs.declared.kind.Kind.TheVariants as kind
use Rattle.latex2mathml_tokens.specs.Tok.{Tok}
use Rattle.latex2mathml_parser.specs.declared.parse.frames.Due.TheVariants as due
use Rattle.latex2mathml_parser.specs.{declared.parse.frames.Frame.Frame, declared.parse.frames.Group.Group}
use Rattle.latex2mathml_parser.specs.declared.parse.frames.Frame.TheVariants as frame
use Rattle.latex2mathml_parser.specs.declared.parse.frames.Group.TheVariants as group
use Rattle.latex2mathml_parser.specs.{declared.parse.frames.GroupEnd.GroupEnd, declared.parse.frames.Pair.Pair}
use Rattle.latex2mathml_parser.proofs.{Levels.group_grown, Levels.node_due, Stacks.innermost_push, Stacks.inside_push}

-- Operands. A part needs no more of the trees before it than these operands.

pub last_operand : (k : Kind) (ts : List Tree) → top (put k ts) ≡ top (put k (top ts ∷ drop 1 ts))
last_operand kind.Sqrt ts = refl
last_operand k ts = refl

pub first_operand : (k : Kind) (x : Tree) (ts : List Tree) → top (put k (x ∷ ts)) ≡ top (put k (x ∷ top ts ∷ drop 1 ts))
first_operand kind.Sqrt x ts = refl
first_operand k x ts = refl

pub drop_from_one : (n : ℕ) (ts : List Tree) → 1 ≤ n → drop n ts ≡ drop (n - 1) (drop 1 ts)
drop_from_one n ts h =
    let same : n ≡ 1 + (n - 1) = omega arith in
    ap (λ m. drop m ts) same ∙ sym (drop-drop (n - 1) 1 ts)

-- the last operand of a part is read
pub last_read : (input : List Tok) (p : Parser) (k : Kind) → 1 - arity k ≡ 0 → Accepts (within input p.frames.stack.items (frame.Operand k) (drop 1 (trees_in p.parts))) (last_tree_read p) → GoesOnBy (gives (top (put k (trees_in p.parts)))) (arity k) input p
last_read input p k fits m =
    let some : 1 ≤ arity k = omega arith in
    rw (last_operand k (trees_in p.parts), drop_from_one (arity k) (trees_in p.parts) some) m

-- the first of two operands is read, and the second is due
pub first_read : (input : List Tok) (p : Parser) (k : Kind) → (2 - arity k) + (arity k - 2) ≡ 0 → Accepts (within input p.frames.stack.items (frame.First k) (drop 1 (trees_in p.parts))) (last_tree_read p) → GoesOnIn (frame.Operand k) input p
first_read input p k fits m =
    let two : arity k ≡ 2 = omega arith in
    rw two (simp (← first_operand) at m)

-- the script of a base, which is the tree before it, is read
pub script_read : (input : List Tok) (p : Parser) (sign : Sign) → Accepts (within input p.frames.stack.items (frame.Script sign) (drop 1 (trees_in p.parts))) (last_tree_read p) → Accepts (level 2 input p) (Read (script sign (top (drop 1 (trees_in p.parts))) (last_tree p)) p.lexer.list)
script_read input p sign m =
    let ts = trees_in p.parts in
    rw (drop_from_one 2 ts (omega arith)) (node_due (inside input p.frames.stack.items (drop 1 (drop 1 ts))) (script sign (top (drop 1 ts)) (top ts)) p.lexer.list m)

-- what a frame waited for is read
pub ruleset part_delivered = (first_read, last_read, script_read)

-- One single, or two.

pub arity_of_one : (p : Pair) → arity (one_of_pair p) ≡ 1
arity_of_one p = grind (arith)

pub arity_of_two : (p : Pair) → arity (two_of_pair p) ≡ 2
arity_of_two p = grind (arith)

-- Members.

below_member : (g : Group) (n : ℕ) (t : Tree) (ts : List Tree) → drop (tree_count (frame.Members g (n + 1))) (t ∷ ts) ≡ drop (tree_count (frame.Members g n)) ts
below_member group.Environment n t ts = rw (add-one (n + 1))
below_member g n t ts = rw (add-one n)

one_more : (g : Group) (n : ℕ) (t : Tree) (ts xs : List Tree) → after_members g (drop n ts) (reverse (take n ts) ++ t ∷ xs) ≡ after_members g (drop (n + 1) (t ∷ ts)) (reverse (take (n + 1) (t ∷ ts)) ++ xs)
one_more g n t ts xs = rw (add-one, reverse-append (t ∷ []) (take n ts), append_assoc)

-- one more member is read
pub member_read : (input : List Tok) (fs : List Frame) (g : Group) (n : ℕ) (ts : List Tree) {place : List Tok} → 1 ≤ length ts → Accepts (within input fs (frame.Members g n) (drop 1 ts)) (Read (top ts) place) → RuleLeads (remaining (standing_of (frame.Members g (n + 1)) ts)) (Made core (inside input fs (drop (tree_count (frame.Members g (n + 1))) ts))) place
member_read input fs g n [] h m = absurd (omega arith)
member_read input fs g n (t ∷ ts) h m = rw (below_member g n t ts) (group_grown (one_more g n t ts) m)

-- the end of the innermost group is taken
pub group_closed : (input : List Tok) (fs gs : List Frame) (g : Group) (n : ℕ) (end : GroupEnd) (ts : List Tree) (place : List Tok) → gs ≡ fs ++ frame.Members g n ∷ [] → innermost gs ≡ due.Member end → Leads (inside input gs ts) (end_token end ∷ place) → RuleLeads (after_members g (drop n ts) (reverse (take n ts))) (Made core (inside input fs (drop (tree_count (frame.Members g n)) ts))) place
group_closed input fs gs g n end ts place e d k =
    let same : end ≡ end_of g = cc (sym d ∙ ap innermost e ∙ innermost_push fs (frame.Members g n)) in
    let within_group = rw (inside_push input fs gs (frame.Members g n) ts e) at k in
    rw append-nil at (within_group (Read [] place) (group_ends (ap (λ x. end_token x ∷ place) same)))
