-- The nodes of a formula, read and printed one after another.
use Rattle.std.proofs.Common.{◌≡◌, ℕ, ◌<◌, List, [], ◌∷◌, ◌++◌, length, None, refl, sym, ap, subst, ◌∙◌, append_assoc, append-nil, codes}
use Rattle.std.proofs.lemmas.Option.{IfSome_then}
use Rattle.latex2mathml_grammar.specs.Counts.{ReadsNodes, none_read, one_more}
use Rattle.latex2mathml_parser.specs.Claims.{math_opening}
use Rattle.latex2mathml_parser.specs.{Frames.inside, Levels.Made, Levels.RuleLeads, Marks.MarkStands, Steps.IsRefusedBy, Steps.IsRefusedWithin, Unread.Unread, declared.parse.frames.Frame.Frame}
use Rattle.latex2mathml_grammar.specs.Grammar.{core, first, gives, rule, node, Read, Refused, Reads, ReadsAll, formula_ends, member_read, later_refused, member_refused, ReadsFormula, Refuses}
use Rattle.latex2mathml_grammar.specs.Rendering.{math_print}
use Rattle.latex2mathml_trees.specs.{Print.print, Print.prints, Tree.Tree, Tree.trees_of}
use Rattle.std.specs.Prelude.{IfSome}
use Rattle.latex2mathml_tokens.specs.{Refusal.Refusal, Refusal.refusal_of, declared.error.LatexError.LatexError, declared.DisplayStyle.DisplayStyle, Tok.Tok}
use Rattle.latex2mathml_parser.proofs.{Levels.lone_node, Stacks.token_begun}

-- the prints of nodes that were read
abbrev pub printed : {ts l : List Tok} → ReadsNodes ts l → List ℕ
printed none_read = []
printed (one_more {x = x} are d) = printed are ++ print x

-- Nodes of the formula were read, down to the tokens that are left, and their prints follow what was there.
pub record Appends (input place : List Tok) (old new : List ℕ) : Type 0 where
  pub are : ReadsNodes input place
  pub text : new ≡ old ++ printed are

-- one more node is read and printed
pub one_node : {input place to ts : List Tok} {t : Tok} {old new newer : List ℕ} {x : Tree} → place ≡ t ∷ ts → Reads node place (Read x to) → newer ≡ new ++ print x → Appends input place old new → Appends input to old newer
one_node {place = []} stands d e so_far = absurd cc
one_node {place = t ∷ ts} {old = old} {x = x} stands d e so_far = record {
  are = one_more so_far.are d;
  text = e ∙ ap (λ l. l ++ print x) so_far.text ∙ append_assoc old (printed so_far.are) (print x);
}

-- the nodes, and those that are read of the tokens that are left
all_read : {input place : List Tok} (are : ReadsNodes input place) {xs : List Tree} → ReadsAll None place (Read xs []) → (ys : List Tree) × ReadsAll None input (Read ys []) × (printed are ++ prints (trees_of xs) ≡ prints (trees_of ys))
all_read none_read {xs} ds = (xs, ds, refl)
all_read (one_more {x = x} are d) {xs} ds =
    let whole = all_read are (member_read (λ e. cc) d ds) in
    (whole.0, whole.1, append_assoc (printed are) (print x) (prints (trees_of xs)) ∙ whole.2)

-- all nodes are between the tags of the element
pub finished : {input place : List Tok} (display : DisplayStyle) (old : List ℕ) {new before after : List ℕ} → before ≡ old ++ math_opening display → place ≡ [] → Appends input place before after → new ≡ after ++ codes "</math>" → (xs : List Tree) × ReadsFormula input xs × (new ≡ old ++ math_print display xs)
unfolding ReadsFormula
finished {place = place} display old opened none so_far closed =
    let all = all_read so_far.are (subst (λ l. ReadsAll None l (Read [] [])) (sym none) formula_ends) in
    let nodes : printed so_far.are ≡ prints (trees_of all.0) = sym (append-nil (printed so_far.are)) ∙ all.2 in
    (all.0, all.1, simp (closed, so_far.text, opened, nodes, append_assoc))

-- where the nodes end in a refusal, the formula is refused
refused_behind : {input place : List Tok} {r : Refusal} → ReadsNodes input place → ReadsAll None place (Refused r) → ReadsAll None input (Refused r)
refused_behind none_read ds = ds
refused_behind (one_more are d) ds = refused_behind are (later_refused (λ e. cc) d ds)

one_refused : {place ts : List Tok} {t : Tok} {r : Refusal} → place ≡ t ∷ ts → Reads node place (Refused r) → ReadsAll None place (Refused r)
one_refused {place = []} stands d = absurd cc
one_refused {place = t ∷ ts} stands d = member_refused (λ e. cc) d

-- the next node refuses, with the error that the parser holds
pub formula_refused : {input place ts : List Tok} {t : Tok} {old new : List ℕ} (error : LatexError) → place ≡ t ∷ ts → IsRefusedBy error place → Appends input place old new → IfSome (refusal_of error) (Refuses input)
unfolding Refuses
formula_refused error stands d so_far =
    IfSome_then (refusal_of error) d (λ r e. refused_behind so_far.are (one_refused stands e))

-- the next node refuses, and some of its tokens were taken
pub within_node : (before left : Unread) {place : List Tok} {old new : List ℕ} (error : LatexError) → IsRefusedBy error place → Appends before.list place old new → length left.list < length place → IfSome (refusal_of error) (IsRefusedWithin before left)
within_node before left {place = place} error d so_far less =
    IfSome_then (refusal_of error) d (λ r e. (place, so_far.are, e, less))

-- The node that begins with a token.

-- outside all rules
pub node_begun : (input to : List Tok) (fs : List Frame) (ts : List Tree) (t : Tok) → fs ≡ [] → input ≡ t ∷ to → RuleLeads (rule t) (Made core (inside input fs ts)) to
node_begun input to fs ts t none same = rw none (token_begun input [] ts input to t tt same (λ o d. d))

-- a token without parts, with no mark after it
pub leaf_read : (input place to : List Tok) (t : Tok) (x : Tree) → input ≡ t ∷ place → to ≡ place → rule t ≡ gives x → MarkStands None (first place) → Reads node input (Read x to)
leaf_read input place to t x same kept is no_mark =
    rw kept (lone_node t x input place same is no_mark.0 no_mark.1 no_mark.2)
