-- Frames put on the parser's stack and taken off it, with the trees that were read.
use Rattle.std.proofs.Common.{◌≡◌, ◌⊎◌, inl, inr, true, false, ℕ, List, [], ◌∷◌, ◌++◌, drop, refl, sym, ap, subst, ◌∙◌, reverse, ◌-◌, arith, length, length-append, slice_set, take}
use Rattle.std.proofs.Math.Seq.{set-append_seam, take-append_seam}
use Rattle.std.proofs.lemmas.List.{reverse-append}
use Rattle.std.specs.{Prelude.codes, Str.bytes_eq}
use lib.Utf8.{encode}
use Rattle.latex2mathml_tokens.specs.{Names.paren_text, declared.names.Paren.Paren}
use Rattle.latex2mathml_tokens.specs.declared.names.Paren.TheVariants as paren
use Rattle.latex2mathml_parser.specs.Frames.{awaits, enter, first_due, innermost, inside, inside_all, sort_made, standing_of, tree_count, whole, within}
use Rattle.latex2mathml_grammar.specs.Grammar.{core, node, Outcome, Reads, Refused, refuses, rule, rule_refuses}
use Rattle.latex2mathml_parser.specs.Levels.{due_of, end_token, EndsNone, Leads, Level, Made, MayBegin, RuleLeads, Accepts, remaining, sort_of}
use Rattle.latex2mathml_trees.specs.Tree.{Tree}
use Rattle.latex2mathml_tokens.specs.{Refusal.Refusal, Refusal.UnexpectedToken, Tok.Tok, Tok.EOF}
use Rattle.latex2mathml_parser.specs.{Steps.level, declared.parse.Parser.Parser, declared.parse.frames.Due.Due, declared.parse.frames.Frame.Frame}
use Rattle.latex2mathml_parser.specs.declared.parse.frames.Due.TheVariants as due
use Rattle.latex2mathml_parser.specs.declared.parse.frames.Frame.TheVariants as frame
use Rattle.latex2mathml_parser.specs.declared.parse.frames.GroupEnd.{GroupEnd}
use Rattle.latex2mathml_parser.proofs.Levels.{as_refused, begun, begun_at_end, entered, entered_refused, unclosed}

-- only one parenthesis has the text of the bracket that ends a group
pub one_bracket : (p : Paren) → (paren_text p ≡ codes "]" → ⊥) ⊎ (p ≡ paren.RightSquare)
unfolding encode
one_bracket paren.RightSquare = inr refl
one_bracket p = inl (λ e. let k : false ≡ true = ap (λ t. bytes_eq t (codes "]")) e in cc)

-- each group has an end of its own
one_end : (a b : GroupEnd) → end_token a ≡ end_token b → a ≡ b
one_end a b e = grind (arith)

-- The innermost frame.

pub innermost_push : (fs : List Frame) (f : Frame) → innermost (fs ++ f ∷ []) ≡ awaits f
innermost_push fs f = ap first_due (reverse-append fs (f ∷ []))

-- the level inside one more frame
pub inside_push : (input : List Tok) (fs gs : List Frame) (f : Frame) (ts : List Tree) → gs ≡ fs ++ f ∷ [] → inside input gs ts ≡ within input fs f ts
inside_push input fs gs f ts e = ap (λ hs. inside input hs ts) e ∙ ap (λ hs. inside_all (whole input) hs ts) (reverse-append fs (f ∷ []))

-- where the innermost frame is
last_place : (fs : List Frame) (f : Frame) → length (fs ++ f ∷ []) - 1 ≡ length fs
last_place fs f = omega (arith, length-append fs (f ∷ []))

-- another frame is put in place of the innermost one
pub replaced : (fs gs : List Frame) (f g : Frame) (n : ℕ) → n ≡ length gs - 1 → gs ≡ fs ++ f ∷ [] → slice_set gs n g ≡ fs ++ g ∷ []
replaced fs gs f g n last e = rw (last, e, last_place fs f) (set-append_seam fs f [] g)

-- the innermost frame is taken off
pub left_below : (fs gs : List Frame) (f : Frame) (n : ℕ) → n ≡ length gs - 1 → gs ≡ fs ++ f ∷ [] → take n gs ≡ fs
left_below fs gs f n last e = rw (last, e, last_place fs f) (take-append_seam fs (f ∷ []))

-- a frame is put on
pub put_on : (input : List Tok) (fs gs : List Frame) (f : Frame) (ts : List Tree) (place : List Tok) → gs ≡ fs ++ f ∷ [] → RuleLeads (remaining (standing_of f ts)) (Made (sort_made f) (inside input fs (drop (tree_count f) ts))) place → Leads (inside input gs ts) place
put_on input fs gs f ts place e k = subst (λ l. Leads l place) (sym (inside_push input fs gs f ts e)) (entered (standing_of f ts) (sort_made f) _ place k)

-- a frame is taken off
pub taken_off : (input : List Tok) (fs : List Frame) (f : Frame) (ts : List Tree) (o : Outcome Tree) → Accepts (inside input (fs ++ f ∷ []) ts) o → Accepts (within input fs f ts) o
taken_off input fs f ts o k = subst (λ l. Accepts l o) (inside_push input fs _ f ts refl) k

-- What is due.

due_entered : (f : Frame) (ts : List Tree) (l : Level) → due_of (enter f ts l) ≡ awaits f
due_entered (frame.Members g n) ts l = refl
due_entered f ts l = refl

due_inside : (input : List Tok) (fs : List Frame) (ts : List Tree) → due_of (inside_all (whole input) fs ts) ≡ first_due fs
due_inside input [] ts = refl
due_inside input (f ∷ fs) ts = due_entered f ts _

pub due_of_inside : (input : List Tok) (fs : List Frame) (ts : List Tree) → due_of (inside input fs ts) ≡ innermost fs
due_of_inside input fs ts = due_inside input (reverse fs) ts

-- Tokens that are taken.

-- the token is not the end of the group whose member is due, and its rule leads on
pub token_begun : (input : List Tok) (fs : List Frame) (ts : List Tree) (place to : List Tok) (t : Tok) → MayBegin (innermost fs) place → place ≡ t ∷ to → Leads (inside input fs ts) place → RuleLeads (rule t) (Made core (inside input fs ts)) to
token_begun input fs ts place to t may e k = begun (inside input fs ts) place to t (subst (λ d. MayBegin d place) (sym (due_of_inside input fs ts)) may) e k

-- a token that ends no group may begin what is due
pub no_end : (d : Due) (t : Tok) (place : List Tok) → EndsNone t → MayBegin d (t ∷ place)
no_end (due.Member end) t place h = h end
no_end d t place h = tt

-- so may the end of another group
pub other_end : (d : Due) (t : Tok) (end : GroupEnd) (place : List Tok) → t ≡ end_token end → (d ≡ due.Member end → ⊥) → MayBegin d (t ∷ place)
other_end (due.Member due_end) t end place e h = λ f. h (ap due.Member (one_end due_end end (sym f ∙ e)))
other_end d t end place e h = tt

-- what is not a member may begin where no token is left
may_begin_at_end : (d : Due) → ((end : GroupEnd) → d ≡ due.Member end → ⊥) → MayBegin d []
may_begin_at_end (due.Member end) h = h end refl
may_begin_at_end d h = tt

-- no token is left
pub nothing_begun : (input : List Tok) (fs : List Frame) (ts : List Tree) → ((end : GroupEnd) → innermost fs ≡ due.Member end → ⊥) → Leads (inside input fs ts) [] → RuleLeads (rule EOF) (Made core (inside input fs ts)) []
nothing_begun input fs ts h k = begun_at_end (inside input fs ts) (subst (λ x. MayBegin x []) (sym (due_of_inside input fs ts)) (may_begin_at_end (innermost fs) h)) k

-- Refusals.

inside_refused : (input : List Tok) (fs : List Frame) (ts : List Tree) (r : Refusal) → Accepts (inside_all (whole input) fs ts) (Refused r) → Reads node input (Refused r)
inside_refused input [] ts r k = k
inside_refused input (f ∷ fs) ts r k = inside_refused input fs _ r (entered_refused (standing_of f ts) (sort_made f) _ r k)

-- a core that refuses refuses the node of the formula
pub core_refused : (n : ℕ) (input : List Tok) (p : Parser) {r : Refusal} {place : List Tok} → RuleLeads (refuses r) (Made core (level n input p)) place → Reads node input (Refused r)
core_refused n input p {r} k = inside_refused input (reverse p.frames.stack.items) _ r (as_refused core (sort_of (level n input p)) _ r (k.to _ rule_refuses))

-- a group that is open at the end refuses it
pub group_open : (input : List Tok) (fs : List Frame) (ts : List Tree) (end : GroupEnd) → innermost fs ≡ due.Member end → Leads (inside input fs ts) [] → Reads node input (Refused (UnexpectedToken (end_token end) EOF))
group_open input fs ts end d k = inside_refused input (reverse fs) ts _ (unclosed (inside input fs ts) end (due_of_inside input fs ts ∙ d) k)
