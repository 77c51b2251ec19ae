-- Where the outcome of a rule leads, step by step, whatever the rule is.
use Rattle.std.proofs.Common.{arith, ◌≡◌, ◌≢◌, ℕ, List, [], ◌∷◌, Option, Some, true, refl, sym}
use Rattle.latex2mathml_trees.specs.{Productions.prime_mark, Tree.Tree, Tree.superscript}
use Rattle.latex2mathml_grammar.specs.Grammar.{Sort, core, single, node, Rule, gives, reads_part, reads_members, reads_sign, takes_token, rule, a_name, first_or_end, prime, rule_after_core, rule_after_single, Outcome, Read, Refused, first, Reads, ReadsRule, core_at_end, core_begun, single_read, node_read, rule_gives, token_taken, token_at_end, letters_taken, part_read, part_refused, members_read, members_refused, sign_stands, sign_missing, ReadsAll, never_closed, member_read, later_refused, member_refused}
use Rattle.latex2mathml_parser.specs.{Frames.script, Frames.takes_script, Marks.NameStands, Marks.rest_of, Marks.sign_token}
use Rattle.latex2mathml_parser.specs.Levels.{Standing, awaits_part, awaits_members, end_token, MayBegin, RuleLeads, Then, As, behind, Level, part, members, due_of, sort_of, Leads, Accepts, Made, level_of_rule, remaining}
use Rattle.latex2mathml_tokens.specs.Refusal.{Refusal, UnexpectedToken}
use Rattle.latex2mathml_tokens.specs.Tok.{Tok, EOF, Underscore, Circumflex}
use Rattle.latex2mathml_parser.specs.declared.parse.frames.Due.TheVariants as due
use Rattle.latex2mathml_parser.specs.{declared.parse.frames.GroupEnd.GroupEnd, declared.lexer.mark.Sign.Sign}
use Rattle.latex2mathml_parser.specs.declared.lexer.mark.Sign.TheVariants.{Sub, Sup}

-- A rule that leads somewhere.

-- where it begins with a part, the part leads on
part_leads : {s : Sort} {then : Tree → Rule} {K : Outcome Tree → Type 0} {place : List Tok} → RuleLeads (reads_part s then) K place → (o : Outcome Tree) → Reads s place o → Then then K o
part_leads k (Read x to) d = record { to = λ o ds. k.to o (part_read d ds) }
part_leads k (Refused r) d = k.to _ (part_refused d)

-- where it begins with members, these lead on
members_lead : {end : Tok} {then : List Tree → Rule} {K : Outcome Tree → Type 0} {place : List Tok} → RuleLeads (reads_members end then) K place → (o : Outcome (List Tree)) → ReadsAll (Some end) place o → Then then K o
members_lead k (Read xs to) d = record { to = λ o ds. k.to o (members_read d ds) }
members_lead k (Refused r) d = k.to _ (members_refused d)

-- where it gives a tree, the tree leads there
pub given : {x : Tree} {K : Outcome Tree → Type 0} {place : List Tok} → RuleLeads (gives x) K place → K (Read x place)
given k = k.to _ rule_gives

-- where it is the rest of an unfinished rule, the level within that rule leads on
pub entered : (f : Standing) (s : Sort) (l : Level) (place : List Tok) → RuleLeads (remaining f) (Made s l) place → Leads (level_of_rule f s l) place
entered (awaits_part t then) s l place k = part_leads k
entered (awaits_members end then) s l place k = members_lead k

-- where it begins with a sign, which is taken, the first rule leads on
pub signed : {t : Tok} {a b : Rule} {K : Outcome Tree → Type 0} {place to : List Tok} → place ≡ t ∷ to → RuleLeads (reads_sign t a b) K place → RuleLeads a K to
signed same k = record { to = λ o d. k.to o (sign_stands same d) }

-- where the sign is not next, the second rule leads on
pub unsigned : {t : Tok} {a b : Rule} {K : Outcome Tree → Type 0} {place to : List Tok} → (first place ≢ Some t) × (to ≡ place) → RuleLeads (reads_sign t a b) K place → RuleLeads b K to
unsigned h k = rw h.1 (record { to = λ o d. k.to o (sign_missing h.0 d) })

-- where it takes a token, what follows leads on
pub taken : {t : Tok} {then : Tok → Rule} {K : Outcome Tree → Type 0} {place to : List Tok} → t ≡ first_or_end place → to ≡ rest_of place → RuleLeads (takes_token then) K place → RuleLeads (then t) K to
taken {place = []} e same k = rw (e, same) (record { to = λ o d. k.to o (token_at_end d) })
taken {place = t ∷ ts} e same k = rw (e, same) (record { to = λ o d. k.to o (token_taken d) })

-- where it takes a name, what follows leads on
pub named : (then : List ℕ → Rule) {K : Outcome Tree → Type 0} {bytes : List ℕ} {place to : List Tok} → NameStands bytes place to → RuleLeads (a_name then) K place → RuleLeads (then bytes) K to
named then h k =
    let letters = h.1 in
    rw letters.2 (taken refl h.2 (record { to = λ o d. (taken refl refl k).to o (letters_taken letters.0 letters.1 d) }))

-- where it takes a name, whatever it is, what follows leads on
pub after_name : {then : Rule} {K : Outcome Tree → Type 0} {place to : List Tok} → (bytes : List ℕ) × NameStands bytes place to → RuleLeads (a_name (λ name. then)) K place → RuleLeads then K to
after_name {then} h k = named (λ name. then) h.1 k

-- A core is due, or a part that begins with one.

one_member : (end : Option Tok) (t : Tok) (l to : List Tok) (x : Tree) (o : Outcome (List Tree)) → end ≢ Some t → Reads node (t ∷ l) (Read x to) → ReadsAll end to o → ReadsAll end (t ∷ l) (behind x o)
one_member end t l to x (Read xs rest) h d ds = member_read h d ds
one_member end t l to x (Refused r) h d ds = later_refused h d ds

other_end : (end t : Tok) → t ≢ end → Some end ≢ Some t
other_end end t h e = h (sym cc)

-- what is due may begin here
part_at : (l : Level) (place : List Tok) → MayBegin (due_of l) place → Leads l place → (o : Outcome Tree) → Reads (sort_of l) place o → Accepts l o
part_at (part s K) place may k o d = k o d
part_at (members end K) [] may k o d = elim may [ ]
part_at (members end K) (t ∷ rest) may k (Read x to) d = λ os ds. k _ (one_member (Some (end_token end)) t rest to x os (other_end (end_token end) t may) d ds)
part_at (members end K) (t ∷ rest) may k (Refused r) d = k _ (member_refused (other_end (end_token end) t may) d)

core_at : (s : Sort) (K : Outcome Tree → Type 0) (place : List Tok) → ((o : Outcome Tree) → Reads s place o → K o) → (o : Outcome Tree) → Reads core place o → As core s K o
core_at core K place k = k
core_at single K place k = part_leads {s = core} {then = rule_after_core} {K = K} (record { to = λ o d. k o (single_read d) })
core_at node K place k = part_leads {s = core} {then = rule_after_core} {K = Then rule_after_single K} (record { to = λ o d. part_leads {s = single} {then = rule_after_single} {K = K} (record { to = λ p e. k p (node_read e) }) o (single_read d) })

-- a token is taken: its rule leads on
pub begun : (l : Level) (place to : List Tok) (t : Tok) → MayBegin (due_of l) place → place ≡ t ∷ to → Leads l place → RuleLeads (rule t) (Made core l) to
begun l place to t may same k = record { to = λ o d. core_at (sort_of l) (Accepts l) place (part_at l place may k) o (rw same (core_begun d)) }

-- no token is left
pub begun_at_end : (l : Level) → MayBegin (due_of l) [] → Leads l [] → RuleLeads (rule EOF) (Made core l) []
begun_at_end l may k = record { to = at_end }
  where
    at_end : (o : Outcome Tree) → ReadsRule (rule EOF) [] o → Made core l o
    at_end o rule_gives = core_at (sort_of l) (Accepts l) [] (part_at l [] may k) _ core_at_end

-- one more member is read
pub group_grown : {end : Tok} {then more : List Tree → Rule} {K : Outcome Tree → Type 0} {x : Tree} {place : List Tok} → ((xs : List Tree) → then (x ∷ xs) ≡ more xs) → ((o : Outcome (List Tree)) → ReadsAll (Some end) place o → Then then K (behind x o)) → RuleLeads (reads_members end more) K place
group_grown {end} {then} {more} {K} {x} {place} same k = record { to = grown }
  where
    grown : (o : Outcome Tree) → ReadsRule (reads_members end more) place o → K o
    grown o (members_read {m = m} {xs = xs} d ds) = (k (Read xs m) d).to o (rw (same xs) ds)
    grown o (members_refused d) = k _ d

-- What follows a core and a single.

-- no prime follows a core
pub unprimed : (l : Level) (x : Tree) (place : List Tok) → first place ≢ Some prime → RuleLeads (gives x) (Made core l) place → Made single l (Read x place)
unprimed (part core K) x place h k = given k
unprimed l x place h k = (given k).to _ (sign_missing h rule_gives)

-- no sign follows a single
pub unscripted : (l : Level) (x : Tree) (place : List Tok) → first place ≢ Some Underscore → first place ≢ Some Circumflex → Made single l (Read x place) → Accepts l (Read x place)
unscripted (part core K) x place h i k = k
unscripted (part single K) x place h i k = k
unscripted l x place h i k = k.to _ (sign_missing h (sign_missing i rule_gives))

-- a node is a node wherever it is due
pub node_due : (l : Level) (x : Tree) (place : List Tok) → RuleLeads (gives x) (Made node l) place → Accepts l (Read x place)
node_due (part core K) x place k = given k
node_due (part single K) x place k = given k
node_due l x place k = given k

-- a prime is taken, where more than a core is due
pub prime_taken : (l : Level) (x : Tree) (to : List Tok) → due_of l ≢ due.Core → RuleLeads (gives x) (Made core l) (prime ∷ to) → Made single l (Read (superscript x prime_mark) to)
prime_taken (part core K) x to h k = absurd (h refl)
prime_taken l x to h k = (given k).to _ (sign_stands refl rule_gives)

-- a sign is taken, where a script may follow: a node is due
pub sign_taken : (l : Level) (sign : Sign) (x : Tree) (place to : List Tok) → takes_script (due_of l) ≡ true → place ≡ sign_token sign ∷ to → Made single l (Read x place) → RuleLeads (reads_part node (λ y. gives (script sign x y))) (Made node l) to
sign_taken (part core K) sign x place to h same k = absurd cc
sign_taken (part single K) sign x place to h same k = absurd cc
sign_taken l Sub x place to h same k = record { to = λ o d. k.to o (sign_stands same d) }
sign_taken l Sup x place to h same k = record { to = λ o d. k.to o (sign_missing (λ e. cc) (sign_stands same d)) }

-- the next token is passed over
pub passed : (place to : List Tok) (t : Tok) → first place ≡ Some t → to ≡ rest_of place → place ≡ t ∷ to
passed place to t e f = grind (arith)

-- Refusals.

-- a core, a single or a node that refuses
pub as_refused : (s t : Sort) (K : Outcome Tree → Type 0) (r : Refusal) → As s t K (Refused r) → K (Refused r)
as_refused core single K r k = k
as_refused core node K r k = k
as_refused single node K r k = k
as_refused s t K r k = k

-- what began at a level refuses there
pub entered_refused : (f : Standing) (s : Sort) (l : Level) (r : Refusal) → Accepts (level_of_rule f s l) (Refused r) → Accepts l (Refused r)
entered_refused (awaits_part t then) s l r k = as_refused s (sort_of l) (Accepts l) r k
entered_refused (awaits_members end then) s l r k = as_refused s (sort_of l) (Accepts l) r k

-- a group is still open where no token is left
pub unclosed : (l : Level) (end : GroupEnd) → due_of l ≡ due.Member end → Leads l [] → Accepts l (Refused (UnexpectedToken (end_token end) EOF))
unclosed (members other K) end e k =
    let same : end ≡ other = cc in
    rw same (k _ never_closed)
unclosed (part core K) end e k = cc
unclosed (part s K) end e k = cc

-- a token without parts is a node where no mark follows it
pub lone_node : (t : Tok) (x : Tree) (l place : List Tok) → l ≡ t ∷ place → rule t ≡ gives x → first place ≢ Some prime → first place ≢ Some Underscore → first place ≢ Some Circumflex → Reads node l (Read x place)
lone_node t x l place stood is h i j =
    let read : ReadsRule (rule t) place (Read x place) = rw is rule_gives in
    rw stood (node_read (part_read (single_read (part_read (core_begun read) (sign_missing h rule_gives))) (sign_missing i (sign_missing j rule_gives))))
