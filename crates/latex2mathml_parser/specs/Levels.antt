-- What is due while a rule is read, and where its outcome leads. These definitions serve the contracts of the parser's
-- functions; they know no frame. A continuation K says what each outcome leads to.
use Rattle.std.specs.Prelude.{◌≢◌, List, [], ◌∷◌, Some, codes}
use Rattle.latex2mathml_grammar.specs.Grammar.{Sort, core, single, node, Rule, reads_part, reads_members, rule_after_core, rule_after_single, Outcome, Read, Refused, Reads, ReadsRule, ReadsAll}
use Rattle.latex2mathml_tokens.specs.Tok.{Tok, End, Paren, RBrace, Right}
use Rattle.latex2mathml_trees.specs.Tree.{Tree}
use Rattle.latex2mathml_parser.specs.{declared.parse.frames.Due.Due, declared.parse.frames.GroupEnd.GroupEnd}
use Rattle.latex2mathml_parser.specs.declared.parse.frames.Due.TheVariants as due
use Rattle.latex2mathml_parser.specs.declared.parse.frames.GroupEnd.TheVariants as group_end

-- the token that ends a group
abbrev pub end_token : GroupEnd → Tok
end_token group_end.Brace = RBrace
end_token group_end.Bracket = Paren (codes "]")
end_token group_end.Right = Right
end_token group_end.End = End

-- no group ends with the token
abbrev pub EndsNone : Tok → Type 0
EndsNone t = (end : GroupEnd) → t ≢ end_token end

-- what an unfinished rule waits for: a part, or members up to an end; and what follows
pub data Standing : Type 0 where
  awaits_part : Sort → (Tree → Rule) → Standing
  awaits_members : GroupEnd → (List Tree → Rule) → Standing

-- the rest of the rule
abbrev pub remaining : Standing → Rule
remaining (awaits_part s then) = reads_part s then
remaining (awaits_members end then) = reads_members (end_token end) then

-- a part of this sort as something that is due
abbrev pub part_due : Sort → Due
part_due core = due.Core
part_due single = due.Single
part_due node = due.Node

-- what is due where a rule waits for this
abbrev pub due_at : Standing → Due
due_at (awaits_part s then) = part_due s
due_at (awaits_members end then) = due.Member end

-- a member of a group with this end begins here
abbrev pub IsMember : GroupEnd → List Tok → Type 0
IsMember end [] = ⊥
IsMember end (t ∷ ts) = t ≢ end_token end

-- what is due may begin here
abbrev pub MayBegin : Due → List Tok → Type 0
MayBegin (due.Member end) place = IsMember end place
MayBegin d place = Unit {0}

-- every outcome of the rule from here leads to K
pub record RuleLeads (r : Rule) (K : Outcome Tree → Type 0) (place : List Tok) : Type 0 where
  pub to : (o : Outcome Tree) → ReadsRule r place o → K o

-- where the outcome of a part leads, if the rule goes on like this
abbrev pub Then : {A : Type 0} → (A → Rule) → (Outcome Tree → Type 0) → Outcome A → Type 0
Then then K (Read x place) = RuleLeads (then x) K place
Then then K (Refused r) = K (Refused r)

-- where the outcome of the first sort leads, if the second is due
abbrev pub As : Sort → Sort → (Outcome Tree → Type 0) → Outcome Tree → Type 0
As core single K = Then rule_after_core K
As core node K = Then rule_after_core (Then rule_after_single K)
As single node K = Then rule_after_single K
As s t K = K

-- the outcome of the members that follow this one, with this one put before them
abbrev pub behind : Tree → Outcome (List Tree) → Outcome (List Tree)
behind x (Read xs place) = Read (x ∷ xs) place
behind x (Refused r) = Refused r

-- a part, or members, that are due, and where their outcome leads
pub data Level : Type 1 where
  part : Sort → (Outcome Tree → Type 0) → Level
  members : GroupEnd → (Outcome (List Tree) → Type 0) → Level

abbrev pub due_of : Level → Due
due_of (part s K) = part_due s
due_of (members end K) = due.Member end

abbrev pub sort_of : Level → Sort
sort_of (part s K) = s
sort_of (members end K) = node

-- every outcome, from here, of what is due leads where the level says
abbrev pub Leads : Level → List Tok → Type 0
Leads (part s K) place = (o : Outcome Tree) → Reads s place o → K o
Leads (members end K) place = (o : Outcome (List Tree)) → ReadsAll (Some (end_token end)) place o → K o

-- where the outcome of the part, or of one member, leads
abbrev pub Accepts : Level → Outcome Tree → Type 0
Accepts (part s K) o = K o
Accepts (members end K) (Read x place) = (o : Outcome (List Tree)) → ReadsAll (Some (end_token end)) place o → K (behind x o)
Accepts (members end K) (Refused r) = K (Refused r)

-- where the outcome of a core, a single or a node leads
abbrev pub Made : Sort → Level → Outcome Tree → Type 0
Made s l = As s (sort_of l) (Accepts l)

-- the level within a rule of this sort that began at the given level
abbrev pub level_of_rule : Standing → Sort → Level → Level
level_of_rule (awaits_part s then) made l = part s (Then then (Made made l))
level_of_rule (awaits_members end then) made l = members end (Then then (Made made l))
