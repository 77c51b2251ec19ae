-- Each list of tokens has exactly one outcome, and so one reading or one refusal.
use Rattle.std.proofs.Common.{arith, ◌≡◌, ℕ, List, [], ◌∷◌, Option, Some, refl, sym, ap, zero, suc, ◌-◌, ◌<◌, ◌≤◌, ◌≢◌, inl, inr, length, None}
use Rattle.latex2mathml_grammar.specs.Grammar.{Sort, Rule, Outcome, Read, first, first_letter, AreLetters, Reads, core_at_end, core_begun, single_read, node_read, ReadsRule, rule_gives, rule_refuses, part_read, part_refused, members_read, members_refused, sign_stands, sign_missing, token_taken, token_at_end, token_seen, letters_taken, ReadsAll, formula_ends, group_ends, never_closed, member_read, later_refused, member_refused, core, single, node, gives, refuses, reads_part, reads_members, reads_sign, takes_token, sees_token, takes_letters, rule, Refused, first_or_end, letter_of, ReadsFormula, Refuses}
use Rattle.latex2mathml_trees.specs.Tree.{Tree}
use Rattle.latex2mathml_tokens.specs.{Discreteness.tok-discrete, Refusal.Refusal, Tok.Tok, Tok.EOF}
use Rattle.latex2mathml_grammar.specs.Laws.{HasOneReading}

-- there is only one longest run of letters
one_run : (cs ds : List ℕ) (l m n : List Tok) → AreLetters cs l m → AreLetters ds l n → Read cs m ≡ Read ds n
one_run [] [] l m n p q = cc (p.0, q.0)
one_run [] (d ∷ ds) l m n p q = cc (p.0, p.1, q.1.2, ap first_letter q.1.1)
one_run (c ∷ cs) [] l m n p q = cc (q.0, q.1, p.1.2, ap first_letter p.1.1)
one_run (c ∷ cs) (d ∷ ds) l m n p q = grind (arith, one_run cs ds p.1.0 m n p.1.3)

-- a group ends where its end token is
at_end : {end : Tok} {l m : List Tok} {o : Outcome (List Tree)} → l ≡ end ∷ m → ReadsAll (Some end) l o → o ≡ Read [] m
at_end p d = grind arith

mutual
  -- a core, a single or a node has only one outcome
  one : {s : Sort} {l : List Tok} {o : Outcome Tree} → Reads s l o → (p : Outcome Tree) → Reads s l p → o ≡ p
  one core_at_end p core_at_end = refl
  one (core_begun d) p (core_begun e) = one_rule d p e
  one (single_read d) p (single_read e) = one_rule d p e
  one (node_read d) p (node_read e) = one_rule d p e

  -- a rule has only one outcome
  one_rule : {r : Rule} {l : List Tok} {o : Outcome Tree} → ReadsRule r l o → (p : Outcome Tree) → ReadsRule r l p → o ≡ p
  one_rule rule_gives p rule_gives = refl
  one_rule rule_refuses p rule_refuses = refl
  one_rule (part_read d ds) p (part_read e es) = grind (arith, one d _ e, one_rule ds)
  one_rule (part_read d ds) p (part_refused e) = cc (one d _ e)
  one_rule (part_refused d) p (part_read e es) = cc (one d _ e)
  one_rule (part_refused d) p (part_refused e) = one d p e
  one_rule (members_read d ds) p (members_read e es) = grind (arith, one_all d _ e, one_rule ds)
  one_rule (members_read d ds) p (members_refused e) = cc (one_all d _ e)
  one_rule (members_refused d) p (members_read e es) = cc (one_all d _ e)
  one_rule (members_refused d) p (members_refused e) = cc (one_all d _ e)
  one_rule (sign_stands q d) p (sign_stands k e) = grind (arith, one_rule d)
  one_rule (sign_stands q d) p (sign_missing h e) = absurd (h (ap first q))
  one_rule (sign_missing h d) p (sign_stands q e) = absurd (h (ap first q))
  one_rule (sign_missing h d) p (sign_missing k e) = one_rule d p e
  one_rule (token_taken d) p (token_taken e) = one_rule d p e
  one_rule (token_at_end d) p (token_at_end e) = one_rule d p e
  one_rule (token_seen d) p (token_seen e) = one_rule d p e
  one_rule (letters_taken cs q d) p (letters_taken ds k e) = grind (arith, one_run cs ds _ _ _ q k, one_rule d)

  -- consecutive nodes have only one outcome
  pub one_all : {end : Option Tok} {l : List Tok} {o : Outcome (List Tree)} → ReadsAll end l o → (p : Outcome (List Tree)) → ReadsAll end l p → o ≡ p
  one_all formula_ends p formula_ends = refl
  one_all never_closed p never_closed = refl
  one_all (group_ends q) p e = sym (at_end q e)
  one_all d p (group_ends q) = at_end q d
  one_all (member_read h d ds) p (member_read k e es) = grind (arith, one d _ e, one_all ds)
  one_all (member_read h d ds) p (later_refused k e es) = grind (arith, one d _ e, one_all ds)
  one_all (member_read h d ds) p (member_refused k e) = cc (one d _ e)
  one_all (later_refused h d ds) p (member_read k e es) = grind (arith, one d _ e, one_all ds)
  one_all (later_refused h d ds) p (later_refused k e es) = grind (arith, one d _ e, one_all ds)
  one_all (later_refused h d ds) p (member_refused k e) = cc (one d _ e)
  one_all (member_refused h d) p (member_read k e es) = cc (one d _ e)
  one_all (member_refused h d) p (later_refused k e es) = cc (one d _ e)
  one_all (member_refused h d) p (member_refused k e) = cc (one d _ e)

-- there is an outcome, which leaves at most k tokens
data Comes (A : Type 0) (reads : Outcome A → Type 0) (k : ℕ) : Type 0 where
  comes_to : (x : A) (m : List Tok) → length m ≤ k → reads (Read x m) → Comes A reads k
  is_refused : (r : Refusal) → reads (Refused r) → Comes A reads k

-- the same outcome, of something else
with_outcome : {A : Type 0} {P Q : Outcome A → Type 0} {j k : ℕ} → Comes A P j → j ≤ k → ((o : Outcome A) → P o → Q o) → Comes A Q k
with_outcome (comes_to x m fits d) h f = comes_to x m (omega arith) (f (Read x m) d)
with_outcome (is_refused r d) h f = is_refused r (f (Refused r) d)

-- a part or members that have an outcome, and then what follows them
after : {A : Type 0} {P : Outcome A → Type 0} {then : A → Rule} {r : Rule} {l : List Tok} {j k : ℕ} → Comes A P j → j ≤ k → ((x : A) (m : List Tok) → length m ≤ j → Comes Tree (ReadsRule (then x) m) (length m)) → ((x : A) (m : List Tok) (o : Outcome Tree) → P (Read x m) → ReadsRule (then x) m o → ReadsRule r l o) → ((q : Refusal) → P (Refused q) → ReadsRule r l (Refused q)) → Comes Tree (ReadsRule r l) k
after (comes_to x m fits d) h follow read refused = with_outcome (follow x m fits) (omega arith) (λ o. read x m o d)
after (is_refused q d) h follow read refused = is_refused q (refused q d)

-- a sign that comes first, and what follows it, or what is read otherwise
sign_total : {t : Tok} {a b : Rule} (l : List Tok) → ((m : List Tok) → length m < length l → Comes Tree (ReadsRule a m) (length m)) → Comes Tree (ReadsRule b l) (length l) → Comes Tree (ReadsRule (reads_sign t a b) l) (length l)
sign_total [] follow other = with_outcome other (omega arith) (λ o. sign_missing (λ e. cc))
sign_total {t} (u ∷ l) follow other =
    elim (tok-discrete u t) [
      | yes e ↦ with_outcome (follow l (omega arith)) (omega arith) (λ o. sign_stands (ap (λ v. v ∷ l) e))
      | no h ↦ with_outcome other (omega arith) (λ o. sign_missing (λ e. h cc))
    ]

-- the letters at the front of the tokens, and what follows them
abbrev Run : List Tok → Type 0
Run l = (cs : List ℕ) × (m : List Tok) × (length m ≤ length l) × AreLetters cs l m

-- one more token at the front: it is a letter or not
longer_run : {t : Tok} {l : List Tok} (c : Option ℕ) → letter_of t ≡ c → Run l → Run (t ∷ l)
longer_run {t} {l} (Some c) e (cs, m, fits, d) = (c ∷ cs, m, omega arith, (t, (l, refl, e, d)))
longer_run {t} {l} None e r = ([], t ∷ l, omega arith, (refl, e))

-- each list of tokens has its run of letters
run_of : (l : List Tok) → Run l
run_of [] = ([], [], omega arith, (refl, refl))
run_of (t ∷ l) = longer_run (letter_of t) refl (run_of l)

-- there is an outcome for each list of fewer than k tokens
record HasOutcomes (k : ℕ) : Type 0 where
  of_sort : (s : Sort) (l : List Tok) → length l < k → Comes Tree (Reads s l) (length l - 1)
  of_all : (end : Option Tok) (l : List Tok) → length l < k → Comes (List Tree) (ReadsAll end l) (length l)

-- a rule has an outcome, where the parts have theirs
rule_total : (k : ℕ) → HasOutcomes k → (r : Rule) (l : List Tok) → length l < k → Comes Tree (ReadsRule r l) (length l)
rule_total k has (gives x) l h = comes_to x l (omega arith) rule_gives
rule_total k has (refuses r) l h = is_refused r rule_refuses
rule_total k has (reads_part s then) l h =
    after (has.of_sort s l h) (omega arith) (λ x m fits. rule_total k has (then x) m (omega arith)) (λ x m o. part_read) (λ q. part_refused)
rule_total k has (reads_members end then) l h =
    after (has.of_all (Some end) l h) (omega arith) (λ xs m fits. rule_total k has (then xs) m (omega arith)) (λ xs m o. members_read) (λ q. members_refused)
rule_total k has (reads_sign t a b) l h =
    sign_total l (λ m fits. rule_total k has a m (omega arith)) (rule_total k has b l h)
rule_total k has (takes_token then) [] h = with_outcome (rule_total k has (then EOF) [] h) (omega arith) (λ o. token_at_end)
rule_total k has (takes_token then) (t ∷ l) h = with_outcome (rule_total k has (then t) l (omega arith)) (omega arith) (λ o. token_taken)
rule_total k has (sees_token then) l h = with_outcome (rule_total k has (then (first_or_end l)) l h) (omega arith) (λ o. token_seen)
rule_total k has (takes_letters then) l h =
    let (cs, m, fits, d) = run_of l in with_outcome (rule_total k has (then cs) m (omega arith)) fits (λ o. letters_taken cs d)

-- with one more token, a core has an outcome
core_total : (k : ℕ) → HasOutcomes k → (l : List Tok) → length l < suc k → Comes Tree (Reads core l) (length l - 1)
core_total k has [] h = comes_to _ [] (omega arith) core_at_end
core_total k has (t ∷ l) h = with_outcome (rule_total k has (rule t) l (omega arith)) (omega arith) (λ o. core_begun)

-- so a single has one
single_total : (k : ℕ) → HasOutcomes k → (l : List Tok) → length l < suc k → Comes Tree (Reads single l) (length l - 1)
single_total k has l h =
    let read = after {k = length l - 1} (core_total k has l h) (omega arith) (λ x m fits. sign_total m (λ n fewer. comes_to _ n (omega arith) rule_gives) (comes_to x m (omega arith) rule_gives)) (λ x m o. part_read) (λ q. part_refused) in
    with_outcome read (omega arith) (λ o. single_read)

-- so a core, a single and a node each have one
sort_total : (k : ℕ) → HasOutcomes k → (s : Sort) (l : List Tok) → length l < suc k → Comes Tree (Reads s l) (length l - 1)
sort_total k has core l h = core_total k has l h
sort_total k has single l h = single_total k has l h
sort_total k has node l h =
    let script = λ (r : Rule) (n : List Tok) (fewer : length n < length l - 1). rule_total k has r n (omega arith) in
    let read = after {k = length l - 1} (single_total k has l h) (omega arith) (λ x m fits. sign_total m (λ n fewer. script _ n (omega arith)) (sign_total m (λ n fewer. script _ n (omega arith)) (comes_to x m (omega arith) rule_gives))) (λ x m o. part_read) (λ q. part_refused) in
    with_outcome read (omega arith) (λ o. node_read)

-- a member that has an outcome, and then the members after it
member_total : {end : Option Tok} {t : Tok} {l : List Tok} {k : ℕ} → HasOutcomes k → length (t ∷ l) < suc k → end ≢ Some t → Comes Tree (Reads node (t ∷ l)) (length (t ∷ l) - 1) → Comes (List Tree) (ReadsAll end (t ∷ l)) (length (t ∷ l))
member_total has h other (is_refused r d) = is_refused r (member_refused other d)
member_total {end} has h other (comes_to x m fits d) =
    elim (has.of_all end m (omega arith)) [
      | comes_to xs f fewer ds ↦ comes_to (x ∷ xs) f (omega arith) (member_read other d ds)
      | is_refused r ds ↦ is_refused r (later_refused other d ds)
    ]

-- so consecutive nodes have an outcome
all_total : (k : ℕ) → HasOutcomes k → (end : Option Tok) (l : List Tok) → length l < suc k → Comes (List Tree) (ReadsAll end l) (length l)
all_total k has None [] h = comes_to [] [] (omega arith) formula_ends
all_total k has (Some end) [] h = is_refused _ never_closed
all_total k has None (t ∷ l) h = member_total has h (λ e. cc) (sort_total k has node (t ∷ l) h)
all_total k has (Some end) (t ∷ l) h =
    elim (tok-discrete t end) [
      | yes e ↦ comes_to [] l (omega arith) (group_ends (ap (λ u. u ∷ l) e))
      | no other ↦ member_total has h (λ e. other (sym cc)) (sort_total k has node (t ∷ l) h)
    ]

-- so there is an outcome for each list, however many tokens it has
outcomes : (k : ℕ) → HasOutcomes k
outcomes zero = record { of_sort = λ s l h. absurd (omega arith); of_all = λ end l h. absurd (omega arith) }
outcomes (suc k) = record { of_sort = sort_total k (outcomes k); of_all = all_total k (outcomes k) }

-- a formula is read to its end
nothing_left : {l f : List Tok} {xs : List Tree} → ReadsAll None l (Read xs f) → f ≡ []
nothing_left formula_ends = refl
nothing_left (member_read h d ds) = nothing_left ds

pub has_one_reading : (l : List Tok) → HasOneReading l
unfolding ReadsFormula Refuses
has_one_reading l = record {
  some = elim ((outcomes (suc (length l))).of_all None l (omega arith)) [
    | comes_to xs m fits d ↦ inl (xs, rw (nothing_left d) at d)
    | is_refused r d ↦ inr (r, d)
  ];
  one_reading = λ xs ys d e. (let same = one_all d _ e in cc same);
  one_refusal = λ r q d e. (let same = one_all d _ e in cc same);
  never_both = λ xs r d e. (let same = one_all d _ e in cc same);
}
