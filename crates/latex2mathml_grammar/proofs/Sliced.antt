-- What is read is a slice of the tokens, with the rest after it; and what is refused is refused after such slices. Slices
-- are read where they are, and where the grammar over slices refuses, the table does.
use Rattle.std.proofs.Common.{◌≡◌, ◌≢◌, ◌∙◌, ℕ, List, [], ◌∷◌, ◌++◌, length, length-append, map, Option, Some, None, refl, sym, ap, subst, append_assoc, arith}
use Rattle.std.proofs.lemmas.List.{append_cancel_right}
use Rattle.latex2mathml_grammar.specs.Grammar.{Sort, node, Rule, takes_token, prime, Outcome, Read, Refused, first, first_letter, letter_of, AreLetters, Reads, core_at_end, core_begun, single_read, node_read, ReadsRule, rule_gives, rule_refuses, part_read, part_refused, members_read, members_refused, sign_stands, sign_missing, token_taken, token_at_end, token_seen, letters_taken, ReadsAll, formula_ends, group_ends, never_closed, member_read, later_refused, member_refused}
use Rattle.latex2mathml_grammar.specs.SliceRefusals.{PartRefuses, core_refuses, single_refuses, node_refuses, subscript_refuses, superscript_refuses, RuleRefuses, rule_itself, part_itself, behind_part, members_themselves, behind_members, behind_sign, behind_no_sign, behind_token, behind_no_token, at_next_token, behind_letters, MembersRefuse, end_missing, member_itself, behind_member, FormulaRefuses, node_itself, behind_node}
use Rattle.latex2mathml_grammar.specs.Slices.{IsPart, no_core, core_by_rule, without_prime, with_prime, without_script, with_subscript, with_superscript, AreParts, no_part, part, members, with_sign, without_sign, with_token, without_token, by_next_token, letters, AreMembers, no_member, member, AreNodes, no_node, one_node}
use Rattle.latex2mathml_tokens.specs.{Refusal.Refusal, Tok.Tok, Tok.EOF, Tok.Underscore, Tok.Circumflex}
use Rattle.latex2mathml_trees.specs.Tree.{Tree}

-- what is read is a slice, and what is refused is refused after slices
abbrev pub BySlices : {A : Type 0} → (List Tok → List Tok → A → Type 0) → (List Tok → Refusal → Type 0) → List Tok → Outcome A → Type 0
BySlices P Q l (Read x f) = (w : List Tok) × (l ≡ w ++ f) × P w f x
BySlices P Q l (Refused r) = Q l r

-- the same for consecutive nodes, up to an end token or to the end of the formula
abbrev pub AllBySlices : Option Tok → List Tok → Outcome (List Tree) → Type 0
AllBySlices (Some end) l o = BySlices (AreMembers end) (MembersRefuse end) l o
AllBySlices None l (Read xs f) = AreNodes l xs
AllBySlices None l (Refused r) = FormulaRefuses l r

-- two slices, one after the other, and the rest after them
joined : (u v f : List Tok) {l m : List Tok} → l ≡ u ++ m → m ≡ v ++ f → l ≡ (u ++ v) ++ f
joined u v f e p = e ∙ ap (λ k. u ++ k) p ∙ sym (append_assoc u v f)

-- a slice, and the parts of a rule after it
behind : {q r : Rule} (o : Outcome Tree) (u : List Tok) {l m : List Tok} → l ≡ u ++ m → BySlices (AreParts q) (RuleRefuses q) m o → ((v f : List Tok) (x : Tree) → m ≡ v ++ f → AreParts q v f x → AreParts r (u ++ v) f x) → ((p : Refusal) → RuleRefuses q m p → RuleRefuses r l p) → BySlices (AreParts r) (RuleRefuses r) l o
behind (Read x f) u e (v, p, d) make refuse = (u ++ v, joined u v f e p, make v f x p d)
behind (Refused q) u e d make refuse = refuse q d

-- a part before the same tokens
part_before : {s : Sort} {w f g : List Tok} {x : Tree} → f ≡ g → IsPart s w f x → IsPart s w g x
part_before {s} {w} {x = x} e d = subst (λ k. IsPart s w k x) e d

-- the letters of a run are a slice, and no letter follows them
letter_slice : (cs : List ℕ) (l m : List Tok) → AreLetters cs l m → (u : List Tok) × (l ≡ u ++ m) × ((map letter_of u ≡ map Some cs) × (first_letter m ≡ None))
letter_slice [] l m d = ([], d.0, (refl, d.1))
letter_slice (c ∷ cs) l m d =
    let later = letter_slice cs d.1.0 m d.1.3 in
    (d.0 ∷ later.0, d.1.1 ∙ ap (λ k. d.0 ∷ k) later.1, (cc (d.1.2, later.2.0), later.2.1))

-- no token, where none is left
no_token : {then : Tok → Rule} (v f : List Tok) {x : Tree} → [] ≡ v ++ f → AreParts (then EOF) v f x → AreParts (takes_token then) v f x
no_token [] [] e d = without_token d
no_token v f e d = absurd cc

-- a part takes a token where one is left
pub part_takes : {s : Sort} {f : List Tok} {x : Tree} → IsPart s [] f x → f ≡ []
part_takes no_core = refl
part_takes (without_prime d h) = part_takes d
part_takes (with_prime {c = c} e d) = absurd (omega (arith, ap length e, length-append c (prime ∷ [])))
part_takes (without_script d h k) = part_takes d
part_takes (with_subscript {u = u} {v = v} e d ds) = absurd (omega (arith, ap length e, length-append u (Underscore ∷ v)))
part_takes (with_superscript {u = u} {v = v} e d ds) = absurd (omega (arith, ap length e, length-append u (Circumflex ∷ v)))

-- the members of a group take their end token
pub members_take : {end : Tok} {f : List Tok} {xs : List Tree} → AreMembers end [] f xs → ⊥
members_take (no_member e) = absurd cc
members_take (member {u = []} {v = []} e h d ds) = members_take ds
members_take (member {u = u} {v = v} e h d ds) = absurd cc

-- nodes that are read take a token where one is left
begun : (t : Tok) (l m : List Tok) (x : Tree) → BySlices (IsPart node) (PartRefuses node) (t ∷ l) (Read x m) → (u : List Tok) × (t ∷ l ≡ u ++ m) × ((first u ≡ Some t) × IsPart node u m x)
begun t l m x ([], e, p) = absurd (let none = part_takes p in cc (e, none))
begun t l m x (s ∷ u, e, p) = (s ∷ u, e, (cc, p))

mutual
  -- a core, a single or a node is read or refused by slices
  pub part_by_slices : {s : Sort} {l : List Tok} {o : Outcome Tree} → Reads s l o → BySlices (IsPart s) (PartRefuses s) l o
  part_by_slices core_at_end = ([], refl, no_core)
  part_by_slices (core_begun {t = t} {o = Read x f} d) = (let c = rule_by_slices d in (t ∷ c.0, ap (λ k. t ∷ k) c.1, core_by_rule c.2))
  part_by_slices (core_begun {o = Refused r} d) = core_refuses (rule_by_slices d)
  part_by_slices (single_read (part_read d (sign_stands {m = f} p rule_gives))) =
      let c = part_by_slices d in (_, joined c.0 (prime ∷ []) f c.1 p, with_prime refl (part_before p c.2))
  part_by_slices (single_read (part_read d (sign_missing h rule_gives))) = (let c = part_by_slices d in (c.0, c.1, without_prime c.2 h))
  part_by_slices (single_read (part_refused d)) = single_refuses (part_by_slices d)
  part_by_slices (node_read (part_read d (sign_stands p (part_read {m = f} e rule_gives)))) =
      let u = part_by_slices d in
      let v = part_by_slices e in (_, joined u.0 (Underscore ∷ v.0) f u.1 (rw v.1 at p), with_subscript refl (part_before (rw v.1 at p) u.2) v.2)
  part_by_slices (node_read (part_read d (sign_stands p (part_refused e)))) =
      let u = part_by_slices d in subscript_refuses (u.1 ∙ ap (λ k. u.0 ++ k) p) (part_before p u.2) (part_by_slices e)
  part_by_slices (node_read (part_read d (sign_missing h (sign_stands p (part_read {m = f} e rule_gives))))) =
      let u = part_by_slices d in
      let v = part_by_slices e in (_, joined u.0 (Circumflex ∷ v.0) f u.1 (rw v.1 at p), with_superscript refl (part_before (rw v.1 at p) u.2) v.2)
  part_by_slices (node_read (part_read d (sign_missing h (sign_stands p (part_refused e))))) =
      let u = part_by_slices d in superscript_refuses (u.1 ∙ ap (λ k. u.0 ++ k) p) (part_before p u.2) (part_by_slices e)
  part_by_slices (node_read (part_read d (sign_missing h (sign_missing k rule_gives)))) = (let u = part_by_slices d in (u.0, u.1, without_script u.2 h k))
  part_by_slices (node_read (part_refused d)) = node_refuses (part_by_slices d)

  -- the parts of a rule are read or refused by slices
  pub rule_by_slices : {r : Rule} {l : List Tok} {o : Outcome Tree} → ReadsRule r l o → BySlices (AreParts r) (RuleRefuses r) l o
  rule_by_slices rule_gives = ([], refl, no_part)
  rule_by_slices rule_refuses = rule_itself
  rule_by_slices (part_read {o = o} d ds) =
      let u = part_by_slices d in behind o u.0 u.1 (rule_by_slices ds) (λ v f x e. part refl (part_before e u.2)) (λ r. behind_part u.1 u.2)
  rule_by_slices (part_refused d) = part_itself (part_by_slices d)
  rule_by_slices (members_read {end = end} {xs = ys} {o = o} d ds) =
      let u = all_by_slices d in behind o u.0 u.1 (rule_by_slices ds) (λ v f x e. members refl (subst (λ g. AreMembers end u.0 g ys) e u.2)) (λ r. behind_members u.1 u.2)
  rule_by_slices (members_refused d) = members_themselves (all_by_slices d)
  rule_by_slices (sign_stands {t = t} {o = o} p d) = behind o (t ∷ []) p (rule_by_slices d) (λ v f x e. with_sign refl) (λ r. behind_sign p)
  rule_by_slices (sign_missing {o = o} h d) = behind o [] refl (rule_by_slices d) (λ v f x e. without_sign (rw e at h)) (λ r. behind_no_sign h)
  rule_by_slices (token_taken {t = t} {o = o} d) = behind o (t ∷ []) refl (rule_by_slices d) (λ v f x e. with_token) (λ r. behind_token)
  rule_by_slices (token_at_end {o = o} d) = behind o [] refl (rule_by_slices d) (λ v f x. no_token v f) (λ r. behind_no_token)
  rule_by_slices (token_seen {o = o} d) = behind o [] refl (rule_by_slices d) (λ v f x e c. by_next_token (rw e at c)) (λ r. at_next_token)
  rule_by_slices (letters_taken cs {l = l} {m = m} {o = o} p d) =
      let u = letter_slice cs l m p in
      behind o u.0 u.1 (rule_by_slices d) (λ v f x e. letters cs u.0 refl u.2.0 (rw e at u.2.1)) (λ r. behind_letters cs u.0 u.1 u.2.0 u.2.1)

  -- consecutive nodes are read or refused by slices
  pub all_by_slices : {end : Option Tok} {l : List Tok} {o : Outcome (List Tree)} → ReadsAll end l o → AllBySlices end l o
  all_by_slices formula_ends = no_node
  all_by_slices never_closed = end_missing
  all_by_slices (group_ends {end = end} p) = (_, p, no_member refl)
  all_by_slices (member_read {end = Some end} {rest = f} h d ds) =
      let u = begun _ _ _ _ (part_by_slices d) in
      let v = all_by_slices ds in
      (_, joined u.0 v.0 f u.1 v.1, member refl (λ q. h (sym q ∙ u.2.0)) (part_before v.1 u.2.1) v.2)
  all_by_slices (member_read {end = None} h d ds) =
      let u = begun _ _ _ _ (part_by_slices d) in one_node u.1 (λ q. cc (q, u.2.0)) u.2.1 (all_by_slices ds)
  all_by_slices (later_refused {end = Some end} h d ds) =
      let u = begun _ _ _ _ (part_by_slices d) in behind_member u.1 (λ q. h (sym q ∙ u.2.0)) u.2.1 (all_by_slices ds)
  all_by_slices (later_refused {end = None} h d ds) =
      let u = begun _ _ _ _ (part_by_slices d) in behind_node u.1 (λ q. cc (q, u.2.0)) u.2.1 (all_by_slices ds)
  all_by_slices (member_refused {end = Some end} h d) = member_itself (λ e. h (ap Some (sym e))) (part_by_slices d)
  all_by_slices (member_refused {end = None} h d) = node_itself (part_by_slices d)

-- letters with no letter after them
letters_are_read : (cs : List ℕ) (u g : List Tok) → map letter_of u ≡ map Some cs → first_letter g ≡ None → AreLetters cs (u ++ g) g
letters_are_read [] [] g e h = (refl, h)
letters_are_read (c ∷ cs) (t ∷ u) g e h = (t, (u ++ g, refl, (cc), letters_are_read cs u g (cc) h))
letters_are_read cs u g e h = absurd cc

-- the sign of a superscript is not that of a subscript
other_sign : Some Circumflex ≢ Some Underscore
other_sign q = cc

mutual
  -- a part is read
  pub part_is_read : {s : Sort} {w f : List Tok} {x : Tree} → IsPart s w f x → Reads s (w ++ f) (Read x f)
  part_is_read no_core = core_at_end
  part_is_read (core_by_rule d) = core_begun (parts_are_read d)
  part_is_read (without_prime d h) = single_read (part_read (part_is_read d) (sign_missing h rule_gives))
  part_is_read (with_prime e d) = rw (e, append_assoc) (single_read (part_read (part_is_read d) (sign_stands refl rule_gives)))
  part_is_read (without_script d h k) = node_read (part_read (part_is_read d) (sign_missing h (sign_missing k rule_gives)))
  part_is_read (with_subscript e d ds) = rw (e, append_assoc) (node_read (part_read (part_is_read d) (sign_stands refl (part_read (part_is_read ds) rule_gives))))
  part_is_read (with_superscript e d ds) = rw (e, append_assoc) (node_read (part_read (part_is_read d) (sign_missing other_sign (sign_stands refl (part_read (part_is_read ds) rule_gives)))))

  -- the parts of a rule are read
  pub parts_are_read : {r : Rule} {w f : List Tok} {x : Tree} → AreParts r w f x → ReadsRule r (w ++ f) (Read x f)
  parts_are_read no_part = rule_gives
  parts_are_read (part e d ds) = rw (e, append_assoc) (part_read (part_is_read d) (parts_are_read ds))
  parts_are_read (members e d ds) = rw (e, append_assoc) (members_read (members_are_read d) (parts_are_read ds))
  parts_are_read (with_sign e d) = rw e (sign_stands refl (parts_are_read d))
  parts_are_read (without_sign h d) = sign_missing h (parts_are_read d)
  parts_are_read (with_token d) = token_taken (parts_are_read d)
  parts_are_read (without_token d) = token_at_end (parts_are_read d)
  parts_are_read (by_next_token d) = token_seen (parts_are_read d)
  parts_are_read (letters cs u e are none d) = rw (e, append_assoc) (letters_taken cs (letters_are_read cs u _ are none) (parts_are_read d))

  -- the members of a group are read
  pub members_are_read : {end : Tok} {w f : List Tok} {xs : List Tree} → AreMembers end w f xs → ReadsAll (Some end) (w ++ f) (Read xs f)
  members_are_read (no_member e) = rw e (group_ends refl)
  members_are_read (member {u = t ∷ u} e h d ds) = rw (e, append_assoc) (member_read (λ q. h (sym q)) (part_is_read d) (members_are_read ds))
  members_are_read (member {u = []} {v = []} e h d ds) = absurd (members_take ds)
  members_are_read (member {u = []} {v = t ∷ v} e h d ds) = absurd (let none = part_takes d in cc none)

-- consecutive nodes are read
pub nodes_are_read : {l : List Tok} {xs : List Tree} → AreNodes l xs → ReadsAll None l (Read xs [])
nodes_are_read no_node = formula_ends
nodes_are_read (one_node {w = []} e h d ds) = absurd (h refl)
nodes_are_read (one_node {w = t ∷ w} e h d ds) = rw e (member_read {end = None} {t = t} (λ q. cc) (part_is_read d) (nodes_are_read ds))

mutual
  -- a part is refused
  pub part_is_refused : {s : Sort} {l : List Tok} {r : Refusal} → PartRefuses s l r → Reads s l (Refused r)
  part_is_refused (core_refuses d) = core_begun (parts_are_refused d)
  part_is_refused (single_refuses d) = single_read (part_refused (part_is_refused d))
  part_is_refused (node_refuses d) = node_read (part_refused (part_is_refused d))
  part_is_refused (subscript_refuses e d ds) = rw e (node_read (part_read (part_is_read d) (sign_stands refl (part_refused (part_is_refused ds)))))
  part_is_refused (superscript_refuses e d ds) = rw e (node_read (part_read (part_is_read d) (sign_missing other_sign (sign_stands refl (part_refused (part_is_refused ds))))))

  -- the parts of a rule are refused
  pub parts_are_refused : {r : Rule} {l : List Tok} {q : Refusal} → RuleRefuses r l q → ReadsRule r l (Refused q)
  parts_are_refused rule_itself = rule_refuses
  parts_are_refused (part_itself d) = part_refused (part_is_refused d)
  parts_are_refused (behind_part e d ds) = rw e (part_read (part_is_read d) (parts_are_refused ds))
  parts_are_refused (members_themselves d) = members_refused (members_are_refused d)
  parts_are_refused (behind_members e d ds) = rw e (members_read (members_are_read d) (parts_are_refused ds))
  parts_are_refused (behind_sign e d) = sign_stands e (parts_are_refused d)
  parts_are_refused (behind_no_sign h d) = sign_missing h (parts_are_refused d)
  parts_are_refused (behind_token d) = token_taken (parts_are_refused d)
  parts_are_refused (behind_no_token d) = token_at_end (parts_are_refused d)
  parts_are_refused (at_next_token d) = token_seen (parts_are_refused d)
  parts_are_refused (behind_letters cs u e are none d) = rw e (letters_taken cs (letters_are_read cs u _ are none) (parts_are_refused d))

  -- the members of a group are refused
  pub members_are_refused : {end : Tok} {l : List Tok} {r : Refusal} → MembersRefuse end l r → ReadsAll (Some end) l (Refused r)
  members_are_refused end_missing = never_closed
  members_are_refused (member_itself h d) = member_refused (λ e. h (sym cc)) (part_is_refused d)
  members_are_refused (behind_member {u = []} e h d ds) = rw e (members_are_refused ds)
  members_are_refused (behind_member {u = t ∷ u} e h d ds) = rw e (later_refused (λ q. h (sym q)) (part_is_read d) (members_are_refused ds))

-- a formula is refused
pub formula_is_refused : {l : List Tok} {r : Refusal} → FormulaRefuses l r → ReadsAll None l (Refused r)
formula_is_refused (node_itself d) = member_refused (λ e. cc) (part_is_refused d)
formula_is_refused (behind_node {w = []} e h d ds) = absurd (h refl)
formula_is_refused (behind_node {w = t ∷ w} e h d ds) = rw e (later_refused {end = None} {t = t} (λ q. cc) (part_is_read d) (formula_is_refused ds))

-- the laws of slices
pub ruleset laws_of_slices = (part_by_slices, rule_by_slices, all_by_slices, append_cancel_right, part_takes, members_take, part_is_read, parts_are_read, members_are_read, nodes_are_read, part_is_refused, parts_are_refused, members_are_refused, formula_is_refused)
