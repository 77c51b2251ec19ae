-- The refusals of the grammar over slices: the parts before a refusal are slices that were read, each followed by all the
-- tokens after it. A law says that what the rules refuse is exactly this.
use Rattle.std.specs.Prelude.{◌≡◌, ◌≢◌, ℕ, List, [], ◌∷◌, ◌++◌, map, Some, None}
use Rattle.latex2mathml_grammar.specs.Grammar.{Sort, core, single, node, Rule, refuses, reads_part, reads_members, reads_sign, takes_token, sees_token, takes_letters, rule, first, first_or_end, letter_of, first_letter}
use Rattle.latex2mathml_tokens.specs.Refusal.{Refusal, UnexpectedToken}
use Rattle.latex2mathml_grammar.specs.Slices.{IsPart, AreMembers}
use Rattle.latex2mathml_tokens.specs.Tok.{Tok, EOF, Underscore, Circumflex}
use Rattle.latex2mathml_trees.specs.Tree.{Tree}

mutual
  -- a core, a single or a node is due at the front of the tokens, and is refused
  pub data PartRefuses : Sort → List Tok → Refusal → Type 0 where
    -- a core refuses as the rule of its token does
    core_refuses : {t : Tok} {l : List Tok} {r : Refusal} → RuleRefuses (rule t) l r → PartRefuses core (t ∷ l) r
    -- a single refuses as its core does
    single_refuses : {l : List Tok} {r : Refusal} → PartRefuses core l r → PartRefuses single l r
    -- a node refuses as its single does
    node_refuses : {l : List Tok} {r : Refusal} → PartRefuses single l r → PartRefuses node l r
    -- or, after a single and a sign, as the node that follows them does
    subscript_refuses : {u g l : List Tok} {x : Tree} {r : Refusal} →
        l ≡ u ++ (Underscore ∷ g) →
        IsPart single u (Underscore ∷ g) x →
        PartRefuses node g r →
        PartRefuses node l r
    superscript_refuses : {u g l : List Tok} {x : Tree} {r : Refusal} →
        l ≡ u ++ (Circumflex ∷ g) →
        IsPart single u (Circumflex ∷ g) x →
        PartRefuses node g r →
        PartRefuses node l r

  -- the parts of the rule are due at the front of the tokens, and are refused
  pub data RuleRefuses : Rule → List Tok → Refusal → Type 0 where
    -- the rule itself refuses
    rule_itself : {l : List Tok} {r : Refusal} → RuleRefuses (refuses r) l r
    -- a part refuses, or what follows it does
    part_itself : {s : Sort} {then : Tree → Rule} {l : List Tok} {r : Refusal} → PartRefuses s l r → RuleRefuses (reads_part s then) l r
    behind_part : {s : Sort} {then : Tree → Rule} {u g l : List Tok} {y : Tree} {r : Refusal} →
        l ≡ u ++ g →
        IsPart s u g y →
        RuleRefuses (then y) g r →
        RuleRefuses (reads_part s then) l r
    -- the members refuse, or what follows them does
    members_themselves : {end : Tok} {then : List Tree → Rule} {l : List Tok} {r : Refusal} → MembersRefuse end l r → RuleRefuses (reads_members end then) l r
    behind_members : {end : Tok} {then : List Tree → Rule} {u g l : List Tok} {ys : List Tree} {r : Refusal} →
        l ≡ u ++ g →
        AreMembers end u g ys →
        RuleRefuses (then ys) g r →
        RuleRefuses (reads_members end then) l r
    -- what follows the sign refuses, or what follows where the sign is not next does
    behind_sign : {t : Tok} {a b : Rule} {g l : List Tok} {r : Refusal} →
        l ≡ t ∷ g →
        RuleRefuses a g r →
        RuleRefuses (reads_sign t a b) l r
    behind_no_sign : {t : Tok} {a b : Rule} {l : List Tok} {r : Refusal} →
        first l ≢ Some t →
        RuleRefuses b l r →
        RuleRefuses (reads_sign t a b) l r
    -- what follows a token refuses, or what follows where none is left does
    behind_token : {then : Tok → Rule} {t : Tok} {l : List Tok} {r : Refusal} → RuleRefuses (then t) l r → RuleRefuses (takes_token then) (t ∷ l) r
    behind_no_token : {then : Tok → Rule} {r : Refusal} → RuleRefuses (then EOF) [] r → RuleRefuses (takes_token then) [] r
    -- what follows, chosen by the next token, refuses
    at_next_token : {then : Tok → Rule} {l : List Tok} {r : Refusal} → RuleRefuses (then (first_or_end l)) l r → RuleRefuses (sees_token then) l r
    -- what follows letters, with no letter after them, refuses
    behind_letters : (cs : List ℕ) (u : List Tok) {then : List ℕ → Rule} {g l : List Tok} {r : Refusal} →
        l ≡ u ++ g →
        map letter_of u ≡ map Some cs →
        first_letter g ≡ None →
        RuleRefuses (then cs) g r →
        RuleRefuses (takes_letters then) l r

  -- nodes and then the end token are due at the front of the tokens, and are refused
  pub data MembersRefuse : Tok → List Tok → Refusal → Type 0 where
    -- nothing is left, and the end token is missing
    end_missing : {end : Tok} → MembersRefuse end [] (UnexpectedToken end EOF)
    -- the next node refuses, and it does not begin with the end token
    member_itself : {end t : Tok} {l : List Tok} {r : Refusal} → t ≢ end → PartRefuses node (t ∷ l) r → MembersRefuse end (t ∷ l) r
    -- or what follows a node refuses
    behind_member : {end : Tok} {u g l : List Tok} {x : Tree} {r : Refusal} →
        l ≡ u ++ g →
        first u ≢ Some end →
        IsPart node u g x →
        MembersRefuse end g r →
        MembersRefuse end l r

-- the formula refuses: after consecutive nodes, none of them empty, a token is left, and the node there refuses
pub data FormulaRefuses : List Tok → Refusal → Type 0 where
  node_itself : {t : Tok} {l : List Tok} {r : Refusal} → PartRefuses node (t ∷ l) r → FormulaRefuses (t ∷ l) r
  behind_node : {w f l : List Tok} {x : Tree} {r : Refusal} →
      l ≡ w ++ f →
      w ≢ [] →
      IsPart node w f x →
      FormulaRefuses f r →
      FormulaRefuses l r
