-- The grammar over slices: which tokens w, followed by which tokens f, are a core, a single, a node, the parts of a rule,
-- the members of a group, or the nodes of a formula. A law says that what the rules read is exactly this.
use Rattle.std.specs.Prelude.{◌≡◌, ◌≢◌, ℕ, List, [], ◌∷◌, ◌++◌, map, Some, None}
use Rattle.latex2mathml_trees.specs.Productions.{prime_mark}
use Rattle.latex2mathml_grammar.specs.Grammar.{Sort, core, single, node, Rule, gives, reads_part, reads_members, reads_sign, takes_token, sees_token, takes_letters, rule, prime, first, first_or_end, letter_of, first_letter}
use Rattle.latex2mathml_tokens.specs.Tok.{Tok, EOF, Underscore, Circumflex}
use Rattle.latex2mathml_tokens.specs.Tok.{token_text}
use Rattle.latex2mathml_trees.specs.Tree.{Tree, subscript, superscript, undefined}

mutual
  -- the slice w, with f after it, is a core, a single or a node, and x is its tree
  pub data IsPart : Sort → List Tok → List Tok → Tree → Type 0 where
    -- at the end of the tokens the empty slice is a core
    no_core : IsPart core [] [] (undefined (token_text EOF))
    -- elsewhere a core is a token and the parts of its rule
    core_by_rule : {t : Tok} {w f : List Tok} {x : Tree} → AreParts (rule t) w f x → IsPart core (t ∷ w) f x
    -- a single is a core with no prime after it
    without_prime : {w f : List Tok} {x : Tree} →
        IsPart core w f x →
        first f ≢ Some prime →
        IsPart single w f x
    -- or it is a core and a prime
    with_prime : {c w f : List Tok} {x : Tree} →
        w ≡ c ++ (prime ∷ []) →
        IsPart core c (prime ∷ f) x →
        IsPart single w f (superscript x prime_mark)
    -- a node is a single with no sign after it
    without_script : {w f : List Tok} {x : Tree} →
        IsPart single w f x →
        first f ≢ Some Underscore →
        first f ≢ Some Circumflex →
        IsPart node w f x
    -- or it is a single, a sign and a node
    with_subscript : {u v w f : List Tok} {x y : Tree} →
        w ≡ u ++ (Underscore ∷ v) →
        IsPart single u (Underscore ∷ (v ++ f)) x →
        IsPart node v f y →
        IsPart node w f (subscript x y)
    with_superscript : {u v w f : List Tok} {x y : Tree} →
        w ≡ u ++ (Circumflex ∷ v) →
        IsPart single u (Circumflex ∷ (v ++ f)) x →
        IsPart node v f y →
        IsPart node w f (superscript x y)

  -- the slice w, with f after it, is the parts of the rule, and x is the tree that the rule gives
  pub data AreParts : Rule → List Tok → List Tok → Tree → Type 0 where
    -- nothing more
    no_part : {f : List Tok} {x : Tree} → AreParts (gives x) [] f x
    -- a core, a single or a node, and what follows it
    part : {s : Sort} {then : Tree → Rule} {u v w f : List Tok} {x y : Tree} →
        w ≡ u ++ v →
        IsPart s u (v ++ f) y →
        AreParts (then y) v f x →
        AreParts (reads_part s then) w f x
    -- the members of a group, and what follows them
    members : {end : Tok} {then : List Tree → Rule} {u v w f : List Tok} {x : Tree} {ys : List Tree} →
        w ≡ u ++ v →
        AreMembers end u (v ++ f) ys →
        AreParts (then ys) v f x →
        AreParts (reads_members end then) w f x
    -- a sign, and what follows it
    with_sign : {t : Tok} {a b : Rule} {v w f : List Tok} {x : Tree} →
        w ≡ t ∷ v →
        AreParts a v f x →
        AreParts (reads_sign t a b) w f x
    -- the sign is left out only where it is not next
    without_sign : {t : Tok} {a b : Rule} {w f : List Tok} {x : Tree} →
        first (w ++ f) ≢ Some t →
        AreParts b w f x →
        AreParts (reads_sign t a b) w f x
    -- one token, and what follows it
    with_token : {then : Tok → Rule} {t : Tok} {w f : List Tok} {x : Tree} → AreParts (then t) w f x → AreParts (takes_token then) (t ∷ w) f x
    -- no token, where none is left
    without_token : {then : Tok → Rule} {x : Tree} → AreParts (then EOF) [] [] x → AreParts (takes_token then) [] [] x
    -- the next token chooses what follows
    by_next_token : {then : Tok → Rule} {w f : List Tok} {x : Tree} → AreParts (then (first_or_end (w ++ f))) w f x → AreParts (sees_token then) w f x
    -- letters of these characters with no letter after them, and what follows them
    letters : (cs : List ℕ) (u : List Tok) {then : List ℕ → Rule} {v w f : List Tok} {x : Tree} →
        w ≡ u ++ v →
        map letter_of u ≡ map Some cs →
        first_letter (v ++ f) ≡ None →
        AreParts (then cs) v f x →
        AreParts (takes_letters then) w f x

  -- the slice w, with f after it, is nodes and then the end token, no node begins with that token, and xs are the nodes'
  -- trees; the rule makes one tree of them
  pub data AreMembers : Tok → List Tok → List Tok → List Tree → Type 0 where
    no_member : {end : Tok} {w f : List Tok} → w ≡ end ∷ [] → AreMembers end w f []
    member : {end : Tok} {u v w f : List Tok} {x : Tree} {xs : List Tree} →
        w ≡ u ++ v →
        first u ≢ Some end →
        IsPart node u (v ++ f) x →
        AreMembers end v f xs →
        AreMembers end w f (x ∷ xs)

-- the tokens are consecutive nodes, none of them empty, and xs are their trees
pub data AreNodes : List Tok → List Tree → Type 0 where
  no_node : AreNodes [] []
  one_node : {w f l : List Tok} {x : Tree} {xs : List Tree} →
      l ≡ w ++ f →
      w ≢ [] →
      IsPart node w f x →
      AreNodes f xs →
      AreNodes l (x ∷ xs)
