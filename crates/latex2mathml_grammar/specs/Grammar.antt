-- The grammar: what a list of tokens is read as, or why it is refused. A table has the rule of each token at the beginning of
-- a core, also of a token that has no meaning there. Three relations say how rules are read. They are the same for every rule.
use Rattle.std.specs.Prelude.{◌≡◌, ◌≢◌, ℕ, List, [], ◌∷◌, Option, Some, None, codes}
use Rattle.std.specs.Str.{byte, encode_utf8_all}
use Rattle.latex2mathml_trees.specs.Productions.{binomial_tree, environment_tree, fence_of, overbrace_tree, labelled_overbrace_tree, stretched_operator, underbrace_tree, labelled_underbrace_tree, group_tree, prime_mark}
use Rattle.latex2mathml_tokens.specs.Refusal.{Refusal, UnexpectedToken, MissingParensethis, UnknownEnvironment}
use Rattle.latex2mathml_trees.specs.Style.{styled}
use Rattle.latex2mathml_tokens.specs.Tok.{Tok, Illegal, EOF, Begin, End, Ampersand, Paren, LBrace, RBrace, NewLine, Left, Right, Middle, Frac, Underscore, Circumflex, Binom, Overset, Underset, Overbrace, Underbrace, Sqrt, Integral, Lim, Letter, Number, Operator, BigOp, Space, Style, Big, Over, Under, Function, OperatorName, Slashed, Text, Command}
use Rattle.latex2mathml_tokens.specs.{Tok.token_text, declared.attribute.LineThickness.TheVariants.Medium}
use Rattle.latex2mathml_trees.specs.Tree.{Tree, number, letter, operator, function, space, other_operator, subscript, superscript, sub_sup, over_op, under_op, overset, underset, under, under_over, root, sqrt, frac, fenced, sized_paren, words, ampersand, new_line, slashed, undefined}

-- what a part of a rule may be: a core; a single, which is a core with what directly follows it; or a node, which is a
-- single with its scripts
pub data Sort : Type 0 where
  core : Sort
  single : Sort
  node : Sort

-- A rule: its parts from left to right, and at their end a tree or a refusal.
pub data Rule : Type 0 where
  -- nothing more is read, and this is the tree
  gives : Tree → Rule
  -- nothing more is read, and the formula is refused
  refuses : Refusal → Rule
  -- a core, a single or a node, and what follows it
  reads_part : Sort → (Tree → Rule) → Rule
  -- consecutive nodes up to the end token, which is taken, and what follows it
  reads_members : Tok → (List Tree → Rule) → Rule
  -- where this sign is next, it is taken and the first rule follows; otherwise the second does
  reads_sign : Tok → Rule → Rule → Rule
  -- one token is taken, whatever it is; where none is left, it is EOF and nothing is taken
  takes_token : (Tok → Rule) → Rule
  -- the next token is seen but not taken; it is EOF where none is left
  sees_token : (Tok → Rule) → Rule
  -- the longest run of letters, of any variant, is taken, and what follows gets their characters
  takes_letters : (List ℕ → Rule) → Rule

-- the operands of roots, fractions, binomials, accents, stacks and styles are cores: scripts and primes after them stay outside
abbrev pub operand : Sort
operand = core

-- a rule of one operand
abbrev pub of_one : (Tree → Tree) → Rule
of_one whole = reads_part operand (λ x. gives (whole x))

-- a rule of two operands
abbrev pub of_two : (Tree → Tree → Tree) → Rule
of_two whole = reads_part operand (λ x. of_one (whole x))

-- what follows the degree of a root
abbrev pub of_degree : List Tree → Rule
of_degree xs = of_one (root (group_tree xs))

-- a root, whose degree, if it has one, is in square brackets
abbrev pub a_root : Rule
a_root = reads_sign (Paren (codes "[")) (reads_members (Paren (codes "]")) of_degree) (of_one sqrt)

-- what follows a single, which is the only part or, where this sign is next, the first of two
abbrev pub with_second : Tok → (Tree → Tree) → (Tree → Tree → Tree) → Tree → Rule
with_second sign one two x = reads_sign sign (reads_part single (λ y. gives (two x y))) (gives (one x))

-- an operator with its limits, in either order. The arguments are the trees without limits, with the one below, with the
-- one above, and with both.
abbrev pub limits : Tree → (Tree → Tree) → (Tree → Tree) → (Tree → Tree → Tree) → Rule
limits bare below above both =
    reads_sign Underscore (reads_part single (with_second Circumflex below both))
    (reads_sign Circumflex (reads_part single (with_second Underscore above (λ y x. both x y))) (gives bare))

-- the name of a function with a limit under it
abbrev pub with_limit : List ℕ → Rule
with_limit name = reads_part single (λ x. gives (under (function name) x))

-- a parenthesis of this size
abbrev pub sized : List ℕ → Tok → Rule
sized size (Paren text) = gives (sized_paren size text)
sized size t = refuses (UnexpectedToken (Paren []) t)

-- a name: letters between two tokens, whatever the two are. What follows gets the bytes of the name.
abbrev pub a_name : (List ℕ → Rule) → Rule
a_name then = takes_token (λ before. takes_letters (λ cs. takes_token (λ behind. then (encode_utf8_all cs))))

-- what follows the node under a slash: one token, whatever it is
abbrev pub under_slash : Tree → Rule
under_slash x = takes_token (λ behind. gives (slashed x))

-- what follows a fence, where the token after this one is a fence, and the refusal where it is not
abbrev pub with_fence : Tok → Tok → Option (List ℕ) → (List ℕ → Rule) → Rule
with_fence location t (Some text) then = then text
with_fence location t None then = refuses (MissingParensethis location t)

-- a fence, which must be the next token after this one, and what follows its text
abbrev pub a_fence : Tok → (List ℕ → Rule) → Rule
a_fence location then = takes_token (λ t. with_fence location t (fence_of t) then)

-- what follows the members between two fences
abbrev pub after_fence_members : List ℕ → List Tree → Rule
after_fence_members opening xs = a_fence Right (λ close. gives (fenced opening close (group_tree xs)))

-- the stretched operator, or else the refusal of the token that was seen
abbrev pub stretched_or_refused : Tok → Option Tree → Rule
stretched_or_refused t (Some x) = gives x
stretched_or_refused t None = refuses (MissingParensethis Middle t)

-- the environment of this name, or the refusal where there is none
abbrev pub environment : List ℕ → Option Tree → Rule
environment name (Some x) = gives x
environment name None = refuses (UnknownEnvironment name)

-- what follows the members of an environment: a name, which need not be the one that began it
abbrev pub after_environment_members : List ℕ → List Tree → Rule
after_environment_members name xs = a_name (λ again. environment name (environment_tree name (group_tree xs)))

-- a token that has no meaning where a core is due: its text, marked as an error
abbrev pub error_rule : Tok → Rule
error_rule t = gives (undefined (token_text t))

-- the rule of a token at the beginning of a core
abbrev pub rule : Tok → Rule
rule (Number digits) = gives (number digits)
rule (Letter c variant) = gives (letter c variant)
rule (Operator c) = gives (operator c)
rule (Paren text) = gives (other_operator text)
rule Ampersand = gives ampersand
rule (Space width) = gives (space width)
rule (Function name) = gives (function name)
rule NewLine = gives new_line
rule LBrace = reads_members RBrace (λ xs. gives (group_tree xs))
rule Sqrt = a_root
rule Frac = of_two (λ x y. frac x y Medium)
rule (Binom display) = of_two (binomial_tree display)
rule (Over c accent) = of_one (over_op c accent)
rule (Under c accent) = of_one (under_op c accent)
rule Overset = of_two overset
rule Underset = of_two underset
rule (Overbrace c) = reads_part single (with_second Circumflex (overbrace_tree c) (λ x y. labelled_overbrace_tree c y x))
rule (Underbrace c) = reads_part single (with_second Underscore (underbrace_tree c) (λ x y. labelled_underbrace_tree c y x))
rule (BigOp c) = limits (operator c) (under (operator c)) (λ y. overset y (operator c)) (under_over (operator c))
rule (Integral c) = limits (operator c) (subscript (operator c)) (superscript (operator c)) (sub_sup (operator c))
rule (Lim name) = reads_sign Underscore (with_limit name) (gives (function name))
rule (Style variant) = of_one (styled variant)
rule (Big size) = takes_token (sized size)
rule Text = a_name (λ name. gives (words name))
rule OperatorName = a_name (λ name. gives (function name))
rule Slashed = takes_token (λ before. reads_part node under_slash)
rule Left = a_fence Left (λ opening. reads_members Right (after_fence_members opening))
rule Middle = sees_token (λ t. reads_part single (λ x. stretched_or_refused t (stretched_operator x)))
rule Begin = a_name (λ name. reads_members End (after_environment_members name))
-- a token that begins no rule is marked as an error
rule (Illegal c) = error_rule (Illegal c)
rule EOF = error_rule EOF
rule RBrace = error_rule RBrace
rule Right = error_rule Right
rule End = error_rule End
rule Underscore = error_rule Underscore
rule Circumflex = error_rule Circumflex
rule (Command name) = error_rule (Command name)

-- the prime
abbrev pub prime : Tok
prime = Operator (byte "'")

-- what follows the core of a single: one prime, if it is next
abbrev pub rule_after_core : Tree → Rule
rule_after_core x = reads_sign prime (gives (superscript x prime_mark)) (gives x)

-- what follows the single of a node: a sign and a node, if a sign is next. So scripts bind to the right.
abbrev pub rule_after_single : Tree → Rule
rule_after_single x =
    reads_sign Underscore (reads_part node (λ sub. gives (subscript x sub)))
    (reads_sign Circumflex (reads_part node (λ sup. gives (superscript x sup))) (gives x))

-- what was read, with the tokens that are left, or the refusal
pub data Outcome (A : Type 0) : Type 0 where
  Read : A → List Tok → Outcome A
  Refused : Refusal → Outcome A

-- the next token, if there is one
abbrev pub first : List Tok → Option Tok
first [] = None
first (t ∷ ts) = Some t

-- the next token, where the end counts as EOF
abbrev pub first_or_end : List Tok → Tok
first_or_end [] = EOF
first_or_end (t ∷ ts) = t

-- the character of a letter, whatever its variant
abbrev pub letter_of : Tok → Option ℕ
letter_of (Letter c variant) = Some c
letter_of t = None

-- the character of the next token, if that is a letter
abbrev pub first_letter : List Tok → Option ℕ
first_letter [] = None
first_letter (t ∷ ts) = letter_of t

-- the tokens begin with letters of these characters, and no letter follows them
abbrev pub AreLetters : List ℕ → List Tok → List Tok → Type 0
AreLetters [] l rest = (l ≡ rest) × (first_letter rest ≡ None)
AreLetters (c ∷ cs) l rest = (t : Tok) × ((m : List Tok) × (l ≡ t ∷ m) × (letter_of t ≡ Some c) × AreLetters cs m rest)

mutual
  -- the outcome of a core, a single or a node at the front of the tokens
  pub data Reads : Sort → List Tok → Outcome Tree → Type 0 where
    -- where no token is left, a core is the end, marked as an error
    core_at_end : Reads core [] (Read (undefined (token_text EOF)) [])
    -- a core is a token, and what its rule asks for
    core_begun : {t : Tok} {l : List Tok} {o : Outcome Tree}
        → ReadsRule (rule t) l o
        → Reads core (t ∷ l) o
    -- a single is a core, and what may follow it
    single_read : {l : List Tok} {o : Outcome Tree}
        → ReadsRule (reads_part core rule_after_core) l o
        → Reads single l o
    -- a node is a single, and what may follow it
    node_read : {l : List Tok} {o : Outcome Tree}
        → ReadsRule (reads_part single rule_after_single) l o
        → Reads node l o

  -- the outcome of the parts of a rule
  pub data ReadsRule : Rule → List Tok → Outcome Tree → Type 0 where
    -- nothing more is read
    rule_gives : {x : Tree} {l : List Tok}
        → ReadsRule (gives x) l (Read x l)
    -- the formula is refused here
    rule_refuses : {r : Refusal} {l : List Tok}
        → ReadsRule (refuses r) l (Refused r)
    -- the part is read, and the rule goes on after it
    part_read : {s : Sort} {then : Tree → Rule} {l m : List Tok} {x : Tree} {o : Outcome Tree}
        → Reads s l (Read x m)
        → ReadsRule (then x) m o
        → ReadsRule (reads_part s then) l o
    -- the part refuses
    part_refused : {s : Sort} {then : Tree → Rule} {l : List Tok} {r : Refusal}
        → Reads s l (Refused r)
        → ReadsRule (reads_part s then) l (Refused r)
    -- the members are read up to the end token, and the rule goes on after it
    members_read : {end : Tok} {then : List Tree → Rule} {l m : List Tok} {xs : List Tree} {o : Outcome Tree}
        → ReadsAll (Some end) l (Read xs m)
        → ReadsRule (then xs) m o
        → ReadsRule (reads_members end then) l o
    -- the members refuse
    members_refused : {end : Tok} {then : List Tree → Rule} {l : List Tok} {r : Refusal}
        → ReadsAll (Some end) l (Refused r)
        → ReadsRule (reads_members end then) l (Refused r)
    -- the sign is next, and the first rule goes on after it
    sign_stands : {t : Tok} {a b : Rule} {l m : List Tok} {o : Outcome Tree}
        → l ≡ t ∷ m
        → ReadsRule a m o
        → ReadsRule (reads_sign t a b) l o
    -- the sign is not next, and the second rule goes on
    sign_missing : {t : Tok} {a b : Rule} {l : List Tok} {o : Outcome Tree}
        → first l ≢ Some t
        → ReadsRule b l o
        → ReadsRule (reads_sign t a b) l o
    -- a token is taken
    token_taken : {then : Tok → Rule} {t : Tok} {l : List Tok} {o : Outcome Tree}
        → ReadsRule (then t) l o
        → ReadsRule (takes_token then) (t ∷ l) o
    -- no token is left, and none is taken
    token_at_end : {then : Tok → Rule} {o : Outcome Tree}
        → ReadsRule (then EOF) [] o
        → ReadsRule (takes_token then) [] o
    -- the next token is seen but not taken
    token_seen : {then : Tok → Rule} {l : List Tok} {o : Outcome Tree}
        → ReadsRule (then (first_or_end l)) l o
        → ReadsRule (sees_token then) l o
    -- the longest run of letters is taken
    letters_taken : (cs : List ℕ) {then : List ℕ → Rule} {l m : List Tok} {o : Outcome Tree}
        → AreLetters cs l m
        → ReadsRule (then cs) m o
        → ReadsRule (takes_letters then) l o

  -- the outcome of consecutive nodes: up to an end token or, where there is none, up to the end of the formula
  pub data ReadsAll : Option Tok → List Tok → Outcome (List Tree) → Type 0 where
    -- a formula ends where no token is left
    formula_ends : ReadsAll None [] (Read [] [])
    -- a group ends at its end token, which is taken
    group_ends : {end : Tok} {l m : List Tok}
        → l ≡ end ∷ m
        → ReadsAll (Some end) l (Read [] m)
    -- a group is still open where no token is left
    never_closed : {end : Tok}
        → ReadsAll (Some end) [] (Refused (UnexpectedToken end EOF))
    -- a member, which does not begin with the end token, and the members after it
    member_read : {end : Option Tok} {t : Tok} {l m rest : List Tok} {x : Tree} {xs : List Tree}
        → end ≢ Some t
        → Reads node (t ∷ l) (Read x m)
        → ReadsAll end m (Read xs rest)
        → ReadsAll end (t ∷ l) (Read (x ∷ xs) rest)
    -- a member is read, and those after it are refused
    later_refused : {end : Option Tok} {t : Tok} {l m : List Tok} {x : Tree} {r : Refusal}
        → end ≢ Some t
        → Reads node (t ∷ l) (Read x m)
        → ReadsAll end m (Refused r)
        → ReadsAll end (t ∷ l) (Refused r)
    -- a member refuses
    member_refused : {end : Option Tok} {t : Tok} {l : List Tok} {r : Refusal}
        → end ≢ Some t
        → Reads node (t ∷ l) (Refused r)
        → ReadsAll end (t ∷ l) (Refused r)

-- the trees are a reading of the formula
unfoldable pub ReadsFormula : List Tok → List Tree → Type 0
ReadsFormula l xs = ReadsAll None l (Read xs [])

-- the formula is refused
unfoldable pub Refuses : List Tok → Refusal → Type 0
Refuses l r = ReadsAll None l (Refused r)
