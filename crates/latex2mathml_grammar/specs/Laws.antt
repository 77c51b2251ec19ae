-- Laws of the grammar: they hold of every list of tokens, and whatever the rules are.
use Rattle.std.specs.Prelude.{◌≡◌, ◌⊎◌, ◌↔◌, List, [], ◌++◌, Some}
use Rattle.latex2mathml_grammar.specs.Grammar.{Sort, Rule, Read, Refused, Reads, ReadsRule, ReadsAll, ReadsFormula, Refuses}
use Rattle.latex2mathml_tokens.specs.{Refusal.Refusal, Tok.Tok}
use Rattle.latex2mathml_grammar.specs.SliceRefusals.{PartRefuses, RuleRefuses, MembersRefuse, FormulaRefuses}
use Rattle.latex2mathml_grammar.specs.Slices.{IsPart, AreParts, AreMembers, AreNodes}
use Rattle.latex2mathml_trees.specs.Tree.{Tree}

-- the tokens have exactly one reading or exactly one refusal
pub record HasOneReading (l : List Tok) : Type 0 where
  -- they have a reading or a refusal
  pub some : ((xs : List Tree) × ReadsFormula l xs) ⊎ ((r : Refusal) × Refuses l r)
  -- two readings are the same trees
  pub one_reading : (xs ys : List Tree) → ReadsFormula l xs → ReadsFormula l ys → xs ≡ ys
  -- two refusals are the same refusal
  pub one_refusal : (r q : Refusal) → Refuses l r → Refuses l q → r ≡ q
  -- what has a reading is not refused
  pub never_both : (xs : List Tree) (r : Refusal) → ReadsFormula l xs → Refuses l r → ⊥

-- what is read is a slice of the tokens, with the rest after it
pub record IsSliced : Type 0 where
  pub parts : (s : Sort) (l f : List Tok) (x : Tree) → Reads s l (Read x f) → (w : List Tok) × (l ≡ w ++ f) × IsPart s w f x
  pub rules : (r : Rule) (l f : List Tok) (x : Tree) → ReadsRule r l (Read x f) → (w : List Tok) × (l ≡ w ++ f) × AreParts r w f x
  pub groups : (end : Tok) (l f : List Tok) (xs : List Tree) → ReadsAll (Some end) l (Read xs f) → (w : List Tok) × (l ≡ w ++ f) × AreMembers end w f xs
  -- the slice of a part is empty only where nothing is left; the slice of a group, which has its end token, is never empty
  pub some_taken : (s : Sort) (f : List Tok) (x : Tree) → IsPart s [] f x → f ≡ []
  pub end_taken : (end : Tok) (f : List Tok) (xs : List Tree) → ¬ (AreMembers end [] f xs)

-- a slice is read, and the tokens after it are left, exactly where the grammar over slices says so
pub record IsReadBySlices : Type 0 where
  pub parts : (s : Sort) (w f : List Tok) (x : Tree) → Reads s (w ++ f) (Read x f) ↔ IsPart s w f x
  pub rules : (r : Rule) (w f : List Tok) (x : Tree) → ReadsRule r (w ++ f) (Read x f) ↔ AreParts r w f x
  pub groups : (end : Tok) (w f : List Tok) (xs : List Tree) → ReadsAll (Some end) (w ++ f) (Read xs f) ↔ AreMembers end w f xs
  pub formulas : (l : List Tok) (xs : List Tree) → ReadsFormula l xs ↔ AreNodes l xs

-- tokens are refused exactly where the grammar over slices refuses them
pub record IsRefusedBySlices : Type 0 where
  pub parts : (s : Sort) (l : List Tok) (r : Refusal) → Reads s l (Refused r) ↔ PartRefuses s l r
  pub rules : (r : Rule) (l : List Tok) (q : Refusal) → ReadsRule r l (Refused q) ↔ RuleRefuses r l q
  pub groups : (end : Tok) (l : List Tok) (r : Refusal) → ReadsAll (Some end) l (Refused r) ↔ MembersRefuse end l r
  pub formulas : (l : List Tok) (r : Refusal) → Refuses l r ↔ FormulaRefuses l r
