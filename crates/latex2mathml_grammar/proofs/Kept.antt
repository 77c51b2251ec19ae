-- Reading tokens whose sizes hold no dollar sign gives a tree in which no function has an argument and whose print holds
-- no dollar sign, or a refusal that is not for dollar signs. Only `keeps` names tokens: it has a line for each rule that
-- `search` does not find to be kept.
use Rattle.std.proofs.Common.{arith, ◌≢◌, ℕ, List, [], ◌∷◌, Option, Some, None, refl, subst, ◌≡◌, ℤ, ◌+◌, ◌<◌, true, ◌++◌}
use Rattle.std.proofs.lemmas.{Bool.Decides.nat_tests, List.Folds.list_all-append}
use Rattle.std.specs.{Fmt.decimal, Str.chars, Str.encode_utf8_all}
use Rattle.latex2mathml_tokens.specs.{Attributes.display_text, Attributes.accent_text, Escape.content, Escape.content_byte, Escape.value, Refusal.InvalidNumberOfDollarSigns, declared.attribute.Accent.Accent, declared.attribute.Variant.Variant}
use Rattle.latex2mathml_tokens.specs.Tok.{Tok, EOF, Begin, LBrace, Left, Right, Middle, Sqrt, Style, Big, Binom}
use Rattle.latex2mathml_tokens.specs.declared.attribute.ColumnAlign.TheVariants as align
use Rattle.latex2mathml_trees.specs.{Arguments.HasNoArgument, Arguments.HaveNoArgument, Style.styled, Style.all_styled, Width.width_text}
use Rattle.latex2mathml_trees.specs.Print.{print, prints, members_print, style_open, letter_print, operator_print, slashed_print, member_print}
use Rattle.latex2mathml_trees.specs.Productions.{environment_tree, fence_of, matrix_of, matrix_members, group_tree}
use Rattle.latex2mathml_trees.specs.Tree.{Tree, Trees, row, no_trees, more_trees, trees_of}
use Rattle.latex2mathml_trees.proofs.ValueTexts.{decimal_passes, width_passes}
use Rattle.latex2mathml_grammar.specs.{Dollars.IsDollarFree, Dollars.free_both, Dollars.is_other, Rendering.IsFormulaRefusal, Rendering.IsRendering, RenderingLaws.IsNeverForDollars, RenderingLaws.ReadsNoArgument, RenderingLaws.RendersDollarFree, Spelling.HasTokens}
use Rattle.latex2mathml_grammar.specs.Grammar.{environment, with_fence, Sort, Rule, gives, refuses, reads_part, reads_members, reads_sign, takes_token, sees_token, takes_letters, rule, Outcome, Read, Refused, first_or_end, AreLetters, Reads, core_at_end, core_begun, single_read, node_read, ReadsRule, rule_gives, rule_refuses, part_read, part_refused, members_read, members_refused, sign_stands, sign_missing, token_taken, token_at_end, token_seen, letters_taken, ReadsAll, formula_ends, group_ends, never_closed, member_read, later_refused, member_refused, Refuses, ReadsFormula}
use Rattle.latex2mathml_grammar.proofs.PlainTokens.{IsFree, AreFree, free_tokens}

-- Texts that hold no dollar sign: escaped texts, numbers, and the prints of trees.

-- Contents escape the dollar sign.
free_content : (bs : List ℕ) → IsDollarFree (content bs)
free_content [] = refl
free_content (b ∷ bs) = free_both (content_byte b) _ (grind arith) (free_content bs)

-- Values keep it.
free_value : (bs : List ℕ) → IsDollarFree bs → IsDollarFree (value bs)
free_value [] h = refl
free_value (b ∷ bs) h = grind (arith, list_all-append, free_value bs)

-- Numbers and widths hold no dollar sign.
other_digit : (d : ℕ) → d < 10 → is_other (48 + d) ≡ true
other_digit d h = grind (arith, nat_tests)

free_decimal : (n : ℕ) → IsDollarFree (decimal n)
free_decimal = decimal_passes is_other other_digit

free_width : (n : ℤ) → IsDollarFree (width_text n)
free_width = width_passes is_other other_digit refl refl

-- Prints. A literal at the front of a text computes away, so what is proved names only what is between literals.
free_accent : (accent : Accent) → IsDollarFree (accent_text accent)
free_accent accent = grind arith

free_letter : (c : ℕ) (variant : Variant) → IsDollarFree (letter_print c variant)
free_letter c variant = grind (arith, list_all-append, free_content)

free_operator : (c : ℕ) → IsDollarFree (operator_print c)
free_operator c = grind (arith, list_all-append, free_content)

free_slashed : (x : Tree) (own : List ℕ) → IsDollarFree own → IsDollarFree (slashed_print x own)
free_slashed x own h = grind (arith, list_all-append, free_content)

-- what is between literals in the prints of most trees
ruleset free_pieces = (free_both, free_content, free_width, free_accent, free_letter, free_operator, free_slashed)

-- the two parts of a text without a dollar sign
free_parts : (a b : List ℕ) → IsDollarFree (a ++ b) → IsDollarFree a × IsDollarFree b
free_parts a b h = grind (arith, list_all-append)

-- the members of a matrix, which are elsewhere printed next to each other
free_members : (xs : Trees) → IsDollarFree (prints xs) → IsDollarFree (members_print xs)
free_members no_trees h = refl
free_members (more_trees x rest) h =
    let each = free_parts (print x) (prints rest) h in
    free_both (member_print x (print x)) _ (grind (arith, each.0)) (free_members rest each.1)

-- Rules that keep it so

abbrev IsKept : Tree → Type 0
IsKept x = HasNoArgument x × IsDollarFree (print x)

abbrev AreKept : Trees → Type 0
AreKept xs = HaveNoArgument xs × IsDollarFree (prints xs)

-- from kept parts and any tokens, the rule makes only kept trees and refusals that are not for dollar signs
abbrev Keeps : Rule → Type 0
Keeps (gives x) = IsKept x
Keeps (refuses r) = r ≢ InvalidNumberOfDollarSigns
Keeps (reads_part s then) = (x : Tree) → HasNoArgument x → IsDollarFree (print x) → Keeps (then x)
Keeps (reads_members end then) = (xs : List Tree) → HaveNoArgument (trees_of xs) → IsDollarFree (prints (trees_of xs)) → Keeps (then xs)
Keeps (reads_sign t a b) = Keeps a × Keeps b
Keeps (takes_token then) = (t : Tok) → Keeps (then t)
Keeps (sees_token then) = (t : Tok) → Keeps (then t)
Keeps (takes_letters then) = (cs : List ℕ) → Keeps (then cs)

keeps_group : (xs : List Tree) → HaveNoArgument (trees_of xs) → IsDollarFree (prints (trees_of xs)) → IsKept (group_tree xs)
keeps_group xs none free = grind (arith, list_all-append)

mutual
  keeps_style : (v : Variant) (x : Tree) → HasNoArgument x → IsDollarFree (print x) → IsKept (styled v x)
  keeps_style v (row members) none free = grind (arith, list_all-append, keeps_styles v members none)
  keeps_style v x none free = grind (arith, free_letter)

  keeps_styles : (v : Variant) (xs : Trees) → HaveNoArgument xs → IsDollarFree (prints xs) → AreKept (all_styled v xs)
  keeps_styles v no_trees none free = (tt, refl)
  keeps_styles v (more_trees x rest) none free =
      let each = free_parts (print x) (prints rest) free in
      grind (arith, list_all-append, keeps_style v x none.0 each.0, keeps_styles v rest none.1 each.1)

keeps_fence : (place t : Tok) (fence : Option (List ℕ)) (then : List ℕ → Rule) → ((text : List ℕ) → Keeps (then text)) → Keeps (with_fence place t fence then)
keeps_fence place t fence then h = grind arith

keeps_environment : (name : List ℕ) (x : Tree) → IsKept x → Keeps (environment name (environment_tree name x))
keeps_environment name x h =
    let members : HaveNoArgument (matrix_members x) × IsDollarFree (members_print (matrix_members x)) = grind (arith, list_all-append, free_members) in
    let free : IsDollarFree (print (matrix_of align.Center x)) = free_both (members_print (matrix_members x)) _ members.1 refl in
    grind (arith, members, free, list_all-append)

-- the rule of each token
keeps : (t : Tok) → IsFree t → Keeps (rule t)
keeps LBrace h = keeps_group
keeps Sqrt h = (λ xs none free x. (let degree = keeps_group xs none free in search free_both), λ x. search free_both)
keeps (Binom None) h = λ x a p y b q. ((a, b), simp (list_all-append, p, q, free_decimal))
keeps (Binom (Some display)) h = λ x a p y b q. (((a, b), tt), (let open_free : IsDollarFree (style_open (Some display)) = grind arith in simp (list_all-append, p, q, free_decimal, open_free)))
keeps (Style variant) h = keeps_style variant
keeps (Big size) h = λ t. grind (arith, list_all-append, free_value size h, free_content)
keeps Left h = λ t. keeps_fence Left t (fence_of t) _ (λ opening xs none free u. keeps_fence Right u (fence_of u) _ (λ close. (let group = keeps_group xs none free in search (free_both, free_content))))
keeps Middle h = λ t x none free. grind (arith, list_all-append, free_content)
keeps Begin h = λ before cs behind xs none free again ds last. keeps_environment (encode_utf8_all cs) (group_tree xs) (keeps_group xs none free)
keeps t h = search free_pieces depth 8

-- what is read is kept, and the tokens after it are free
abbrev Has : {A : Type 0} → (A → Type 0) → Outcome A → Type 0
Has kept (Read x m) = kept x × AreFree m
Has kept (Refused r) = r ≢ InvalidNumberOfDollarSigns

-- the tokens after letters
behind : (cs : List ℕ) (l m : List Tok) → AreLetters cs l m → AreFree l → AreFree m
behind [] l m d h = subst AreFree d.0 h
behind (c ∷ cs) l m d h = behind cs d.1.0 m d.1.3 (subst AreFree d.1.1 h).1

mutual
  read : {s : Sort} {l : List Tok} {o : Outcome Tree} → Reads s l o → AreFree l → Has IsKept o
  read core_at_end h = ((tt, refl), tt)
  read (core_begun {t = t} d) h = read_rule d (keeps t h.0) h.1
  read (single_read d) h = read_rule d (λ x none free. search (free_both, free_operator)) h
  read (node_read d) h = read_rule d (λ x none free. search free_both) h

  read_rule : {r : Rule} {l : List Tok} {o : Outcome Tree} → ReadsRule r l o → Keeps r → AreFree l → Has IsKept o
  read_rule rule_gives k h = (k, h)
  read_rule rule_refuses k h = k
  read_rule (part_read {x = x} d ds) k h = let part = read d h in read_rule ds (k x part.0.0 part.0.1) part.1
  read_rule (part_refused d) k h = read d h
  read_rule (members_read {xs = xs} d ds) k h = let members = read_all d h in read_rule ds (k xs members.0.0 members.0.1) members.1
  read_rule (members_refused d) k h = read_all d h
  read_rule (sign_stands p d) k h = read_rule d k.0 (subst AreFree p h).1
  read_rule (sign_missing p d) k h = read_rule d k.1 h
  read_rule (token_taken {t = t} d) k h = read_rule d (k t) h.1
  read_rule (token_at_end d) k h = read_rule d (k EOF) h
  read_rule (token_seen {l = l} d) k h = read_rule d (k (first_or_end l)) h
  read_rule (letters_taken cs {l = l} {m = m} p d) k h = read_rule d (k cs) (behind cs l m p h)

  read_all : {end : Option Tok} {l : List Tok} {o : Outcome (List Tree)} → ReadsAll end l o → AreFree l → Has (λ xs. AreKept (trees_of xs)) o
  read_all formula_ends h = ((tt, refl), tt)
  read_all never_closed h = λ e. cc
  read_all (group_ends p) h = ((tt, refl), (subst AreFree p h).1)
  read_all (member_read {x = x} other d ds) h =
      let one = read d h in
      let others = read_all ds one.1 in
      (((one.0.0, others.0.0), free_both (print x) _ one.0.1 others.0.1), others.1)
  read_all (later_refused other d ds) h = read_all ds (read d h).1
  read_all (member_refused other d) h = read d h

pub reading_is_kept : (text : List ℕ) (ts : List Tok) (xs : List Tree) → HasTokens None text ts → ReadsFormula ts xs → AreKept (trees_of xs)
unfolding ReadsFormula
reading_is_kept text ts xs h d = (read_all d (free_tokens None text ts h)).0

-- in a reading of a formula no function has an argument
pub no_argument : (text : List ℕ) → ReadsNoArgument text
no_argument text ts xs h d = (reading_is_kept (chars text) ts xs h d).0

-- no rendering of a formula holds a dollar sign
pub dollar_free : (text : List ℕ) → RendersDollarFree text
unfolding IsRendering
dollar_free text display markup (ts, h, d) =
    let shown : IsDollarFree (display_text display) = grind arith in
    rw d.2 (search (free_both, shown, (reading_is_kept (chars text) ts d.0 h d.1).1))

-- no formula is refused for dollar signs
pub never_dollars : (text : List ℕ) → IsNeverForDollars text
unfolding IsFormulaRefusal Refuses
never_dollars text refusal (ts, h, d) = read_all d (free_tokens None (chars text) ts h)
