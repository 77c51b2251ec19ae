-- One of the uppermost elements is kept, and the others become settled.
use Rattle.std.proofs.Common.{◌≡◌, ℕ, zero, suc, ◌+◌, ◌-◌, ◌<◌, ◌≤◌, Bool, true, false, List, [], ◌∷◌, ◌++◌, Option, None, append-nil, length, take, drop, reverse, refl, sym, ap, ◌∙◌, arith}
use Rattle.std.proofs.lemmas.List.{drop-append-le, drop-drop, length-drop, length-reverse, length-take-le, reverse-append, take-append-le}
use Rattle.std.proofs.Math.Seq.{drop-append_seam}
use Rattle.latex2mathml_elements.specs.{Attributes.Attributes, Attributes.plain, Columns.Columns, Groups.grouped}
use Rattle.latex2mathml_elements.specs.Element.{Mrow, Pair, Triple, Element, token, space, rectangle, container, pair, triple, table, children}
use Rattle.latex2mathml_attributes.specs.Columns.{columns_of}
use Rattle.latex2mathml_attributes.specs.declared.around.Around.{Around}
use Rattle.latex2mathml_attributes.specs.declared.attributes.Attributes.{Attributes as PartAttributes}
use Rattle.latex2mathml_attributes.specs.declared.tag.Container.TheVariants as box
use Rattle.latex2mathml_attributes.specs.declared.tag.Token.{Token as TokenTag}
use Rattle.latex2mathml_builder.specs.Built.{Built, Fits, element_in, element_of, elements_in, is_token_part, settled_in}
use Rattle.latex2mathml_builder.specs.Stacks.{around_first, group_at, is_token, pair_with, table_with, triple_with}
use Rattle.latex2mathml_builder.specs.declared.part.Part.{Part}
use Rattle.latex2mathml_builder.specs.declared.part.Part.TheVariants as part
use Rattle.latex2mathml_builder.proofs.Parts.{element_kept, settled_length}

-- what is below others, as a group
pub group_there : (depth : ℕ) (xs rest : List Element) (x : Element) → drop depth xs ≡ x ∷ rest → group_at depth xs ≡ grouped x
group_there zero [] rest x h = cc
group_there (suc depth) [] rest x h = cc
group_there zero (y ∷ xs) rest x h = (let same : y ≡ x = cc in ap grouped same)
group_there (suc depth) (y ∷ xs) rest x h = group_there depth xs rest x h

-- it is the last of those that are not above it, where the lowest comes first
pub child_there : (depth count : ℕ) (xs rest : List Element) (x : Element) → depth < count → count ≤ length xs → drop depth xs ≡ x ∷ rest → take 1 (drop (count - 1 - depth) (reverse (take count xs))) ≡ x ∷ []
child_there depth zero xs rest x h k e = absurd (omega (arith, h))
child_there zero (suc count) [] rest x h k e = cc
child_there (suc depth) (suc count) [] rest x h k e = cc
child_there zero (suc count) (y ∷ xs) rest x h k e =
    let same : y ≡ x = cc in
    let behind = reverse (take count xs) in
    let many : length behind ≡ count = length-reverse (take count xs) ∙ length-take-le count xs (omega (arith, k)) in
    let from : suc count - 1 - 0 ≡ length behind = omega (arith, many) in
    let turned : reverse (take (suc count) (y ∷ xs)) ≡ behind ++ y ∷ [] = reverse-append (y ∷ []) (take count xs) in
    ap (λ l. take 1 (drop (suc count - 1 - 0) l)) turned
    ∙ ap (λ n. take 1 (drop n (behind ++ y ∷ []))) from
    ∙ ap (take 1) (drop-append_seam behind (y ∷ []))
    ∙ ap (λ z. z ∷ []) same
child_there (suc depth) (suc count) (y ∷ xs) rest x h k e =
    let behind = reverse (take count xs) in
    let many : length behind ≡ count = length-reverse (take count xs) ∙ length-take-le count xs (omega (arith, k)) in
    let from : suc count - 1 - suc depth ≡ count - 1 - depth = omega arith in
    let turned : reverse (take (suc count) (y ∷ xs)) ≡ behind ++ y ∷ [] = reverse-append (y ∷ []) (take count xs) in
    ap (λ l. take 1 (drop (suc count - 1 - suc depth) l)) turned
    ∙ ap (λ n. take 1 (drop n (behind ++ y ∷ []))) from
    ∙ ap (take 1) (drop-append-le (count - 1 - depth) behind (y ∷ []) (omega (arith, many)))
    ∙ take-append-le 1 (drop (count - 1 - depth) behind) (y ∷ []) (omega (arith, many, h, length-drop (count - 1 - depth) behind))
    ∙ child_there depth count xs rest x (omega (arith, h)) (omega (arith, k)) e

-- an element that holds no text is a group by itself
whole : (x : Element) → is_token (x ∷ []) ≡ false → grouped x ≡ x
whole (token t a text) h = cc
whole (space width) h = refl
whole (rectangle e) h = refl
whole (container t a xs) h = refl
whole (pair p a x y) h = refl
whole (triple t a x y z) h = refl
whole (table a rows) h = refl

around_whole : (a : Around) (xs : List Element) → is_token (around_first a xs ∷ []) ≡ false
around_whole a [] = refl
around_whole a (x ∷ xs) = refl

pair_whole : (p : Pair) (a : Attributes) (xs : List Element) → is_token (pair_with p a xs ∷ []) ≡ false
pair_whole p a [] = refl
pair_whole p a (x ∷ []) = refl
pair_whole p a (x ∷ y ∷ xs) = refl

triple_whole : (t : Triple) (a : Attributes) (is_exchanged : Bool) (xs : List Element) → is_token (triple_with t a is_exchanged xs ∷ []) ≡ false
triple_whole t a true [] = refl
triple_whole t a true (x ∷ []) = refl
triple_whole t a true (x ∷ y ∷ []) = refl
triple_whole t a true (x ∷ y ∷ z ∷ xs) = refl
triple_whole t a false [] = refl
triple_whole t a false (x ∷ []) = refl
triple_whole t a false (x ∷ y ∷ []) = refl
triple_whole t a false (x ∷ y ∷ z ∷ xs) = refl

table_whole : (a : Attributes) (columns : Columns) (xs : List Element) → is_token (table_with a columns xs ∷ []) ≡ false
table_whole a columns [] = refl
table_whole a columns (x ∷ xs) = refl

no_text : (texts : List ℕ) (xs : List Element) (p : Part) → is_token_part p ≡ false → is_token (element_of texts xs p ∷ []) ≡ false
no_text texts xs (part.Token t a start end) h = cc
no_text texts xs (part.Space width) h = refl
no_text texts xs (part.Rectangle e) h = refl
no_text texts xs (part.Around a first) h = around_whole a (take 1 (drop first xs))
no_text texts xs (part.Container c a first count) h = refl
no_text texts xs (part.Pair p a first) h = pair_whole _ _ (take 2 (drop first xs))
no_text texts xs (part.Triple t a first is_exchanged) h = triple_whole _ _ is_exchanged (take 3 (drop first xs))
no_text texts xs (part.Table own columns first count) h = table_whole _ (columns_of columns) (take count (drop first xs))

-- The element of the part that takes the place of all

-- this part is what is kept
abbrev pub Keeps : Built → ℕ → ℕ → Part → Type 0
Keeps b depth count p = element_of b.texts (settled_in b ++ reverse (take count (elements_in b))) p ≡ group_at depth (elements_in b)

pub no_token_part : (p : Part) → ((t : TokenTag) (a : Option PartAttributes) (start end : ℕ) → p ≡ part.Token t a start end → ⊥) → is_token_part p ≡ false
no_token_part (part.Token t a start end) h = absurd (h t a start end refl)
no_token_part p h = refl

module _ (b : Built) (depth count : ℕ) (kept : Part) (rest : List Element) (one : depth < count) (all : count ≤ length (elements_in b)) (there : drop depth (elements_in b) ≡ element_in b kept ∷ rest) where
  pub token_kept : (t : TokenTag) (a : Option PartAttributes) (start end place : ℕ) → kept ≡ part.Token t a start end → place ≡ length b.settled + (count - 1 - depth) → Keeps b depth count (part.Container box.Mrow None place 1)
  token_kept t a start end place is at =
      let xs = settled_in b in
      let behind = reverse (take count (elements_in b)) in
      let before : length b.settled ≡ length xs = omega (arith, settled_length b.texts [] b.settled) in
      let from : drop place (xs ++ behind) ≡ drop (count - 1 - depth) behind =
      ap (λ n. drop n (xs ++ behind)) at
      ∙ sym (drop-drop (count - 1 - depth) (length b.settled) (xs ++ behind))
      ∙ ap (λ n. drop (count - 1 - depth) (drop n (xs ++ behind))) before
      ∙ ap (drop (count - 1 - depth)) (drop-append_seam xs behind) in
      let child = ap (take 1) from ∙ child_there depth count (elements_in b) rest (element_in b kept) one all there in
      let group = group_there depth (elements_in b) rest (element_in b kept) there ∙ ap (λ p. grouped (element_in b p)) is in
      ap (λ l. container Mrow plain (children l)) (child ∙ ap (λ p. element_in b p ∷ []) is) ∙ sym group

  pub other_kept : is_token_part kept ≡ false → Fits b.texts (length b.settled) kept → Keeps b depth count kept
  other_kept is fits =
      let xs = settled_in b in
      let behind = reverse (take count (elements_in b)) in
      let before : length b.settled ≤ length xs = omega (arith, settled_length b.texts [] b.settled) in
      let same : element_of b.texts (xs ++ behind) kept ≡ element_in b kept =
      ap (λ t. element_of t (xs ++ behind) kept) (sym (append-nil b.texts)) ∙ element_kept b.texts [] xs behind (length b.settled) kept before fits in
      same ∙ sym (group_there depth (elements_in b) rest (element_in b kept) there ∙ whole (element_in b kept) (no_text b.texts xs kept is))
