-- Parts still fit after texts and settled elements are added, and their elements stay the same.
use Rattle.std.proofs.Common.{Option, ◌≡◌, ℕ, suc, ◌+◌, ◌-◌, ◌≤◌, false, List, [], ◌∷◌, ◌++◌, length, length-append, append-nil, append_assoc, length-drop, take, drop, map, option_map, refl, sym, ap, ◌∙◌, arith, subst}
use Rattle.std.specs.Str.{IsUtf8, IsCharBoundary}
use Rattle.std.proofs.lemmas.Str.{IsCharBoundary-from_take}
use Rattle.std.proofs.lemmas.List.{drop-append-le, take-append-le}
use Rattle.std.proofs.Math.Seq.{take-length}
use Rattle.latex2mathml_elements.specs.Attributes.{styled}
use Rattle.latex2mathml_elements.specs.Element.{Element, token, container, children}
use Rattle.latex2mathml_builder.specs.Stacks.{around_first}
use Rattle.latex2mathml_builder.specs.Built.{AllFit, Adjoin, EachFits, EndsAt, Fits, HasText, IsCut, Meets, between, element_of, is_token_part, settled_on}
use Rattle.latex2mathml_attributes.specs.Columns.{columns_of}
use Rattle.latex2mathml_attributes.specs.Names.{attributes_if_any, container_of, math_style_of, pair_of, token_of, triple_of}
use Rattle.latex2mathml_builder.specs.Stacks.{pair_with, table_with, triple_with}
use Rattle.latex2mathml_attributes.specs.declared.{attributes.Attributes.Attributes, tag.Token.Token}
use Rattle.latex2mathml_builder.specs.declared.part.Part.{Part}
use Rattle.latex2mathml_builder.specs.declared.part.Part.TheVariants as part

-- Cuts

pub cut_within : (text : List ℕ) (n : ℕ) → IsCut text n → n ≤ length text
unfolding IsCut
cut_within text n c = c.0

pub cut_end : (text : List ℕ) → IsUtf8 text → IsCut text (length text)
unfolding IsCut
cut_end text u = (omega arith, subst IsUtf8 (sym (take-length text)) u)

pub cut_kept : (text more : List ℕ) (n : ℕ) → IsCut text n → IsCut (text ++ more) n
unfolding IsCut
cut_kept text more n c = (omega (arith, length-append text more, c.0), subst IsUtf8 (sym (take-append-le n text more c.0)) c.1)

pub boundary : (text : List ℕ) (n : ℕ) → IsUtf8 text → IsCut text n → IsCharBoundary text n
unfolding IsCut
boundary text n u c = IsCharBoundary-from_take text n u c.0 c.1

has_kept : (text more : List ℕ) (start end : ℕ) → HasText text start end → HasText (text ++ more) start end
has_kept text more start end h = (h.0, (cut_kept text more start h.1.0, cut_kept text more end h.1.1))

between_kept : (text more : List ℕ) (start end : ℕ) → HasText text start end → between start end (text ++ more) ≡ between start end text
between_kept text more start end h =
    let a = cut_within text start h.1.0 in
    let b = cut_within text end h.1.1 in
    ap (take (end - start)) (drop-append-le start text more a) ∙ take-append-le (end - start) (drop start text) more (omega (arith, length-drop start text))

-- no text
pub between_none : (text : List ℕ) (n : ℕ) → between n n text ≡ []
between_none text n = (let none : n - n ≡ 0 = omega arith in ap (λ k. take k (drop n text)) none)

-- a text up to the end, made longer
pub between_more : (text more : List ℕ) (start end : ℕ) → HasText text start end → end ≡ length text → between start (length (text ++ more)) (text ++ more) ≡ between start end text ++ more
between_more text more start end h e =
    let a = cut_within text start h.1.0 in
    let rest = drop start text in
    let all : end - start ≡ length rest = omega (arith, length-drop start text) in
    let longer : length (text ++ more) - start ≡ length (rest ++ more) = omega (arith, length-append text more, length-append rest more, length-drop start text) in
    ap (take (length (text ++ more) - start)) (drop-append-le start text more a)
    ∙ ap (λ n. take n (rest ++ more)) longer
    ∙ take-length (rest ++ more)
    ∙ ap (λ l. l ++ more) (sym (take-length rest) ∙ ap (λ n. take n rest) (sym all))

-- Parts

-- the `count` elements from `first` on
same_children : (xs ys : List Element) (first count n : ℕ) → first + count ≤ n → n ≤ length xs → take count (drop first (xs ++ ys)) ≡ take count (drop first xs)
same_children xs ys first count n h k =
    ap (take count) (drop-append-le first xs ys (omega arith)) ∙ take-append-le count (drop first xs) ys (omega (arith, length-drop first xs))

pub fits_more : (texts more : List ℕ) (n m : ℕ) (p : Part) → n ≤ m → Fits texts n p → Fits (texts ++ more) m p
fits_more texts more n m (part.Token t a start end) h f = has_kept texts more start end f
fits_more texts more n m (part.Space width) h f = tt
fits_more texts more n m (part.Rectangle e) h f = tt
fits_more texts more n m (part.Around a first) h f = omega arith
fits_more texts more n m (part.Container c a first count) h f = omega arith
fits_more texts more n m (part.Pair p a first) h f = omega arith
fits_more texts more n m (part.Triple t a first is_exchanged) h f = omega arith
fits_more texts more n m (part.Table own columns first count) h f = (f.0, omega (arith, f.1))

pub element_kept : (texts more : List ℕ) (xs ys : List Element) (n : ℕ) (p : Part) → n ≤ length xs → Fits texts n p → element_of (texts ++ more) (xs ++ ys) p ≡ element_of texts xs p
element_kept texts more xs ys n (part.Token t a start end) h f = ap (token (token_of t) (attributes_if_any a)) (between_kept texts more start end f)
element_kept texts more xs ys n (part.Space width) h f = refl
element_kept texts more xs ys n (part.Rectangle e) h f = refl
element_kept texts more xs ys n (part.Around a first) h f = ap (around_first a) (same_children xs ys first 1 n f h)
element_kept texts more xs ys n (part.Container c a first count) h f = ap (λ l. container (container_of c) (attributes_if_any a) (children l)) (same_children xs ys first count n f h)
element_kept texts more xs ys n (part.Pair p a first) h f = ap (pair_with (pair_of p) (attributes_if_any a)) (same_children xs ys first 2 n f h)
element_kept texts more xs ys n (part.Triple t a first is_exchanged) h f = ap (triple_with (triple_of t) (attributes_if_any a) is_exchanged) (same_children xs ys first 3 n f h)
element_kept texts more xs ys n (part.Table own columns first count) h f = ap (table_with (styled (option_map math_style_of own)) (columns_of columns)) (same_children xs ys first count n f.1 h)

-- Lists of parts

pub all_more : (texts more : List ℕ) (n m : ℕ) (ps : List Part) → n ≤ m → AllFit texts n ps → AllFit (texts ++ more) m ps
all_more texts more n m [] h f = tt
all_more texts more n m (p ∷ ps) h f = (fits_more texts more n m p h f.0, all_more texts more n m ps h f.1)

pub all_append : (texts : List ℕ) (n : ℕ) (ps qs : List Part) → AllFit texts n ps → AllFit texts n qs → AllFit texts n (ps ++ qs)
all_append texts n [] qs f g = g
all_append texts n (p ∷ ps) qs f g = (f.0, all_append texts n ps qs f.1 g)

pub all_left : (texts : List ℕ) (n : ℕ) (ps qs : List Part) → AllFit texts n (ps ++ qs) → AllFit texts n ps
all_left texts n [] qs f = tt
all_left texts n (p ∷ ps) qs f = (f.0, all_left texts n ps qs f.1)

pub all_right : (texts : List ℕ) (n : ℕ) (ps qs : List Part) → AllFit texts n (ps ++ qs) → AllFit texts n qs
all_right texts n [] qs f = f
all_right texts n (p ∷ ps) qs f = all_right texts n ps qs f.1

pub elements_kept : (texts more : List ℕ) (xs ys : List Element) (n : ℕ) (ps : List Part) → n ≤ length xs → AllFit texts n ps → map (element_of (texts ++ more) (xs ++ ys)) ps ≡ map (element_of texts xs) ps
elements_kept texts more xs ys n [] h f = refl
elements_kept texts more xs ys n (p ∷ ps) h f = cc (element_kept texts more xs ys n p h f.0, elements_kept texts more xs ys n ps h f.1)

-- each part fits among the elements before it, if all fit among the first `n`
pub each_fits : (texts : List ℕ) (n m : ℕ) (ps : List Part) → n ≤ m → AllFit texts n ps → EachFits texts m ps
each_fits texts n m [] h f = tt
each_fits texts n m (p ∷ ps) h f = (subst (λ t. Fits t m p) (append-nil texts) (fits_more texts [] n m p h f.0), each_fits texts n (suc m) ps (omega arith) f.1)

pub each_append : (texts : List ℕ) (n : ℕ) (ps qs : List Part) → EachFits texts n ps → EachFits texts (n + length ps) qs → EachFits texts n (ps ++ qs)
each_append texts n [] qs f g = subst (λ m. EachFits texts m qs) (omega arith) g
each_append texts n (p ∷ ps) qs f g = (f.0, each_append texts (suc n) ps qs f.1 (subst (λ m. EachFits texts m qs) (omega arith) g))

pub each_more : (texts more : List ℕ) (n : ℕ) (ps : List Part) → EachFits texts n ps → EachFits (texts ++ more) n ps
each_more texts more n [] f = tt
each_more texts more n (p ∷ ps) f = (fits_more texts more n n p (omega arith) f.0, each_more texts more (suc n) ps f.1)

pub each_right : (texts : List ℕ) (n : ℕ) (ps qs : List Part) → EachFits texts n (ps ++ qs) → EachFits texts (n + length ps) qs
each_right texts n [] qs f = subst (λ m. EachFits texts m qs) (omega arith) f
each_right texts n (p ∷ ps) qs f = subst (λ m. EachFits texts m qs) (omega arith) (each_right texts (suc n) ps qs f.1)

-- Adjoining texts

-- the text of the part begins at this place, if it has one
abbrev pub StartsAt : ℕ → Part → Type 0
StartsAt n (part.Token t a start end) = start ≡ n
StartsAt n p = Unit {0}

meets : (n : ℕ) (p q : Part) → EndsAt n p → StartsAt n q → Meets p q
meets n (part.Token t a start end) (part.Token u b from to) e f = e ∙ sym f
meets n p q e f = tt

-- a part after the others, whose text begins where theirs end
pub adjoin_push : (n m : ℕ) (ps : List Part) (p : Part) → Adjoin n ps → StartsAt n p → EndsAt m p → Adjoin m (ps ++ p ∷ [])
adjoin_push n m [] p s f e = e
adjoin_push n m (q ∷ []) p s f e = (meets n q p s f, e)
adjoin_push n m (q ∷ r ∷ ps) p s f e = (s.0, adjoin_push n m (r ∷ ps) p s.1 f e)

pub adjoin_last : (n : ℕ) (ps : List Part) (p : Part) → Adjoin n (ps ++ p ∷ []) → EndsAt n p
adjoin_last n [] p s = s
adjoin_last n (q ∷ []) p s = s.1
adjoin_last n (q ∷ r ∷ ps) p s = adjoin_last n (r ∷ ps) p s.1

-- a part replaced by another one, which meets what the old one met
pub adjoin_replaced : (n m : ℕ) (ps qs rs : List Part) (p q : Part) → ((o : Part) → Meets o p → Meets o q) → (Adjoin n (p ∷ qs) → Adjoin m (q ∷ rs)) → Adjoin n (ps ++ (p ∷ qs)) → Adjoin m (ps ++ (q ∷ rs))
adjoin_replaced n m [] qs rs p q before behind s = behind s
adjoin_replaced n m (o ∷ []) qs rs p q before behind s = (before o s.0, behind s.1)
adjoin_replaced n m (o ∷ r ∷ ps) qs rs p q before behind s = (s.0, adjoin_replaced n m (r ∷ ps) qs rs p q before behind s.1)

-- a part without a text meets any other
pub meets_no_token : (p q : Part) → is_token_part q ≡ false → Meets p q
meets_no_token p (part.Token t a start end) e = cc
meets_no_token (part.Token t a start end) (part.Space width) e = tt
meets_no_token (part.Token t a start end) (part.Rectangle x) e = tt
meets_no_token (part.Token t a start end) (part.Around x first) e = tt
meets_no_token (part.Token t a start end) (part.Container c b first count) e = tt
meets_no_token (part.Token t a start end) (part.Pair p b first) e = tt
meets_no_token (part.Token t a start end) (part.Triple u b first is_exchanged) e = tt
meets_no_token (part.Token t a start end) (part.Table own columns first count) e = tt
meets_no_token p q e = tt

pub ends_no_token : (n : ℕ) (p : Part) → is_token_part p ≡ false → EndsAt n p
ends_no_token n (part.Token t a start end) e = cc
ends_no_token n p e = tt

-- the last parts replaced by a part without a text
pub adjoin_cut : (n m : ℕ) (ps qs : List Part) (p : Part) → is_token_part p ≡ false → Adjoin n (ps ++ qs) → Adjoin m (ps ++ p ∷ [])
adjoin_cut n m [] qs p e s = ends_no_token m p e
adjoin_cut n m (o ∷ []) qs p e s = (meets_no_token o p e, ends_no_token m p e)
adjoin_cut n m (o ∷ r ∷ ps) qs p e s = (s.0, adjoin_cut n m (r ∷ ps) qs p e s.1)

-- a token that begins where another one begins, and a token that ends where another one ends
pub same_before : (t u : Token) (a b : Option Attributes) (start end to : ℕ) (o : Part) → Meets o (part.Token t a start end) → Meets o (part.Token u b start to)
same_before t u a b start end to (part.Token v d i j) e = e
same_before t u a b start end to o e = tt

same_after : (t u : Token) (a b : Option Attributes) (start from end : ℕ) (o : Part) → Meets (part.Token t a start end) o → Meets (part.Token u b from end) o
same_after t u a b start from end (part.Token v d i j) e = e
same_after t u a b start from end o e = tt

pub same_behind : (n : ℕ) (t u : Token) (a b : Option Attributes) (start from end : ℕ) (qs : List Part) → Adjoin n (part.Token t a start end ∷ qs) → Adjoin n (part.Token u b from end ∷ qs)
same_behind n t u a b start from end [] e = e
same_behind n t u a b start from end (q ∷ qs) e = (same_after t u a b start from end q e.0, e.1)

pub adjoin_right : (n : ℕ) (ps : List Part) (q : Part) (qs : List Part) → Adjoin n (ps ++ (q ∷ qs)) → Adjoin n (q ∷ qs)
adjoin_right n [] q qs s = s
adjoin_right n (o ∷ []) q qs s = s.1
adjoin_right n (o ∷ r ∷ ps) q qs s = adjoin_right n (r ∷ ps) q qs s.1

-- Settled elements

pub settled_append : (texts : List ℕ) (xs : List Element) (ps qs : List Part) → settled_on texts xs (ps ++ qs) ≡ settled_on texts (settled_on texts xs ps) qs
settled_append texts xs [] qs = refl
settled_append texts xs (p ∷ ps) qs = settled_append texts (xs ++ element_of texts xs p ∷ []) ps qs

pub settled_length : (texts : List ℕ) (xs : List Element) (ps : List Part) → length (settled_on texts xs ps) ≡ length xs + length ps
settled_length texts xs [] = omega arith
settled_length texts xs (p ∷ ps) = omega (arith, settled_length texts (xs ++ element_of texts xs p ∷ []) ps, length-append xs (element_of texts xs p ∷ []))

pub settled_count : (texts : List ℕ) (ps : List Part) → length (settled_on texts [] ps) ≡ length ps
settled_count texts ps = omega (arith, settled_length texts [] ps)

-- the elements that were there stay first
pub settled_behind : (texts : List ℕ) (xs : List Element) (ps : List Part) → (ys : List Element) × (settled_on texts xs ps ≡ xs ++ ys)
settled_behind texts xs [] = ([], sym (append-nil xs))
settled_behind texts xs (p ∷ ps) =
    let x = element_of texts xs p in
    let rest = settled_behind texts (xs ++ x ∷ []) ps in
    (x ∷ rest.0, rest.1 ∙ append_assoc xs (x ∷ []) rest.0)

pub settled_kept : (texts more : List ℕ) (xs : List Element) (n : ℕ) (ps : List Part) → n ≡ length xs → EachFits texts n ps → settled_on (texts ++ more) xs ps ≡ settled_on texts xs ps
settled_kept texts more xs n [] e f = refl
settled_kept texts more xs n (p ∷ ps) e f =
    let same : element_of (texts ++ more) xs p ≡ element_of texts xs p =
    ap (λ l. element_of (texts ++ more) l p) (sym (append-nil xs)) ∙ element_kept texts more xs [] n p (omega arith) f.0 in
    ap (λ x. settled_on (texts ++ more) (xs ++ x ∷ []) ps) same
    ∙ settled_kept texts more (xs ++ element_of texts xs p ∷ []) (suc n) ps (omega (arith, length-append xs (element_of texts xs p ∷ []))) f.1

-- parts that all fit among the elements that were there
pub settled_block : (texts : List ℕ) (xs ys : List Element) (ps : List Part) → AllFit texts (length xs) ps → settled_on texts (xs ++ ys) ps ≡ xs ++ (ys ++ map (element_of texts xs) ps)
settled_block texts xs ys [] f = ap (λ l. xs ++ l) (sym (append-nil ys))
settled_block texts xs ys (p ∷ ps) f =
    let x = element_of texts xs p in
    let same : element_of texts (xs ++ ys) p ≡ x = ap (λ t. element_of t (xs ++ ys) p) (sym (append-nil texts)) ∙ element_kept texts [] xs ys (length xs) p (omega arith) f.0 in
    ap (λ z. settled_on texts ((xs ++ ys) ++ z ∷ []) ps) same
    ∙ ap (λ l. settled_on texts l ps) (append_assoc xs ys (x ∷ []))
    ∙ settled_block texts xs (ys ++ x ∷ []) ps f.1
    ∙ ap (λ l. xs ++ l) (append_assoc ys (x ∷ []) (map (element_of texts xs) ps))
