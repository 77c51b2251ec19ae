-- A builder stays sound, and its elements are those that its functions promise.
use Rattle.std.proofs.Common.{Option, ◌≡◌, ℕ, suc, ◌+◌, ◌-◌, ◌<◌, ◌≤◌, Bool, true, false, List, [], ◌∷◌, ◌++◌, length, length-append, length-drop, append-nil, take, drop, map, reverse, refl, sym, ap, ◌∙◌, arith, subst}
use Rattle.std.proofs.lemmas.List.{length-reverse, length-take-le, reverse-reverse, take-append-drop}
use Rattle.std.proofs.Math.{ListN.get_or, ListN.set, Seq.drop-append_seam, Seq.drop-length, Seq.take-length, Seq.take-suc-set}
use Rattle.std.specs.Str.{IsUtf8}
use Rattle.latex2mathml_elements.specs.{Element.Element, Element.token}
use Rattle.latex2mathml_elements.specs.Attributes as attributes
use Rattle.latex2mathml_builder.specs.Built.{Adjoin, AllFit, EachFits, EndsAt, Fits, HasText, IsCut, IsSound, Meets, between, element_of, is_token_part, settled_on}
use Rattle.latex2mathml_attributes.specs.Names.{attributes_if_any, token_of}
use Rattle.latex2mathml_builder.specs.Stacks.{given, is_token, lengthened, ordered, token_at, token_of_element, with_attributes}
use Rattle.latex2mathml_attributes.specs.declared.attributes.Attributes.{Attributes}
use Rattle.latex2mathml_builder.specs.declared.part.Part.{Part}
use Rattle.latex2mathml_builder.specs.declared.part.Part.TheVariants as part
use Rattle.latex2mathml_attributes.specs.declared.tag.Token.{Token}
use Rattle.latex2mathml_builder.proofs.Opens.{given_split, set_split, split_at, stacked, stacked-drop, stacked-length, stacked-push, stacked-split, stacked-take, token_at_split}
use Rattle.latex2mathml_builder.proofs.Parts.{StartsAt, adjoin_cut, adjoin_last, adjoin_push, adjoin_replaced, all_append, all_left, all_more, all_right, between_more, cut_end, cut_kept, each_append, each_fits, each_more, elements_kept, same_before, settled_append, settled_block, settled_kept, settled_length}

-- the element of a part of a builder
abbrev pub element : List ℕ → List Part → Part → Element
element texts settled = element_of texts (settled_on texts [] settled)

abbrev pub elements : List ℕ → List Part → List Part → List Element
elements texts settled stack = stacked (element texts settled) stack

pub elements_length : (texts : List ℕ) (settled stack : List Part) → length (elements texts settled stack) ≡ length stack
elements_length texts settled stack = stacked-length (element texts settled) stack

-- an empty builder
pub sound_empty : (texts : List ℕ) → IsSound texts [] []
sound_empty texts = record { settled_fit = tt; open_fit = tt; adjoin = tt }

-- a part is pushed
pub sound_push : (texts : List ℕ) (settled stack : List Part) (p : Part) → IsSound texts settled stack → Fits texts (length settled) p → StartsAt (length texts) p → EndsAt (length texts) p → IsSound texts settled (stack ++ p ∷ [])
sound_push texts settled stack p s f b e = record {
  settled_fit = s.settled_fit;
  open_fit = all_append texts (length settled) stack (p ∷ []) s.open_fit (f, tt);
  adjoin = adjoin_push (length texts) (length texts) stack p s.adjoin b e;
}

pub elements_push : (texts : List ℕ) (settled stack : List Part) (p : Part) → elements texts settled (stack ++ p ∷ []) ≡ element texts settled p ∷ elements texts settled stack
elements_push texts settled stack p = stacked-push (element texts settled) stack p

-- a token without text is pushed
pub sound_token : (texts : List ℕ) (settled stack : List Part) (t : Token) (a : Option Attributes) (end : ℕ) → end ≡ length texts → IsUtf8 texts → IsSound texts settled stack → IsSound texts settled (stack ++ part.Token t a end end ∷ [])
sound_token texts settled stack t a end e u s =
    let cut = subst (IsCut texts) (sym e) (cut_end texts u) in
    sound_push texts settled stack _ s (omega arith, (cut, cut)) e e

-- texts are added
settled_longer : (texts more : List ℕ) (settled : List Part) → EachFits texts 0 settled → settled_on (texts ++ more) [] settled ≡ settled_on texts [] settled
settled_longer texts more settled f = settled_kept texts more [] 0 settled refl f

elements_longer : (texts more : List ℕ) (settled stack : List Part) → EachFits texts 0 settled → AllFit texts (length settled) stack → elements (texts ++ more) settled stack ≡ elements texts settled stack
elements_longer texts more settled stack f g =
    let xs = settled_on texts [] settled in
    let n = settled_length texts [] settled in
    ap (λ ys. reverse (map (element_of (texts ++ more) ys) stack)) (settled_longer texts more settled f ∙ sym (append-nil xs))
    ∙ ap reverse (elements_kept texts more xs [] (length settled) stack (omega arith) g)

-- a token with these texts is pushed
module _ (texts more : List ℕ) (settled stack : List Part) (t : Token) (a : Option Attributes) (s : IsSound texts settled stack) (new : List ℕ) (start end : ℕ) (is : new ≡ texts ++ more) (starts : start ≡ length texts) (ends : end ≡ length new) where
  pub sound_text : IsUtf8 texts → IsUtf8 new → IsSound new settled (stack ++ part.Token t a start end ∷ [])
  sound_text u v = rw (starts, ends, is) (record {
    settled_fit = each_more texts more 0 settled s.settled_fit;
    open_fit = all_append (texts ++ more) (length settled) stack _ (all_more texts more (length settled) (length settled) stack (omega arith) s.open_fit) (fits, tt);
    adjoin = adjoin_push (length texts) (length (texts ++ more)) stack _ s.adjoin refl refl;
  })
    where
      fits : HasText (texts ++ more) (length texts) (length (texts ++ more))
      fits = (omega (arith, length-append texts more), (cut_kept texts more (length texts) (cut_end texts u), cut_end (texts ++ more) (subst IsUtf8 is v)))

  pub elements_text : elements new settled (stack ++ part.Token t a start end ∷ []) ≡ token (token_of t) (attributes_if_any a) more ∷ elements texts settled stack
  elements_text = rw (starts, ends, is) (
      elements_push (texts ++ more) settled stack _
      ∙ cc (ap (token (token_of t) (attributes_if_any a)) whole, elements_longer texts more settled stack s.settled_fit s.open_fit))
    where
      rest : length (texts ++ more) - length texts ≡ length more
      rest = omega (arith, length-append texts more)

      whole : between (length texts) (length (texts ++ more)) (texts ++ more) ≡ more
      whole = ap (λ n. take n (drop (length texts) (texts ++ more))) rest ∙ ap (take (length more)) (drop-append_seam texts more) ∙ take-length more

-- The last part

pub last_split : (stack : List Part) (d : Part) → 0 < length stack → stack ≡ take (length stack - 1) stack ++ (get_or stack (length stack - 1) d ∷ [])
last_split stack d h =
    let all : suc (length stack - 1) ≡ length stack = omega arith in
    split_at stack (length stack - 1) d (omega arith)
    ∙ ap (λ l. take (length stack - 1) stack ++ (get_or stack (length stack - 1) d ∷ l)) (ap (λ n. drop n stack) all ∙ drop-length stack)

pub last_set : (stack : List Part) (q : Part) → 0 < length stack → set stack (length stack - 1) q ≡ take (length stack - 1) stack ++ (q ∷ [])
last_set stack q h =
    let all : suc (length stack - 1) ≡ length stack = omega arith in
    set_split stack (length stack - 1) q (omega arith)
    ∙ ap (λ l. take (length stack - 1) stack ++ (q ∷ l)) (ap (λ n. drop n stack) all ∙ drop-length stack)

-- the last part is a token whose text becomes longer
module _ (texts more : List ℕ) (settled stack : List Part) (t : Token) (a : Option Attributes) (start end : ℕ) (s : IsSound texts settled stack) (some : 0 < length stack) (is : get_or stack (length stack - 1) (part.Token t a start end) ≡ part.Token t a start end) where
  abbrev base : List Part
  base = take (length stack - 1) stack

  old_last : stack ≡ base ++ (part.Token t a start end ∷ [])
  old_last = last_split stack (part.Token t a start end) some ∙ ap (λ p. base ++ (p ∷ [])) is

  new_last : set stack (length stack - 1) (part.Token t a start (length (texts ++ more))) ≡ base ++ (part.Token t a start (length (texts ++ more)) ∷ [])
  new_last = last_set stack _ some

  whole_fit : AllFit texts (length settled) (base ++ (part.Token t a start end ∷ []))
  whole_fit = subst (AllFit texts (length settled)) old_last s.open_fit

  has : HasText texts start end
  has = (all_right texts (length settled) base (part.Token t a start end ∷ []) whole_fit).0

  ends : end ≡ length texts
  ends = adjoin_last (length texts) base (part.Token t a start end) (subst (Adjoin (length texts)) old_last s.adjoin)

  pub sound_lengthened : IsUtf8 (texts ++ more) → IsSound (texts ++ more) settled (set stack (length stack - 1) (part.Token t a start (length (texts ++ more))))
  sound_lengthened u = subst (IsSound (texts ++ more) settled) (sym new_last) (record {
    settled_fit = each_more texts more 0 settled s.settled_fit;
    open_fit = all_append (texts ++ more) (length settled) base _ (all_more texts more (length settled) (length settled) base (omega arith) (all_left texts (length settled) base _ whole_fit)) (new_fits, tt);
    adjoin = adjoin_replaced (length texts) (length (texts ++ more)) base [] [] _ _ (same_before t t a a start end (length (texts ++ more))) (λ e. refl) (subst (Adjoin (length texts)) old_last s.adjoin);
  })
    where
      new_fits : HasText (texts ++ more) start (length (texts ++ more))
      new_fits = (let h = has.0 in omega (arith, ends, length-append texts more), (cut_kept texts more start has.1.0, cut_end (texts ++ more) u))

  pub elements_lengthened : elements (texts ++ more) settled (set stack (length stack - 1) (part.Token t a start (length (texts ++ more)))) ≡ lengthened more (elements texts settled stack)
  elements_lengthened =
      ap (elements (texts ++ more) settled) new_last
      ∙ elements_push (texts ++ more) settled base _
      ∙ cc (ap (token (token_of t) (attributes_if_any a)) (between_more texts more start end has ends), elements_longer texts more settled base s.settled_fit (all_left texts (length settled) base _ whole_fit))
      ∙ sym (ap (λ l. lengthened more (elements texts settled l)) old_last ∙ ap (lengthened more) (elements_push texts settled base _))

  -- the longer token replaces the old one
  pub sound_extended : (new : List ℕ) (i n : ℕ) → new ≡ texts ++ more → n ≡ length new → i ≡ length stack - 1 → IsUtf8 new → IsSound new settled (set stack i (part.Token t a start n))
  sound_extended new i n e f g u = rw (g, f, e) (sound_lengthened (subst IsUtf8 e u))

  pub elements_extended : (new : List ℕ) (i n : ℕ) → new ≡ texts ++ more → n ≡ length new → i ≡ length stack - 1 → elements new settled (set stack i (part.Token t a start n)) ≡ lengthened more (elements texts settled stack)
  elements_extended new i n e f g = rw (g, f, e) elements_lengthened

  pub token_is_last : is_token (elements texts settled stack) ≡ true
  token_is_last = ap (λ l. is_token (elements texts settled l)) old_last ∙ ap is_token (elements_push texts settled base _)

-- Any part

module _ (texts : List ℕ) (settled stack : List Part) (depth : ℕ) (p : Part) (within : depth < length stack) (is : get_or stack (length stack - 1 - depth) p ≡ p) where
  abbrev place : ℕ
  place = length stack - 1 - depth

  abbrev below : List Part
  below = take place stack

  abbrev above : List Part
  above = drop (suc place) stack

  above_length : length (stacked (element texts settled) above) ≡ depth
  above_length = stacked-length (element texts settled) above ∙ length-drop (suc place) stack ∙ omega arith

  here : stack ≡ below ++ (p ∷ above)
  here = split_at stack place p (omega arith) ∙ ap (λ q. below ++ (q ∷ above)) is

  elements_here : elements texts settled stack ≡ stacked (element texts settled) above ++ (element texts settled p ∷ stacked (element texts settled) below)
  elements_here = ap (elements texts settled) here ∙ stacked-split (element texts settled) below above p

  pub found_at : token_at depth (elements texts settled stack) ≡ token_of_element (element texts settled p)
  found_at =
      ap (token_at depth) elements_here
      ∙ ap (λ n. token_at n (stacked (element texts settled) above ++ (element texts settled p ∷ stacked (element texts settled) below))) (sym above_length)
      ∙ token_at_split (stacked (element texts settled) above) (stacked (element texts settled) below) (element texts settled p)

  -- the part gets other attributes
  pub elements_given : (q : Part) (a : attributes.Attributes) → element texts settled q ≡ with_attributes a (element texts settled p) → elements texts settled (set stack place q) ≡ given depth a (elements texts settled stack)
  elements_given q a e =
      ap (elements texts settled) (set_split stack place q (omega arith))
      ∙ stacked-split (element texts settled) below above q
      ∙ ap (λ x. stacked (element texts settled) above ++ (x ∷ stacked (element texts settled) below)) e
      ∙ sym (ap (given depth a) elements_here
      ∙ ap (λ n. given n a (stacked (element texts settled) above ++ (element texts settled p ∷ stacked (element texts settled) below))) (sym above_length)
      ∙ given_split a (stacked (element texts settled) above) (stacked (element texts settled) below) (element texts settled p))

  -- the part has no text and stays the same
  pub elements_same : (a : attributes.Attributes) → element texts settled p ≡ with_attributes a (element texts settled p) → elements texts settled stack ≡ given depth a (elements texts settled stack)
  elements_same a e =
      ap (elements texts settled) (sym (set_split stack place p (omega arith) ∙ sym here))
      ∙ elements_given p a e

  pub sound_replaced : (q : Part) → IsSound texts settled stack → (Fits texts (length settled) p → Fits texts (length settled) q) → ((o : Part) → Meets o p → Meets o q) → ((qs : List Part) → Adjoin (length texts) (p ∷ qs) → Adjoin (length texts) (q ∷ qs)) → IsSound texts settled (set stack place q)
  sound_replaced q s fits before behind =
      let whole = subst (AllFit texts (length settled)) here s.open_fit in
      let rest = all_right texts (length settled) below (p ∷ above) whole in
      subst (IsSound texts settled) (sym (set_split stack place q (omega arith))) (record {
        settled_fit = s.settled_fit;
        open_fit = all_append texts (length settled) below (q ∷ above) (all_left texts (length settled) below (p ∷ above) whole) (fits rest.0, rest.1);
        adjoin = adjoin_replaced (length texts) (length texts) below above above p q before (behind above) (subst (Adjoin (length texts)) here s.adjoin);
      })

-- Parts become settled

all_ordered : (texts : List ℕ) (n : ℕ) (is_exchanged : Bool) (ps : List Part) → AllFit texts n ps → AllFit texts n (ordered is_exchanged ps)
all_ordered texts n true (p ∷ q ∷ ps) f = (f.1.0, (f.0, f.1.1))
all_ordered texts n true [] f = f
all_ordered texts n true (p ∷ []) f = f
all_ordered texts n false ps f = f

map_ordered : (f : Part → Element) (is_exchanged : Bool) (ps : List Part) → map f (ordered is_exchanged ps) ≡ ordered is_exchanged (map f ps)
map_ordered f true (p ∷ q ∷ ps) = refl
map_ordered f true [] = refl
map_ordered f true (p ∷ []) = refl
map_ordered f false ps = refl

pub length-ordered : {A : Type 0} (is_exchanged : Bool) (ps : List A) → length (ordered is_exchanged ps) ≡ length ps
length-ordered true (p ∷ q ∷ ps) = refl
length-ordered true [] = refl
length-ordered true (p ∷ []) = refl
length-ordered false ps = refl

module _ (texts : List ℕ) (settled stack : List Part) (count : ℕ) (is_exchanged : Bool) (whole : Part) (s : IsSound texts settled stack) (enough : count ≤ length stack) where
  abbrev kept : List Part
  kept = take (length stack - count) stack

  abbrev block : List Part
  block = drop (length stack - count) stack

  cut : kept ++ block ≡ stack
  cut = take-append-drop (length stack - count) stack

  block_length : length block ≡ count
  block_length = length-drop (length stack - count) stack ∙ omega arith

  both_fit : AllFit texts (length settled) (kept ++ block)
  both_fit = subst (AllFit texts (length settled)) (sym cut) s.open_fit

  abbrev xs : List Element
  xs = settled_on texts [] settled

  settled_count : length xs ≡ length settled
  settled_count = settled_length texts [] settled ∙ omega arith

  -- the parts as they become settled
  abbrev settling : List Part
  settling = ordered is_exchanged block

  settling_fit : AllFit texts (length settled) settling
  settling_fit = all_ordered texts (length settled) is_exchanged block (all_right texts (length settled) kept block both_fit)

  block_settled : settled_on texts [] (settled ++ settling) ≡ xs ++ map (element texts settled) settling
  block_settled =
      settled_append texts [] settled settling
      ∙ ap (λ l. settled_on texts l settling) (sym (append-nil xs))
      ∙ settled_block texts xs [] settling (subst (λ n. AllFit texts n settling) (sym settled_count) settling_fit)

  taken : map (element texts settled) settling ≡ ordered is_exchanged (reverse (take count (elements texts settled stack)))
  taken =
      map_ordered (element texts settled) is_exchanged block
      ∙ ap (ordered is_exchanged) (sym (reverse-reverse (map (element texts settled) block))
      ∙ ap reverse (sym (stacked-take (element texts settled) kept block) ∙ ap (λ n. take n (elements texts settled (kept ++ block))) block_length ∙ ap (λ l. take count (elements texts settled l)) cut))

  left : elements texts (settled ++ settling) kept ≡ drop count (elements texts settled stack)
  left =
      ap (λ l. reverse (map (element_of texts l) kept)) block_settled
      ∙ ap (λ t. reverse (map (element_of t (xs ++ map (element texts settled) settling)) kept)) (sym (append-nil texts))
      ∙ ap reverse (elements_kept texts [] xs (map (element texts settled) settling) (length settled) kept (omega (arith, settled_count)) (all_left texts (length settled) kept block both_fit))
      ∙ sym (stacked-drop (element texts settled) kept block) ∙ ap (λ n. drop n (elements texts settled (kept ++ block))) block_length ∙ ap (λ l. drop count (elements texts settled l)) cut

  pub elements_wrapped : elements texts (settled ++ settling) (kept ++ whole ∷ []) ≡ element_of texts (xs ++ ordered is_exchanged (reverse (take count (elements texts settled stack)))) whole ∷ drop count (elements texts settled stack)
  elements_wrapped =
      elements_push texts (settled ++ settling) kept whole
      ∙ cc (ap (λ l. element_of texts l whole) (block_settled ∙ ap (λ l. xs ++ l) taken), left)

  -- the builder is sound even while the parts that became settled are still open
  pub sound_settled : IsSound texts (settled ++ settling) stack
  sound_settled = record {
    settled_fit = each_append texts 0 settled settling s.settled_fit (each_fits texts (length settled) (0 + length settled) settling (omega arith) settling_fit);
    open_fit = subst (λ t. AllFit t (length (settled ++ settling)) stack) (append-nil texts) (all_more texts [] (length settled) (length (settled ++ settling)) stack (omega (arith, length-append settled settling)) s.open_fit);
    adjoin = s.adjoin;
  }

  pub sound_wrapped : Fits texts (length settled + count) whole → is_token_part whole ≡ false → IsSound texts (settled ++ settling) (kept ++ whole ∷ [])
  sound_wrapped f n = record {
    settled_fit = sound_settled.settled_fit;
    open_fit = all_append texts (length (settled ++ settling)) kept (whole ∷ []) (all_left texts (length (settled ++ settling)) kept block (subst (AllFit texts (length (settled ++ settling))) (sym cut) sound_settled.open_fit)) (subst (λ m. Fits texts m whole) (sym (length-append settled settling ∙ ap (λ m. length settled + m) (length-ordered is_exchanged block ∙ block_length))) f, tt);
    adjoin = adjoin_cut (length texts) (length texts) kept block whole n (subst (Adjoin (length texts)) (sym cut) s.adjoin);
  }

-- the same lists, as the code makes them
pub block_taken : (stack from other : List Part) (count : ℕ) → from ≡ stack → other ≡ stack → take (length other - (length from - count)) (drop (length from - count) other) ≡ drop (length stack - count) stack
block_taken stack from other count e f =
    let block = drop (length stack - count) stack in
    rw (e, f) (ap (λ n. take n block) (sym (length-drop (length stack - count) stack)) ∙ take-length block)

pub kept_with : (stack from : List Part) (count : ℕ) (whole : Part) → from ≡ stack → 0 < count → count ≤ length stack → take (length from - count + 1) (set stack (length from - count) whole) ≡ take (length stack - count) stack ++ whole ∷ []
kept_with stack from count whole e h k =
    let next : length stack - count + 1 ≡ suc (length stack - count) = omega arith in
    rw e (ap (λ n. take n (set stack (length stack - count) whole)) next ∙ take-suc-set stack (length stack - count) whole (omega arith))

-- the children of the new element are those that became settled
pub children_back : (texts : List ℕ) (settled : List Part) (ys : List Element) (first count : ℕ) (is_exchanged : Bool) → first ≡ length settled → count ≤ length ys → take count (drop first (settled_on texts [] settled ++ ordered is_exchanged (reverse (take count ys)))) ≡ ordered is_exchanged (reverse (take count ys))
children_back texts settled ys first count is_exchanged e h =
    let xs = settled_on texts [] settled in
    let rs = ordered is_exchanged (reverse (take count ys)) in
    let before : first ≡ length xs = omega (arith, e, settled_length texts [] settled) in
    let many : length rs ≡ count = length-ordered is_exchanged (reverse (take count ys)) ∙ length-reverse (take count ys) ∙ length-take-le count ys h in
    rw before (ap (take count) (drop-append_seam xs rs) ∙ ap (λ n. take n rs) (sym many) ∙ take-length rs)
