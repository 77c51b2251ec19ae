-- How elements are written in order, and how much there is to write.
use Rattle.std.proofs.Common.{codes, ◌≡◌, ℕ, zero, suc, ◌+◌, ◌-◌, ◌<◌, ◌≤◌, Bool, true, false, List, [], ◌∷◌, ◌++◌, length, length-drop, append_assoc, append-nil, take, drop, refl, reverse, sym, ap, ◌∙◌, arith}
use Rattle.std.proofs.lemmas.List.{drop-drop, length-take-le, reverse-append}
use Rattle.latex2mathml_elements.specs.Attributes.{Attributes}
use Rattle.latex2mathml_elements.specs.Element.{Pair, Triple, Element, children}
use Rattle.latex2mathml_elements.specs.Print.{attributes_text, container_name, end_tag, pair_name, print, prints, start_tag, triple_name}
use Rattle.latex2mathml_builder.specs.Due.{arranged, weight, weights}
use Rattle.latex2mathml_attributes.specs.{Arounds.around_attributes, Arounds.around_name, declared.around.Around.Around}
use Rattle.latex2mathml_builder.specs.Stacks.{around_first}
use Rattle.latex2mathml_builder.specs.Stacks.{pair_with, triple_with}

-- The children of an element

pub taken_length : (xs : List Element) (first count : ℕ) → first + count ≤ length xs → length (take count (drop first xs)) ≡ count
taken_length xs first count h = length-take-le count (drop first xs) (omega (arith, length-drop first xs))

print_two : (p : Pair) (a : Attributes) (xs : List Element) → length xs ≡ 2 → print (pair_with p a xs) ≡ start_tag (pair_name p) a ++ (prints (children xs) ++ end_tag (pair_name p))
print_two p a [] h = absurd (omega arith)
print_two p a (x ∷ []) h = absurd (omega arith)
print_two p a (x ∷ y ∷ []) h = ap (λ l. start_tag (pair_name p) a ++ l) (sym (append_assoc (print x) (print y ++ []) (end_tag (pair_name p)) ∙ ap (λ l. print x ++ (l ++ end_tag (pair_name p))) (append-nil (print y))))
print_two p a (x ∷ y ∷ z ∷ xs) h = absurd (omega arith)

weight_two : (p : Pair) (a : Attributes) (xs : List Element) → length xs ≡ 2 → weight (pair_with p a xs) ≡ 3 + weights (children xs)
weight_two p a [] h = absurd (omega arith)
weight_two p a (x ∷ []) h = absurd (omega arith)
weight_two p a (x ∷ y ∷ []) h = omega arith
weight_two p a (x ∷ y ∷ z ∷ xs) h = absurd (omega arith)

three : (x y z : Element) (end : List ℕ) → prints (children (x ∷ y ∷ z ∷ [])) ++ end ≡ print x ++ (print y ++ (print z ++ end))
three x y z end = simp (append_assoc, append-nil)

print_three : (t : Triple) (a : Attributes) (b : Bool) (xs : List Element) → length xs ≡ 3 → print (triple_with t a b xs) ≡ start_tag (triple_name t) a ++ (prints (children (arranged b xs)) ++ end_tag (triple_name t))
print_three t a b [] h = absurd (omega arith)
print_three t a b (x ∷ []) h = absurd (omega arith)
print_three t a b (x ∷ y ∷ []) h = absurd (omega arith)
print_three t a false (x ∷ y ∷ z ∷ []) h = ap (λ l. start_tag (triple_name t) a ++ l) (sym (three x y z (end_tag (triple_name t))))
print_three t a true (x ∷ y ∷ z ∷ []) h = ap (λ l. start_tag (triple_name t) a ++ l) (sym (three x z y (end_tag (triple_name t))))
print_three t a b (w ∷ x ∷ y ∷ z ∷ xs) h = absurd (omega arith)

weight_three : (t : Triple) (a : Attributes) (b : Bool) (xs : List Element) → length xs ≡ 3 → weight (triple_with t a b xs) ≡ 5 + weights (children xs)
weight_three t a b [] h = absurd (omega arith)
weight_three t a b (x ∷ []) h = absurd (omega arith)
weight_three t a b (x ∷ y ∷ []) h = absurd (omega arith)
weight_three t a false (x ∷ y ∷ z ∷ []) h = omega arith
weight_three t a true (x ∷ y ∷ z ∷ []) h = omega arith
weight_three t a b (w ∷ x ∷ y ∷ z ∷ xs) h = absurd (omega arith)

-- the children of an element among other elements
pub print_pair : (p : Pair) (a : Attributes) (xs : List Element) (first : ℕ) → first + 2 ≤ length xs → print (pair_with p a (take 2 (drop first xs))) ≡ start_tag (pair_name p) a ++ (prints (children (take 2 (drop first xs))) ++ end_tag (pair_name p))
print_pair p a xs first h = print_two p a _ (taken_length xs first 2 h)

pub weight_pair : (p : Pair) (a : Attributes) (xs : List Element) (first : ℕ) → first + 2 ≤ length xs → weight (pair_with p a (take 2 (drop first xs))) ≡ 3 + weights (children (take 2 (drop first xs)))
weight_pair p a xs first h = weight_two p a _ (taken_length xs first 2 h)

pub print_triple : (t : Triple) (a : Attributes) (b : Bool) (xs : List Element) (first : ℕ) → first + 3 ≤ length xs → print (triple_with t a b (take 3 (drop first xs))) ≡ start_tag (triple_name t) a ++ (prints (children (arranged b (take 3 (drop first xs)))) ++ end_tag (triple_name t))
print_triple t a b xs first h = print_three t a b _ (taken_length xs first 3 h)

pub weight_triple : (t : Triple) (a : Attributes) (b : Bool) (xs : List Element) (first : ℕ) → first + 3 ≤ length xs → weight (triple_with t a b (take 3 (drop first xs))) ≡ 5 + weights (children (take 3 (drop first xs)))
weight_triple t a b xs first h = weight_three t a b _ (taken_length xs first 3 h)

-- Three elements, one by one

exchanged_print : (ys : List Element) (due : List ℕ) → 3 ≤ length ys → prints (children (take 1 ys)) ++ (prints (children (take 1 (drop 2 ys))) ++ (prints (children (take 1 (drop 1 ys))) ++ due)) ≡ prints (children (arranged true (take 3 ys))) ++ due
exchanged_print [] due h = absurd (omega arith)
exchanged_print (x ∷ []) due h = absurd (omega arith)
exchanged_print (x ∷ y ∷ []) due h = absurd (omega arith)
exchanged_print (x ∷ y ∷ z ∷ ys) due h = simp (append_assoc, append-nil)

exchanged_weight : (ys : List Element) → 3 ≤ length ys → weights (children (take 1 ys)) + (weights (children (take 1 (drop 2 ys))) + weights (children (take 1 (drop 1 ys)))) ≡ weights (children (take 3 ys))
exchanged_weight [] h = absurd (omega arith)
exchanged_weight (x ∷ []) h = absurd (omega arith)
exchanged_weight (x ∷ y ∷ []) h = absurd (omega arith)
exchanged_weight (x ∷ y ∷ z ∷ ys) h = omega arith

module _ (xs : List Element) (first : ℕ) (enough : first + 3 ≤ length xs) where
  print_exchanged : (due : List ℕ) → prints (children (take 1 (drop first xs))) ++ (prints (children (take 1 (drop (first + 2) xs))) ++ (prints (children (take 1 (drop (first + 1) xs))) ++ due)) ≡ prints (children (arranged true (take 3 (drop first xs)))) ++ due
  print_exchanged due =
      rw (← drop-drop 2 first xs, ← drop-drop 1 first xs) (exchanged_print (drop first xs) due (omega (arith, length-drop first xs)))

  -- three runs, the last of which has the end tag
  pub exchanged_due : (tag due last below middle behind whole : List ℕ) → last ≡ prints (children (take 1 (drop (first + 1) xs))) ++ tag → below ≡ last ++ due → middle ≡ prints (children (take 1 (drop (first + 2) xs))) ++ [] → behind ≡ middle ++ below → whole ≡ prints (children (take 1 (drop first xs))) ++ [] → whole ++ behind ≡ prints (children (arranged true (take 3 (drop first xs)))) ++ (tag ++ due)
  exchanged_due tag due last below middle behind whole ends puts between puts_next begins =
      let second = prints (children (take 1 (drop (first + 1) xs))) in
      let third = prints (children (take 1 (drop (first + 2) xs))) in
      ap (λ l. l ++ behind) (begins ∙ append-nil _)
      ∙ ap (λ l. prints (children (take 1 (drop first xs))) ++ l) (puts_next ∙ ap (λ l. l ++ below) (between ∙ append-nil third) ∙ ap (λ l. third ++ l) (puts ∙ ap (λ l. l ++ due) ends ∙ append_assoc second tag due))
      ∙ print_exchanged (tag ++ due)

  pub weight_exchanged : weights (children (take 1 (drop first xs))) + (weights (children (take 1 (drop (first + 2) xs))) + weights (children (take 1 (drop (first + 1) xs)))) ≡ weights (children (take 3 (drop first xs)))
  weight_exchanged =
      rw (← drop-drop 2 first xs, ← drop-drop 1 first xs) (exchanged_weight (drop first xs) (omega (arith, length-drop first xs)))

-- The first of the elements of a work, and the others

pub first_taken : (count : ℕ) (xs ys : List Element) (x : Element) → 0 < count → xs ≡ x ∷ ys → take count xs ≡ x ∷ take (count - 1) ys
first_taken zero xs ys x h e = absurd (omega arith)
first_taken (suc count) xs ys x h e = (let n : count ≡ suc count - 1 = omega arith in ap (take (suc count)) e ∙ ap (λ m. x ∷ take m ys) n)

-- The uppermost elements, of which the lowest is written first

take_next : (k : ℕ) (xs ys : List Element) (x : Element) → drop k xs ≡ x ∷ ys → take (suc k) xs ≡ take k xs ++ x ∷ []
take_next zero [] ys x e = cc
take_next (suc k) [] ys x e = cc
take_next zero (z ∷ xs) ys x e = cc
take_next (suc k) (z ∷ xs) ys x e = ap (λ l. z ∷ l) (take_next k xs ys x e)

pub lowest_written : (n place : ℕ) (xs ys : List Element) (x : Element) → place < n → drop (n - (place + 1)) xs ≡ x ∷ ys → reverse (take (n - place) xs) ≡ x ∷ reverse (take (n - (place + 1)) xs)
lowest_written n place xs ys x h e =
    let k = n - (place + 1) in
    let next : n - place ≡ suc k = omega arith in
    ap (λ m. reverse (take m xs)) next ∙ ap reverse (take_next k xs ys x e) ∙ reverse-append (take k xs) (x ∷ [])

-- What is written of an element before its children, and what is due after that

pub opened : (name : List ℕ) (a : Attributes) (out inner due : List ℕ) (new start end below behind whole : List ℕ) → start ≡ codes "<" ++ name → new ≡ out ++ (start ++ (attributes_text a ++ codes ">")) → end ≡ end_tag name → below ≡ end ++ due → behind ≡ inner ++ below → whole ≡ start_tag name a ++ (inner ++ end_tag name) → new ++ behind ≡ out ++ (whole ++ due)
opened name a out inner due new start end below behind whole begins writes ends puts puts_children is =
    let tag = start_tag name a in
    ap (λ l. l ++ behind) (writes ∙ ap (λ l. out ++ (l ++ (attributes_text a ++ codes ">"))) begins)
    ∙ ap (λ l. (out ++ tag) ++ l) (puts_children ∙ ap (λ l. inner ++ l) (puts ∙ ap (λ l. l ++ due) ends))
    ∙ append_assoc out tag (inner ++ (end_tag name ++ due))
    ∙ ap (λ l. out ++ l) (sym (ap (λ l. l ++ due) is ∙ append_assoc tag (inner ++ end_tag name) due ∙ ap (λ l. tag ++ l) (append_assoc inner (end_tag name) due)))

-- a run is written before what is due
pub run_due : (run inner tag due : List ℕ) → run ≡ inner ++ tag → run ++ due ≡ inner ++ (tag ++ due)
run_due run inner tag due is = ap (λ l. l ++ due) is ∙ append_assoc inner tag due

-- the first element of a run is written, and then the others with the end tag
first_of_run : (x : Element) (ys : List Element) (tag due : List ℕ) → print x ++ ((prints (children ys) ++ tag) ++ due) ≡ (prints (children (x ∷ ys)) ++ tag) ++ due
first_of_run x ys tag due = simp append_assoc

pub token_of_run : (out : List ℕ) (xs ys : List Element) (x : Element) (tag due new whole : List ℕ) → xs ≡ x ∷ ys → new ≡ out ++ print x → out ++ ((prints (children xs) ++ tag) ++ due) ≡ whole → new ++ ((prints (children ys) ++ tag) ++ due) ≡ whole
token_of_run out xs ys x tag due new whole is writes before =
    ap (λ l. l ++ ((prints (children ys) ++ tag) ++ due)) writes
    ∙ append_assoc out (print x) ((prints (children ys) ++ tag) ++ due)
    ∙ ap (λ l. out ++ l) (first_of_run x ys tag due)
    ∙ ap (λ l. out ++ ((prints (children l) ++ tag) ++ due)) (sym is)
    ∙ before

pub outer_of_run : (out : List ℕ) (xs ys : List Element) (x : Element) (tag due below all whole : List ℕ) → xs ≡ x ∷ ys → below ≡ (prints (children ys) ++ tag) ++ due → all ≡ out ++ (print x ++ below) → out ++ ((prints (children xs) ++ tag) ++ due) ≡ whole → all ≡ whole
outer_of_run out xs ys x tag due below all whole is puts writes before =
    writes
    ∙ ap (λ l. out ++ (print x ++ l)) puts
    ∙ ap (λ l. out ++ l) (first_of_run x ys tag due)
    ∙ ap (λ l. out ++ ((prints (children l) ++ tag) ++ due)) (sym is)
    ∙ before

-- A token is written, and then the elements after it

pub token_first : (out : List ℕ) (xs ys : List Element) (x : Element) (new whole : List ℕ) → xs ≡ x ∷ ys → new ≡ out ++ print x → out ++ prints (children xs) ≡ whole → new ++ prints (children ys) ≡ whole
token_first out xs ys x new whole is writes before =
    ap (λ l. l ++ prints (children ys)) writes
    ∙ append_assoc out (print x) (prints (children ys))
    ∙ ap (λ l. out ++ prints (children l)) (sym is)
    ∙ before

-- An element around another

around_written : (a : Around) (xs : List Element) → length xs ≡ 1 → print (around_first a xs) ≡ start_tag (container_name (around_name a)) (around_attributes a) ++ (prints (children xs) ++ end_tag (container_name (around_name a)))
around_written a [] h = absurd (omega arith)
around_written a (x ∷ []) h = refl
around_written a (x ∷ y ∷ xs) h = absurd (omega arith)

around_weight : (a : Around) (xs : List Element) → length xs ≡ 1 → weight (around_first a xs) ≡ 3 + weights (children xs)
around_weight a [] h = absurd (omega arith)
around_weight a (x ∷ []) h = refl
around_weight a (x ∷ y ∷ xs) h = absurd (omega arith)

pub print_around : (a : Around) (xs : List Element) (first : ℕ) → first + 1 ≤ length xs → print (around_first a (take 1 (drop first xs))) ≡ start_tag (container_name (around_name a)) (around_attributes a) ++ (prints (children (take 1 (drop first xs))) ++ end_tag (container_name (around_name a)))
print_around a xs first h = around_written a _ (taken_length xs first 1 h)

pub weight_around : (a : Around) (xs : List Element) (first : ℕ) → first + 1 ≤ length xs → weight (around_first a (take 1 (drop first xs))) ≡ 3 + weights (children (take 1 (drop first xs)))
weight_around a xs first h = around_weight a _ (taken_length xs first 1 h)
