-- Parts without operands.
use Rattle.std.proofs.Common.{◌≡◌, ℕ, ◌+◌, ◌-◌, ◌≤◌, List, [], ◌∷◌, ◌++◌, length, length-drop, take, drop, reverse, slice_index_or, suc, zero, refl, sym, ap, ◌∙◌, arith, append-nil}
use Rattle.std.proofs.{lemmas.List.length-take-le, lemmas.List.take-append-drop, lemmas.List.take-take, lemmas.List.reverse-append, lemmas.Grind.common_steps, lemmas.Grind.flat_map-append}
use Rattle.std.specs.List.{flat_map}
use Rattle.latex2mathml_trees.specs.Tree.{Tree}
use Rattle.latex2mathml_parts.specs.Forests.{AreLeaves, Forest, IsLeaf, Stands, forest, forest_on, tree_at, trees_at, with_form}
use Rattle.latex2mathml_parts.specs.{Forms.arity_of, Forms.put_form, Parts.top}
use Rattle.latex2mathml_parts.specs.{declared.form.Form.Form, declared.form.Part.Part}
use Rattle.latex2mathml_parts.proofs.{Forests.forest_length, Forests.forest_length_on, Forests.forest_more, Forests.forest_on-append, Puts.form_one}

-- a part that leaves the trees before it is a leaf
over : (f : Forest) (end : ℕ) (g : Form) → trees_at f end ≡ with_form f g (end - 1) → drop (arity_of g) (trees_at f (end - 1)) ≡ trees_at f (end - 1) → IsLeaf f end
over f end g t e =
    rw t (form_one f.texts g (trees_at f (end - 1)) ∙ ap (λ us. top (put_form f.texts g (trees_at f (end - 1))) ∷ us) e)

-- so is a part of size 1
pub leaf_by_size : (f : Forest) (end : ℕ) (p : Part) → Stands f.texts f.list (end - 1) p → trees_at f end ≡ with_form f p.form (end - 1) → p.size ≡ 1 → IsLeaf f end
leaf_by_size f end p s t e =
    over f end p.form t (sym s.below ∙ ap (λ m. forest f.texts (take m f.list)) (omega (arith, e)))

drop_none : (n : ℕ) (ts : List Tree) → length ts ≤ length (drop n ts) → drop n ts ≡ ts
drop_none zero ts h = refl
drop_none (suc n) [] h = refl
drop_none (suc n) (t ∷ ts) h = absurd (omega (arith, h, length-drop n ts))

-- each part makes one tree more at most
trees_more : (f : Forest) (n m : ℕ) → n ≤ m → m ≤ length f.list → length (trees_at f m) ≤ length (trees_at f n) + (m - n)
trees_more f n m h i =
    let ps = take m f.list in
    let all : length (trees_at f m) ≡ length (forest_on f.texts (forest f.texts (take n ps)) (drop n ps)) = ap (λ qs. length (forest f.texts qs)) (sym (take-append-drop n ps)) ∙ ap length (forest_on-append f.texts [] (take n ps) (drop n ps)) in
    let first : length (forest f.texts (take n ps)) ≡ length (trees_at f n) = ap (λ qs. length (forest f.texts qs)) (take-take n m f.list h) in
    omega (arith, forest_length_on f.texts (drop n ps) (forest f.texts (take n ps)), length-drop n ps, length-take-le m f.list i)

-- as many trees as parts: each part is a leaf
pub all_leaves : (f : Forest) (d : Part) (start end : ℕ) → start ≤ end → end ≤ length f.list → end - start ≤ length (trees_at f end) → trees_at f start ≡ drop (end - start) (trees_at f end) → AreLeaves f start end
all_leaves f d start end o w a t zero h i = absurd (omega arith)
all_leaves f d start end o w a t (suc m) h i =
    let g = (slice_index_or f.list m d).form in
    let same : suc m - 1 ≡ m = omega arith in
    let more : trees_at f (suc m) ≡ with_form f g m = forest_more f.texts f.list m d (omega arith) in
    let last = trees_more f (suc m) end i w in
    let first = trees_more f start m (omega arith) (omega arith) in
    let below : length (with_form f g m) ≡ suc (length (drop (arity_of g) (trees_at f m))) = ap length (form_one f.texts g (trees_at f m)) in
    let enough : length (trees_at f m) ≤ length (drop (arity_of g) (trees_at f m)) = omega (arith, last, first, below, a, h, i, ap length t, length-drop (end - start) (trees_at f end), ap length more) in
    over f (suc m) g (rw same more) (rw same (drop_none (arity_of g) (trees_at f m) enough))

-- one more leaf
pub leaves_step : (f : Forest) (g : Tree → List ℕ) (start p : ℕ) → start ≤ p → IsLeaf f (p + 1) → flat_map g (reverse (take (p + 1 - start) (trees_at f (p + 1)))) ≡ flat_map g (reverse (take (p - start) (trees_at f p))) ++ g (tree_at f (p + 1))
leaves_step f g start p h e =
    let more : p + 1 - start ≡ suc (p - start) = omega arith in
    let same : p + 1 - 1 ≡ p = omega arith in
    let leaf : trees_at f (p + 1) ≡ tree_at f (p + 1) ∷ trees_at f p = rw same at e in
    rw (more, leaf, reverse-append (tree_at f (p + 1) ∷ []) (take (p - start) (trees_at f p)), flat_map-append g (reverse (take (p - start) (trees_at f p))) (tree_at f (p + 1) ∷ [])) (simp append-nil)

-- there are no more trees than parts
pub no_more : (f : Forest) (end : ℕ) → end ≤ length f.list → length (trees_at f end) ≤ end
no_more f end h = omega (arith, forest_length f.texts (take end f.list), length-take-le end f.list h)

pub ruleset leaf_steps = (leaves_step, no_more, common_steps)
