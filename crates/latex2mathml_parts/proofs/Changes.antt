-- What the last trees become when they are put together or changed.
use Rattle.std.proofs.Common.{◌≡◌, ◌≢◌, ℕ, ◌-◌, ◌<◌, ◌≤◌, List, [], ◌∷◌, Option, None, length, length-drop, take, drop, reverse, suc, add-one, refl, sym, ap, ◌∙◌, arith}
use Rattle.std.proofs.{Math.Seq.take-length, lemmas.List.drop-drop, lemmas.List.length-reverse, lemmas.List.length-take-le}
use Rattle.latex2mathml_trees.specs.Productions.{group_tree, matrix_of, matrix_members}
use Rattle.latex2mathml_trees.specs.Tree.{Tree, matrix, row, no_trees, more_trees, trees_of}
use Rattle.latex2mathml_tokens.specs.{declared.attribute.ColumnAlign.ColumnAlign, declared.attribute.Variant.Variant}
use Rattle.latex2mathml_parts.specs.{Forests.Stands, Forests.forest, Forms.put_form, Parts.top, declared.form.Part.Part}
use Rattle.latex2mathml_parts.specs.declared.form.Form.TheVariants as form
use Rattle.latex2mathml_parts.proofs.Forests.{forest_length}

pub drop_one_more : (n : ℕ) (ts : List Tree) → drop 1 (drop n ts) ≡ drop (suc n) ts
drop_one_more n ts = rw (drop-drop 1 n ts, add-one) refl

grouped_row : (xs : List Tree) → length xs ≢ 1 → group_tree xs ≡ row (trees_of xs)
grouped_row [] h = refl
grouped_row (x ∷ []) h = absurd (h refl)
grouped_row (x ∷ y ∷ ys) h = refl

-- no tree or several trees are a row
pub last_trees : (count : ℕ) (ts : List Tree) → count ≢ 1 → count ≤ length ts → group_tree (reverse (take count ts)) ≡ row (trees_of (reverse (take count ts)))
last_trees count ts h k = grouped_row (reverse (take count ts)) (λ g. h (sym (length-take-le count ts k) ∙ sym (length-reverse (take count ts)) ∙ g))

-- a matrix is put after one member, which is not a row
pub matrix_one : (texts : List (List ℕ)) (align : ColumnAlign) (ts : List Tree) → 0 < length ts → matrix_members (top ts) ≡ more_trees (top ts) no_trees → put_form texts (form.Matrix 1 None align) ts ≡ matrix_of align (top ts) ∷ drop 2 ts
matrix_one texts align [] h e = absurd (omega arith)
matrix_one texts align (t ∷ ts) h e = ap (λ xs. matrix xs align ∷ drop 1 ts) (sym e)

-- the row that is the last tree gives its members to a matrix
pub stands_spread : (texts : List (List ℕ)) (ps : List Part) (align : ColumnAlign) (count : ℕ) (style : Option Variant) (start : ℕ) → 1 < length (forest texts ps) → count ≤ length (forest texts (take (length ps - 1) ps)) → forest texts ps ≡ put_form texts (form.Row count style) (forest texts (take (length ps - 1) ps)) → start ≤ length ps → forest texts (take start ps) ≡ drop 2 (forest texts ps) → Stands texts ps (length ps - 1) (record { form = form.Matrix count style align; size = length ps - start })
stands_spread texts ps align count style start a k e s t =
    let h = forest_length texts ps in
    let ts = forest texts (take (length ps - 1) ps) in
    let long : length (forest texts ps) ≡ length (put_form texts (form.Row count style) ts) = ap length e in
    let rest = length-drop count ts in
    let shorter : length (forest texts (take start ps)) ≡ length (drop 2 (forest texts ps)) = ap length t in
    let two = length-drop 2 (forest texts ps) in
    record {
      text = tt;
      fits = omega arith;
      some = let apart : start ≢ length ps = λ f. let g : length (forest texts (take start ps)) ≡ length (forest texts ps) = ap (λ n. length (forest texts (take n ps))) f ∙ ap (λ qs. length (forest texts qs)) (take-length ps) in omega arith in omega arith;
      within = omega arith;
      below = ap (λ n. forest texts (take n ps)) (omega arith) ∙ t ∙ ap (drop 2) e ∙ drop_one_more count ts;
    }

-- below the last `count` trees there is one more
pub some_below : (texts : List (List ℕ)) (ps : List Part) (count start : ℕ) → count < length (forest texts ps) → start ≤ length ps → forest texts (take start ps) ≡ drop count (forest texts ps) → 0 < start
some_below texts ps count start h w t = omega (arith, simp length-drop at (ap length t), forest_length texts (take start ps), length-take-le start ps w)
