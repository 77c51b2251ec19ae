-- The list of the parts as trees.
use Rattle.std.specs.Prelude.{◌≡◌, ℕ, ◌+◌, ◌-◌, ◌<◌, ◌≤◌, List, [], ◌∷◌, drop, length, map, reverse, slice_index_or, string_bytes, take, String}
use Rattle.std.specs.declared.alloc.Global.{Global}
use Rattle.latex2mathml_trees.specs.Tree.{Tree}
use Rattle.latex2mathml_parts.specs.{Forms.HasText, Forms.arity_of, Forms.put_form, Parts.top, declared.form.Form.Form, declared.form.Part.Part}

abbrev pub forest_on : List (List ℕ) → List Tree → List Part → List Tree
forest_on texts ts [] = ts
forest_on texts ts (p ∷ ps) = forest_on texts (put_form texts p.form ts) ps

-- the trees of a list of parts, the last tree first
abbrev pub forest : List (List ℕ) → List Part → List Tree
forest texts = forest_on texts []

-- the part is at this place, after its operands, and its size leads to where they begin
pub record Stands (texts : List (List ℕ)) (ps : List Part) (n : ℕ) (p : Part) : Type 0 where
  pub text : HasText texts p.form
  pub fits : arity_of p.form ≤ length (forest texts (take n ps))
  pub some : 0 < p.size
  pub within : p.size ≤ n + 1
  pub below : forest texts (take (n + 1 - p.size) ps) ≡ drop (arity_of p.form) (forest texts (take n ps))

unfoldable pub AreWhole : List (List ℕ) → List Part → Type 0
AreWhole texts ps = (n : ℕ) (d : Part) → n < length ps → Stands texts ps n (slice_index_or ps n d)

-- the texts set aside, as their bytes
abbrev pub aside : List (String Global) → List (List ℕ)
aside = map string_bytes

-- The list of the parts with the texts set aside, as contracts see it.
pub record Forest : Type 0 where
  pub texts : List (List ℕ)
  pub list : List Part

-- its trees, the last first
abbrev pub trees_in : Forest → List Tree
trees_in f = forest f.texts f.list

-- the trees of its first `end` parts
abbrev pub trees_at : Forest → ℕ → List Tree
trees_at f end = forest f.texts (take end f.list)

-- the last of these trees
abbrev pub tree_at : Forest → ℕ → Tree
tree_at f end = top (trees_at f end)

-- the last tree
abbrev pub last_in : Forest → Tree
last_in f = top (trees_in f)

-- the trees of the first `end` parts, with a part of this form after them
abbrev pub with_form : Forest → Form → ℕ → List Tree
with_form f form end = put_form f.texts form (trees_at f end)

-- the last of these trees
abbrev pub form_tree : Forest → Form → ℕ → Tree
form_tree f form end = top (with_form f form end)

-- all trees, with a part of this form after them
abbrev pub one_more : Forest → Form → List Tree
one_more f form = put_form f.texts form (trees_in f)

-- all trees, with a part of this form in place of the last part
abbrev pub last_as : Forest → Form → List Tree
last_as f form = with_form f form (length f.list - 1)

-- the last `count` trees of the first `end` parts, in the order in which they were read
abbrev pub members_at : Forest → ℕ → ℕ → List Tree
members_at f count end = reverse (take count (trees_at f end))

-- a tree ends after the first `end` parts
abbrev pub IsPlace : Forest → ℕ → Type 0
IsPlace f end = (0 < end) × (end ≤ length f.list)

-- the last of the first `end` parts is a tree by itself
abbrev pub IsLeaf : Forest → ℕ → Type 0
IsLeaf f end = trees_at f end ≡ tree_at f end ∷ trees_at f (end - 1)

-- so is each part after the first `start` ones, up to `end`
abbrev pub AreLeaves : Forest → ℕ → ℕ → Type 0
AreLeaves f start end = (k : ℕ) → start < k → k ≤ end → IsLeaf f k
