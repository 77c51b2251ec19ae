-- What is still to be written of a list of parts, as markup. The work that was put last is done first.
use Rattle.std.specs.Prelude.{◌≡◌, ℕ, ◌+◌, ◌<◌, List, [], ◌++◌, Option, Some, None, String, Vec, reverse, string_bytes, sum_by, take}
use Rattle.std.specs.declared.alloc.Global.{Global}
use Rattle.std.specs.{List.All, List.flat_map}
use Rattle.latex2mathml_trees.specs.{Print.print, Tree.operator}
use Rattle.latex2mathml_parts.specs.{Forests.Forest, Forests.IsPlace, Forests.tree_at, Forests.trees_at, Forms.in_style}
use Rattle.latex2mathml_parts.specs.{Parts.fence_text, Shapes.begun_weight, Shapes.fence_close, Shapes.print_weight, Shapes.sign_print}
use Rattle.latex2mathml_parts.specs.{Shapes.ending_text, Shapes.opening_text, declared.work.Work.Work}
use Rattle.latex2mathml_parts.specs.declared.work.Work.TheVariants as work

abbrev pub work_print : Forest → Work → List ℕ
work_print f (work.Tree end) = print (tree_at f end)
work_print f (work.Styled variant end) = print (in_style (Some variant) (tree_at f end))
work_print f (work.End tag) = ending_text tag
work_print f (work.Brace tag c) = opening_text tag ++ print (operator c)
work_print f (work.LastBrace c tag) = print (operator c) ++ ending_text tag
work_print f (work.LastSign c accent tag) = sign_print c accent ++ ending_text tag
work_print f (work.LastFence fence tag) = fence_close (fence_text fence) ++ ending_text tag

abbrev pub due : Forest → List Work → List ℕ
due f ws = flat_map (work_print f) (reverse ws)

-- the tree that a work is about, if it is about one, exists
abbrev pub IsIn : Forest → Work → Type 0
IsIn f (work.Tree end) = IsPlace f end
IsIn f (work.Styled variant end) = IsPlace f end
IsIn f k = Unit {0}

unfoldable pub AreIn : Forest → List Work → Type 0
AreIn f = All (IsIn f)

-- how much there is to write of a work
abbrev pub work_weight : Forest → Work → ℕ
work_weight f (work.Tree end) = print_weight (tree_at f end)
work_weight f (work.Styled variant end) = print_weight (tree_at f end)
work_weight f k = 1

-- how much there is to write of all works
abbrev pub load : Forest → List Work → ℕ
load f = sum_by (work_weight f)

-- the tree that is written next, if there is one
abbrev pub next_print : Forest → Option ℕ → List ℕ
next_print f None = []
next_print f (Some end) = print (tree_at f end)

abbrev pub next_weight : Forest → Option ℕ → ℕ
next_weight f None = 0
next_weight f (Some end) = begun_weight (tree_at f end)

abbrev pub IsNext : Forest → Option ℕ → Type 0
IsNext f None = Unit {0}
IsNext f (Some end) = IsPlace f end

-- A text and what was due become a new text, the next tree, if there is one, and what is then due. Together, these are
-- the old text, this markup and what was due.
abbrev pub Writes : Forest → String Global → Vec Work Global → String Global → Vec Work Global → List ℕ → Option ℕ → Type 0
Writes f old ws new vs markup next =
    string_bytes new ++ (next_print f next ++ due f vs.items) ≡ string_bytes old ++ (markup ++ due f ws.items)

-- What is left, with the next tree, is about trees that exist, and is less than what was due plus this much.
abbrev pub Leaves : Forest → Vec Work Global → Vec Work Global → ℕ → Option ℕ → Type 0
Leaves f ws vs more next =
    AreIn f vs.items × (IsNext f next × (load f vs.items + next_weight f next < load f ws.items + more))

-- this markup is due before what was due
abbrev pub Adds : Forest → Vec Work Global → Vec Work Global → List ℕ → Type 0
Adds f ws vs markup = due f vs.items ≡ markup ++ due f ws.items

-- how much there is to write of the last `count` trees of the first `end` parts
abbrev pub members_weight_at : Forest → ℕ → ℕ → ℕ
members_weight_at f count end = sum_by print_weight (take count (trees_at f end))
