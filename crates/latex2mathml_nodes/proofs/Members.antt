-- Two lists of nodes with the same trees, member by member.
use Rattle.std.proofs.Common.{◌≡◌, ℕ, suc, ◌+◌, ◌<◌, List, [], ◌∷◌, length, get_or, map, take, ap, arith}
use Rattle.std.proofs.{lemmas.Grind.common_steps, lemmas.List.take_more}
use Rattle.latex2mathml_nodes.specs.{declared.ast.Node.Node, Nodes.tree, Nodes.trees}

pub same_lengths : (xs ys : List Node) → trees xs ≡ trees ys → length xs ≡ length ys
same_lengths [] [] e = cc
same_lengths (x ∷ xs) (y ∷ ys) e = ap suc (same_lengths xs ys cc)
same_lengths xs ys e = cc

-- the members at the same index have the same tree
pub same_at : (xs ys : List Node) (i : ℕ) (x y : Node) → i < length xs → x ≡ get_or xs i x → y ≡ get_or ys i y → trees xs ≡ trees ys → tree x ≡ tree y
same_at [] ys i x y h p q e = absurd (omega arith)
same_at (a ∷ xs) (b ∷ ys) (suc i) x y h p q e = same_at xs ys i x y (omega arith) p q cc
same_at (a ∷ xs) ys i x y h p q e = cc

-- one more member at index i
pub same_more : (xs ys : List Node) (i : ℕ) (x y : Node) → i < length xs → i < length ys → x ≡ get_or xs i x → y ≡ get_or ys i y → map tree (take i xs) ≡ map tree (take i ys) → tree x ≡ tree y → map tree (take (i + 1) xs) ≡ map tree (take (i + 1) ys)
same_more xs ys i x y h k p q e f = grind (arith, common_steps, take_more xs i x h, take_more ys i y k)
