-- What a part makes of the trees before it. A list of trees begins with the last tree.
use Rattle.std.specs.Prelude.{ℕ, List, [], ◌∷◌, Option, Some, None, drop}
use Rattle.latex2mathml_trees.specs.Productions.{binomial_tree, overbrace_tree, labelled_overbrace_tree, prime_mark, underbrace_tree, labelled_underbrace_tree}
use Rattle.latex2mathml_trees.specs.Tree.{Tree, ampersand, fenced, frac, function, letter, new_line, number, operator, other_operator, over_op, overset, root, sized_paren, space, sqrt, sub_sup, subscript, superscript, under, under_op, under_over, underset, words}
use Rattle.latex2mathml_tokens.specs.Names.{function_text, limit_text, paren_text, size_text}
use Rattle.latex2mathml_tokens.specs.{declared.attribute.LineThickness.TheVariants.Medium, declared.names.Paren.Paren}
use Rattle.latex2mathml_parts.specs.declared.kind.Kind.{Kind}
use Rattle.latex2mathml_parts.specs.declared.kind.Kind.TheVariants as kind

-- the last tree
abbrev pub top : List Tree → Tree
top [] = ampersand
top (x ∷ xs) = x

-- the text of a fence, which may be missing
abbrev pub fence_text : Option Paren → List ℕ
fence_text None = []
fence_text (Some paren) = paren_text paren

-- how many operands a part has
abbrev pub arity : Kind → ℕ
arity (kind.Number digits) = 0
arity (kind.Letter c variant) = 0
arity (kind.Operator c) = 0
arity (kind.Paren paren) = 0
arity kind.Ampersand = 0
arity kind.NewLine = 0
arity (kind.Space width) = 0
arity (kind.Function name) = 0
arity (kind.Limit name) = 0
arity (kind.SizedParen size paren) = 0
arity kind.Primed = 1
arity (kind.Over c accent) = 1
arity (kind.Under c accent) = 1
arity kind.Sqrt = 1
arity (kind.Overbrace c) = 1
arity (kind.Underbrace c) = 1
arity (kind.LimitBelow c) = 1
arity (kind.LimitAbove c) = 1
arity (kind.LimitSub c) = 1
arity (kind.LimitSup c) = 1
arity (kind.LimitUnder name) = 1
arity (kind.Fenced opening close) = 1
arity k = 2

-- the trees with the part after them
abbrev pub put : Kind → List Tree → List Tree
put (kind.Number digits) ts = number digits.now ∷ ts
put (kind.Letter c variant) ts = letter c variant ∷ ts
put (kind.Operator c) ts = operator c ∷ ts
put (kind.Paren paren) ts = other_operator (paren_text paren) ∷ ts
put kind.Ampersand ts = ampersand ∷ ts
put kind.NewLine ts = new_line ∷ ts
put (kind.Space width) ts = space width ∷ ts
put (kind.Function name) ts = function (function_text name) ∷ ts
put (kind.Limit name) ts = function (limit_text name) ∷ ts
put (kind.SizedParen size paren) ts = sized_paren (size_text size) (paren_text paren) ∷ ts
put kind.Primed ts = superscript (top ts) prime_mark ∷ drop 1 ts
put (kind.Over c accent) ts = over_op c accent (top ts) ∷ drop 1 ts
put (kind.Under c accent) ts = under_op c accent (top ts) ∷ drop 1 ts
put kind.Sqrt ts = sqrt (top ts) ∷ drop 1 ts
put (kind.Overbrace c) ts = overbrace_tree c (top ts) ∷ drop 1 ts
put (kind.Underbrace c) ts = underbrace_tree c (top ts) ∷ drop 1 ts
put (kind.LimitBelow c) ts = under (operator c) (top ts) ∷ drop 1 ts
put (kind.LimitAbove c) ts = overset (top ts) (operator c) ∷ drop 1 ts
put (kind.LimitSub c) ts = subscript (operator c) (top ts) ∷ drop 1 ts
put (kind.LimitSup c) ts = superscript (operator c) (top ts) ∷ drop 1 ts
put (kind.LimitUnder name) ts = under (function (limit_text name)) (top ts) ∷ drop 1 ts
put (kind.Fenced opening close) ts = fenced (fence_text opening) (fence_text close) (top ts) ∷ drop 1 ts
put kind.Sub ts = subscript (top (drop 1 ts)) (top ts) ∷ drop 2 ts
put kind.Sup ts = superscript (top (drop 1 ts)) (top ts) ∷ drop 2 ts
put kind.Frac ts = frac (top (drop 1 ts)) (top ts) Medium ∷ drop 2 ts
put (kind.Binom display) ts = binomial_tree display (top (drop 1 ts)) (top ts) ∷ drop 2 ts
put kind.Overset ts = overset (top (drop 1 ts)) (top ts) ∷ drop 2 ts
put kind.Underset ts = underset (top (drop 1 ts)) (top ts) ∷ drop 2 ts
put kind.Root ts = root (top (drop 1 ts)) (top ts) ∷ drop 2 ts
put (kind.OverbraceWith c) ts = labelled_overbrace_tree c (top ts) (top (drop 1 ts)) ∷ drop 2 ts
put (kind.UnderbraceWith c) ts = labelled_underbrace_tree c (top ts) (top (drop 1 ts)) ∷ drop 2 ts
put (kind.LimitsBelowAbove c) ts = under_over (operator c) (top (drop 1 ts)) (top ts) ∷ drop 2 ts
put (kind.LimitsAboveBelow c) ts = under_over (operator c) (top ts) (top (drop 1 ts)) ∷ drop 2 ts
put (kind.LimitsSubSup c) ts = sub_sup (operator c) (top (drop 1 ts)) (top ts) ∷ drop 2 ts
put (kind.LimitsSupSub c) ts = sub_sup (operator c) (top ts) (top (drop 1 ts)) ∷ drop 2 ts

-- the text of words, and nothing for any other tree
abbrev pub words_of : Tree → List ℕ
words_of (words text) = text
words_of x = []
