-- The markup of parts with operands: what precedes the operands, what is between them and what follows them.
use Rattle.std.specs.Prelude.{◌≡◌, ℕ, ◌+◌, ◌*◌, ◌≤◌, List, [], ◌++◌, Option, Some, None, codes, drop}
use Rattle.latex2mathml_trees.specs.{Print.print, Productions.prime_mark, Tree.Tree, Tree.function, Tree.operator, Weight.weight}
use Rattle.latex2mathml_tokens.specs.{Attributes.accent_text, Attributes.variant_text, Escape.content, Escape.content_char, Names.limit_text}
use Rattle.latex2mathml_tokens.specs.{declared.attribute.Accent.Accent, declared.attribute.Variant.Variant}
use Rattle.latex2mathml_parts.specs.{Parts.arity, Parts.fence_text, Parts.put, Parts.top, declared.kind.Kind.Kind}
use Rattle.latex2mathml_parts.specs.declared.write.shapes.{Operands.Operands, Shape.Shape, Tag.Tag}
use Rattle.latex2mathml_parts.specs.declared.write.shapes.Operands.TheVariants as operands
use Rattle.latex2mathml_parts.specs.declared.write.shapes.Tag.TheVariants as tag

-- a sign over or under a tree
abbrev pub sign_print : ℕ → Accent → List ℕ
sign_print c accent = codes "<mo accent=\"" ++ (accent_text accent ++ (codes "\">" ++ (content_char c ++ codes "</mo>")))

-- how much there is to write of a tree: no more than eight works for it, and for each node and list in it
abbrev pub print_weight : Tree → ℕ
print_weight x = weight x * 8 + 8

-- the same for a tree that comes next, for which no work is left
abbrev pub begun_weight : Tree → ℕ
begun_weight x = weight x * 8 + 7

-- a fence that opens a group, or closes it
abbrev pub fence_open : List ℕ → List ℕ
fence_open text = codes "<mo stretchy=\"true\" form=\"prefix\">" ++ (content text ++ codes "</mo>")

abbrev pub fence_close : List ℕ → List ℕ
fence_close text = codes "<mo stretchy=\"true\" form=\"postfix\">" ++ (content text ++ codes "</mo>")

-- a letter in a style that is named
abbrev pub styled_print : ℕ → Variant → List ℕ
styled_print c variant = codes "<mi mathvariant=\"" ++ (variant_text variant ++ (codes "\">" ++ (content_char c ++ codes "</mi>")))

-- an operator that is not in italics
abbrev pub upright_print : ℕ → List ℕ
upright_print c = codes "<mo>" ++ (content_char c ++ codes "</mo>")

-- the texts that open an element and end it
abbrev pub opening_text : Tag → List ℕ
opening_text tag.Row = codes "<mrow>"
opening_text tag.Sqrt = codes "<msqrt>"
opening_text tag.Sup = codes "<msup>"
opening_text tag.Sub = codes "<msub>"
opening_text tag.Frac = codes "<mfrac>"
opening_text tag.Over = codes "<mover>"
opening_text tag.Under = codes "<munder>"
opening_text tag.Root = codes "<mroot>"
opening_text tag.SubSup = codes "<msubsup>"
opening_text tag.UnderOver = codes "<munderover>"
opening_text tag.Primed = codes "<msup>"
opening_text tag.TwoOver = codes "<mover>"
opening_text tag.TwoUnder = codes "<munder>"
opening_text tag.Matrix = codes "<mtable><mtr><mtd>"
opening_text tag.LeftMatrix = codes "<mtable columnalign=\"left\"><mtr><mtd>"
opening_text tag.RightMatrix = codes "<mtable columnalign=\"right\"><mtr><mtd>"
opening_text tag.Binom = codes "<mrow><mo stretchy=\"true\" form=\"prefix\">(</mo><mfrac linethickness=\"0\">"
opening_text tag.BlockBinom = codes "<mstyle displaystyle=\"true\"><mrow><mrow><mo stretchy=\"true\" form=\"prefix\">(</mo><mfrac linethickness=\"0\">"
opening_text tag.InlineBinom = codes "<mstyle displaystyle=\"false\"><mrow><mrow><mo stretchy=\"true\" form=\"prefix\">(</mo><mfrac linethickness=\"0\">"
opening_text tag.Cell = []
opening_text tag.MatrixRow = []

abbrev pub ending_text : Tag → List ℕ
ending_text tag.Row = codes "</mrow>"
ending_text tag.Sqrt = codes "</msqrt>"
ending_text tag.Sup = codes "</msup>"
ending_text tag.Sub = codes "</msub>"
ending_text tag.Frac = codes "</mfrac>"
ending_text tag.Over = codes "</mover>"
ending_text tag.Under = codes "</munder>"
ending_text tag.Root = codes "</mroot>"
ending_text tag.SubSup = codes "</msubsup>"
ending_text tag.UnderOver = codes "</munderover>"
ending_text tag.Matrix = codes "</mtd></mtr></mtable>"
ending_text tag.LeftMatrix = codes "</mtd></mtr></mtable>"
ending_text tag.RightMatrix = codes "</mtd></mtr></mtable>"
ending_text tag.Cell = codes "</mtd><mtd>"
ending_text tag.MatrixRow = codes "</mtd></mtr><mtr><mtd>"
ending_text tag.Primed = print prime_mark ++ codes "</msup>"
ending_text tag.TwoOver = codes "</mover></mover>"
ending_text tag.TwoUnder = codes "</munder></munder>"
ending_text tag.Binom = codes "</mfrac><mo stretchy=\"true\" form=\"postfix\">)</mo></mrow>"
ending_text tag.BlockBinom = codes "</mfrac><mo stretchy=\"true\" form=\"postfix\">)</mo></mrow></mrow></mstyle>"
ending_text tag.InlineBinom = codes "</mfrac><mo stretchy=\"true\" form=\"postfix\">)</mo></mrow></mrow></mstyle>"

-- what precedes the first operand
abbrev pub opening_print : Tag → Option ℕ → List ℕ
opening_print t None = opening_text t
opening_print t (Some c) = opening_text t ++ print (operator c)

-- how many operands there are
abbrev pub count_of : Operands → ℕ
count_of operands.Two = 2
count_of operands.Swapped = 2
count_of (operands.Labelled c) = 2
count_of o = 1

-- the operands, which are the last of these trees, and what follows them
abbrev pub operands_print : Operands → List ℕ → List Tree → List ℕ → List ℕ
operands_print operands.One tag ts after = print (top ts) ++ after
operands_print operands.Two tag ts after = print (top (drop 1 ts)) ++ (print (top ts) ++ after)
operands_print operands.Swapped tag ts after = print (top ts) ++ (print (top (drop 1 ts)) ++ after)
operands_print (operands.Labelled c) tag ts after = print (top (drop 1 ts)) ++ (tag ++ (print (operator c) ++ (print (top ts) ++ after)))
operands_print (operands.Braced c) tag ts after = print (top ts) ++ (print (operator c) ++ after)
operands_print (operands.Signed c accent) tag ts after = print (top ts) ++ (sign_print c accent ++ after)
operands_print (operands.Named name) tag ts after = print (function (limit_text name)) ++ (print (top ts) ++ after)
operands_print (operands.Fenced opening close) tag ts after = fence_open (fence_text opening) ++ (print (top ts) ++ (fence_close (fence_text close) ++ after))

-- how much there is to write of the operands
abbrev pub operands_weight : Operands → List Tree → ℕ
operands_weight operands.Two ts = print_weight (top (drop 1 ts)) + print_weight (top ts)
operands_weight operands.Swapped ts = print_weight (top (drop 1 ts)) + print_weight (top ts)
operands_weight (operands.Labelled c) ts = print_weight (top (drop 1 ts)) + print_weight (top ts)
operands_weight o ts = print_weight (top ts)

-- the operands of a shape, with what is before and after them
abbrev pub shape_print : Shape → List Tree → List ℕ
shape_print s ts = opening_print s.0 s.1 ++ operands_print s.2 (opening_text s.0) ts (ending_text s.0)

-- a part of this kind has the shape, and more to write than its operands
pub record IsShapeOf (k : Kind) (s : Shape) : Type 0 where
  pub count : count_of s.2 ≡ arity k
  pub markup : (ts : List Tree) → shape_print s ts ≡ print (top (put k ts))
  pub weighs : (ts : List Tree) → operands_weight s.2 ts + 4 ≤ print_weight (top (put k ts))
