-- The markup of a tree.
use Rattle.std.specs.Prelude.{ℕ, List, [], ◌++◌, Option, Some, None, if◌then◌else◌, ◌==◌, codes}
use Rattle.latex2mathml_tokens.specs.Attributes.{accent_text, align_text, bool_text, thickness_text, variant_text}
use Rattle.latex2mathml_tokens.specs.Escape.{content, content_char, quoted, value}
use Rattle.latex2mathml_trees.specs.Tree.{Tree, Trees, number, letter, operator, function, applied, space, subscript, superscript, sub_sup, over_op, under_op, overset, underset, under, under_over, root, sqrt, frac, row, fenced, stretched, other_operator, sized_paren, words, matrix, ampersand, new_line, slashed, style, undefined, no_trees, more_trees}
use Rattle.latex2mathml_trees.specs.Width.{width_text}
use Rattle.latex2mathml_tokens.specs.declared.DisplayStyle.{DisplayStyle}
use Rattle.latex2mathml_tokens.specs.declared.DisplayStyle.TheVariants.{Block, Inline}
use Rattle.latex2mathml_tokens.specs.{declared.attribute.Variant.Variant, declared.attribute.Variant.TheVariants.Italic}

-- a letter; italic is the browser's default
abbrev pub letter_print : ℕ → Variant → List ℕ
letter_print c Italic = codes "<mi>" ++ (content_char c ++ codes "</mi>")
letter_print c variant = codes "<mi mathvariant=\"" ++ (variant_text variant ++ (codes "\">" ++ (content_char c ++ codes "</mi>")))

-- the sign of the partial derivative
abbrev pub partial_derivative : ℕ
partial_derivative = 0x2202  -- ∂

-- an operator; only the sign of the partial derivative is italic
abbrev pub operator_print : ℕ → List ℕ
operator_print c =
    if c == partial_derivative then codes "<mo mathvariant=\"italic\">" ++ (content_char partial_derivative ++ codes "</mo>") else codes "<mo>" ++ (content_char c ++ codes "</mo>")

-- what could not be read, marked as an error
abbrev pub error_print : List ℕ → List ℕ
error_print text = codes "<mtext>[PARSE ERROR: " ++ (content text ++ codes "]</mtext>")

-- a tree with a slash, given its own print: a letter and an operator take the slash, and no other tree does
abbrev pub slashed_print : Tree → List ℕ → List ℕ
slashed_print (letter c variant) own = codes "<mi mathvariant=\"" ++ (variant_text variant ++ (codes "\">" ++ (content_char c ++ codes "&#x0338;</mi>")))
slashed_print (operator c) own = codes "<mo>" ++ (content_char c ++ codes "&#x0338;</mo>")
slashed_print x own = own

-- a member of a matrix, given its own print: a new line ends the row, and an ampersand ends the cell
abbrev pub member_print : Tree → List ℕ → List ℕ
member_print new_line own = codes "</mtd></mtr><mtr><mtd>"
member_print ampersand own = codes "</mtd><mtd>"
member_print x own = own

-- the start tag of an `mstyle` element
abbrev pub style_open : Option DisplayStyle → List ℕ
style_open None = codes "<mstyle>"
style_open (Some Block) = codes "<mstyle displaystyle=\"true\">"
style_open (Some Inline) = codes "<mstyle displaystyle=\"false\">"

abbrev mutual
  pub print : Tree → List ℕ
  print (number digits) = codes "<mn>" ++ (content digits ++ codes "</mn>")
  print (letter c variant) = letter_print c variant
  print (operator c) = operator_print c
  print (function name) = codes "<mi>" ++ (content name ++ codes "</mi>")
  print (applied name x) = codes "<mi>" ++ (content name ++ (codes "</mi><mo>&#x2061;</mo>" ++ print x))
  print (space width) = codes "<mspace width=\"" ++ (width_text width ++ codes "em\"/>")
  print (subscript target sub) = codes "<msub>" ++ (print target ++ (print sub ++ codes "</msub>"))
  print (superscript target sup) = codes "<msup>" ++ (print target ++ (print sup ++ codes "</msup>"))
  print (sub_sup target sub sup) = codes "<msubsup>" ++ (print target ++ (print sub ++ (print sup ++ codes "</msubsup>")))
  print (over_op c accent x) = codes "<mover>" ++ (print x ++ (codes "<mo accent=\"" ++ (accent_text accent ++ (codes "\">" ++ (content_char c ++ codes "</mo></mover>")))))
  print (under_op c accent x) = codes "<munder>" ++ (print x ++ (codes "<mo accent=\"" ++ (accent_text accent ++ (codes "\">" ++ (content_char c ++ codes "</mo></munder>")))))
  print (overset above target) = codes "<mover>" ++ (print target ++ (print above ++ codes "</mover>"))
  print (underset below target) = codes "<munder>" ++ (print target ++ (print below ++ codes "</munder>"))
  print (under target below) = codes "<munder>" ++ (print target ++ (print below ++ codes "</munder>"))
  print (under_over target below above) = codes "<munderover>" ++ (print target ++ (print below ++ (print above ++ codes "</munderover>")))
  print (root degree x) = codes "<mroot>" ++ (print x ++ (print degree ++ codes "</mroot>"))
  print (sqrt x) = codes "<msqrt>" ++ (print x ++ codes "</msqrt>")
  print (frac numerator denominator thickness) = codes "<mfrac" ++ (thickness_text thickness ++ (codes ">" ++ (print numerator ++ (print denominator ++ codes "</mfrac>"))))
  print (row members) = codes "<mrow>" ++ (prints members ++ codes "</mrow>")
  print (fenced opening close x) = codes "<mrow><mo stretchy=\"true\" form=\"prefix\">" ++ (content opening ++ (codes "</mo>" ++ (print x ++ (codes "<mo stretchy=\"true\" form=\"postfix\">" ++ (content close ++ codes "</mo></mrow>")))))
  print (stretched is_stretchy text) = codes "<mo stretchy=\"" ++ (bool_text is_stretchy ++ (codes "\">" ++ (content text ++ codes "</mo>")))
  print (other_operator text) = codes "<mo>" ++ (content text ++ codes "</mo>")
  print (sized_paren size paren) = codes "<mrow><mo maxsize=\"" ++ (value size ++ (codes "\" minsize=\"" ++ (value size ++ (codes "\">" ++ (content paren ++ codes "</mo></mrow>")))))
  print (words text) = codes "<mtext>" ++ (content text ++ codes "</mtext>")
  print (matrix members align) = codes "<mtable" ++ (align_text align ++ (codes "><mtr><mtd>" ++ (members_print members ++ codes "</mtd></mtr></mtable>")))
  print ampersand = error_print (codes "Ampersand")
  print new_line = error_print (codes "NewLine")
  print (slashed x) = slashed_print x (print x)
  print (style display x) = style_open display ++ (print x ++ codes "</mstyle>")
  print (undefined text) = error_print (codes "Undefined(" ++ (quoted text ++ codes ")"))

  -- the members' prints in order
  pub prints : Trees → List ℕ
  prints no_trees = []
  prints (more_trees x rest) = print x ++ prints rest

  pub members_print : Trees → List ℕ
  members_print no_trees = []
  members_print (more_trees x rest) = member_print x (print x) ++ members_print rest
