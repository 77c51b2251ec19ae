-- Plain texts: printable ASCII characters, except for the dollar sign. Names of elements are plain, and so are numbers and
-- colors, which are values of attributes as they are.
use Rattle.std.proofs.Common.{ℕ, suc, ℤ, pos, negsuc, ◌+◌, ◌<◌, Bool, ◌&&◌, ◌==◌, not, IsTrue, List, [], ◌∷◌, refl, arith, codes, nat_lt}
use Rattle.std.proofs.{lemmas.Bool.Decides.nat_tests}
use Rattle.std.specs.{List.list_all, Str.byte}
use Rattle.latex2mathml_elements.specs.Colors.{Color, color_code, hexadecimal}
use Rattle.latex2mathml_elements.specs.Element.{Element, token, space, rectangle, container, pair, triple, table}
use Rattle.latex2mathml_elements.specs.{Extents.ems, Print.container_name, Print.pair_name, Print.token_name, Print.triple_name}
use Rattle.latex2mathml_trees.specs.Markup.{Name, plain, is_name, is_part}
use Rattle.latex2mathml_trees.specs.Width.{width_text}
use Rattle.latex2mathml_trees.proofs.ValueTexts.{thousandths_pass, width_passes}

-- the printable ASCII characters, except for the dollar sign
abbrev pub is_plain : ℕ → Bool
is_plain b = nat_lt 0x1F b && nat_lt b 0x7F && not (b == byte "$")

-- the text is of such characters
abbrev pub IsPlain : List ℕ → Type 0
IsPlain text = IsTrue (list_all is_plain text)

abbrev pub called : Element → Name
called (token t a text) = token_name t
called (space width) = codes "mspace"
called (rectangle e) = codes "mspace"
called (container c a xs) = container_name c
called (pair p a x y) = pair_name p
called (triple t a x y z) = triple_name t
called (table a rows) = codes "mtable"

pub name_valid : (x : Element) → IsTrue (is_name (called x))
name_valid x = grind arith

pub name_plain : (name : Name) → IsTrue (is_name name) → IsPlain name
name_plain [] h = refl
name_plain (b ∷ []) h = grind (arith, nat_tests)
name_plain (b ∷ c ∷ name) h = grind (arith, nat_tests, name_plain (c ∷ name))

-- a plain character that is a part of a value as it is
abbrev pub is_quotable : ℕ → Bool
is_quotable b = is_plain b && is_part (plain b)

abbrev pub IsQuotable : List ℕ → Type 0
IsQuotable text = IsTrue (list_all is_quotable text)

digit : (d : ℕ) → d < 10 → IsTrue (is_quotable (48 + d))
digit d h = grind (arith, nat_tests)

pub width_quotable : (n : ℤ) → IsQuotable (width_text n)
width_quotable = width_passes is_quotable digit refl refl

pub ems_quotable : (n : ℤ) → IsQuotable (ems n)
ems_quotable (pos n) = thousandths_pass is_quotable digit refl n
ems_quotable (negsuc n) = thousandths_pass is_quotable digit refl (suc n)

hexadecimal_digit : (d : ℕ) → d < 16 → IsTrue (is_quotable (hexadecimal d))
hexadecimal_digit d h = grind (arith, nat_tests)

pub color_quotable : (c : Color) → IsQuotable (color_code c)
color_quotable c = grind (arith, hexadecimal_digit)
