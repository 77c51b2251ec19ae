-- The text of attributes is plain, and is the text of a list of attributes of markup.
use Rattle.std.proofs.Common.{◌≡◌, ℕ, zero, ℤ, pos, negsuc, Bool, true, false, ◌&&◌, ◌==◌, IsTrue, List, [], ◌∷◌, ◌++◌, append_assoc, append-nil, Option, Some, None, refl, arith, codes, map, if◌then◌else◌}
use Rattle.std.specs.{Cmp.Lexicographic.bytes_decides, List.flat_map, List.list_all, Str.byte, Str.bytes_eq}
use Rattle.std.proofs.{lemmas.Grind.flat_map-append, lemmas.List.Folds.list_all-append, lemmas.List.Folds.list_all-map}
use Rattle.latex2mathml_elements.specs.{Attributes.Attributes, Attributes.Boxing, Columns.Alignment, Columns.Column, Columns.Density, Columns.Spacing, Lines.Line, Lines.RowLines}
use Rattle.latex2mathml_elements.specs.Attributes as boxes
use Rattle.latex2mathml_elements.specs.Print.{accent_text, alignment_style, alignment_text, attributes_text, border_style, boxing_text, column_style, column_text, form_text, if_so, lines_text, math_tag, scale_text, size_text, space_text, sides_style, stretch_text, style_text}
use Rattle.latex2mathml_elements.specs.Colors.{Color, color_code, color_text}
use Rattle.latex2mathml_elements.specs.Extents.{Extent, black_text, ems, extent_text, length_if_any, length_text, width_start}
use Rattle.latex2mathml_elements.proofs.Plain.{IsPlain, IsQuotable, color_quotable, ems_quotable, is_plain, name_plain, width_quotable}
use Rattle.latex2mathml_trees.specs.Markup.{Attribute, attribute, plain, is_attribute, is_name, is_part, spell_attribute}
use Rattle.latex2mathml_trees.specs.Width.{width_text}
use Rattle.latex2mathml_trees.proofs.Runs.{plain-spells}

pub record AreSettings (text : List ℕ) : Type 0 where
  pub list : List Attribute
  pub valid : IsTrue (list_all is_attribute list)
  pub spelled : flat_map spell_attribute list ≡ text
  pub plain : IsPlain text

pub nothing : AreSettings []
nothing = record { list = []; valid = refl; spelled = refl; plain = refl }

beside : {a b : List ℕ} → AreSettings a → AreSettings b → AreSettings (a ++ b)
beside x y = record {
  list = x.list ++ y.list;
  valid = grind (arith, list_all-append {X = Attribute}, x.valid, y.valid);
  spelled = rw (flat_map-append spell_attribute, x.spelled, y.spelled) refl;
  plain = grind (arith, list_all-append {X = ℕ}, x.plain, y.plain);
}

-- Attributes whose values are words are found in their text, from its end.

-- the attributes behind a place, which may be in a value, or in a name that has this value
data Found : Type 0 where
  between : List Attribute → Found
  in_value : List ℕ → List Attribute → Found
  in_name : List ℕ → List ℕ → List Attribute → Found

abbrev before : ℕ → Found → Found
before c (between done) = in_value [] done
before c (in_value value done) = if c == byte "\"" then in_name [] value done else in_value (c ∷ value) done
before c (in_name name value done) =
    if c == byte " " then between (attribute name (map plain value) ∷ done)
    else if c == byte "=" then in_name name value done
    else in_name (c ∷ name) value done

abbrev found : List ℕ → Found
found [] = between []
found (c ∷ cs) = before c (found cs)

abbrev attributes_of : Found → List Attribute
attributes_of (between done) = done
attributes_of other = []

abbrev attributes_in : List ℕ → List Attribute
attributes_in text = attributes_of (found text)

-- what is found is what the text spells
abbrev IsSpelled : List ℕ → Type 0
IsSpelled text =
    IsTrue (list_all is_attribute (attributes_in text) && (bytes_eq (flat_map spell_attribute (attributes_in text)) text && list_all is_plain text))

words : (text : List ℕ) → IsSpelled text → AreSettings text
words text h = record {
  list = attributes_in text;
  valid = grind (arith, h);
  spelled = (bytes_decides _ text).0 (grind (arith, h));
  plain = grind (arith, h);
}

-- Attributes with a number or a color

quotable : (text : List ℕ) → IsQuotable text → IsPlain text × IsTrue (list_all (λ b. is_part (plain b)) text)
quotable [] h = (refl, refl)
quotable (b ∷ bs) h = grind (arith, quotable bs)

quoted : (name value unit : List ℕ) → IsTrue (is_name name) → IsQuotable unit → IsQuotable value → AreSettings (codes " " ++ (name ++ (codes "=\"" ++ (value ++ (unit ++ codes "\"")))))
quoted name value unit valid u v =
    let parts = quotable (value ++ unit) (simp (list_all-append, v, u)) in
    record {
      list = attribute name (map plain (value ++ unit)) ∷ [];
      valid = simp (valid, list_all-map is_part plain (value ++ unit), parts.1);
      spelled = simp (append_assoc, append-nil, plain-spells);
      plain = simp (list_all-append, name_plain name valid, (quotable value v).0, (quotable unit u).0);
    }

pub width : (n : ℤ) → AreSettings (width_start n ++ (width_text n ++ codes "em\""))
width (pos n) = quoted (codes "width") (width_text (pos n)) (codes "em") refl refl (width_quotable (pos n))
width (negsuc n) = quoted (codes "style") (codes "margin-left: " ++ width_text (negsuc n)) (codes "em") refl refl (width_quotable (negsuc n))

extent_width : (n : ℤ) → AreSettings (width_start n ++ (ems n ++ codes "em\""))
extent_width (pos n) = quoted (codes "width") (ems (pos n)) (codes "em") refl refl (ems_quotable (pos n))
extent_width (negsuc n) = quoted (codes "style") (codes "margin-left: " ++ ems (negsuc n)) (codes "em") refl refl (ems_quotable (negsuc n))

measure : (name : List ℕ) → IsTrue (is_name name) → (n : ℤ) → AreSettings (length_text name n)
measure name valid n = quoted name (ems n) (codes "em") valid refl (ems_quotable n)

measure_if_any : (name : List ℕ) → IsTrue (is_name name) → (n : ℤ) → AreSettings (length_if_any name n)
measure_if_any name valid (pos zero) = nothing
measure_if_any name valid n = measure name valid n

color : (name : List ℕ) → IsTrue (is_name name) → (c : Option Color) → AreSettings (color_text name c)
color name valid None = nothing
color name valid (Some c) = quoted name (color_code c) [] valid refl (color_quotable c)

boxing : (change : Option Boxing) → AreSettings (boxing_text change)
boxing None = nothing
boxing (Some boxes.NoWidth) = words _ refl
boxing (Some boxes.Flat) = words _ refl
boxing (Some boxes.NoHeight) = words _ refl
boxing (Some boxes.NoDepth) = words _ refl
boxing (Some boxes.ByItsWidth) = words _ refl
boxing (Some boxes.ByHalfItsWidth) = words _ refl
boxing (Some boxes.Framed) = words _ refl
boxing (Some boxes.StruckUp) = words _ refl
boxing (Some boxes.StruckDown) = words _ refl
boxing (Some boxes.StruckTwice) = words _ refl
boxing (Some boxes.NullDelimiters) = words _ refl
boxing (Some boxes.ArrowLabel) = words _ refl
boxing (Some boxes.Unclipped) = words _ refl
boxing (Some boxes.Monospaced) = words _ refl
boxing (Some boxes.JoinedLines) = words _ refl
boxing (Some (boxes.AtMost width)) =
    quoted (codes "style") (codes "max-width: " ++ ems (pos width)) (codes "em") refl refl (ems_quotable (pos width))

scale : (size : Option ℕ) → AreSettings (scale_text size)
scale None = nothing
scale (Some size) = measure (codes "mathsize") refl (pos size)

pub settings : (a : Attributes) → AreSettings (attributes_text a)
settings a =
    beside (words (if_so a.upright (codes " mathvariant=\"normal\"")) (grind arith))
    (beside (words (form_text a.form) (grind arith))
    (beside (words (stretch_text a.stretch) (grind arith))
    (beside (words (if_so a.fence (codes " fence=\"true\"")) (grind arith))
    (beside (words (if_so a.separator (codes " separator=\"true\"")) (grind arith))
    (beside (words (size_text a.size) (grind arith))
    (beside (words (space_text a.space) (grind arith))
    (beside (words (if_so a.limits_stay (codes " movablelimits=\"false\"")) (grind arith))
    (beside (words (if_so a.keeps_size (codes " largeop=\"false\"")) (grind arith))
    (beside (words (accent_text a.accent) (grind arith))
    (beside (words (if_so a.no_line (codes " linethickness=\"0\"")) (grind arith))
    (beside (words (style_text a.style) (grind arith))
    (beside (boxing a.boxing)
    (beside (measure_if_any (codes "voffset") refl a.raised)
    (beside (scale a.scale)
    (beside (color (codes "mathcolor") refl a.color)
    (color (codes "mathbackground") refl a.background))))))))))))))))

alignment_quotable : (alignment : Alignment) → IsQuotable (alignment_style alignment)
alignment_quotable alignment = grind arith

sides_quotable : (density : Density) (spacing : Spacing) → IsQuotable (sides_style density spacing)
sides_quotable density spacing = grind arith

before_quotable : (line : Line) → IsQuotable (border_style (codes "left") line)
before_quotable line = grind arith

after_quotable : (line : Line) → IsQuotable (border_style (codes "right") line)
after_quotable line = grind arith

column_quotable : (c : Column) → IsQuotable (column_style c)
column_quotable c = simp (list_all-append, alignment_quotable c.alignment, sides_quotable c.density c.spacing, before_quotable c.before, after_quotable c.after)

pub column : (c : Column) → AreSettings (column_text c)
column c = beside (words (alignment_text c.alignment) (grind arith)) (quoted (codes "style") (column_style c) [] refl refl (column_quotable c))

pub row : (lines : RowLines) → AreSettings (lines_text lines)
row lines = words (lines_text lines) (grind arith)

pub extent : (e : Extent) → AreSettings (extent_text e)
extent e =
    beside (extent_width e.width)
    (beside (measure_if_any (codes "height") refl e.height)
    (beside (measure_if_any (codes "depth") refl e.depth)
    (words (black_text e.is_black) (grind arith))))

-- the attributes of a formula
pub math : (is_display : Bool) → (text : List ℕ) × AreSettings text × (codes "<math" ++ (text ++ codes ">") ≡ math_tag is_display)
math true = (codes " xmlns=\"http://www.w3.org/1998/Math/MathML\" display=\"block\"", words _ refl, refl)
math false = (codes " xmlns=\"http://www.w3.org/1998/Math/MathML\" display=\"inline\"", words _ refl, refl)
