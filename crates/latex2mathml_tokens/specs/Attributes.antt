-- The texts of attributes.
use Rattle.std.specs.Prelude.{ℕ, Bool, true, false, List, [], ◌++◌, codes}
use Rattle.std.specs.Fmt.{decimal}
use Rattle.latex2mathml_tokens.specs.declared.DisplayStyle.{DisplayStyle}
use Rattle.latex2mathml_tokens.specs.declared.DisplayStyle.TheVariants.{Block, Inline}
use Rattle.latex2mathml_tokens.specs.{declared.attribute.Variant.Variant, declared.attribute.Accent.Accent}
use Rattle.latex2mathml_tokens.specs.declared.attribute.Variant.TheVariants.{Normal, Italic, Bold, BoldItalic, DoubleStruck, BoldFraktur, Script, BoldScript, Fraktur, SansSerif, BoldSansSerif, SansSerifItalic, SansSerifBoldItalic, Monospace}
use Rattle.latex2mathml_tokens.specs.declared.attribute.Accent.TheVariants.{True, False}
use Rattle.latex2mathml_tokens.specs.{declared.attribute.LineThickness.LineThickness, declared.attribute.ColumnAlign.ColumnAlign}
use Rattle.latex2mathml_tokens.specs.declared.attribute.LineThickness.TheVariants.{Thin, Medium, Thick, Length}
use Rattle.latex2mathml_tokens.specs.declared.attribute.ColumnAlign.TheVariants.{Center, Left, Right}

-- the value of `mathvariant`
abbrev pub variant_text : Variant → List ℕ
variant_text Normal = codes "normal"
variant_text Italic = codes "italic"
variant_text Bold = codes "bold"
variant_text BoldItalic = codes "bold-italic"
variant_text DoubleStruck = codes "double-struck"
variant_text BoldFraktur = codes "bold-fraktur"
variant_text Script = codes "script"
variant_text BoldScript = codes "bold-script"
variant_text Fraktur = codes "fraktur"
variant_text SansSerif = codes "sans-serif"
variant_text BoldSansSerif = codes "bold-sans-serif"
variant_text SansSerifItalic = codes "sans-serif-italic"
variant_text SansSerifBoldItalic = codes "sans-serif-bold-italic"
variant_text Monospace = codes "monospace"

-- the value of `accent`
abbrev pub accent_text : Accent → List ℕ
accent_text True = codes "true"
accent_text False = codes "false"

-- the value of `display`
abbrev pub display_text : DisplayStyle → List ℕ
display_text Block = codes "block"
display_text Inline = codes "inline"

-- the value of `stretchy`
abbrev pub bool_text : Bool → List ℕ
bool_text true = codes "true"
bool_text false = codes "false"

-- the whole attribute of a fraction, with the space before it, or nothing
abbrev pub thickness_text : LineThickness → List ℕ
thickness_text Thin = codes " linethickness=\"thin\""
thickness_text Medium = []
thickness_text Thick = codes " linethickness=\"thick\""
thickness_text (Length length) = codes " linethickness=\"" ++ (decimal length ++ codes "\"")

-- the whole attribute of a table, with the space before it, or nothing
abbrev pub align_text : ColumnAlign → List ℕ
align_text Center = []
align_text Left = codes " columnalign=\"left\""
align_text Right = codes " columnalign=\"right\""
