-- The attributes of signs: what browsers would draw otherwise than TeX.
use Rattle.std.specs.Prelude.{ℕ, ◌==◌, ◌||◌, Bool, true, Some, None, if◌then◌else◌}
use Rattle.latex2mathml_elements.specs.Attributes.{Attributes, Form, Prefix, Postfix, Rigid, NoSpace, Medium, Thick, plain}
use Rattle.latex2mathml_tex_grammar.specs.Symbols.{Class, Ordinary, Operator, Binary, Relation, Opening, Closing, Punctuation, Inner}

-- the signs that MathML stretches, but TeX does not
abbrev pub stretches : ℕ → Bool
stretches c = c == 0x7C || c == 0x2223 || c == 0x2225  -- | ∣ ∥
    || c == 0x2190 || c == 0x2191 || c == 0x2192 || c == 0x2193 || c == 0x2194 || c == 0x2195  -- ← ↑ → ↓ ↔ ↕
    || c == 0x219E || c == 0x21A0 || c == 0x21A2 || c == 0x21A3 || c == 0x21A6 || c == 0x21A9 || c == 0x21AA || c == 0x21AB || c == 0x21AC || c == 0x21B0 || c == 0x21B1  -- ↞ ↠ ↢ ↣ ↦ ↩ ↪ ↫ ↬ ↰ ↱
    || c == 0x21BC || c == 0x21BD || c == 0x21BE || c == 0x21BF || c == 0x21C0 || c == 0x21C1 || c == 0x21C2 || c == 0x21C3  -- ↼ ↽ ↾ ↿ ⇀ ⇁ ⇂ ⇃
    || c == 0x21C4 || c == 0x21C6 || c == 0x21C7 || c == 0x21C8 || c == 0x21C9 || c == 0x21CA || c == 0x21CB || c == 0x21CC  -- ⇄ ⇆ ⇇ ⇈ ⇉ ⇊ ⇋ ⇌
    || c == 0x21D0 || c == 0x21D1 || c == 0x21D2 || c == 0x21D3 || c == 0x21D4 || c == 0x21D5 || c == 0x21DA || c == 0x21DB || c == 0x21E0 || c == 0x21E2  -- ⇐ ⇑ ⇒ ⇓ ⇔ ⇕ ⇚ ⇛ ⇠ ⇢
    || c == 0x27F5 || c == 0x27F6 || c == 0x27F7 || c == 0x27F8 || c == 0x27F9 || c == 0x27FA || c == 0x27FC  -- ⟵ ⟶ ⟷ ⟸ ⟹ ⟺ ⟼

-- the signs around an operand at which browsers leave a space and TeX does not: relations, and signs that browsers do not know
abbrev pub leaves_space : ℕ → Bool
leaves_space c = c == 0x3F || c == 0x2223 || c == 0x2225  -- ? ∣ ∥
    || c == 0x231C || c == 0x231D || c == 0x231E || c == 0x231F  -- ⌜ ⌝ ⌞ ⌟
    || c == 0x23B0 || c == 0x23B1  -- ⎰ ⎱
    || c == 0x250C || c == 0x2510 || c == 0x2514 || c == 0x2518  -- ┌ ┐ └ ┘

-- the attributes of a delimiter outside of `\left` and `\right`: it is not stretched, and has no space if a browser would give it some
abbrev pub delimiter_attributes : Form → ℕ → Attributes
delimiter_attributes form c =
    if leaves_space c
    then record plain { form = Some form; stretch = Some Rigid; space = Some NoSpace }
    else record plain { form = Some form; stretch = Some Rigid }

-- the relations around which browsers leave another space than TeX, in the middle of a row or at its beginning
abbrev pub lacks_thick_space : ℕ → Bool
lacks_thick_space c = c == 0x3A || c == 0x2212 || c == 0x2234 || c == 0x2235 || c == 0x223C || c == 0x2322 || c == 0x2323  -- : − ∴ ∵ ∼ ⌢ ⌣
    || c == 0x25B3 || c == 0x25B6 || c == 0x25C0 || c == 0x29C4 || c == 0x29C5 || c == 0x29C8  -- △ ▶ ◀ ⧄ ⧅ ⧈

-- the attributes of a relation: it has TeX's space also where a browser would give it another, and is not stretched
abbrev pub relation_attributes : ℕ → Attributes
relation_attributes c =
    if lacks_thick_space c then record plain { space = Some Thick }
    else if stretches c then record plain { stretch = Some Rigid }
    else plain

-- the binary signs around which browsers leave another space than TeX: those of products three eighteenths of an em
abbrev pub lacks_medium_space : ℕ → Bool
lacks_medium_space c = c == 0x26 || c == 0xB7 || c == 0xD7 || c == 0x2020 || c == 0x2021  -- & · × † ‡
    || c == 0x2217 || c == 0x2218 || c == 0x2219 || c == 0x2240 || c == 0x2297 || c == 0x2299 || c == 0x229A || c == 0x229B  -- ∗ ∘ ∙ ≀ ⊗ ⊙ ⊚ ⊛
    || c == 0x22A0 || c == 0x22A1 || c == 0x22B2 || c == 0x22B3 || c == 0x22B4 || c == 0x22B5 || c == 0x22BA  -- ⊠ ⊡ ⊲ ⊳ ⊴ ⊵ ⊺
    || c == 0x22C4 || c == 0x22C5 || c == 0x22C6 || c == 0x22C7 || c == 0x22C9 || c == 0x22CA || c == 0x22CB || c == 0x22CC  -- ⋄ ⋅ ⋆ ⋇ ⋉ ⋊ ⋋ ⋌
    || c == 0x22D6 || c == 0x22D7 || c == 0x25B3 || c == 0x25B7 || c == 0x25B9 || c == 0x25BD || c == 0x25C1 || c == 0x25C3  -- ⋖ ⋗ △ ▷ ▹ ▽ ◁ ◃
    || c == 0x25EF || c == 0x29B5 || c == 0x2A3F || c == 0xFE68  -- ◯ ⦵ ⨿ ﹨

-- the binary signs that some browsers draw larger in the style of a block
abbrev pub grows : ℕ → Bool
grows c = c == 0x228E || c == 0x2295 || c == 0x2296 || c == 0x2297 || c == 0x2299  -- ⊎ ⊕ ⊖ ⊗ ⊙

-- the attributes of a binary sign: it has TeX's space, and one size
abbrev pub binary_attributes : ℕ → Attributes
binary_attributes c = record plain { space = if lacks_medium_space c then Some Medium else None; keeps_size = grows c }

-- the attributes of a sign, by its class
abbrev pub sign_attributes : Class → ℕ → Attributes
sign_attributes Ordinary c = record plain { space = Some NoSpace; stretch = Some Rigid }
sign_attributes Opening c = delimiter_attributes Prefix c
sign_attributes Closing c = delimiter_attributes Postfix c
sign_attributes Punctuation c = record plain { separator = true }
sign_attributes Inner c = record plain { space = Some NoSpace }
sign_attributes Operator c = plain
sign_attributes Binary c = binary_attributes c
sign_attributes Relation c = relation_attributes c
