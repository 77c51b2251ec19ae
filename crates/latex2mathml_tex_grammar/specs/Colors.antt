-- The colors that authors name: by the names of style sheets, by digits in hexadecimal, or by components in a model, as in
-- `[rgb]1,0.5,0`.
use Rattle.std.specs.Prelude.{ℕ, ◌+◌, ◌*◌, ◌-◌, ◌==◌, ◌||◌, ◌&&◌, Bool, true, false, length, nat_lt, List, [], ◌∷◌, Option, Some, None, codes, if◌then◌else◌, take}
use Rattle.std.specs.{Char.is_ascii_digit, List.after_first, List.before_first, List.list_all, Str.byte, Str.bytes_eq, Str.str_eq_ignore_ascii_case}
use Rattle.latex2mathml_tex_grammar.specs.Lengths.{Length, no_length, rounded, with_all}
use Rattle.latex2mathml_elements.specs.Colors.{Color}
use Rattle.latex2mathml_tex_grammar.specs.Alphabets.{is_between}

-- each name, and how much red, green and blue the color has
unfoldable pub color_entries : List (List ℕ × ℕ × ℕ × ℕ)
color_entries =
    (codes "aliceblue", 0xF0, 0xF8, 0xFF) ∷
    (codes "antiquewhite", 0xFA, 0xEB, 0xD7) ∷
    (codes "aqua", 0x00, 0xFF, 0xFF) ∷
    (codes "aquamarine", 0x7F, 0xFF, 0xD4) ∷
    (codes "azure", 0xF0, 0xFF, 0xFF) ∷
    (codes "beige", 0xF5, 0xF5, 0xDC) ∷
    (codes "bisque", 0xFF, 0xE4, 0xC4) ∷
    (codes "black", 0x00, 0x00, 0x00) ∷
    (codes "blanchedalmond", 0xFF, 0xEB, 0xCD) ∷
    (codes "blue", 0x00, 0x00, 0xFF) ∷
    (codes "blueviolet", 0x8A, 0x2B, 0xE2) ∷
    (codes "brown", 0xA5, 0x2A, 0x2A) ∷
    (codes "burlywood", 0xDE, 0xB8, 0x87) ∷
    (codes "cadetblue", 0x5F, 0x9E, 0xA0) ∷
    (codes "chartreuse", 0x7F, 0xFF, 0x00) ∷
    (codes "chocolate", 0xD2, 0x69, 0x1E) ∷
    (codes "coral", 0xFF, 0x7F, 0x50) ∷
    (codes "cornflowerblue", 0x64, 0x95, 0xED) ∷
    (codes "cornsilk", 0xFF, 0xF8, 0xDC) ∷
    (codes "crimson", 0xDC, 0x14, 0x3C) ∷
    (codes "cyan", 0x00, 0xFF, 0xFF) ∷
    (codes "darkblue", 0x00, 0x00, 0x8B) ∷
    (codes "darkcyan", 0x00, 0x8B, 0x8B) ∷
    (codes "darkgoldenrod", 0xB8, 0x86, 0x0B) ∷
    (codes "darkgray", 0xA9, 0xA9, 0xA9) ∷
    (codes "darkgreen", 0x00, 0x64, 0x00) ∷
    (codes "darkgrey", 0xA9, 0xA9, 0xA9) ∷
    (codes "darkkhaki", 0xBD, 0xB7, 0x6B) ∷
    (codes "darkmagenta", 0x8B, 0x00, 0x8B) ∷
    (codes "darkolivegreen", 0x55, 0x6B, 0x2F) ∷
    (codes "darkorange", 0xFF, 0x8C, 0x00) ∷
    (codes "darkorchid", 0x99, 0x32, 0xCC) ∷
    (codes "darkred", 0x8B, 0x00, 0x00) ∷
    (codes "darksalmon", 0xE9, 0x96, 0x7A) ∷
    (codes "darkseagreen", 0x8F, 0xBC, 0x8F) ∷
    (codes "darkslateblue", 0x48, 0x3D, 0x8B) ∷
    (codes "darkslategray", 0x2F, 0x4F, 0x4F) ∷
    (codes "darkslategrey", 0x2F, 0x4F, 0x4F) ∷
    (codes "darkturquoise", 0x00, 0xCE, 0xD1) ∷
    (codes "darkviolet", 0x94, 0x00, 0xD3) ∷
    (codes "deeppink", 0xFF, 0x14, 0x93) ∷
    (codes "deepskyblue", 0x00, 0xBF, 0xFF) ∷
    (codes "dimgray", 0x69, 0x69, 0x69) ∷
    (codes "dimgrey", 0x69, 0x69, 0x69) ∷
    (codes "dodgerblue", 0x1E, 0x90, 0xFF) ∷
    (codes "firebrick", 0xB2, 0x22, 0x22) ∷
    (codes "floralwhite", 0xFF, 0xFA, 0xF0) ∷
    (codes "forestgreen", 0x22, 0x8B, 0x22) ∷
    (codes "fuchsia", 0xFF, 0x00, 0xFF) ∷
    (codes "gainsboro", 0xDC, 0xDC, 0xDC) ∷
    (codes "ghostwhite", 0xF8, 0xF8, 0xFF) ∷
    (codes "gold", 0xFF, 0xD7, 0x00) ∷
    (codes "goldenrod", 0xDA, 0xA5, 0x20) ∷
    (codes "gray", 0x80, 0x80, 0x80) ∷
    (codes "green", 0x00, 0x80, 0x00) ∷
    (codes "greenyellow", 0xAD, 0xFF, 0x2F) ∷
    (codes "grey", 0x80, 0x80, 0x80) ∷
    (codes "honeydew", 0xF0, 0xFF, 0xF0) ∷
    (codes "hotpink", 0xFF, 0x69, 0xB4) ∷
    (codes "indianred", 0xCD, 0x5C, 0x5C) ∷
    (codes "indigo", 0x4B, 0x00, 0x82) ∷
    (codes "ivory", 0xFF, 0xFF, 0xF0) ∷
    (codes "khaki", 0xF0, 0xE6, 0x8C) ∷
    (codes "lavender", 0xE6, 0xE6, 0xFA) ∷
    (codes "lavenderblush", 0xFF, 0xF0, 0xF5) ∷
    (codes "lawngreen", 0x7C, 0xFC, 0x00) ∷
    (codes "lemonchiffon", 0xFF, 0xFA, 0xCD) ∷
    (codes "lightblue", 0xAD, 0xD8, 0xE6) ∷
    (codes "lightcoral", 0xF0, 0x80, 0x80) ∷
    (codes "lightcyan", 0xE0, 0xFF, 0xFF) ∷
    (codes "lightgoldenrodyellow", 0xFA, 0xFA, 0xD2) ∷
    (codes "lightgray", 0xD3, 0xD3, 0xD3) ∷
    (codes "lightgreen", 0x90, 0xEE, 0x90) ∷
    (codes "lightgrey", 0xD3, 0xD3, 0xD3) ∷
    (codes "lightpink", 0xFF, 0xB6, 0xC1) ∷
    (codes "lightsalmon", 0xFF, 0xA0, 0x7A) ∷
    (codes "lightseagreen", 0x20, 0xB2, 0xAA) ∷
    (codes "lightskyblue", 0x87, 0xCE, 0xFA) ∷
    (codes "lightslategray", 0x77, 0x88, 0x99) ∷
    (codes "lightslategrey", 0x77, 0x88, 0x99) ∷
    (codes "lightsteelblue", 0xB0, 0xC4, 0xDE) ∷
    (codes "lightyellow", 0xFF, 0xFF, 0xE0) ∷
    (codes "lime", 0x00, 0xFF, 0x00) ∷
    (codes "limegreen", 0x32, 0xCD, 0x32) ∷
    (codes "linen", 0xFA, 0xF0, 0xE6) ∷
    (codes "magenta", 0xFF, 0x00, 0xFF) ∷
    (codes "maroon", 0x80, 0x00, 0x00) ∷
    (codes "mediumaquamarine", 0x66, 0xCD, 0xAA) ∷
    (codes "mediumblue", 0x00, 0x00, 0xCD) ∷
    (codes "mediumorchid", 0xBA, 0x55, 0xD3) ∷
    (codes "mediumpurple", 0x93, 0x70, 0xDB) ∷
    (codes "mediumseagreen", 0x3C, 0xB3, 0x71) ∷
    (codes "mediumslateblue", 0x7B, 0x68, 0xEE) ∷
    (codes "mediumspringgreen", 0x00, 0xFA, 0x9A) ∷
    (codes "mediumturquoise", 0x48, 0xD1, 0xCC) ∷
    (codes "mediumvioletred", 0xC7, 0x15, 0x85) ∷
    (codes "midnightblue", 0x19, 0x19, 0x70) ∷
    (codes "mintcream", 0xF5, 0xFF, 0xFA) ∷
    (codes "mistyrose", 0xFF, 0xE4, 0xE1) ∷
    (codes "moccasin", 0xFF, 0xE4, 0xB5) ∷
    (codes "navajowhite", 0xFF, 0xDE, 0xAD) ∷
    (codes "navy", 0x00, 0x00, 0x80) ∷
    (codes "oldlace", 0xFD, 0xF5, 0xE6) ∷
    (codes "olive", 0x80, 0x80, 0x00) ∷
    (codes "olivedrab", 0x6B, 0x8E, 0x23) ∷
    (codes "orange", 0xFF, 0xA5, 0x00) ∷
    (codes "orangered", 0xFF, 0x45, 0x00) ∷
    (codes "orchid", 0xDA, 0x70, 0xD6) ∷
    (codes "palegoldenrod", 0xEE, 0xE8, 0xAA) ∷
    (codes "palegreen", 0x98, 0xFB, 0x98) ∷
    (codes "paleturquoise", 0xAF, 0xEE, 0xEE) ∷
    (codes "palevioletred", 0xDB, 0x70, 0x93) ∷
    (codes "papayawhip", 0xFF, 0xEF, 0xD5) ∷
    (codes "peachpuff", 0xFF, 0xDA, 0xB9) ∷
    (codes "peru", 0xCD, 0x85, 0x3F) ∷
    (codes "pink", 0xFF, 0xC0, 0xCB) ∷
    (codes "plum", 0xDD, 0xA0, 0xDD) ∷
    (codes "powderblue", 0xB0, 0xE0, 0xE6) ∷
    (codes "purple", 0x80, 0x00, 0x80) ∷
    (codes "rebeccapurple", 0x66, 0x33, 0x99) ∷
    (codes "red", 0xFF, 0x00, 0x00) ∷
    (codes "rosybrown", 0xBC, 0x8F, 0x8F) ∷
    (codes "royalblue", 0x41, 0x69, 0xE1) ∷
    (codes "saddlebrown", 0x8B, 0x45, 0x13) ∷
    (codes "salmon", 0xFA, 0x80, 0x72) ∷
    (codes "sandybrown", 0xF4, 0xA4, 0x60) ∷
    (codes "seagreen", 0x2E, 0x8B, 0x57) ∷
    (codes "seashell", 0xFF, 0xF5, 0xEE) ∷
    (codes "sienna", 0xA0, 0x52, 0x2D) ∷
    (codes "silver", 0xC0, 0xC0, 0xC0) ∷
    (codes "skyblue", 0x87, 0xCE, 0xEB) ∷
    (codes "slateblue", 0x6A, 0x5A, 0xCD) ∷
    (codes "slategray", 0x70, 0x80, 0x90) ∷
    (codes "slategrey", 0x70, 0x80, 0x90) ∷
    (codes "snow", 0xFF, 0xFA, 0xFA) ∷
    (codes "springgreen", 0x00, 0xFF, 0x7F) ∷
    (codes "steelblue", 0x46, 0x82, 0xB4) ∷
    (codes "tan", 0xD2, 0xB4, 0x8C) ∷
    (codes "teal", 0x00, 0x80, 0x80) ∷
    (codes "thistle", 0xD8, 0xBF, 0xD8) ∷
    (codes "tomato", 0xFF, 0x63, 0x47) ∷
    (codes "turquoise", 0x40, 0xE0, 0xD0) ∷
    (codes "violet", 0xEE, 0x82, 0xEE) ∷
    (codes "wheat", 0xF5, 0xDE, 0xB3) ∷
    (codes "white", 0xFF, 0xFF, 0xFF) ∷
    (codes "whitesmoke", 0xF5, 0xF5, 0xF5) ∷
    (codes "yellow", 0xFF, 0xFF, 0x00) ∷
    (codes "yellowgreen", 0x9A, 0xCD, 0x32) ∷
    []

-- a color of its three parts
abbrev pub color : ℕ → ℕ → ℕ → Color
color red green blue = record { red = red; green = green; blue = blue }

-- what the first entry of this name says, where the case of letters does not matter
abbrev pub entry_color : List (List ℕ × ℕ × ℕ × ℕ) → List ℕ → Option Color
entry_color [] name = None
entry_color (entry ∷ entries) name = if str_eq_ignore_ascii_case name entry.0 then Some (color entry.1 entry.2 entry.3) else entry_color entries name

-- the color with this name, in letters of either case
unfoldable pub named_color : List ℕ → Option Color
named_color name = entry_color color_entries name

-- Digits in hexadecimal

-- the value of a hexadecimal digit; any other character has no value
abbrev pub digit_value : ℕ → Option ℕ
digit_value c =
    if is_ascii_digit c then Some (c - byte "0")
    else if is_between (byte "a") (byte "f") c then Some (c - byte "a" + 10)
    else if is_between (byte "A") (byte "F") c then Some (c - byte "A" + 10)
    else None

-- a digit before the others, where all of them are digits
abbrev pub with_digit : Option ℕ → Option (List ℕ) → Option (List ℕ)
with_digit (Some d) (Some ds) = Some (d ∷ ds)
with_digit (Some d) None = None
with_digit None ds = None

-- the values of hexadecimal digits, where all characters are such digits
abbrev pub digit_values : List ℕ → Option (List ℕ)
digit_values [] = Some []
digit_values (c ∷ cs) = with_digit (digit_value c) (digit_values cs)

-- two digits for each of red, green and blue, or one, which means two that are alike
abbrev pub color_of_digits : Option (List ℕ) → Option Color
color_of_digits (Some (r ∷ g ∷ b ∷ [])) = Some (color (r * 17) (g * 17) (b * 17))
color_of_digits (Some (r ∷ s ∷ g ∷ h ∷ b ∷ c ∷ [])) = Some (color (r * 16 + s) (g * 16 + h) (b * 16 + c))
color_of_digits ds = None

-- Models

-- a color with these components, if all of them are there
abbrev pub with_components : Option ℕ → Option ℕ → Option ℕ → Option Color
with_components (Some red) (Some green) (Some blue) = Some (color red green blue)
with_components red green blue = None

-- what is before the point of a number, and what is behind it
abbrev pub before_point : List ℕ → List ℕ
before_point = before_first (λ c. c == byte ".")

abbrev pub behind_point : List ℕ → List ℕ
behind_point = after_first (λ c. c == byte ".")

-- whether all of these characters are digits, and whether there is one
abbrev pub are_digits : List ℕ → Bool
are_digits = list_all is_ascii_digit

abbrev pub is_any : List ℕ → Bool
is_any [] = false
is_any (c ∷ cs) = true

-- whether these characters are a number: digits, before which, behind which or among which there may be one point
abbrev pub is_number : List ℕ → Bool
is_number cs = are_digits (before_point cs) && are_digits (behind_point cs) && (is_any (before_point cs) || is_any (behind_point cs))

-- the number that these characters spell, as in lengths; decimals after the fifth make no difference
abbrev pub decimal_of : List ℕ → Length
decimal_of cs = with_all (with_all no_length (before_point cs)) (byte "." ∷ take 5 (behind_point cs))

-- a component, unless it is too large
abbrev pub within_byte : ℕ → Option ℕ
within_byte n = if nat_lt 255 n then None else Some n

-- the component that a number is, where this is the component of one
abbrev pub component_of : ℕ → List ℕ → Option ℕ
component_of one cs = if is_number cs then within_byte (rounded ((decimal_of cs).number * one) (decimal_of cs).scale) else None

-- what is before the first comma, and what is behind it
abbrev pub before_comma : List ℕ → List ℕ
before_comma = before_first (λ c. c == byte ",")

abbrev pub behind_comma : List ℕ → List ℕ
behind_comma = after_first (λ c. c == byte ",")

-- the color of three numbers with commas between them
abbrev pub color_of_three : ℕ → List ℕ → Option Color
color_of_three one cs =
    with_components (component_of one (before_comma cs)) (component_of one (before_comma (behind_comma cs))) (component_of one (behind_comma (behind_comma cs)))

-- the color that has as much of each primary color
abbrev pub gray_of : Option ℕ → Option Color
gray_of gray = with_components gray gray gray

-- the color of components in a model, where there is one
abbrev pub model_color : List ℕ → List ℕ → Option Color
model_color model cs =
    if bytes_eq model (codes "rgb") then color_of_three 255 cs
    else if bytes_eq model (codes "RGB") then color_of_three 1 cs
    else if bytes_eq model (codes "gray") then gray_of (component_of 255 cs)
    else if bytes_eq model (codes "HTML") && length cs == 6 then color_of_digits (digit_values cs)
    else None

-- the color of components behind the name of their model
abbrev pub color_behind_model : List ℕ → Option Color
color_behind_model cs = model_color (before_first (λ c. c == byte "]") cs) (after_first (λ c. c == byte "]") cs)

-- the color that a text names, if it names one
abbrev pub color_of : List ℕ → Option Color
color_of [] = named_color []
color_of (c ∷ name) =
    if c == byte "#" then color_of_digits (digit_values name)
    else if c == byte "[" then color_behind_model name
    else named_color (c ∷ name)
