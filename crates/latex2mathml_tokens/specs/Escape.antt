-- How a text is written in markup, and in quotes. Only ASCII characters are escaped, and no byte of another character is
-- ASCII, so what holds of bytes holds of characters.
use Rattle.std.specs.Prelude.{ℕ, Bool, ◌||◌, List, [], ◌∷◌, ◌++◌, if◌then◌else◌, ◌==◌, codes}
use Rattle.std.specs.{List.flat_map, Char.encode_utf8, Str.byte}

-- whether contents have a reference in place of this byte or character
abbrev pub is_escaped : ℕ → Bool
is_escaped c = c == byte "&" || c == byte "<" || c == byte ">" || c == byte "$"

-- a byte of contents
abbrev pub content_byte : ℕ → List ℕ
content_byte b =
    if b == byte "&" then codes "&amp;" else (if b == byte "<" then codes "&lt;" else (if b == byte ">" then codes "&gt;" else (if b == byte "$" then codes "&#x24;" else b ∷ [])))

-- a byte of an attribute's value: the quotation mark is escaped as well, and the dollar sign is not
abbrev pub value_byte : ℕ → List ℕ
value_byte b = if b == byte "\"" then codes "&quot;" else (if b == byte "$" then codes "$" else content_byte b)

-- a text as contents
abbrev pub content : List ℕ → List ℕ
content = flat_map content_byte

-- a text as an attribute's value
abbrev pub value : List ℕ → List ℕ
value = flat_map value_byte

-- a character as contents
abbrev pub content_char : ℕ → List ℕ
content_char c = content (encode_utf8 c)

-- a byte of a text in quotes: a backslash precedes each quotation mark and each backslash
abbrev pub quoted_byte : ℕ → List ℕ
quoted_byte b = if b == byte "\"" then codes "\\\"" else (if b == byte "\\" then codes "\\\\" else b ∷ [])

-- a text in quotes
abbrev pub quoted : List ℕ → List ℕ
quoted text = codes "\"" ++ (flat_map quoted_byte text ++ codes "\"")

-- a character in apostrophes, with a backslash before an apostrophe and before a backslash
abbrev pub quoted_char : ℕ → List ℕ
quoted_char c =
    if c == byte "'" then codes "'\\''" else (if c == byte "\\" then codes "'\\\\'" else codes "'" ++ (encode_utf8 c ++ codes "'"))
