-- The delimiters, and the relations that have a sign of their own when negated. A name is its bytes, without the
-- backslash; a character is its code point, and is also shown after its line.
use Rattle.std.specs.Prelude.{ℕ, ◌==◌, List, [], ◌∷◌, Option, Some, None, codes, if◌then◌else◌}
use Rattle.std.specs.Str.{byte, bytes_eq, encode_utf8_all}
use Rattle.latex2mathml_tex_grammar.specs.Units.{Piece, Command, Character}

-- the commands that are delimiters
unfoldable pub delimiter_commands : List (List ℕ × ℕ)
delimiter_commands =
    (codes "Darr", 0x21D3) ∷  -- ⇓
    (codes "Downarrow", 0x21D3) ∷  -- ⇓
    (codes "Uarr", 0x21D1) ∷  -- ⇑
    (codes "Uparrow", 0x21D1) ∷  -- ⇑
    (codes "Updownarrow", 0x21D5) ∷  -- ⇕
    (codes "Vert", 0x2016) ∷  -- ‖
    (codes "backslash", 0x5C) ∷  -- \
    (codes "dArr", 0x21D3) ∷  -- ⇓
    (codes "darr", 0x2193) ∷  -- ↓
    (codes "downarrow", 0x2193) ∷  -- ↓
    (codes "gt", 0x27E9) ∷  -- ⟩
    (codes "lBrace", 0x2983) ∷  -- ⦃
    (codes "lVert", 0x2016) ∷  -- ‖
    (codes "lang", 0x27E8) ∷  -- ⟨
    (codes "langle", 0x27E8) ∷  -- ⟨
    (codes "lbrace", 0x7B) ∷  -- {
    (codes "lbrack", 0x5B) ∷  -- [
    (codes "lceil", 0x2308) ∷  -- ⌈
    (codes "lfloor", 0x230A) ∷  -- ⌊
    (codes "lgroup", 0x27EE) ∷  -- ⟮
    (codes "llbracket", 0x27E6) ∷  -- ⟦
    (codes "lmoustache", 0x23B0) ∷  -- ⎰
    (codes "lparen", 0x28) ∷  -- (
    (codes "lt", 0x27E8) ∷  -- ⟨
    (codes "lvert", 0x7C) ∷  -- |
    (codes "rBrace", 0x2984) ∷  -- ⦄
    (codes "rVert", 0x2016) ∷  -- ‖
    (codes "rang", 0x27E9) ∷  -- ⟩
    (codes "rangle", 0x27E9) ∷  -- ⟩
    (codes "rbrace", 0x7D) ∷  -- }
    (codes "rbrack", 0x5D) ∷  -- ]
    (codes "rceil", 0x2309) ∷  -- ⌉
    (codes "rfloor", 0x230B) ∷  -- ⌋
    (codes "rgroup", 0x27EF) ∷  -- ⟯
    (codes "rmoustache", 0x23B1) ∷  -- ⎱
    (codes "rparen", 0x29) ∷  -- )
    (codes "rrbracket", 0x27E7) ∷  -- ⟧
    (codes "rvert", 0x7C) ∷  -- |
    (codes "uArr", 0x21D1) ∷  -- ⇑
    (codes "uarr", 0x2191) ∷  -- ↑
    (codes "ulcorner", 0x231C) ∷  -- ⌜
    (codes "uparrow", 0x2191) ∷  -- ↑
    (codes "updownarrow", 0x2195) ∷  -- ↕
    (codes "urcorner", 0x231D) ∷  -- ⌝
    (codes "vert", 0x7C) ∷  -- |
    (codes "{", 0x7B) ∷  -- {
    (codes "|", 0x2016) ∷  -- ‖
    (codes "}", 0x7D) ∷  -- }
    []

-- the characters that are delimiters
unfoldable pub delimiter_characters : List (ℕ × ℕ)
delimiter_characters =
    (0x28, 0x28) ∷  -- (
    (0x29, 0x29) ∷  -- )
    (0x2F, 0x2F) ∷  -- /
    (0x3C, 0x27E8) ∷  -- < is ⟨
    (0x3E, 0x27E9) ∷  -- > is ⟩
    (0x5B, 0x5B) ∷  -- [
    (0x5D, 0x5D) ∷  -- ]
    (0x7C, 0x7C) ∷  -- |
    (0x2308, 0x2308) ∷  -- ⌈
    (0x2309, 0x2309) ∷  -- ⌉
    (0x230A, 0x230A) ∷  -- ⌊
    (0x230B, 0x230B) ∷  -- ⌋
    (0x23B0, 0x23B0) ∷  -- ⎰
    (0x23B1, 0x23B1) ∷  -- ⎱
    (0x27E8, 0x27E8) ∷  -- ⟨
    (0x27E9, 0x27E9) ∷  -- ⟩
    (0x27EE, 0x27EE) ∷  -- ⟮
    (0x27EF, 0x27EF) ∷  -- ⟯
    []

-- the commands that have a negated sign of their own
unfoldable pub negated_commands : List (List ℕ × ℕ)
negated_commands =
    (codes "Harr", 0x21CE) ∷  -- ⇎
    (codes "Larr", 0x21CD) ∷  -- ⇍
    (codes "Leftarrow", 0x21CD) ∷  -- ⇍
    (codes "Leftrightarrow", 0x21CE) ∷  -- ⇎
    (codes "Lrarr", 0x21CE) ∷  -- ⇎
    (codes "Rarr", 0x21CF) ∷  -- ⇏
    (codes "Rightarrow", 0x21CF) ∷  -- ⇏
    (codes "Vdash", 0x22AE) ∷  -- ⊮
    (codes "approx", 0x2249) ∷  -- ≉
    (codes "asymp", 0x226D) ∷  -- ≭
    (codes "cong", 0x2247) ∷  -- ≇
    (codes "equiv", 0x2262) ∷  -- ≢
    (codes "exist", 0x2204) ∷  -- ∄
    (codes "exists", 0x2204) ∷  -- ∄
    (codes "ge", 0x2271) ∷  -- ≱
    (codes "geq", 0x2271) ∷  -- ≱
    (codes "gets", 0x219A) ∷  -- ↚
    (codes "gt", 0x226F) ∷  -- ≯
    (codes "gtrless", 0x2279) ∷  -- ≹
    (codes "gtrsim", 0x2275) ∷  -- ≵
    (codes "hArr", 0x21CE) ∷  -- ⇎
    (codes "harr", 0x21AE) ∷  -- ↮
    (codes "iff", 0x21CE) ∷  -- ⇎
    (codes "impliedby", 0x21CD) ∷  -- ⇍
    (codes "implies", 0x21CF) ∷  -- ⇏
    (codes "in", 0x2209) ∷  -- ∉
    (codes "isin", 0x2209) ∷  -- ∉
    (codes "lArr", 0x21CD) ∷  -- ⇍
    (codes "larr", 0x219A) ∷  -- ↚
    (codes "le", 0x2270) ∷  -- ≰
    (codes "leftarrow", 0x219A) ∷  -- ↚
    (codes "leftrightarrow", 0x21AE) ∷  -- ↮
    (codes "leq", 0x2270) ∷  -- ≰
    (codes "lessgtr", 0x2278) ∷  -- ≸
    (codes "lesssim", 0x2274) ∷  -- ≴
    (codes "lrArr", 0x21CE) ∷  -- ⇎
    (codes "lrarr", 0x21AE) ∷  -- ↮
    (codes "lt", 0x226E) ∷  -- ≮
    (codes "mid", 0x2224) ∷  -- ∤
    (codes "models", 0x22AD) ∷  -- ⊭
    (codes "ni", 0x220C) ∷  -- ∌
    (codes "owns", 0x220C) ∷  -- ∌
    (codes "parallel", 0x2226) ∷  -- ∦
    (codes "prec", 0x2280) ∷  -- ⊀
    (codes "preccurlyeq", 0x22E0) ∷  -- ⋠
    (codes "rArr", 0x21CF) ∷  -- ⇏
    (codes "rarr", 0x219B) ∷  -- ↛
    (codes "rightarrow", 0x219B) ∷  -- ↛
    (codes "shortmid", 0x2224) ∷  -- ∤
    (codes "shortparallel", 0x2226) ∷  -- ∦
    (codes "sim", 0x2241) ∷  -- ≁
    (codes "simeq", 0x2244) ∷  -- ≄
    (codes "sqsubseteq", 0x22E2) ∷  -- ⋢
    (codes "sqsupseteq", 0x22E3) ∷  -- ⋣
    (codes "sub", 0x2284) ∷  -- ⊄
    (codes "sube", 0x2288) ∷  -- ⊈
    (codes "subset", 0x2284) ∷  -- ⊄
    (codes "subseteq", 0x2288) ∷  -- ⊈
    (codes "succ", 0x2281) ∷  -- ⊁
    (codes "succcurlyeq", 0x22E1) ∷  -- ⋡
    (codes "supe", 0x2289) ∷  -- ⊉
    (codes "supset", 0x2285) ∷  -- ⊅
    (codes "supseteq", 0x2289) ∷  -- ⊉
    (codes "thickapprox", 0x2249) ∷  -- ≉
    (codes "thicksim", 0x2241) ∷  -- ≁
    (codes "to", 0x219B) ∷  -- ↛
    (codes "trianglelefteq", 0x22EC) ∷  -- ⋬
    (codes "trianglerighteq", 0x22ED) ∷  -- ⋭
    (codes "vDash", 0x22AD) ∷  -- ⊭
    (codes "vartriangleleft", 0x22EA) ∷  -- ⋪
    (codes "vartriangleright", 0x22EB) ∷  -- ⋫
    (codes "vdash", 0x22AC) ∷  -- ⊬
    []

-- the characters that have a negated sign of their own
unfoldable pub negated_characters : List (ℕ × ℕ)
negated_characters =
    (0x3C, 0x226E) ∷  -- ≮
    (0x3D, 0x2260) ∷  -- ≠
    (0x3E, 0x226F) ∷  -- ≯
    (0x2190, 0x219A) ∷  -- ↚
    (0x2192, 0x219B) ∷  -- ↛
    (0x2194, 0x21AE) ∷  -- ↮
    (0x21D0, 0x21CD) ∷  -- ⇍
    (0x21D2, 0x21CF) ∷  -- ⇏
    (0x21D4, 0x21CE) ∷  -- ⇎
    (0x2203, 0x2204) ∷  -- ∄
    (0x2208, 0x2209) ∷  -- ∉
    (0x220B, 0x220C) ∷  -- ∌
    (0x2223, 0x2224) ∷  -- ∤
    (0x2225, 0x2226) ∷  -- ∦
    (0x223C, 0x2241) ∷  -- ≁
    (0x2243, 0x2244) ∷  -- ≄
    (0x2245, 0x2247) ∷  -- ≇
    (0x2248, 0x2249) ∷  -- ≉
    (0x224D, 0x226D) ∷  -- ≭
    (0x2261, 0x2262) ∷  -- ≢
    (0x2264, 0x2270) ∷  -- ≰
    (0x2265, 0x2271) ∷  -- ≱
    (0x2272, 0x2274) ∷  -- ≴
    (0x2273, 0x2275) ∷  -- ≵
    (0x2276, 0x2278) ∷  -- ≸
    (0x2277, 0x2279) ∷  -- ≹
    (0x227A, 0x2280) ∷  -- ⊀
    (0x227B, 0x2281) ∷  -- ⊁
    (0x227C, 0x22E0) ∷  -- ⋠
    (0x227D, 0x22E1) ∷  -- ⋡
    (0x2282, 0x2284) ∷  -- ⊄
    (0x2283, 0x2285) ∷  -- ⊅
    (0x2286, 0x2288) ∷  -- ⊈
    (0x2287, 0x2289) ∷  -- ⊉
    (0x2291, 0x22E2) ∷  -- ⋢
    (0x2292, 0x22E3) ∷  -- ⋣
    (0x22A2, 0x22AC) ∷  -- ⊬
    (0x22A8, 0x22AD) ∷  -- ⊭
    (0x22A9, 0x22AE) ∷  -- ⊮
    (0x22AB, 0x22AF) ∷  -- ⊯
    (0x22B2, 0x22EA) ∷  -- ⋪
    (0x22B3, 0x22EB) ∷  -- ⋫
    (0x22B4, 0x22EC) ∷  -- ⋬
    (0x22B5, 0x22ED) ∷  -- ⋭
    []

-- the character of the entry with this name, where there is one
abbrev pub entry_of_name : List (List ℕ × ℕ) → List ℕ → Option ℕ
entry_of_name [] name = None
entry_of_name (entry ∷ entries) name = if bytes_eq entry.0 name then Some entry.1 else entry_of_name entries name

-- what the first entry of this character says
abbrev pub entry_of_character : List (ℕ × ℕ) → ℕ → Option ℕ
entry_of_character [] c = None
entry_of_character (entry ∷ entries) c = if entry.0 == c then Some entry.1 else entry_of_character entries c

-- the text of one character, where there is one
abbrev pub text_of : Option ℕ → Option (List ℕ)
text_of None = None
text_of (Some c) = Some (encode_utf8_all (c ∷ []))

-- the text of the delimiter that a unit is, where it is one. A point is the empty delimiter.
abbrev pub delimiter_of : Piece → Option (List ℕ)
delimiter_of (Command name) = text_of (entry_of_name delimiter_commands name)
delimiter_of (Character c) = if c == byte "." then Some [] else text_of (entry_of_character delimiter_characters c)
delimiter_of piece = None

-- the text of the negated sign of a unit, where it has one of its own
abbrev pub negated_of : Piece → Option (List ℕ)
negated_of (Command name) = text_of (entry_of_name negated_commands name)
negated_of (Character c) = text_of (entry_of_character negated_characters c)
negated_of piece = None
