-- The command table: which token the name of a command represents. A name is its bytes, without the backslash. A character
-- is its code point, and is repeated in a comment on its line.
use Rattle.std.specs.Prelude.{ℕ, pos, negsuc, List, [], ◌∷◌, Option, Some, None, unwrap_or, cond, codes}
use Rattle.std.specs.{Char.encode_utf8, Str.bytes_eq}
use Rattle.latex2mathml_tokens.specs.Tok.{Tok, Begin, End, NewLine, Left, Right, Middle, Paren, Frac, Binom, Overset, Underset, Overbrace, Underbrace, Sqrt, Integral, Lim, Space, Style, Big, Over, Under, Operator, BigOp, Letter, Function, OperatorName, Slashed, Text, Command}
use Rattle.latex2mathml_tokens.specs.declared.DisplayStyle.TheVariants.{Block, Inline}
use Rattle.latex2mathml_tokens.specs.declared.attribute.Variant.TheVariants.{Normal, Italic, Bold, BoldItalic, DoubleStruck, Fraktur, Script, SansSerif, Monospace}
use Rattle.latex2mathml_tokens.specs.declared.attribute.Accent.TheVariants.{True}

-- the entries, in the order of their names' bytes
unfoldable pub command_entries : List (List ℕ × Tok)
command_entries =
    (codes " ", Space (pos 18)) ∷
    (codes "!", Space (negsuc 2)) ∷
    (codes "#", Letter 0x23 Normal) ∷  -- #
    (codes "$", Letter 0x24 Normal) ∷  -- $
    (codes "%", Letter 0x25 Normal) ∷  -- %
    (codes "&", Letter 0x26 Normal) ∷  -- &
    (codes ",", Space (pos 3)) ∷
    (codes ":", Space (pos 4)) ∷
    (codes ";", Space (pos 5)) ∷
    (codes "A", Letter 0xC5 Normal) ∷  -- Å
    (codes "AE", Letter 0xC6 Normal) ∷  -- Æ
    (codes "Alpha", Letter 0x0391 Normal) ∷  -- Α
    (codes "And", Letter 0x26 Normal) ∷  -- &
    (codes "Beta", Letter 0x0392 Normal) ∷  -- Β
    (codes "Biggl", Big (codes "2.470em")) ∷
    (codes "Biggr", Big (codes "2.470em")) ∷
    (codes "Bigl", Big (codes "1.623em")) ∷
    (codes "Bigr", Big (codes "1.623em")) ∷
    (codes "Box", Letter 0x25FB Normal) ∷  -- ◻
    (codes "Cap", Operator 0x22D2) ∷  -- ⋒
    (codes "Chi", Letter 0x03A7 Normal) ∷  -- Χ
    (codes "Cup", Operator 0x22D3) ∷  -- ⋓
    (codes "DH", Letter 0xD0 Normal) ∷  -- Ð
    (codes "Dagger", Letter 0x2021 Normal) ∷  -- ‡
    (codes "Delta", Letter 0x0394 Normal) ∷  -- Δ
    (codes "Diamond", Letter 0x25CA Normal) ∷  -- ◊
    (codes "Downarrow", Operator 0x21D3) ∷  -- ⇓
    (codes "Epsilon", Letter 0x0395 Normal) ∷  -- Ε
    (codes "Eta", Letter 0x0397 Normal) ∷  -- Η
    (codes "Finv", Letter 0x2132 Normal) ∷  -- Ⅎ
    (codes "Game", Letter 0x2141 Normal) ∷  -- ⅁
    (codes "Gamma", Letter 0x0393 Normal) ∷  -- Γ
    (codes "Im", Letter 0x2111 Normal) ∷  -- ℑ
    (codes "Iota", Letter 0x0399 Normal) ∷  -- Ι
    (codes "Join", Operator 0x22C8) ∷  -- ⋈
    (codes "Kappa", Letter 0x039A Normal) ∷  -- Κ
    (codes "L", Letter 0x0141 Normal) ∷  -- Ł
    (codes "Lambda", Letter 0x039B Normal) ∷  -- Λ
    (codes "Leftarrow", Operator 0x21D0) ∷  -- ⇐
    (codes "Leftrightarrow", Operator 0x21D4) ∷  -- ⇔
    (codes "Lleftarrow", Operator 0x21DA) ∷  -- ⇚
    (codes "Longleftarrow", Operator 0x27F8) ∷  -- ⟸
    (codes "Longleftrightarrow", Operator 0x27FA) ∷  -- ⟺
    (codes "Longrightarrow", Operator 0x27F9) ∷  -- ⟹
    (codes "Lsh", Operator 0x21B0) ∷  -- ↰
    (codes "Mu", Letter 0x039C Normal) ∷  -- Μ
    (codes "NG", Letter 0x014A Normal) ∷  -- Ŋ
    (codes "Nu", Letter 0x039D Normal) ∷  -- Ν
    (codes "O", Letter 0xD8 Normal) ∷  -- Ø
    (codes "OE", Letter 0x0152 Normal) ∷  -- Œ
    (codes "Omega", Letter 0x03A9 Normal) ∷  -- Ω
    (codes "Omicron", Letter 0x039F Normal) ∷  -- Ο
    (codes "P", Letter 0xB6 Normal) ∷  -- ¶
    (codes "Phi", Letter 0x03A6 Normal) ∷  -- Φ
    (codes "Pi", Letter 0x03A0 Normal) ∷  -- Π
    (codes "Psi", Letter 0x03A8 Normal) ∷  -- Ψ
    (codes "Re", Letter 0x211C Normal) ∷  -- ℜ
    (codes "Rho", Letter 0x03A1 Normal) ∷  -- Ρ
    (codes "Rightarrow", Operator 0x21D2) ∷  -- ⇒
    (codes "Rrightarrow", Operator 0x21DB) ∷  -- ⇛
    (codes "Rsh", Operator 0x21B1) ∷  -- ↱
    (codes "S", Letter 0xA7 Normal) ∷  -- §
    (codes "Sigma", Letter 0x03A3 Normal) ∷  -- Σ
    (codes "TH", Letter 0xDE Normal) ∷  -- Þ
    (codes "Tau", Letter 0x03A4 Normal) ∷  -- Τ
    (codes "Theta", Letter 0x0398 Normal) ∷  -- Θ
    (codes "Uparrow", Operator 0x21D1) ∷  -- ⇑
    (codes "Updownarrow", Operator 0x21D5) ∷  -- ⇕
    (codes "Upsilon", Letter 0x03A5 Normal) ∷  -- Υ
    (codes "Vdash", Operator 0x22A9) ∷  -- ⊩
    (codes "Xi", Letter 0x039E Normal) ∷  -- Ξ
    (codes "Yleft", Operator 0x2919) ∷  -- ⤙
    (codes "Yright", Operator 0x291A) ∷  -- ⤚
    (codes "Zeta", Letter 0x0396 Normal) ∷  -- Ζ
    (codes "\\", NewLine) ∷
    (codes "_", Letter 0x5F Normal) ∷  -- _
    (codes "a", Letter 0xE5 Normal) ∷  -- å
    (codes "acute", Over 0xB4 True) ∷  -- ´
    (codes "ae", Letter 0xE6 Normal) ∷  -- æ
    (codes "aleph", Letter 0x2135 Normal) ∷  -- ℵ
    (codes "alpha", Letter 0x03B1 Italic) ∷  -- α
    (codes "amalg", Operator 0x2A3F) ∷  -- ⨿
    (codes "angle", Letter 0x2220 Normal) ∷  -- ∠
    (codes "approx", Operator 0x2248) ∷  -- ≈
    (codes "approxeq", Operator 0x224A) ∷  -- ≊
    (codes "arccos", Function (codes "arccos")) ∷
    (codes "arcsin", Function (codes "arcsin")) ∷
    (codes "arctan", Function (codes "arctan")) ∷
    (codes "arg", Function (codes "arg")) ∷
    (codes "ascnode", Letter 0x260A Normal) ∷  -- ☊
    (codes "astrosun", Letter 0x2609 Normal) ∷  -- ☉
    (codes "asymp", Operator 0x224D) ∷  -- ≍
    (codes "bar", Over 0xAF True) ∷  -- ¯
    (codes "barwedge", Operator 0x22BC) ∷  -- ⊼
    (codes "because", Letter 0x2235 Normal) ∷  -- ∵
    (codes "begin", Begin) ∷
    (codes "beta", Letter 0x03B2 Italic) ∷  -- β
    (codes "beth", Letter 0x2136 Normal) ∷  -- ℶ
    (codes "bigcap", BigOp 0x22C2) ∷  -- ⋂
    (codes "bigcirc", Operator 0x25EF) ∷  -- ◯
    (codes "bigcup", BigOp 0x22C3) ∷  -- ⋃
    (codes "biggl", Big (codes "2.047em")) ∷
    (codes "biggr", Big (codes "2.047em")) ∷
    (codes "bigl", Big (codes "1.2em")) ∷
    (codes "bigodot", BigOp 0x2A00) ∷  -- ⨀
    (codes "bigoplus", BigOp 0x2A01) ∷  -- ⨁
    (codes "bigr", Big (codes "1.2em")) ∷
    (codes "bigsqcup", BigOp 0x2A06) ∷  -- ⨆
    (codes "bigtriangleup", Letter 0x25B3 Normal) ∷  -- △
    (codes "biguplus", BigOp 0x2A04) ∷  -- ⨄
    (codes "bigvee", BigOp 0x22C1) ∷  -- ⋁
    (codes "bigwedge", BigOp 0x22C0) ∷  -- ⋀
    (codes "binom", Binom None) ∷
    (codes "bitotimes", BigOp 0x2A02) ∷  -- ⨂
    (codes "bm", Style BoldItalic) ∷
    (codes "boldsymbol", Style BoldItalic) ∷
    (codes "bot", Operator 0x22A5) ∷  -- ⊥
    (codes "boxbox", Operator 0x29C8) ∷  -- ⧈
    (codes "boxbslash", Operator 0x29C5) ∷  -- ⧅
    (codes "boxdot", Operator 0x22A1) ∷  -- ⊡
    (codes "boxminus", Operator 0x229F) ∷  -- ⊟
    (codes "boxplus", Operator 0x229E) ∷  -- ⊞
    (codes "boxslash", Operator 0x29C4) ∷  -- ⧄
    (codes "boxtimes", Operator 0x22A0) ∷  -- ⊠
    (codes "breve", Over 0x02D8 True) ∷  -- ˘
    (codes "bullet", Operator 0x2219) ∷  -- ∙
    (codes "cap", Operator 0x2229) ∷  -- ∩
    (codes "cdot", Operator 0xB7) ∷  -- ·
    (codes "cdots", Operator 0x22EF) ∷  -- ⋯
    (codes "centerdot", Operator 0x2219) ∷  -- ∙
    (codes "check", Over 0x02C7 True) ∷  -- ˇ
    (codes "checkmark", Letter 0x2713 Normal) ∷  -- ✓
    (codes "chi", Letter 0x03C7 Italic) ∷  -- χ
    (codes "circ", Operator 0x2218) ∷  -- ∘
    (codes "circlearrowleft", Operator 0x21BA) ∷  -- ↺
    (codes "circlearrowright", Operator 0x21BB) ∷  -- ↻
    (codes "circledR", Letter 0x24C7 Normal) ∷  -- Ⓡ
    (codes "circledast", Operator 0x229B) ∷  -- ⊛
    (codes "circledcirc", Operator 0x229A) ∷  -- ⊚
    (codes "circleddash", Operator 0x229D) ∷  -- ⊝
    (codes "clubsuit", Letter 0x2663 Normal) ∷  -- ♣
    (codes "colon", Letter 0x3A Normal) ∷  -- :
    (codes "complement", Letter 0x2201 Normal) ∷  -- ∁
    (codes "cong", Operator 0x2245) ∷  -- ≅
    (codes "coprod", BigOp 0x2210) ∷  -- ∐
    (codes "copyright", Letter 0xA9 Normal) ∷  -- ©
    (codes "cos", Function (codes "cos")) ∷
    (codes "cosh", Function (codes "cosh")) ∷
    (codes "cot", Function (codes "cot")) ∷
    (codes "coth", Function (codes "coth")) ∷
    (codes "csc", Function (codes "csc")) ∷
    (codes "cup", Operator 0x222A) ∷  -- ∪
    (codes "curlyvee", Operator 0x22CE) ∷  -- ⋎
    (codes "curlywedge", Operator 0x22CF) ∷  -- ⋏
    (codes "curvearrowleft", Operator 0x21B6) ∷  -- ↶
    (codes "curvearrowright", Operator 0x21B7) ∷  -- ↷
    (codes "dag", Letter 0x2020 Normal) ∷  -- †
    (codes "dagger", Letter 0x2020 Normal) ∷  -- †
    (codes "daleth", Letter 0x2138 Normal) ∷  -- ℸ
    (codes "dashv", Operator 0x22A3) ∷  -- ⊣
    (codes "dbinom", Binom (Some Block)) ∷
    (codes "ddag", Letter 0x2021 Normal) ∷  -- ‡
    (codes "ddot", Over 0xA8 True) ∷  -- ¨
    (codes "ddots", Operator 0x22F1) ∷  -- ⋱
    (codes "delta", Letter 0x03B4 Italic) ∷  -- δ
    (codes "det", Function (codes "det")) ∷
    (codes "dh", Letter 0xF0 Normal) ∷  -- ð
    (codes "diamondsuit", Letter 0x2662 Normal) ∷  -- ♢
    (codes "digamma", Letter 0x03DD Italic) ∷  -- ϝ
    (codes "dim", Function (codes "dim")) ∷
    (codes "div", Operator 0xF7) ∷  -- ÷
    (codes "divideontimes", Operator 0x22C7) ∷  -- ⋇
    (codes "dj", Letter 0x0111 Normal) ∷  -- đ
    (codes "dot", Over 0x02D9 True) ∷  -- ˙
    (codes "doteq", Operator 0x2250) ∷  -- ≐
    (codes "doteqdot", Operator 0x2251) ∷  -- ≑
    (codes "dotplus", Operator 0x2214) ∷  -- ∔
    (codes "downarrow", Operator 0x2193) ∷  -- ↓
    (codes "downdownarrows", Operator 0x21CA) ∷  -- ⇊
    (codes "downharpoonleft", Operator 0x21C3) ∷  -- ⇃
    (codes "downharpoonright", Operator 0x21C2) ∷  -- ⇂
    (codes "earth", Letter 0x2641 Normal) ∷  -- ♁
    (codes "ell", Letter 0x2113 Italic) ∷  -- ℓ
    (codes "emptyset", Letter 0x2205 Normal) ∷  -- ∅
    (codes "end", End) ∷
    (codes "epsilon", Letter 0x03F5 Italic) ∷  -- ϵ
    (codes "eqslantgtr", Operator 0x2A96) ∷  -- ⪖
    (codes "eqslantless", Operator 0x2A95) ∷  -- ⪕
    (codes "equiv", Operator 0x2261) ∷  -- ≡
    (codes "erf", Function (codes "erf")) ∷
    (codes "erfc", Function (codes "erfc")) ∷
    (codes "eta", Letter 0x03B7 Italic) ∷  -- η
    (codes "eth", Letter 0xF0 Normal) ∷  -- ð
    (codes "euro", Letter 0x20AC Normal) ∷  -- €
    (codes "exists", Operator 0x2203) ∷  -- ∃
    (codes "exp", Function (codes "exp")) ∷
    (codes "flat", Letter 0x266D Normal) ∷  -- ♭
    (codes "forall", Operator 0x2200) ∷  -- ∀
    (codes "frac", Frac) ∷
    (codes "from", Operator 0x2322) ∷  -- ⌢
    (codes "gamma", Letter 0x03B3 Italic) ∷  -- γ
    (codes "geq", Operator 0x2265) ∷  -- ≥
    (codes "geqq", Operator 0x2267) ∷  -- ≧
    (codes "geqslant", Operator 0x2A7E) ∷  -- ⩾
    (codes "gets", Operator 0x2190) ∷  -- ←
    (codes "gg", Operator 0x226B) ∷  -- ≫
    (codes "gimel", Letter 0x2137 Normal) ∷  -- ℷ
    (codes "grave", Over 0x60 True) ∷  -- `
    (codes "gt", Operator 0x3E) ∷  -- >
    (codes "gtrapprox", Operator 0x2A86) ∷  -- ⪆
    (codes "gtrsim", Operator 0x2273) ∷  -- ≳
    (codes "hat", Over 0x5E True) ∷  -- ^
    (codes "hbar", Letter 0x210F Italic) ∷  -- ℏ
    (codes "heartsuit", Letter 0x2661 Normal) ∷  -- ♡
    (codes "hookleftarrow", Operator 0x21A9) ∷  -- ↩
    (codes "hookrightarrow", Operator 0x21AA) ∷  -- ↪
    (codes "hslash", Letter 0x210F Italic) ∷  -- ℏ
    (codes "iff", Operator 0x27FA) ∷  -- ⟺
    (codes "iiint", Integral 0x222D) ∷  -- ∭
    (codes "iint", Integral 0x222C) ∷  -- ∬
    (codes "imath", Letter 0x0131 Italic) ∷  -- ı
    (codes "impliedby", Operator 0x27F8) ∷  -- ⟸
    (codes "implies", Operator 0x27F9) ∷  -- ⟹
    (codes "in", Operator 0x2208) ∷  -- ∈
    (codes "inf", Lim (codes "inf")) ∷
    (codes "infty", Letter 0x221E Normal) ∷  -- ∞
    (codes "int", Integral 0x222B) ∷  -- ∫
    (codes "intercal", Operator 0x22BA) ∷  -- ⊺
    (codes "iota", Letter 0x03B9 Italic) ∷  -- ι
    (codes "jmath", Letter 0x0237 Italic) ∷  -- ȷ
    (codes "jupiter", Letter 0x2643 Normal) ∷  -- ♃
    (codes "kappa", Letter 0x03BA Italic) ∷  -- κ
    (codes "ker", Function (codes "ker")) ∷
    (codes "l", Letter 0x0142 Normal) ∷  -- ł
    (codes "lambda", Letter 0x03BB Italic) ∷  -- λ
    (codes "land", Operator 0x2227) ∷  -- ∧
    (codes "langle", Paren (encode_utf8 0x27E8)) ∷  -- ⟨
    (codes "lceil", Paren (encode_utf8 0x2308)) ∷  -- ⌈
    (codes "ldots", Operator 0x2026) ∷  -- …
    (codes "left", Left) ∷
    (codes "leftarrow", Operator 0x2190) ∷  -- ←
    (codes "leftarrowtail", Operator 0x21A2) ∷  -- ↢
    (codes "leftharpoondown", Operator 0x21BD) ∷  -- ↽
    (codes "leftharpoonup", Operator 0x21BC) ∷  -- ↼
    (codes "leftleftarrows", Operator 0x21C7) ∷  -- ⇇
    (codes "leftrightarrow", Operator 0x2194) ∷  -- ↔
    (codes "leftrightarrows", Operator 0x21C6) ∷  -- ⇆
    (codes "leftrightharpoons", Operator 0x21CB) ∷  -- ⇋
    (codes "leftrightsquigarrow", Operator 0x21AD) ∷  -- ↭
    (codes "leftthreetimes", Operator 0x22CB) ∷  -- ⋋
    (codes "leq", Operator 0x2264) ∷  -- ≤
    (codes "leqq", Operator 0x2266) ∷  -- ≦
    (codes "leqslant", Operator 0x2A7D) ∷  -- ⩽
    (codes "lessapprox", Operator 0x2A85) ∷  -- ⪅
    (codes "lessdot", Operator 0x22D6) ∷  -- ⋖
    (codes "lesseqgtr", Operator 0x22DA) ∷  -- ⋚
    (codes "lesseqqgtr", Operator 0x2A8B) ∷  -- ⪋
    (codes "lessgtr", Operator 0x2276) ∷  -- ≶
    (codes "lesssim", Operator 0x2272) ∷  -- ≲
    (codes "lfloor", Paren (encode_utf8 0x230A)) ∷  -- ⌊
    (codes "lgroup", Paren (encode_utf8 0x2997)) ∷  -- ⦗
    (codes "lhd", Operator 0x22B2) ∷  -- ⊲
    (codes "lightning", Operator 0x21AF) ∷  -- ↯
    (codes "lim", Lim (codes "lim")) ∷
    (codes "liminf", Lim (codes "lim inf")) ∷
    (codes "limsup", Lim (codes "lim sup")) ∷
    (codes "ll", Operator 0x226A) ∷  -- ≪
    (codes "llbracket", Paren (encode_utf8 0x27E6)) ∷  -- ⟦
    (codes "lll", Operator 0x22D8) ∷  -- ⋘
    (codes "ln", Function (codes "ln")) ∷
    (codes "lnot", Operator 0xAC) ∷  -- ¬
    (codes "log", Function (codes "log")) ∷
    (codes "longleftarrow", Operator 0x27F5) ∷  -- ⟵
    (codes "longleftrightarrow", Operator 0x27F7) ∷  -- ⟷
    (codes "longmapsto", Operator 0x27FC) ∷  -- ⟼
    (codes "longrightarrow", Operator 0x27F6) ∷  -- ⟶
    (codes "looparrowleft", Operator 0x21AB) ∷  -- ↫
    (codes "looparrowright", Operator 0x21AC) ∷  -- ↬
    (codes "lor", Operator 0x2228) ∷  -- ∨
    (codes "lozenge", Letter 0x25CA Normal) ∷  -- ◊
    (codes "lt", Operator 0x3C) ∷  -- <
    (codes "ltimes", Operator 0x22C9) ∷  -- ⋉
    (codes "maltese", Letter 0x2720 Normal) ∷  -- ✠
    (codes "mapsto", Operator 0x21A6) ∷  -- ↦
    (codes "mars", Letter 0x2642 Normal) ∷  -- ♂
    (codes "mathbb", Style DoubleStruck) ∷
    (codes "mathbf", Style Bold) ∷
    (codes "mathfrak", Style Fraktur) ∷
    (codes "mathit", Style Italic) ∷
    (codes "mathrm", Style Normal) ∷
    (codes "mathscr", Style Script) ∷
    (codes "mathsf", Style SansSerif) ∷
    (codes "max", Lim (codes "max")) ∷
    (codes "mercury", Letter 0x263F Normal) ∷  -- ☿
    (codes "mho", Letter 0x2127 Normal) ∷  -- ℧
    (codes "mid", Operator 0x2223) ∷  -- ∣
    (codes "middle", Middle) ∷
    (codes "min", Lim (codes "min")) ∷
    (codes "models", Operator 0x22A8) ∷  -- ⊨
    (codes "mp", Operator 0x2213) ∷  -- ∓
    (codes "mu", Letter 0x03BC Italic) ∷  -- μ
    (codes "multimap", Operator 0x22B8) ∷  -- ⊸
    (codes "nLeftarrow", Operator 0x21CD) ∷  -- ⇍
    (codes "nLeftrightarrow", Operator 0x21CE) ∷  -- ⇎
    (codes "nRightarrow", Operator 0x21CF) ∷  -- ⇏
    (codes "nabla", Operator 0x2207) ∷  -- ∇
    (codes "natural", Letter 0x266E Normal) ∷  -- ♮
    (codes "ne", Operator 0x2260) ∷  -- ≠
    (codes "nearrow", Operator 0x2197) ∷  -- ↗
    (codes "neptune", Letter 0x2646 Normal) ∷  -- ♆
    (codes "neq", Operator 0x2260) ∷  -- ≠
    (codes "nequiv", Operator 0x2262) ∷  -- ≢
    (codes "nexists", Operator 0x2204) ∷  -- ∄
    (codes "ng", Letter 0x014B Normal) ∷  -- ŋ
    (codes "ni", Operator 0x220B) ∷  -- ∋
    (codes "nleftarrow", Operator 0x219A) ∷  -- ↚
    (codes "nleftrightarrow", Operator 0x21AE) ∷  -- ↮
    (codes "nmid", Operator 0x2224) ∷  -- ∤
    (codes "notin", Operator 0x2209) ∷  -- ∉
    (codes "nrightarrow", Operator 0x219B) ∷  -- ↛
    (codes "nsim", Operator 0x2241) ∷  -- ≁
    (codes "nsubseteq", Operator 0x2288) ∷  -- ⊈
    (codes "nsupseteq", Operator 0x2289) ∷  -- ⊉
    (codes "nu", Letter 0x03BD Italic) ∷  -- ν
    (codes "nwarrow", Operator 0x2196) ∷  -- ↖
    (codes "o", Letter 0xF8 Normal) ∷  -- ø
    (codes "odot", Operator 0x2299) ∷  -- ⊙
    (codes "oe", Letter 0x0153 Normal) ∷  -- œ
    (codes "oint", Integral 0x222E) ∷  -- ∮
    (codes "omega", Letter 0x03C9 Italic) ∷  -- ω
    (codes "omicron", Letter 0x03BF Italic) ∷  -- ο
    (codes "ominus", Operator 0x2296) ∷  -- ⊖
    (codes "operatorname", OperatorName) ∷
    (codes "oplus", Operator 0x2295) ∷  -- ⊕
    (codes "oslash", Operator 0x2298) ∷  -- ⊘
    (codes "otimes", Operator 0x2297) ∷  -- ⊗
    (codes "overbrace", Overbrace 0x23DE) ∷  -- ⏞
    (codes "overbracket", Overbrace 0x23B4) ∷  -- ⎴
    (codes "overleftarrow", Over 0x2190 True) ∷  -- ←
    (codes "overline", Over 0x5F True) ∷  -- _
    (codes "overparen", Overbrace 0x23DC) ∷  -- ⏜
    (codes "overrightarrow", Over 0x2192 True) ∷  -- →
    (codes "overset", Overset) ∷
    (codes "parallel", Operator 0x2225) ∷  -- ∥
    (codes "partial", Operator 0x2202) ∷  -- ∂
    (codes "perp", Operator 0x22A5) ∷  -- ⊥
    (codes "phi", Letter 0x03D5 Italic) ∷  -- ϕ
    (codes "pi", Letter 0x03C0 Italic) ∷  -- π
    (codes "pm", Operator 0xB1) ∷  -- ±
    (codes "pounds", Letter 0xA3 Normal) ∷  -- £
    (codes "prec", Operator 0x227A) ∷  -- ≺
    (codes "preceq", Operator 0x2AAF) ∷  -- ⪯
    (codes "prod", BigOp 0x220F) ∷  -- ∏
    (codes "propto", Operator 0x221D) ∷  -- ∝
    (codes "psi", Letter 0x03C8 Italic) ∷  -- ψ
    (codes "qquad", Space (pos 36)) ∷
    (codes "quad", Space (pos 18)) ∷
    (codes "rangle", Paren (encode_utf8 0x27E9)) ∷  -- ⟩
    (codes "rceil", Paren (encode_utf8 0x2309)) ∷  -- ⌉
    (codes "rfloor", Paren (encode_utf8 0x230B)) ∷  -- ⌋
    (codes "rgroup", Paren (encode_utf8 0x2998)) ∷  -- ⦘
    (codes "rhd", Operator 0x22B3) ∷  -- ⊳
    (codes "rho", Letter 0x03C1 Italic) ∷  -- ρ
    (codes "right", Right) ∷
    (codes "rightarrow", Operator 0x2192) ∷  -- →
    (codes "rightarrowtail", Operator 0x21A3) ∷  -- ↣
    (codes "rightharpoondown", Operator 0x21C1) ∷  -- ⇁
    (codes "rightharpoonup", Operator 0x21C0) ∷  -- ⇀
    (codes "rightleftarrows", Operator 0x21C4) ∷  -- ⇄
    (codes "rightleftharpoons", Operator 0x21CC) ∷  -- ⇌
    (codes "rightrightarrows", Operator 0x21C9) ∷  -- ⇉
    (codes "rightsquigarrow", Operator 0x21DD) ∷  -- ⇝
    (codes "rightthreetimes", Operator 0x22CC) ∷  -- ⋌
    (codes "risingdotseq", Operator 0x2253) ∷  -- ≓
    (codes "rrbracket", Paren (encode_utf8 0x27E7)) ∷  -- ⟧
    (codes "rtimes", Operator 0x22CA) ∷  -- ⋊
    (codes "rupee", Letter 0x20B9 Normal) ∷  -- ₹
    (codes "saturn", Letter 0x2644 Normal) ∷  -- ♄
    (codes "searrow", Operator 0x2198) ∷  -- ↘
    (codes "sec", Function (codes "sec")) ∷
    (codes "setminus", Operator 0x2216) ∷  -- ∖
    (codes "sharp", Letter 0x266F Normal) ∷  -- ♯
    (codes "sigma", Letter 0x03C3 Italic) ∷  -- σ
    (codes "sim", Operator 0x223C) ∷  -- ∼
    (codes "simeq", Operator 0x2243) ∷  -- ≃
    (codes "sin", Function (codes "sin")) ∷
    (codes "sinh", Function (codes "sinh")) ∷
    (codes "slashed", Slashed) ∷
    (codes "smallsetminus", Operator 0xFE68) ∷  -- ﹨
    (codes "smile", Operator 0x2323) ∷  -- ⌣
    (codes "spadesuit", Letter 0x2660 Normal) ∷  -- ♠
    (codes "sphericalangle", Letter 0x2222 Normal) ∷  -- ∢
    (codes "sqcap", Operator 0x2293) ∷  -- ⊓
    (codes "sqcup", Operator 0x2294) ∷  -- ⊔
    (codes "sqrt", Sqrt) ∷
    (codes "sqsubset", Operator 0x228F) ∷  -- ⊏
    (codes "sqsubseteq", Operator 0x2291) ∷  -- ⊑
    (codes "sqsupset", Operator 0x2290) ∷  -- ⊐
    (codes "sqsupseteq", Operator 0x2292) ∷  -- ⊒
    (codes "square", Letter 0x25A1 Normal) ∷  -- □
    (codes "ss", Letter 0xDF Normal) ∷  -- ß
    (codes "star", Operator 0x22C6) ∷  -- ⋆
    (codes "subset", Operator 0x2282) ∷  -- ⊂
    (codes "subseteq", Operator 0x2286) ∷  -- ⊆
    (codes "subsetneq", Operator 0x228A) ∷  -- ⊊
    (codes "succ", Operator 0x227B) ∷  -- ≻
    (codes "succeq", Operator 0x2AB0) ∷  -- ⪰
    (codes "sum", BigOp 0x2211) ∷  -- ∑
    (codes "sun", Letter 0x263C Normal) ∷  -- ☼
    (codes "sup", Lim (codes "sup")) ∷
    (codes "supset", Operator 0x2283) ∷  -- ⊃
    (codes "supseteq", Operator 0x2287) ∷  -- ⊇
    (codes "supsetneq", Operator 0x228B) ∷  -- ⊋
    (codes "swarrow", Operator 0x2199) ∷  -- ↙
    (codes "symbf", Style BoldItalic) ∷
    (codes "tan", Function (codes "tan")) ∷
    (codes "tanh", Function (codes "tanh")) ∷
    (codes "tau", Letter 0x03C4 Italic) ∷  -- τ
    (codes "tbinom", Binom (Some Inline)) ∷
    (codes "text", Text) ∷
    (codes "textbf", Style Bold) ∷
    (codes "textit", Style Italic) ∷
    (codes "texttt", Style Monospace) ∷
    (codes "textyen", Letter 0xA5 Normal) ∷  -- ¥
    (codes "th", Letter 0xFE Normal) ∷  -- þ
    (codes "therefore", Letter 0x2234 Normal) ∷  -- ∴
    (codes "theta", Letter 0x03B8 Italic) ∷  -- θ
    (codes "tilde", Over 0x7E True) ∷  -- ~
    (codes "times", Operator 0xD7) ∷  -- ×
    (codes "to", Operator 0x2192) ∷  -- →
    (codes "top", Operator 0x22A4) ∷  -- ⊤
    (codes "triangle", Letter 0x25B3 Normal) ∷  -- △
    (codes "triangledown", Operator 0x25BD) ∷  -- ▽
    (codes "triangleleft", Operator 0x25C1) ∷  -- ◁
    (codes "triangleright", Operator 0x25B7) ∷  -- ▷
    (codes "underbrace", Underbrace 0x23DF) ∷  -- ⏟
    (codes "underbracket", Underbrace 0x23B5) ∷  -- ⎵
    (codes "underline", Under 0x5F True) ∷  -- _
    (codes "underparen", Underbrace 0x23DD) ∷  -- ⏝
    (codes "underset", Underset) ∷
    (codes "unlhd", Operator 0x22B4) ∷  -- ⊴
    (codes "unrhd", Operator 0x22B5) ∷  -- ⊵
    (codes "uparrow", Operator 0x2191) ∷  -- ↑
    (codes "updownarrow", Operator 0x2195) ∷  -- ↕
    (codes "upharpoonleft", Operator 0x21BF) ∷  -- ↿
    (codes "upharpoonright", Operator 0x21BE) ∷  -- ↾
    (codes "uplus", Operator 0x228E) ∷  -- ⊎
    (codes "upsilon", Letter 0x03C5 Italic) ∷  -- υ
    (codes "upuparrows", Operator 0x21C8) ∷  -- ⇈
    (codes "uranus", Letter 0x2645 Normal) ∷  -- ♅
    (codes "vDash", Operator 0x22A8) ∷  -- ⊨
    (codes "varepsilon", Letter 0x03B5 Italic) ∷  -- ε
    (codes "varphi", Letter 0x03C6 Italic) ∷  -- φ
    (codes "varpi", Letter 0x03D6 Italic) ∷  -- ϖ
    (codes "varrho", Letter 0x03F1 Italic) ∷  -- ϱ
    (codes "varsigma", Letter 0x03C2 Italic) ∷  -- ς
    (codes "vartheta", Letter 0x03D1 Italic) ∷  -- ϑ
    (codes "vartriangle", Operator 0x25B3) ∷  -- △
    (codes "vdash", Operator 0x22A2) ∷  -- ⊢
    (codes "vdots", Operator 0x22EE) ∷  -- ⋮
    (codes "vec", Over 0x2192 True) ∷  -- →
    (codes "vee", Operator 0x2228) ∷  -- ∨
    (codes "veebar", Operator 0x22BB) ∷  -- ⊻
    (codes "venus", Letter 0x2640 Normal) ∷  -- ♀
    (codes "wedge", Operator 0x2227) ∷  -- ∧
    (codes "widehat", Over 0x5E True) ∷  -- ^
    (codes "widetilde", Over 0x7E True) ∷  -- ~
    (codes "wp", Function (encode_utf8 0x2118)) ∷  -- ℘
    (codes "wr", Operator 0x2240) ∷  -- ≀
    (codes "xi", Letter 0x03BE Italic) ∷  -- ξ
    (codes "zeta", Letter 0x03B6 Italic) ∷  -- ζ
    (codes "{", Paren (codes "{")) ∷
    (codes "|", Paren (encode_utf8 0x2225)) ∷  -- ∥
    (codes "}", Paren (codes "}")) ∷
    []

-- the token of the entry with this name, if there is one
abbrev pub entry_token : List (List ℕ × Tok) → List ℕ → Option Tok
entry_token [] name = None
entry_token (entry ∷ entries) name = cond (bytes_eq entry.0 name) (Some entry.1) (entry_token entries name)

-- the token of a command; a name without an entry is a command of its own
unfoldable pub command_token : List ℕ → Tok
command_token name = unwrap_or (entry_token command_entries name) (Command name)
