-- The commands up to those that begin with l, in the order of their names' bytes. A name is its bytes, without the
-- backslash; a character is its code point, and is also shown after its line.
use Rattle.std.specs.Prelude.{ℕ, pos, negsuc, List, [], ◌∷◌, Some, None, codes}
use Rattle.latex2mathml_tex_grammar.specs.Meaning.{Meaning, Dots, CenteredDots, Implication, Shows, FunctionName, Spacing, Styled, Words, Fraction, Accent, Sized, Left, Limits, Changes, ToAlphabet, ToStyle, ToSize, Divides, words_apart, BeginTable, EndTable, LineBreak, Skip, SkipInBraces, ContinuedFraction, GeneralFraction, Boxed, PhantomWidth, StrikeUp, StrikeDown, Beside, ByStyle, Bar, NoBar, Braced, Bracketed, Bare, Frame, ToColor}
use Rattle.latex2mathml_tex_grammar.specs.Symbols.{Letter, UprightLetter, Sign, BigOperator, Integral, Ordinary, Binary, Relation, Opening, Closing, Punctuation, Inner, Italic, Bold, BoldItalic, DoubleStruck, Fraktur, Calligraphic, InDisplay, FootnoteSize, Large, VeryLarge, ExtraLarge, Huge, VeryHuge}
use Rattle.latex2mathml_elements.specs.Attributes.{Above, Rigid, Big, Bigger, VeryBig, Biggest, Stretching}

-- the table of commands, up to those that begin with `l`
unfoldable pub commands_up_to_l : List (List ℕ × Meaning)
commands_up_to_l =
    (codes " ", Spacing (pos 6)) ∷
    (codes "!", Spacing (negsuc 2)) ∷
    (codes "#", Shows (Sign Ordinary 0x23)) ∷  -- #
    (codes "$", Shows (Sign Ordinary 0x24)) ∷  -- $
    (codes "%", Shows (Sign Ordinary 0x25)) ∷  -- %
    (codes "&", Shows (Sign Ordinary 0x26)) ∷  -- &
    (codes ",", Spacing (pos 3)) ∷
    (codes ":", Spacing (pos 4)) ∷
    (codes ";", Spacing (pos 5)) ∷
    (codes ">", Spacing (pos 4)) ∷
    (codes "A", Shows (UprightLetter 0xC5)) ∷  -- Å
    (codes "AA", Shows (UprightLetter 0xC5)) ∷  -- Å
    (codes "AE", Shows (UprightLetter 0xC6)) ∷  -- Æ
    (codes "Alpha", Shows (UprightLetter 0x0391)) ∷  -- Α
    (codes "And", Shows (Sign Binary 0x26)) ∷  -- &
    (codes "Bbb", Styled DoubleStruck) ∷
    (codes "Beta", Shows (UprightLetter 0x0392)) ∷  -- Β
    (codes "Big", Sized Bigger Ordinary) ∷
    (codes "Bigg", Sized Biggest Ordinary) ∷
    (codes "Biggl", Sized Biggest Opening) ∷
    (codes "Biggm", Sized Biggest Relation) ∷
    (codes "Biggr", Sized Biggest Closing) ∷
    (codes "Bigl", Sized Bigger Opening) ∷
    (codes "Bigm", Sized Bigger Relation) ∷
    (codes "Bigr", Sized Bigger Closing) ∷
    (codes "Box", Shows (Sign Ordinary 0x25A1)) ∷  -- □
    (codes "Bumpeq", Shows (Sign Relation 0x224E)) ∷  -- ≎
    (codes "Cap", Shows (Sign Binary 0x22D2)) ∷  -- ⋒
    (codes "Chi", Shows (UprightLetter 0x03A7)) ∷  -- Χ
    (codes "Complex", Shows (Letter 0x2102)) ∷  -- ℂ
    (codes "Cup", Shows (Sign Binary 0x22D3)) ∷  -- ⋓
    (codes "DH", Shows (UprightLetter 0xD0)) ∷  -- Ð
    (codes "Dagger", Shows (Sign Ordinary 0x2021)) ∷  -- ‡
    (codes "Darr", Shows (Sign Relation 0x21D3)) ∷  -- ⇓
    (codes "Delta", Shows (UprightLetter 0x0394)) ∷  -- Δ
    (codes "Diamond", Shows (Sign Ordinary 0x25CA)) ∷  -- ◊
    (codes "Doteq", Shows (Sign Relation 0x2251)) ∷  -- ≑
    (codes "Downarrow", Shows (Sign Relation 0x21D3)) ∷  -- ⇓
    (codes "Epsilon", Shows (UprightLetter 0x0395)) ∷  -- Ε
    (codes "Eta", Shows (UprightLetter 0x0397)) ∷  -- Η
    (codes "Finv", Shows (UprightLetter 0x2132)) ∷  -- Ⅎ
    (codes "Game", Shows (Sign Ordinary 0x2141)) ∷  -- ⅁
    (codes "Gamma", Shows (UprightLetter 0x0393)) ∷  -- Γ
    (codes "Harr", Shows (Sign Relation 0x21D4)) ∷  -- ⇔
    (codes "Huge", Changes (ToSize VeryHuge)) ∷
    (codes "Im", Shows (UprightLetter 0x2111)) ∷  -- ℑ
    (codes "Iota", Shows (UprightLetter 0x0399)) ∷  -- Ι
    (codes "Join", Shows (Sign Relation 0x22C8)) ∷  -- ⋈
    (codes "Kappa", Shows (UprightLetter 0x039A)) ∷  -- Κ
    (codes "L", Shows (UprightLetter 0x0141)) ∷  -- Ł
    (codes "LARGE", Changes (ToSize ExtraLarge)) ∷
    (codes "Lambda", Shows (UprightLetter 0x039B)) ∷  -- Λ
    (codes "Large", Changes (ToSize VeryLarge)) ∷
    (codes "Larr", Shows (Sign Relation 0x21D0)) ∷  -- ⇐
    (codes "Leftarrow", Shows (Sign Relation 0x21D0)) ∷  -- ⇐
    (codes "Leftrightarrow", Shows (Sign Relation 0x21D4)) ∷  -- ⇔
    (codes "Lleftarrow", Shows (Sign Relation 0x21DA)) ∷  -- ⇚
    (codes "Longleftarrow", Shows (Sign Relation 0x27F8)) ∷  -- ⟸
    (codes "Longleftrightarrow", Shows (Sign Relation 0x27FA)) ∷  -- ⟺
    (codes "Longrightarrow", Shows (Sign Relation 0x27F9)) ∷  -- ⟹
    (codes "Lrarr", Shows (Sign Relation 0x21D4)) ∷  -- ⇔
    (codes "Lsh", Shows (Sign Relation 0x21B0)) ∷  -- ↰
    (codes "Mu", Shows (UprightLetter 0x039C)) ∷  -- Μ
    (codes "N", Shows (Letter 0x2115)) ∷  -- ℕ
    (codes "NG", Shows (UprightLetter 0x014A)) ∷  -- Ŋ
    (codes "Nu", Shows (UprightLetter 0x039D)) ∷  -- Ν
    (codes "O", Shows (UprightLetter 0xD8)) ∷  -- Ø
    (codes "OE", Shows (UprightLetter 0x0152)) ∷  -- Œ
    (codes "Omega", Shows (UprightLetter 0x03A9)) ∷  -- Ω
    (codes "Omicron", Shows (UprightLetter 0x039F)) ∷  -- Ο
    (codes "Overrightarrow", Accent Above 0x21D2 Stretching) ∷  -- ⇒
    (codes "P", Shows (Sign Ordinary 0xB6)) ∷  -- ¶
    (codes "Phi", Shows (UprightLetter 0x03A6)) ∷  -- Φ
    (codes "Pi", Shows (UprightLetter 0x03A0)) ∷  -- Π
    (codes "Pr", FunctionName ByStyle (codes "Pr")) ∷
    (codes "Psi", Shows (UprightLetter 0x03A8)) ∷  -- Ψ
    (codes "R", Shows (Letter 0x211D)) ∷  -- ℝ
    (codes "Rarr", Shows (Sign Relation 0x21D2)) ∷  -- ⇒
    (codes "Re", Shows (UprightLetter 0x211C)) ∷  -- ℜ
    (codes "Reals", Shows (Letter 0x211D)) ∷  -- ℝ
    (codes "Relbar", Shows (Sign Relation 0x3D)) ∷  -- =
    (codes "Rho", Shows (UprightLetter 0x03A1)) ∷  -- Ρ
    (codes "Rightarrow", Shows (Sign Relation 0x21D2)) ∷  -- ⇒
    (codes "Rrightarrow", Shows (Sign Relation 0x21DB)) ∷  -- ⇛
    (codes "Rsh", Shows (Sign Relation 0x21B1)) ∷  -- ↱
    (codes "S", Shows (Sign Ordinary 0xA7)) ∷  -- §
    (codes "Sigma", Shows (UprightLetter 0x03A3)) ∷  -- Σ
    (codes "Subset", Shows (Sign Relation 0x22D0)) ∷  -- ⋐
    (codes "Supset", Shows (Sign Relation 0x22D1)) ∷  -- ⋑
    (codes "TH", Shows (UprightLetter 0xDE)) ∷  -- Þ
    (codes "Tau", Shows (UprightLetter 0x03A4)) ∷  -- Τ
    (codes "Theta", Shows (UprightLetter 0x0398)) ∷  -- Θ
    (codes "Uarr", Shows (Sign Relation 0x21D1)) ∷  -- ⇑
    (codes "Uparrow", Shows (Sign Relation 0x21D1)) ∷  -- ⇑
    (codes "Updelta", Shows (UprightLetter 0x0394)) ∷  -- Δ
    (codes "Updownarrow", Shows (Sign Relation 0x21D5)) ∷  -- ⇕
    (codes "Upgamma", Shows (UprightLetter 0x0393)) ∷  -- Γ
    (codes "Uplambda", Shows (UprightLetter 0x039B)) ∷  -- Λ
    (codes "Upomega", Shows (UprightLetter 0x03A9)) ∷  -- Ω
    (codes "Upphi", Shows (UprightLetter 0x03A6)) ∷  -- Φ
    (codes "Uppi", Shows (UprightLetter 0x03A0)) ∷  -- Π
    (codes "Uppsi", Shows (UprightLetter 0x03A8)) ∷  -- Ψ
    (codes "Upsigma", Shows (UprightLetter 0x03A3)) ∷  -- Σ
    (codes "Upsilon", Shows (UprightLetter 0x03A5)) ∷  -- Υ
    (codes "Uptheta", Shows (UprightLetter 0x0398)) ∷  -- Θ
    (codes "Upupsilon", Shows (UprightLetter 0x03A5)) ∷  -- Υ
    (codes "Upxi", Shows (UprightLetter 0x039E)) ∷  -- Ξ
    (codes "Vdash", Shows (Sign Relation 0x22A9)) ∷  -- ⊩
    (codes "Vert", Shows (Sign Ordinary 0x2225)) ∷  -- ∥
    (codes "Vvdash", Shows (Sign Relation 0x22AA)) ∷  -- ⊪
    (codes "Xi", Shows (UprightLetter 0x039E)) ∷  -- Ξ
    (codes "Yleft", Shows (Sign Relation 0x2919)) ∷  -- ⤙
    (codes "Yright", Shows (Sign Relation 0x291A)) ∷  -- ⤚
    (codes "Z", Shows (Letter 0x2124)) ∷  -- ℤ
    (codes "Zeta", Shows (UprightLetter 0x0396)) ∷  -- Ζ
    (codes "\\", LineBreak) ∷
    (codes "_", Shows (Sign Ordinary 0x5F)) ∷  -- _
    (codes "a", Shows (UprightLetter 0xE5)) ∷  -- å
    (codes "aa", Shows (UprightLetter 0xE5)) ∷  -- å
    (codes "acute", Accent Above 0xB4 Rigid) ∷  -- ´
    (codes "adots", Shows (Sign Inner 0x22F0)) ∷  -- ⋰
    (codes "ae", Shows (UprightLetter 0xE6)) ∷  -- æ
    (codes "alef", Shows (UprightLetter 0x2135)) ∷  -- ℵ
    (codes "alefsym", Shows (UprightLetter 0x2135)) ∷  -- ℵ
    (codes "aleph", Shows (UprightLetter 0x2135)) ∷  -- ℵ
    (codes "alpha", Shows (Letter 0x03B1)) ∷  -- α
    (codes "amalg", Shows (Sign Binary 0x2A3F)) ∷  -- ⨿
    (codes "angle", Shows (Sign Ordinary 0x2220)) ∷  -- ∠
    (codes "approx", Shows (Sign Relation 0x2248)) ∷  -- ≈
    (codes "approxeq", Shows (Sign Relation 0x224A)) ∷  -- ≊
    (codes "arccos", FunctionName Beside (codes "arccos")) ∷
    (codes "arcctg", FunctionName Beside (codes "arcctg")) ∷
    (codes "arcsin", FunctionName Beside (codes "arcsin")) ∷
    (codes "arctan", FunctionName Beside (codes "arctan")) ∷
    (codes "arctg", FunctionName Beside (codes "arctg")) ∷
    (codes "arg", FunctionName Beside (codes "arg")) ∷
    (codes "argmax", FunctionName ByStyle (words_apart (codes "arg") (codes "max"))) ∷
    (codes "argmin", FunctionName ByStyle (words_apart (codes "arg") (codes "min"))) ∷
    (codes "ascnode", Shows (Sign Ordinary 0x260A)) ∷  -- ☊
    (codes "ast", Shows (Sign Binary 0x2217)) ∷  -- ∗
    (codes "astrosun", Shows (Sign Ordinary 0x2609)) ∷  -- ☉
    (codes "asymp", Shows (Sign Relation 0x224D)) ∷  -- ≍
    (codes "atop", Changes (Divides Bare)) ∷
    (codes "backepsilon", Shows (Sign Relation 0x220D)) ∷  -- ∍
    (codes "backprime", Shows (Sign Ordinary 0x2035)) ∷  -- ‵
    (codes "backsim", Shows (Sign Relation 0x223D)) ∷  -- ∽
    (codes "backsimeq", Shows (Sign Relation 0x22CD)) ∷  -- ⋍
    (codes "backslash", Shows (Sign Ordinary 0x5C)) ∷  -- \
    (codes "bar", Accent Above 0xAF Rigid) ∷  -- ¯
    (codes "barwedge", Shows (Sign Binary 0x22BC)) ∷  -- ⊼
    (codes "bcancel", Boxed StrikeDown) ∷
    (codes "because", Shows (Sign Relation 0x2235)) ∷  -- ∵
    (codes "begin", BeginTable) ∷
    (codes "beta", Shows (Letter 0x03B2)) ∷  -- β
    (codes "beth", Shows (UprightLetter 0x2136)) ∷  -- ℶ
    (codes "between", Shows (Sign Relation 0x226C)) ∷  -- ≬
    (codes "bf", Changes (ToAlphabet Bold)) ∷
    (codes "big", Sized Big Ordinary) ∷
    (codes "bigcap", Shows (BigOperator 0x22C2)) ∷  -- ⋂
    (codes "bigcirc", Shows (Sign Binary 0x25EF)) ∷  -- ◯
    (codes "bigcup", Shows (BigOperator 0x22C3)) ∷  -- ⋃
    (codes "bigcupdot", Shows (BigOperator 0x2A03)) ∷  -- ⨃
    (codes "bigg", Sized VeryBig Ordinary) ∷
    (codes "biggl", Sized VeryBig Opening) ∷
    (codes "biggm", Sized VeryBig Relation) ∷
    (codes "biggr", Sized VeryBig Closing) ∷
    (codes "bigl", Sized Big Opening) ∷
    (codes "bigm", Sized Big Relation) ∷
    (codes "bigodot", Shows (BigOperator 0x2A00)) ∷  -- ⨀
    (codes "bigoplus", Shows (BigOperator 0x2A01)) ∷  -- ⨁
    (codes "bigotimes", Shows (BigOperator 0x2A02)) ∷  -- ⨂
    (codes "bigr", Sized Big Closing) ∷
    (codes "bigsqcap", Shows (BigOperator 0x2A05)) ∷  -- ⨅
    (codes "bigsqcup", Shows (BigOperator 0x2A06)) ∷  -- ⨆
    (codes "bigstar", Shows (Sign Ordinary 0x2605)) ∷  -- ★
    (codes "bigtimes", Shows (BigOperator 0x2A09)) ∷  -- ⨉
    (codes "bigtriangledown", Shows (Sign Binary 0x25BD)) ∷  -- ▽
    (codes "bigtriangleup", Shows (Sign Binary 0x25B3)) ∷  -- △
    (codes "biguplus", Shows (BigOperator 0x2A04)) ∷  -- ⨄
    (codes "bigvee", Shows (BigOperator 0x22C1)) ∷  -- ⋁
    (codes "bigwedge", Shows (BigOperator 0x22C0)) ∷  -- ⋀
    (codes "binom", Fraction NoBar None) ∷
    (codes "bitotimes", Shows (BigOperator 0x2A02)) ∷  -- ⨂
    (codes "blacklozenge", Shows (Sign Ordinary 0x29EB)) ∷  -- ⧫
    (codes "blacksquare", Shows (Sign Ordinary 0x25A0)) ∷  -- ■
    (codes "blacktriangle", Shows (Sign Ordinary 0x25B2)) ∷  -- ▲
    (codes "blacktriangledown", Shows (Sign Ordinary 0x25BC)) ∷  -- ▼
    (codes "blacktriangleleft", Shows (Sign Relation 0x25C0)) ∷  -- ◀
    (codes "blacktriangleright", Shows (Sign Relation 0x25B6)) ∷  -- ▶
    (codes "bm", Styled BoldItalic) ∷
    (codes "bold", Styled Bold) ∷
    (codes "boldmath", Changes (ToAlphabet BoldItalic)) ∷
    (codes "boldsymbol", Styled BoldItalic) ∷
    (codes "bot", Shows (Sign Ordinary 0x22A5)) ∷  -- ⊥
    (codes "bowtie", Shows (Sign Relation 0x22C8)) ∷  -- ⋈
    (codes "boxbox", Shows (Sign Relation 0x29C8)) ∷  -- ⧈
    (codes "boxbslash", Shows (Sign Relation 0x29C5)) ∷  -- ⧅
    (codes "boxdot", Shows (Sign Binary 0x22A1)) ∷  -- ⊡
    (codes "boxed", Boxed Frame) ∷
    (codes "boxminus", Shows (Sign Binary 0x229F)) ∷  -- ⊟
    (codes "boxplus", Shows (Sign Binary 0x229E)) ∷  -- ⊞
    (codes "boxslash", Shows (Sign Relation 0x29C4)) ∷  -- ⧄
    (codes "boxtimes", Shows (Sign Binary 0x22A0)) ∷  -- ⊠
    (codes "brace", Changes (Divides Braced)) ∷
    (codes "brack", Changes (Divides Bracketed)) ∷
    (codes "breve", Accent Above 0x02D8 Rigid) ∷  -- ˘
    (codes "bull", Shows (Sign Binary 0x2219)) ∷  -- ∙
    (codes "bullet", Shows (Sign Binary 0x2219)) ∷  -- ∙
    (codes "bumpeq", Shows (Sign Relation 0x224F)) ∷  -- ≏
    (codes "cal", Changes (ToAlphabet Calligraphic)) ∷
    (codes "cancel", Boxed StrikeUp) ∷
    (codes "cap", Shows (Sign Binary 0x2229)) ∷  -- ∩
    (codes "cdot", Shows (Sign Binary 0x22C5)) ∷  -- ⋅
    (codes "cdotp", Shows (Sign Punctuation 0x22C5)) ∷  -- ⋅
    (codes "cdots", CenteredDots) ∷
    (codes "centerdot", Shows (Sign Binary 0x22C5)) ∷  -- ⋅
    (codes "cfrac", ContinuedFraction) ∷
    (codes "ch", FunctionName Beside (codes "ch")) ∷
    (codes "check", Accent Above 0x02C7 Rigid) ∷  -- ˇ
    (codes "checkmark", Shows (Sign Ordinary 0x2713)) ∷  -- ✓
    (codes "chi", Shows (Letter 0x03C7)) ∷  -- χ
    (codes "choose", Changes (Divides NoBar)) ∷
    (codes "circ", Shows (Sign Binary 0x2218)) ∷  -- ∘
    (codes "circeq", Shows (Sign Relation 0x2257)) ∷  -- ≗
    (codes "circlearrowleft", Shows (Sign Relation 0x21BA)) ∷  -- ↺
    (codes "circlearrowright", Shows (Sign Relation 0x21BB)) ∷  -- ↻
    (codes "circledR", Shows (Sign Ordinary 0xAE)) ∷  -- ®
    (codes "circledS", Shows (Sign Ordinary 0x24C8)) ∷  -- Ⓢ
    (codes "circledast", Shows (Sign Binary 0x229B)) ∷  -- ⊛
    (codes "circledcirc", Shows (Sign Binary 0x229A)) ∷  -- ⊚
    (codes "circleddash", Shows (Sign Binary 0x229D)) ∷  -- ⊝
    (codes "clubs", Shows (Sign Ordinary 0x2663)) ∷  -- ♣
    (codes "clubsuit", Shows (Sign Ordinary 0x2663)) ∷  -- ♣
    (codes "cnums", Shows (Letter 0x2102)) ∷  -- ℂ
    (codes "coloncolon", Shows (Sign Relation 0x2237)) ∷  -- ∷
    (codes "colonequals", Shows (Sign Relation 0x2254)) ∷  -- ≔
    (codes "color", Changes ToColor) ∷
    (codes "complement", Shows (Sign Ordinary 0x2201)) ∷  -- ∁
    (codes "cong", Shows (Sign Relation 0x2245)) ∷  -- ≅
    (codes "coprod", Shows (BigOperator 0x2210)) ∷  -- ∐
    (codes "copyright", Shows (Sign Ordinary 0xA9)) ∷  -- ©
    (codes "cos", FunctionName Beside (codes "cos")) ∷
    (codes "cosec", FunctionName Beside (codes "cosec")) ∷
    (codes "cosh", FunctionName Beside (codes "cosh")) ∷
    (codes "cot", FunctionName Beside (codes "cot")) ∷
    (codes "cotg", FunctionName Beside (codes "cotg")) ∷
    (codes "coth", FunctionName Beside (codes "coth")) ∷
    (codes "cr", LineBreak) ∷
    (codes "csc", FunctionName Beside (codes "csc")) ∷
    (codes "csch", FunctionName Beside (codes "csch")) ∷
    (codes "ctg", FunctionName Beside (codes "ctg")) ∷
    (codes "cth", FunctionName Beside (codes "cth")) ∷
    (codes "cup", Shows (Sign Binary 0x222A)) ∷  -- ∪
    (codes "cupdot", Shows (Sign Binary 0x228D)) ∷  -- ⊍
    (codes "curlyeqprec", Shows (Sign Relation 0x22DE)) ∷  -- ⋞
    (codes "curlyeqsucc", Shows (Sign Relation 0x22DF)) ∷  -- ⋟
    (codes "curlyvee", Shows (Sign Binary 0x22CE)) ∷  -- ⋎
    (codes "curlywedge", Shows (Sign Binary 0x22CF)) ∷  -- ⋏
    (codes "curvearrowleft", Shows (Sign Relation 0x21B6)) ∷  -- ↶
    (codes "curvearrowright", Shows (Sign Relation 0x21B7)) ∷  -- ↷
    (codes "dArr", Shows (Sign Relation 0x21D3)) ∷  -- ⇓
    (codes "dag", Shows (Sign Ordinary 0x2020)) ∷  -- †
    (codes "dagger", Shows (Sign Binary 0x2020)) ∷  -- †
    (codes "daleth", Shows (UprightLetter 0x2138)) ∷  -- ℸ
    (codes "darr", Shows (Sign Relation 0x2193)) ∷  -- ↓
    (codes "dashint", Shows (Integral 0x2A0D)) ∷  -- ⨍
    (codes "dashleftarrow", Shows (Sign Relation 0x21E0)) ∷  -- ⇠
    (codes "dashrightarrow", Shows (Sign Relation 0x21E2)) ∷  -- ⇢
    (codes "dashv", Shows (Sign Relation 0x22A3)) ∷  -- ⊣
    (codes "dbinom", Fraction NoBar (Some InDisplay)) ∷
    (codes "dblcolon", Shows (Sign Relation 0x2237)) ∷  -- ∷
    (codes "ddag", Shows (Sign Ordinary 0x2021)) ∷  -- ‡
    (codes "ddagger", Shows (Sign Binary 0x2021)) ∷  -- ‡
    (codes "dddot", Accent Above 0x2026 Rigid) ∷  -- …
    (codes "ddot", Accent Above 0xA8 Rigid) ∷  -- ¨
    (codes "ddots", Shows (Sign Inner 0x22F1)) ∷  -- ⋱
    (codes "deg", FunctionName Beside (codes "deg")) ∷
    (codes "degree", Shows (Sign Ordinary 0xB0)) ∷  -- °
    (codes "delta", Shows (Letter 0x03B4)) ∷  -- δ
    (codes "det", FunctionName ByStyle (codes "det")) ∷
    (codes "dfrac", Fraction Bar (Some InDisplay)) ∷
    (codes "dh", Shows (UprightLetter 0xF0)) ∷  -- ð
    (codes "diagdown", Shows (Sign Ordinary 0x2572)) ∷  -- ╲
    (codes "diagup", Shows (Sign Ordinary 0x2571)) ∷  -- ╱
    (codes "diamond", Shows (Sign Binary 0x22C4)) ∷  -- ⋄
    (codes "diamonds", Shows (Sign Ordinary 0x2662)) ∷  -- ♢
    (codes "diamondsuit", Shows (Sign Ordinary 0x2662)) ∷  -- ♢
    (codes "digamma", Shows (Letter 0x03DD)) ∷  -- ϝ
    (codes "dim", FunctionName Beside (codes "dim")) ∷
    (codes "displaylimits", Limits) ∷
    (codes "displaystyle", Changes (ToStyle InDisplay)) ∷
    (codes "div", Shows (Sign Binary 0xF7)) ∷  -- ÷
    (codes "divideontimes", Shows (Sign Binary 0x22C7)) ∷  -- ⋇
    (codes "dj", Shows (UprightLetter 0x0111)) ∷  -- đ
    (codes "dot", Accent Above 0x02D9 Rigid) ∷  -- ˙
    (codes "dotcup", Shows (Sign Binary 0x228D)) ∷  -- ⊍
    (codes "doteq", Shows (Sign Relation 0x2250)) ∷  -- ≐
    (codes "doteqdot", Shows (Sign Relation 0x2251)) ∷  -- ≑
    (codes "dotplus", Shows (Sign Binary 0x2214)) ∷  -- ∔
    (codes "dots", Dots) ∷
    (codes "doublebarwedge", Shows (Sign Binary 0x2A5E)) ∷  -- ⩞
    (codes "doublecap", Shows (Sign Binary 0x22D2)) ∷  -- ⋒
    (codes "doublecup", Shows (Sign Binary 0x22D3)) ∷  -- ⋓
    (codes "downarrow", Shows (Sign Relation 0x2193)) ∷  -- ↓
    (codes "downdownarrows", Shows (Sign Relation 0x21CA)) ∷  -- ⇊
    (codes "downharpoonleft", Shows (Sign Relation 0x21C3)) ∷  -- ⇃
    (codes "downharpoonright", Shows (Sign Relation 0x21C2)) ∷  -- ⇂
    (codes "earth", Shows (Sign Ordinary 0x2641)) ∷  -- ♁
    (codes "ell", Shows (Letter 0x2113)) ∷  -- ℓ
    (codes "emph", Words (Some Italic)) ∷
    (codes "empty", Shows (Sign Ordinary 0x2205)) ∷  -- ∅
    (codes "emptyset", Shows (Sign Ordinary 0x2205)) ∷  -- ∅
    (codes "end", EndTable) ∷
    (codes "enskip", Spacing (pos 9)) ∷
    (codes "enspace", Spacing (pos 9)) ∷
    (codes "epsilon", Shows (Letter 0x03F5)) ∷  -- ϵ
    (codes "eqcirc", Shows (Sign Relation 0x2256)) ∷  -- ≖
    (codes "eqcolon", Shows (Sign Relation 0x2255)) ∷  -- ≕
    (codes "eqqcolon", Shows (Sign Relation 0x2255)) ∷  -- ≕
    (codes "eqsim", Shows (Sign Relation 0x2242)) ∷  -- ≂
    (codes "eqslantgtr", Shows (Sign Relation 0x2A96)) ∷  -- ⪖
    (codes "eqslantless", Shows (Sign Relation 0x2A95)) ∷  -- ⪕
    (codes "equalscolon", Shows (Sign Relation 0x2255)) ∷  -- ≕
    (codes "equiv", Shows (Sign Relation 0x2261)) ∷  -- ≡
    (codes "erf", FunctionName Beside (codes "erf")) ∷
    (codes "erfc", FunctionName Beside (codes "erfc")) ∷
    (codes "eta", Shows (Letter 0x03B7)) ∷  -- η
    (codes "eth", Shows (UprightLetter 0xF0)) ∷  -- ð
    (codes "euro", Shows (Sign Ordinary 0x20AC)) ∷  -- €
    (codes "exist", Shows (Sign Ordinary 0x2203)) ∷  -- ∃
    (codes "exists", Shows (Sign Ordinary 0x2203)) ∷  -- ∃
    (codes "exp", FunctionName Beside (codes "exp")) ∷
    (codes "fallingdotseq", Shows (Sign Relation 0x2252)) ∷  -- ≒
    (codes "fint", Shows (Integral 0x2A0D)) ∷  -- ⨍
    (codes "flat", Shows (Sign Ordinary 0x266D)) ∷  -- ♭
    (codes "footnotesize", Changes (ToSize FootnoteSize)) ∷
    (codes "forall", Shows (Sign Ordinary 0x2200)) ∷  -- ∀
    (codes "frac", Fraction Bar None) ∷
    (codes "frak", Styled Fraktur) ∷
    (codes "from", Shows (Sign Relation 0x2322)) ∷  -- ⌢
    (codes "frown", Shows (Sign Relation 0x2322)) ∷  -- ⌢
    (codes "gamma", Shows (Letter 0x03B3)) ∷  -- γ
    (codes "gcd", FunctionName ByStyle (codes "gcd")) ∷
    (codes "ge", Shows (Sign Relation 0x2265)) ∷  -- ≥
    (codes "genfrac", GeneralFraction) ∷
    (codes "geq", Shows (Sign Relation 0x2265)) ∷  -- ≥
    (codes "geqq", Shows (Sign Relation 0x2267)) ∷  -- ≧
    (codes "geqslant", Shows (Sign Relation 0x2A7E)) ∷  -- ⩾
    (codes "gets", Shows (Sign Relation 0x2190)) ∷  -- ←
    (codes "gg", Shows (Sign Relation 0x226B)) ∷  -- ≫
    (codes "ggg", Shows (Sign Relation 0x22D9)) ∷  -- ⋙
    (codes "gggtr", Shows (Sign Relation 0x22D9)) ∷  -- ⋙
    (codes "gimel", Shows (UprightLetter 0x2137)) ∷  -- ℷ
    (codes "gnapprox", Shows (Sign Relation 0x2A8A)) ∷  -- ⪊
    (codes "gneq", Shows (Sign Relation 0x2A88)) ∷  -- ⪈
    (codes "gneqq", Shows (Sign Relation 0x2269)) ∷  -- ≩
    (codes "gnsim", Shows (Sign Relation 0x22E7)) ∷  -- ⋧
    (codes "grave", Accent Above 0x60 Rigid) ∷  -- `
    (codes "gt", Shows (Sign Relation 0x3E)) ∷  -- >
    (codes "gtrapprox", Shows (Sign Relation 0x2A86)) ∷  -- ⪆
    (codes "gtrdot", Shows (Sign Binary 0x22D7)) ∷  -- ⋗
    (codes "gtreqless", Shows (Sign Relation 0x22DB)) ∷  -- ⋛
    (codes "gtreqqless", Shows (Sign Relation 0x2A8C)) ∷  -- ⪌
    (codes "gtrless", Shows (Sign Relation 0x2277)) ∷  -- ≷
    (codes "gtrsim", Shows (Sign Relation 0x2273)) ∷  -- ≳
    (codes "gvertneqq", Shows (Sign Relation 0x2269)) ∷  -- ≩
    (codes "hArr", Shows (Sign Relation 0x21D4)) ∷  -- ⇔
    (codes "harr", Shows (Sign Relation 0x2194)) ∷  -- ↔
    (codes "hat", Accent Above 0x02C6 Rigid) ∷  -- ˆ
    (codes "hbar", Shows (Letter 0x210F)) ∷  -- ℏ
    (codes "hbox", Words None) ∷
    (codes "hearts", Shows (Sign Ordinary 0x2661)) ∷  -- ♡
    (codes "heartsuit", Shows (Sign Ordinary 0x2661)) ∷  -- ♡
    (codes "hom", FunctionName Beside (codes "hom")) ∷
    (codes "hookleftarrow", Shows (Sign Relation 0x21A9)) ∷  -- ↩
    (codes "hookrightarrow", Shows (Sign Relation 0x21AA)) ∷  -- ↪
    (codes "hphantom", Boxed PhantomWidth) ∷
    (codes "hskip", Skip) ∷
    (codes "hslash", Shows (Letter 0x210F)) ∷  -- ℏ
    (codes "hspace", SkipInBraces) ∷
    (codes "huge", Changes (ToSize Huge)) ∷
    (codes "iddots", Shows (Sign Inner 0x22F0)) ∷  -- ⋰
    (codes "iff", Implication 0x27FA) ∷  -- ⟺
    (codes "iiiint", Shows (Integral 0x2A0C)) ∷  -- ⨌
    (codes "iiint", Shows (Integral 0x222D)) ∷  -- ∭
    (codes "iint", Shows (Integral 0x222C)) ∷  -- ∬
    (codes "image", Shows (UprightLetter 0x2111)) ∷  -- ℑ
    (codes "imageof", Shows (Sign Relation 0x22B7)) ∷  -- ⊷
    (codes "imath", Shows (Letter 0x0131)) ∷  -- ı
    (codes "impliedby", Implication 0x27F8) ∷  -- ⟸
    (codes "implies", Implication 0x27F9) ∷  -- ⟹
    (codes "in", Shows (Sign Relation 0x2208)) ∷  -- ∈
    (codes "inf", FunctionName ByStyle (codes "inf")) ∷
    (codes "infin", Shows (Sign Ordinary 0x221E)) ∷  -- ∞
    (codes "infty", Shows (Sign Ordinary 0x221E)) ∷  -- ∞
    (codes "injlim", FunctionName ByStyle (words_apart (codes "inj") (codes "lim"))) ∷
    (codes "int", Shows (Integral 0x222B)) ∷  -- ∫
    (codes "intercal", Shows (Sign Binary 0x22BA)) ∷  -- ⊺
    (codes "intop", Shows (BigOperator 0x222B)) ∷  -- ∫
    (codes "iota", Shows (Letter 0x03B9)) ∷  -- ι
    (codes "isin", Shows (Sign Relation 0x2208)) ∷  -- ∈
    (codes "it", Changes (ToAlphabet Italic)) ∷
    (codes "jmath", Shows (Letter 0x0237)) ∷  -- ȷ
    (codes "jupiter", Shows (Sign Ordinary 0x2643)) ∷  -- ♃
    (codes "kappa", Shows (Letter 0x03BA)) ∷  -- κ
    (codes "ker", FunctionName Beside (codes "ker")) ∷
    (codes "kern", Skip) ∷
    (codes "l", Shows (UprightLetter 0x0142)) ∷  -- ł
    (codes "lArr", Shows (Sign Relation 0x21D0)) ∷  -- ⇐
    (codes "lBrace", Shows (Sign Opening 0x2983)) ∷  -- ⦃
    (codes "lVert", Shows (Sign Opening 0x2225)) ∷  -- ∥
    (codes "lambda", Shows (Letter 0x03BB)) ∷  -- λ
    (codes "land", Shows (Sign Binary 0x2227)) ∷  -- ∧
    (codes "lang", Shows (Sign Opening 0x27E8)) ∷  -- ⟨
    (codes "langle", Shows (Sign Opening 0x27E8)) ∷  -- ⟨
    (codes "large", Changes (ToSize Large)) ∷
    (codes "larr", Shows (Sign Relation 0x2190)) ∷  -- ←
    (codes "lbrace", Shows (Sign Opening 0x7B)) ∷  -- {
    (codes "lbrack", Shows (Sign Opening 0x5B)) ∷  -- [
    (codes "lceil", Shows (Sign Opening 0x2308)) ∷  -- ⌈
    (codes "ldotp", Shows (Sign Punctuation 0x2E)) ∷  -- .
    (codes "ldots", Shows (Sign Inner 0x2026)) ∷  -- …
    (codes "le", Shows (Sign Relation 0x2264)) ∷  -- ≤
    (codes "leadsto", Shows (Sign Relation 0x21DD)) ∷  -- ⇝
    (codes "left", Left) ∷
    (codes "leftarrow", Shows (Sign Relation 0x2190)) ∷  -- ←
    (codes "leftarrowtail", Shows (Sign Relation 0x21A2)) ∷  -- ↢
    (codes "leftharpoondown", Shows (Sign Relation 0x21BD)) ∷  -- ↽
    (codes "leftharpoonup", Shows (Sign Relation 0x21BC)) ∷  -- ↼
    (codes "leftleftarrows", Shows (Sign Relation 0x21C7)) ∷  -- ⇇
    (codes "leftrightarrow", Shows (Sign Relation 0x2194)) ∷  -- ↔
    (codes "leftrightarrows", Shows (Sign Relation 0x21C6)) ∷  -- ⇆
    (codes "leftrightharpoons", Shows (Sign Relation 0x21CB)) ∷  -- ⇋
    (codes "leftrightsquigarrow", Shows (Sign Relation 0x21AD)) ∷  -- ↭
    (codes "leftthreetimes", Shows (Sign Binary 0x22CB)) ∷  -- ⋋
    (codes "leq", Shows (Sign Relation 0x2264)) ∷  -- ≤
    (codes "leqq", Shows (Sign Relation 0x2266)) ∷  -- ≦
    (codes "leqslant", Shows (Sign Relation 0x2A7D)) ∷  -- ⩽
    (codes "lessapprox", Shows (Sign Relation 0x2A85)) ∷  -- ⪅
    (codes "lessdot", Shows (Sign Binary 0x22D6)) ∷  -- ⋖
    (codes "lesseqgtr", Shows (Sign Relation 0x22DA)) ∷  -- ⋚
    (codes "lesseqqgtr", Shows (Sign Relation 0x2A8B)) ∷  -- ⪋
    (codes "lessgtr", Shows (Sign Relation 0x2276)) ∷  -- ≶
    (codes "lesssim", Shows (Sign Relation 0x2272)) ∷  -- ≲
    (codes "lfloor", Shows (Sign Opening 0x230A)) ∷  -- ⌊
    (codes "lg", FunctionName Beside (codes "lg")) ∷
    (codes "lgroup", Shows (Sign Opening 0x27EE)) ∷  -- ⟮
    (codes "lhd", Shows (Sign Binary 0x22B2)) ∷  -- ⊲
    (codes "lightning", Shows (Sign Relation 0x21AF)) ∷  -- ↯
    (codes "lim", FunctionName ByStyle (codes "lim")) ∷
    (codes "liminf", FunctionName ByStyle (words_apart (codes "lim") (codes "inf"))) ∷
    (codes "limits", Limits) ∷
    (codes "limsup", FunctionName ByStyle (words_apart (codes "lim") (codes "sup"))) ∷
    (codes "ll", Shows (Sign Relation 0x226A)) ∷  -- ≪
    (codes "llbracket", Shows (Sign Opening 0x27E6)) ∷  -- ⟦
    (codes "llcorner", Shows (Sign Opening 0x231E)) ∷  -- ⌞
    (codes "lll", Shows (Sign Relation 0x22D8)) ∷  -- ⋘
    (codes "llless", Shows (Sign Relation 0x22D8)) ∷  -- ⋘
    (codes "lmoustache", Shows (Sign Opening 0x23B0)) ∷  -- ⎰
    (codes "ln", FunctionName Beside (codes "ln")) ∷
    (codes "lnapprox", Shows (Sign Relation 0x2A89)) ∷  -- ⪉
    (codes "lneq", Shows (Sign Relation 0x2A87)) ∷  -- ⪇
    (codes "lneqq", Shows (Sign Relation 0x2268)) ∷  -- ≨
    (codes "lnot", Shows (Sign Ordinary 0xAC)) ∷  -- ¬
    (codes "lnsim", Shows (Sign Relation 0x22E6)) ∷  -- ⋦
    (codes "log", FunctionName Beside (codes "log")) ∷
    (codes "longleftarrow", Shows (Sign Relation 0x27F5)) ∷  -- ⟵
    (codes "longleftrightarrow", Shows (Sign Relation 0x27F7)) ∷  -- ⟷
    (codes "longmapsto", Shows (Sign Relation 0x27FC)) ∷  -- ⟼
    (codes "longrightarrow", Shows (Sign Relation 0x27F6)) ∷  -- ⟶
    (codes "looparrowleft", Shows (Sign Relation 0x21AB)) ∷  -- ↫
    (codes "looparrowright", Shows (Sign Relation 0x21AC)) ∷  -- ↬
    (codes "lor", Shows (Sign Binary 0x2228)) ∷  -- ∨
    (codes "lozenge", Shows (Sign Ordinary 0x25CA)) ∷  -- ◊
    (codes "lparen", Shows (Sign Opening 0x28)) ∷  -- (
    (codes "lrArr", Shows (Sign Relation 0x21D4)) ∷  -- ⇔
    (codes "lrarr", Shows (Sign Relation 0x2194)) ∷  -- ↔
    (codes "lrcorner", Shows (Sign Closing 0x231F)) ∷  -- ⌟
    (codes "lt", Shows (Sign Relation 0x3C)) ∷  -- <
    (codes "ltimes", Shows (Sign Binary 0x22C9)) ∷  -- ⋉
    (codes "lvert", Shows (Sign Opening 0x2223)) ∷  -- ∣
    (codes "lvertneqq", Shows (Sign Relation 0x2268)) ∷  -- ≨
    []
