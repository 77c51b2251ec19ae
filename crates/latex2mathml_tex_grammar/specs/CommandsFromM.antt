-- The commands from those that begin with m, in the order of their names' bytes. A name is its bytes, without the
-- backslash; a character is its code point, and is also shown after its line.
use Rattle.std.specs.Prelude.{ℕ, pos, negsuc, List, [], ◌∷◌, Some, None, codes}
use Rattle.latex2mathml_tex_grammar.specs.Meaning.{Meaning, Shows, VerticalDots, FunctionName, Spacing, Skip, SkipInBraces, Boxed, Smash, Styled, Words, Fraction, Root, Accent, Brace, Stack, StackedRelation, OperatorName, Negation, Slash, Middle, Right, NoLimits, Classed, Changes, ToAlphabet, ToStyle, ToSize, Divides, words_apart, LineBreak, Substack, Raise, InColor, Highlight, Rectangle, Arrow, Choice}
use Rattle.latex2mathml_tex_grammar.specs.Symbols.{Letter, UprightLetter, Sign, BigOperator, Integral, Ordinary, Operator, Binary, Relation, Opening, Closing, Punctuation, Inner, Upright, Italic, Bold, BoldItalic, DoubleStruck, Fraktur, Calligraphic, SansSerif, Monospace, InText, InScript, Tiny, ScriptSize, SixPoint, Small, NormalSize}
use Rattle.latex2mathml_elements.specs.Attributes.{Above, Below, Stretching, Rigid}
use Rattle.latex2mathml_tex_grammar.specs.Meaning.{Phantom, PhantomHeight, OverRight, OverLeft, OverBoth, StrikeTwice, Beside, ByStyle, Stacked, Bar, NoBar}

-- the table of commands, from those that begin with `m` on
unfoldable pub commands_from_m : List (List ℕ × Meaning)
commands_from_m =
    (codes "maltese", Shows (Sign Ordinary 0x2720)) ∷  -- ✠
    (codes "mapsto", Shows (Sign Relation 0x21A6)) ∷  -- ↦
    (codes "mars", Shows (Sign Ordinary 0x2642)) ∷  -- ♂
    (codes "mathbb", Styled DoubleStruck) ∷
    (codes "mathbbm", Styled DoubleStruck) ∷
    (codes "mathbbmss", Styled DoubleStruck) ∷
    (codes "mathbbold", Styled DoubleStruck) ∷
    (codes "mathbf", Styled Bold) ∷
    (codes "mathbfit", Styled BoldItalic) ∷
    (codes "mathbfup", Styled Bold) ∷
    (codes "mathbin", Classed Binary) ∷
    (codes "mathcal", Styled Calligraphic) ∷
    (codes "mathchoice", Choice) ∷
    (codes "mathclap", Boxed OverBoth) ∷
    (codes "mathclose", Classed Closing) ∷
    (codes "mathcolor", InColor) ∷
    (codes "mathcolorbox", Highlight) ∷
    (codes "mathds", Styled DoubleStruck) ∷
    (codes "mathellipsis", Shows (Sign Inner 0x2026)) ∷  -- …
    (codes "mathfrak", Styled Fraktur) ∷
    (codes "mathinner", Classed Inner) ∷
    (codes "mathit", Styled Italic) ∷
    (codes "mathllap", Boxed OverLeft) ∷
    (codes "mathnormal", Styled Italic) ∷
    (codes "mathop", Classed Operator) ∷
    (codes "mathopen", Classed Opening) ∷
    (codes "mathord", Classed Ordinary) ∷
    (codes "mathpunct", Classed Punctuation) ∷
    (codes "mathpzc", Styled Calligraphic) ∷
    (codes "mathrel", Classed Relation) ∷
    (codes "mathring", Accent Above 0x02DA Rigid) ∷  -- ˚
    (codes "mathrlap", Boxed OverRight) ∷
    (codes "mathrm", Styled Upright) ∷
    (codes "mathscr", Styled Calligraphic) ∷
    (codes "mathsf", Styled SansSerif) ∷
    (codes "mathsterling", Shows (Sign Ordinary 0xA3)) ∷  -- £
    (codes "mathtt", Styled Monospace) ∷
    (codes "mathup", Styled Upright) ∷
    (codes "max", FunctionName ByStyle (codes "max")) ∷
    (codes "mbox", Words None) ∷
    (codes "measuredangle", Shows (Sign Ordinary 0x2221)) ∷  -- ∡
    (codes "medspace", Spacing (pos 4)) ∷
    (codes "mercury", Shows (Sign Ordinary 0x263F)) ∷  -- ☿
    (codes "mho", Shows (Sign Ordinary 0x2127)) ∷  -- ℧
    (codes "micro", Shows (UprightLetter 0xB5)) ∷  -- µ
    (codes "mid", Shows (Sign Relation 0x2223)) ∷  -- ∣
    (codes "middle", Middle) ∷
    (codes "min", FunctionName ByStyle (codes "min")) ∷
    (codes "minuscolon", Shows (Sign Relation 0x2239)) ∷  -- ∹
    (codes "minuso", Shows (Sign Binary 0x29B5)) ∷  -- ⦵
    (codes "mit", Changes (ToAlphabet Italic)) ∷
    (codes "mkern", Skip) ∷
    (codes "models", Shows (Sign Relation 0x22A8)) ∷  -- ⊨
    (codes "mp", Shows (Sign Binary 0x2213)) ∷  -- ∓
    (codes "mskip", Skip) ∷
    (codes "mspace", SkipInBraces) ∷
    (codes "mu", Shows (Letter 0x03BC)) ∷  -- μ
    (codes "multimap", Shows (Sign Relation 0x22B8)) ∷  -- ⊸
    (codes "nLeftarrow", Shows (Sign Relation 0x21CD)) ∷  -- ⇍
    (codes "nLeftrightarrow", Shows (Sign Relation 0x21CE)) ∷  -- ⇎
    (codes "nRightarrow", Shows (Sign Relation 0x21CF)) ∷  -- ⇏
    (codes "nVDash", Shows (Sign Relation 0x22AF)) ∷  -- ⊯
    (codes "nVdash", Shows (Sign Relation 0x22AE)) ∷  -- ⊮
    (codes "nabla", Shows (Sign Ordinary 0x2207)) ∷  -- ∇
    (codes "natnums", Shows (Letter 0x2115)) ∷  -- ℕ
    (codes "natural", Shows (Sign Ordinary 0x266E)) ∷  -- ♮
    (codes "ncong", Shows (Sign Relation 0x2247)) ∷  -- ≇
    (codes "ne", Shows (Sign Relation 0x2260)) ∷  -- ≠
    (codes "nearrow", Shows (Sign Relation 0x2197)) ∷  -- ↗
    (codes "neg", Shows (Sign Ordinary 0xAC)) ∷  -- ¬
    (codes "negmedspace", Spacing (negsuc 3)) ∷
    (codes "negthickspace", Spacing (negsuc 4)) ∷
    (codes "negthinspace", Spacing (negsuc 2)) ∷
    (codes "neptune", Shows (Sign Ordinary 0x2646)) ∷  -- ♆
    (codes "neq", Shows (Sign Relation 0x2260)) ∷  -- ≠
    (codes "nequiv", Shows (Sign Relation 0x2262)) ∷  -- ≢
    (codes "newline", LineBreak) ∷
    (codes "nexists", Shows (Sign Ordinary 0x2204)) ∷  -- ∄
    (codes "ng", Shows (UprightLetter 0x014B)) ∷  -- ŋ
    (codes "ngeq", Shows (Sign Relation 0x2271)) ∷  -- ≱
    (codes "ngeqq", Shows (Sign Relation 0x2271)) ∷  -- ≱
    (codes "ngeqslant", Shows (Sign Relation 0x2271)) ∷  -- ≱
    (codes "ngtr", Shows (Sign Relation 0x226F)) ∷  -- ≯
    (codes "ni", Shows (Sign Relation 0x220B)) ∷  -- ∋
    (codes "nleftarrow", Shows (Sign Relation 0x219A)) ∷  -- ↚
    (codes "nleftrightarrow", Shows (Sign Relation 0x21AE)) ∷  -- ↮
    (codes "nleq", Shows (Sign Relation 0x2270)) ∷  -- ≰
    (codes "nleqq", Shows (Sign Relation 0x2270)) ∷  -- ≰
    (codes "nleqslant", Shows (Sign Relation 0x2270)) ∷  -- ≰
    (codes "nless", Shows (Sign Relation 0x226E)) ∷  -- ≮
    (codes "nmid", Shows (Sign Relation 0x2224)) ∷  -- ∤
    (codes "nobreakspace", Spacing (pos 6)) ∷
    (codes "nolimits", NoLimits) ∷
    (codes "normalsize", Changes (ToSize NormalSize)) ∷
    (codes "not", Negation) ∷
    (codes "notin", Shows (Sign Relation 0x2209)) ∷  -- ∉
    (codes "notni", Shows (Sign Relation 0x220C)) ∷  -- ∌
    (codes "nparallel", Shows (Sign Relation 0x2226)) ∷  -- ∦
    (codes "nprec", Shows (Sign Relation 0x2280)) ∷  -- ⊀
    (codes "npreceq", Shows (Sign Relation 0x22E0)) ∷  -- ⋠
    (codes "nrightarrow", Shows (Sign Relation 0x219B)) ∷  -- ↛
    (codes "nshortmid", Shows (Sign Relation 0x2224)) ∷  -- ∤
    (codes "nshortparallel", Shows (Sign Relation 0x2226)) ∷  -- ∦
    (codes "nsim", Shows (Sign Relation 0x2241)) ∷  -- ≁
    (codes "nsubseteq", Shows (Sign Relation 0x2288)) ∷  -- ⊈
    (codes "nsubseteqq", Shows (Sign Relation 0x2288)) ∷  -- ⊈
    (codes "nsucc", Shows (Sign Relation 0x2281)) ∷  -- ⊁
    (codes "nsucceq", Shows (Sign Relation 0x22E1)) ∷  -- ⋡
    (codes "nsupseteq", Shows (Sign Relation 0x2289)) ∷  -- ⊉
    (codes "nsupseteqq", Shows (Sign Relation 0x2289)) ∷  -- ⊉
    (codes "ntriangleleft", Shows (Sign Relation 0x22EA)) ∷  -- ⋪
    (codes "ntrianglelefteq", Shows (Sign Relation 0x22EC)) ∷  -- ⋬
    (codes "ntriangleright", Shows (Sign Relation 0x22EB)) ∷  -- ⋫
    (codes "ntrianglerighteq", Shows (Sign Relation 0x22ED)) ∷  -- ⋭
    (codes "nu", Shows (Letter 0x03BD)) ∷  -- ν
    (codes "nvDash", Shows (Sign Relation 0x22AD)) ∷  -- ⊭
    (codes "nvdash", Shows (Sign Relation 0x22AC)) ∷  -- ⊬
    (codes "nwarrow", Shows (Sign Relation 0x2196)) ∷  -- ↖
    (codes "o", Shows (UprightLetter 0xF8)) ∷  -- ø
    (codes "odot", Shows (Sign Binary 0x2299)) ∷  -- ⊙
    (codes "oe", Shows (UprightLetter 0x0153)) ∷  -- œ
    (codes "ohm", Shows (UprightLetter 0x03A9)) ∷  -- Ω
    (codes "oiiint", Shows (Integral 0x2230)) ∷  -- ∰
    (codes "oiint", Shows (Integral 0x222F)) ∷  -- ∯
    (codes "oint", Shows (Integral 0x222E)) ∷  -- ∮
    (codes "ointctrclockwise", Shows (Integral 0x2233)) ∷  -- ∳
    (codes "omega", Shows (Letter 0x03C9)) ∷  -- ω
    (codes "omicron", Shows (Letter 0x03BF)) ∷  -- ο
    (codes "ominus", Shows (Sign Binary 0x2296)) ∷  -- ⊖
    (codes "operatorname", OperatorName) ∷
    (codes "oplus", Shows (Sign Binary 0x2295)) ∷  -- ⊕
    (codes "ordinarycolon", Shows (Sign Relation 0x3A)) ∷  -- :
    (codes "origof", Shows (Sign Relation 0x22B6)) ∷  -- ⊶
    (codes "oslash", Shows (Sign Binary 0x2298)) ∷  -- ⊘
    (codes "otimes", Shows (Sign Binary 0x2297)) ∷  -- ⊗
    (codes "over", Changes (Divides Bar)) ∷
    (codes "overbrace", Brace Above 0x23DE) ∷  -- ⏞
    (codes "overbracket", Brace Above 0x23B4) ∷  -- ⎴
    (codes "overgroup", Accent Above 0x23E0 Stretching) ∷  -- ⏠
    (codes "overleftarrow", Accent Above 0x2190 Stretching) ∷  -- ←
    (codes "overleftharpoon", Accent Above 0x21BC Stretching) ∷  -- ↼
    (codes "overleftrightarrow", Accent Above 0x2194 Stretching) ∷  -- ↔
    (codes "overline", Accent Above 0x0332 Stretching) ∷
    (codes "overparen", Brace Above 0x23DC) ∷  -- ⏜
    (codes "overrightarrow", Accent Above 0x2192 Stretching) ∷  -- →
    (codes "overrightharpoon", Accent Above 0x21C0 Stretching) ∷  -- ⇀
    (codes "overset", Stack Above) ∷
    (codes "owns", Shows (Sign Relation 0x220B)) ∷  -- ∋
    (codes "parallel", Shows (Sign Relation 0x2225)) ∷  -- ∥
    (codes "partial", Shows (Sign Ordinary 0x2202)) ∷  -- ∂
    (codes "perp", Shows (Sign Relation 0x22A5)) ∷  -- ⊥
    (codes "perthousand", Shows (Sign Ordinary 0x2030)) ∷  -- ‰
    (codes "phantom", Boxed Phantom) ∷
    (codes "phi", Shows (Letter 0x03D5)) ∷  -- ϕ
    (codes "pi", Shows (Letter 0x03C0)) ∷  -- π
    (codes "pitchfork", Shows (Sign Relation 0x22D4)) ∷  -- ⋔
    (codes "plim", FunctionName Stacked (codes "plim")) ∷
    (codes "plusmn", Shows (Sign Binary 0xB1)) ∷  -- ±
    (codes "pm", Shows (Sign Binary 0xB1)) ∷  -- ±
    (codes "pmb", Styled BoldItalic) ∷
    (codes "pounds", Shows (Sign Ordinary 0xA3)) ∷  -- £
    (codes "prec", Shows (Sign Relation 0x227A)) ∷  -- ≺
    (codes "precapprox", Shows (Sign Relation 0x2AB7)) ∷  -- ⪷
    (codes "preccurlyeq", Shows (Sign Relation 0x227C)) ∷  -- ≼
    (codes "preceq", Shows (Sign Relation 0x2AAF)) ∷  -- ⪯
    (codes "precnapprox", Shows (Sign Relation 0x2AB9)) ∷  -- ⪹
    (codes "precneqq", Shows (Sign Relation 0x2AB5)) ∷  -- ⪵
    (codes "precnsim", Shows (Sign Relation 0x22E8)) ∷  -- ⋨
    (codes "precsim", Shows (Sign Relation 0x227E)) ∷  -- ≾
    (codes "prime", Shows (Sign Ordinary 0x2032)) ∷  -- ′
    (codes "prod", Shows (BigOperator 0x220F)) ∷  -- ∏
    (codes "projlim", FunctionName ByStyle (words_apart (codes "proj") (codes "lim"))) ∷
    (codes "propto", Shows (Sign Relation 0x221D)) ∷  -- ∝
    (codes "psi", Shows (Letter 0x03C8)) ∷  -- ψ
    (codes "qquad", Spacing (pos 36)) ∷
    (codes "quad", Spacing (pos 18)) ∷
    (codes "rArr", Shows (Sign Relation 0x21D2)) ∷  -- ⇒
    (codes "rBrace", Shows (Sign Closing 0x2984)) ∷  -- ⦄
    (codes "rVert", Shows (Sign Closing 0x2225)) ∷  -- ∥
    (codes "raisemath", Raise) ∷
    (codes "rang", Shows (Sign Closing 0x27E9)) ∷  -- ⟩
    (codes "rangle", Shows (Sign Closing 0x27E9)) ∷  -- ⟩
    (codes "rarr", Shows (Sign Relation 0x2192)) ∷  -- →
    (codes "ratio", Shows (Sign Relation 0x3A)) ∷  -- :
    (codes "rbrace", Shows (Sign Closing 0x7D)) ∷  -- }
    (codes "rbrack", Shows (Sign Closing 0x5D)) ∷  -- ]
    (codes "rceil", Shows (Sign Closing 0x2309)) ∷  -- ⌉
    (codes "real", Shows (UprightLetter 0x211C)) ∷  -- ℜ
    (codes "reals", Shows (Letter 0x211D)) ∷  -- ℝ
    (codes "relbar", Shows (Sign Relation 0x2212)) ∷  -- −
    (codes "restriction", Shows (Sign Relation 0x21BE)) ∷  -- ↾
    (codes "rfloor", Shows (Sign Closing 0x230B)) ∷  -- ⌋
    (codes "rgroup", Shows (Sign Closing 0x27EF)) ∷  -- ⟯
    (codes "rhd", Shows (Sign Binary 0x22B3)) ∷  -- ⊳
    (codes "rho", Shows (Letter 0x03C1)) ∷  -- ρ
    (codes "right", Right) ∷
    (codes "rightarrow", Shows (Sign Relation 0x2192)) ∷  -- →
    (codes "rightarrowtail", Shows (Sign Relation 0x21A3)) ∷  -- ↣
    (codes "rightharpoondown", Shows (Sign Relation 0x21C1)) ∷  -- ⇁
    (codes "rightharpoonup", Shows (Sign Relation 0x21C0)) ∷  -- ⇀
    (codes "rightleftarrows", Shows (Sign Relation 0x21C4)) ∷  -- ⇄
    (codes "rightleftharpoons", Shows (Sign Relation 0x21CC)) ∷  -- ⇌
    (codes "rightrightarrows", Shows (Sign Relation 0x21C9)) ∷  -- ⇉
    (codes "rightsquigarrow", Shows (Sign Relation 0x21DD)) ∷  -- ⇝
    (codes "rightthreetimes", Shows (Sign Binary 0x22CC)) ∷  -- ⋌
    (codes "risingdotseq", Shows (Sign Relation 0x2253)) ∷  -- ≓
    (codes "rm", Changes (ToAlphabet Upright)) ∷
    (codes "rmoustache", Shows (Sign Closing 0x23B1)) ∷  -- ⎱
    (codes "rparen", Shows (Sign Closing 0x29)) ∷  -- )
    (codes "rrbracket", Shows (Sign Closing 0x27E7)) ∷  -- ⟧
    (codes "rtimes", Shows (Sign Binary 0x22CA)) ∷  -- ⋊
    (codes "rule", Rectangle) ∷
    (codes "rupee", Shows (Sign Ordinary 0x20B9)) ∷  -- ₹
    (codes "rvert", Shows (Sign Closing 0x2223)) ∷  -- ∣
    (codes "saturn", Shows (Sign Ordinary 0x2644)) ∷  -- ♄
    (codes "scriptscriptstyle", Changes (ToStyle InScript)) ∷
    (codes "scriptsize", Changes (ToSize ScriptSize)) ∷
    (codes "scriptstyle", Changes (ToStyle InScript)) ∷
    (codes "sdot", Shows (Sign Binary 0x22C5)) ∷  -- ⋅
    (codes "searrow", Shows (Sign Relation 0x2198)) ∷  -- ↘
    (codes "sec", FunctionName Beside (codes "sec")) ∷
    (codes "sech", FunctionName Beside (codes "sech")) ∷
    (codes "sect", Shows (Sign Ordinary 0xA7)) ∷  -- §
    (codes "setminus", Shows (Sign Binary 0x2216)) ∷  -- ∖
    (codes "sf", Changes (ToAlphabet SansSerif)) ∷
    (codes "sh", FunctionName Beside (codes "sh")) ∷
    (codes "sharp", Shows (Sign Ordinary 0x266F)) ∷  -- ♯
    (codes "shortmid", Shows (Sign Relation 0x2223)) ∷  -- ∣
    (codes "shortparallel", Shows (Sign Relation 0x2225)) ∷  -- ∥
    (codes "sigma", Shows (Letter 0x03C3)) ∷  -- σ
    (codes "sim", Shows (Sign Relation 0x223C)) ∷  -- ∼
    (codes "simeq", Shows (Sign Relation 0x2243)) ∷  -- ≃
    (codes "sin", FunctionName Beside (codes "sin")) ∷
    (codes "sinh", FunctionName Beside (codes "sinh")) ∷
    (codes "sixptsize", Changes (ToSize SixPoint)) ∷
    (codes "slashed", Slash) ∷
    (codes "small", Changes (ToSize Small)) ∷
    (codes "smallfrown", Shows (Sign Relation 0x2322)) ∷  -- ⌢
    (codes "smallint", Shows (Integral 0x222B)) ∷  -- ∫
    (codes "smallsetminus", Shows (Sign Binary 0x2216)) ∷  -- ∖
    (codes "smallsmile", Shows (Sign Relation 0x2323)) ∷  -- ⌣
    (codes "smash", Smash) ∷
    (codes "smile", Shows (Sign Relation 0x2323)) ∷  -- ⌣
    (codes "space", Spacing (pos 6)) ∷
    (codes "spades", Shows (Sign Ordinary 0x2660)) ∷  -- ♠
    (codes "spadesuit", Shows (Sign Ordinary 0x2660)) ∷  -- ♠
    (codes "sphericalangle", Shows (Sign Ordinary 0x2222)) ∷  -- ∢
    (codes "sqcap", Shows (Sign Binary 0x2293)) ∷  -- ⊓
    (codes "sqcup", Shows (Sign Binary 0x2294)) ∷  -- ⊔
    (codes "sqrt", Root) ∷
    (codes "sqsubset", Shows (Sign Relation 0x228F)) ∷  -- ⊏
    (codes "sqsubseteq", Shows (Sign Relation 0x2291)) ∷  -- ⊑
    (codes "sqsupset", Shows (Sign Relation 0x2290)) ∷  -- ⊐
    (codes "sqsupseteq", Shows (Sign Relation 0x2292)) ∷  -- ⊒
    (codes "square", Shows (Sign Ordinary 0x25A1)) ∷  -- □
    (codes "ss", Shows (UprightLetter 0xDF)) ∷  -- ß
    (codes "stackrel", StackedRelation) ∷
    (codes "star", Shows (Sign Binary 0x22C6)) ∷  -- ⋆
    (codes "sub", Shows (Sign Relation 0x2282)) ∷  -- ⊂
    (codes "sube", Shows (Sign Relation 0x2286)) ∷  -- ⊆
    (codes "subset", Shows (Sign Relation 0x2282)) ∷  -- ⊂
    (codes "subseteq", Shows (Sign Relation 0x2286)) ∷  -- ⊆
    (codes "subseteqq", Shows (Sign Relation 0x2AC5)) ∷  -- ⫅
    (codes "subsetneq", Shows (Sign Relation 0x228A)) ∷  -- ⊊
    (codes "subsetneqq", Shows (Sign Relation 0x2ACB)) ∷  -- ⫋
    (codes "substack", Substack) ∷
    (codes "succ", Shows (Sign Relation 0x227B)) ∷  -- ≻
    (codes "succapprox", Shows (Sign Relation 0x2AB8)) ∷  -- ⪸
    (codes "succcurlyeq", Shows (Sign Relation 0x227D)) ∷  -- ≽
    (codes "succeq", Shows (Sign Relation 0x2AB0)) ∷  -- ⪰
    (codes "succnapprox", Shows (Sign Relation 0x2ABA)) ∷  -- ⪺
    (codes "succneqq", Shows (Sign Relation 0x2AB6)) ∷  -- ⪶
    (codes "succnsim", Shows (Sign Relation 0x22E9)) ∷  -- ⋩
    (codes "succsim", Shows (Sign Relation 0x227F)) ∷  -- ≿
    (codes "sum", Shows (BigOperator 0x2211)) ∷  -- ∑
    (codes "sun", Shows (Sign Ordinary 0x263C)) ∷  -- ☼
    (codes "sup", FunctionName ByStyle (codes "sup")) ∷
    (codes "supe", Shows (Sign Relation 0x2287)) ∷  -- ⊇
    (codes "supset", Shows (Sign Relation 0x2283)) ∷  -- ⊃
    (codes "supseteq", Shows (Sign Relation 0x2287)) ∷  -- ⊇
    (codes "supseteqq", Shows (Sign Relation 0x2AC6)) ∷  -- ⫆
    (codes "supsetneq", Shows (Sign Relation 0x228B)) ∷  -- ⊋
    (codes "supsetneqq", Shows (Sign Relation 0x2ACC)) ∷  -- ⫌
    (codes "surd", Shows (Sign Ordinary 0x221A)) ∷  -- √
    (codes "swarrow", Shows (Sign Relation 0x2199)) ∷  -- ↙
    (codes "symbb", Styled DoubleStruck) ∷
    (codes "symbf", Styled BoldItalic) ∷
    (codes "symbfit", Styled BoldItalic) ∷
    (codes "symbfup", Styled Bold) ∷
    (codes "symcal", Styled Calligraphic) ∷
    (codes "symfrak", Styled Fraktur) ∷
    (codes "symit", Styled Italic) ∷
    (codes "symrm", Styled Upright) ∷
    (codes "symscr", Styled Calligraphic) ∷
    (codes "symsf", Styled SansSerif) ∷
    (codes "symtt", Styled Monospace) ∷
    (codes "symup", Styled Upright) ∷
    (codes "tan", FunctionName Beside (codes "tan")) ∷
    (codes "tanh", FunctionName Beside (codes "tanh")) ∷
    (codes "tau", Shows (Letter 0x03C4)) ∷  -- τ
    (codes "tbinom", Fraction NoBar (Some InText)) ∷
    (codes "text", Words None) ∷
    (codes "textbf", Words (Some Bold)) ∷
    (codes "textcolor", InColor) ∷
    (codes "textit", Words (Some Italic)) ∷
    (codes "textmd", Words None) ∷
    (codes "textnormal", Words None) ∷
    (codes "textrm", Words None) ∷
    (codes "textsc", Words None) ∷
    (codes "textsf", Words (Some SansSerif)) ∷
    (codes "textsl", Words (Some Italic)) ∷
    (codes "textstyle", Changes (ToStyle InText)) ∷
    (codes "texttt", Words (Some Monospace)) ∷
    (codes "textup", Words None) ∷
    (codes "textyen", Shows (Sign Ordinary 0xA5)) ∷  -- ¥
    (codes "tfrac", Fraction Bar (Some InText)) ∷
    (codes "tg", FunctionName Beside (codes "tg")) ∷
    (codes "th", FunctionName Beside (codes "th")) ∷
    (codes "therefore", Shows (Sign Relation 0x2234)) ∷  -- ∴
    (codes "theta", Shows (Letter 0x03B8)) ∷  -- θ
    (codes "thetasym", Shows (Letter 0x03D1)) ∷  -- ϑ
    (codes "thickapprox", Shows (Sign Relation 0x2248)) ∷  -- ≈
    (codes "thicksim", Shows (Sign Relation 0x223C)) ∷  -- ∼
    (codes "thickspace", Spacing (pos 5)) ∷
    (codes "thinspace", Spacing (pos 3)) ∷
    (codes "tilde", Accent Above 0x02DC Rigid) ∷  -- ˜
    (codes "times", Shows (Sign Binary 0xD7)) ∷  -- ×
    (codes "tiny", Changes (ToSize Tiny)) ∷
    (codes "to", Shows (Sign Relation 0x2192)) ∷  -- →
    (codes "top", Shows (Sign Ordinary 0x22A4)) ∷  -- ⊤
    (codes "triangle", Shows (Sign Ordinary 0x25B3)) ∷  -- △
    (codes "triangledown", Shows (Sign Ordinary 0x25BD)) ∷  -- ▽
    (codes "triangleleft", Shows (Sign Binary 0x25C3)) ∷  -- ◃
    (codes "trianglelefteq", Shows (Sign Relation 0x22B4)) ∷  -- ⊴
    (codes "triangleq", Shows (Sign Relation 0x225C)) ∷  -- ≜
    (codes "triangleright", Shows (Sign Binary 0x25B9)) ∷  -- ▹
    (codes "trianglerighteq", Shows (Sign Relation 0x22B5)) ∷  -- ⊵
    (codes "tt", Changes (ToAlphabet Monospace)) ∷
    (codes "twoheadleftarrow", Shows (Sign Relation 0x219E)) ∷  -- ↞
    (codes "twoheadrightarrow", Shows (Sign Relation 0x21A0)) ∷  -- ↠
    (codes "uArr", Shows (Sign Relation 0x21D1)) ∷  -- ⇑
    (codes "uarr", Shows (Sign Relation 0x2191)) ∷  -- ↑
    (codes "ulcorner", Shows (Sign Opening 0x231C)) ∷  -- ⌜
    (codes "unboldmath", Changes (ToAlphabet Upright)) ∷
    (codes "underbar", Accent Below 0x0332 Stretching) ∷
    (codes "underbrace", Brace Below 0x23DF) ∷  -- ⏟
    (codes "underbracket", Brace Below 0x23B5) ∷  -- ⎵
    (codes "undergroup", Accent Below 0x23E1 Stretching) ∷  -- ⏡
    (codes "underleftarrow", Accent Below 0x2190 Stretching) ∷  -- ←
    (codes "underleftrightarrow", Accent Below 0x2194 Stretching) ∷  -- ↔
    (codes "underline", Accent Below 0x0332 Stretching) ∷
    (codes "underparen", Brace Below 0x23DD) ∷  -- ⏝
    (codes "underrightarrow", Accent Below 0x2192 Stretching) ∷  -- →
    (codes "underset", Stack Below) ∷
    (codes "unlhd", Shows (Sign Binary 0x22B4)) ∷  -- ⊴
    (codes "unrhd", Shows (Sign Binary 0x22B5)) ∷  -- ⊵
    (codes "upalpha", Shows (UprightLetter 0x03B1)) ∷  -- α
    (codes "uparrow", Shows (Sign Relation 0x2191)) ∷  -- ↑
    (codes "upbeta", Shows (UprightLetter 0x03B2)) ∷  -- β
    (codes "upchi", Shows (UprightLetter 0x03C7)) ∷  -- χ
    (codes "updelta", Shows (UprightLetter 0x03B4)) ∷  -- δ
    (codes "updownarrow", Shows (Sign Relation 0x2195)) ∷  -- ↕
    (codes "upepsilon", Shows (UprightLetter 0x03F5)) ∷  -- ϵ
    (codes "upeta", Shows (UprightLetter 0x03B7)) ∷  -- η
    (codes "upgamma", Shows (UprightLetter 0x03B3)) ∷  -- γ
    (codes "upharpoonleft", Shows (Sign Relation 0x21BF)) ∷  -- ↿
    (codes "upharpoonright", Shows (Sign Relation 0x21BE)) ∷  -- ↾
    (codes "upiota", Shows (UprightLetter 0x03B9)) ∷  -- ι
    (codes "upkappa", Shows (UprightLetter 0x03BA)) ∷  -- κ
    (codes "uplambda", Shows (UprightLetter 0x03BB)) ∷  -- λ
    (codes "uplus", Shows (Sign Binary 0x228E)) ∷  -- ⊎
    (codes "upmu", Shows (UprightLetter 0x03BC)) ∷  -- μ
    (codes "upnu", Shows (UprightLetter 0x03BD)) ∷  -- ν
    (codes "upomega", Shows (UprightLetter 0x03C9)) ∷  -- ω
    (codes "upphi", Shows (UprightLetter 0x03D5)) ∷  -- ϕ
    (codes "uppi", Shows (UprightLetter 0x03C0)) ∷  -- π
    (codes "uppsi", Shows (UprightLetter 0x03C8)) ∷  -- ψ
    (codes "uprho", Shows (UprightLetter 0x03C1)) ∷  -- ρ
    (codes "upsigma", Shows (UprightLetter 0x03C3)) ∷  -- σ
    (codes "upsilon", Shows (Letter 0x03C5)) ∷  -- υ
    (codes "uptau", Shows (UprightLetter 0x03C4)) ∷  -- τ
    (codes "uptheta", Shows (UprightLetter 0x03B8)) ∷  -- θ
    (codes "upuparrows", Shows (Sign Relation 0x21C8)) ∷  -- ⇈
    (codes "upupsilon", Shows (UprightLetter 0x03C5)) ∷  -- υ
    (codes "upvarepsilon", Shows (UprightLetter 0x03B5)) ∷  -- ε
    (codes "upvarphi", Shows (UprightLetter 0x03C6)) ∷  -- φ
    (codes "upvarpi", Shows (UprightLetter 0x03D6)) ∷  -- ϖ
    (codes "upvarrho", Shows (UprightLetter 0x03F1)) ∷  -- ϱ
    (codes "upvarsigma", Shows (UprightLetter 0x03C2)) ∷  -- ς
    (codes "upvartheta", Shows (UprightLetter 0x03D1)) ∷  -- ϑ
    (codes "upxi", Shows (UprightLetter 0x03BE)) ∷  -- ξ
    (codes "upzeta", Shows (UprightLetter 0x03B6)) ∷  -- ζ
    (codes "uranus", Shows (Sign Ordinary 0x2645)) ∷  -- ♅
    (codes "urcorner", Shows (Sign Closing 0x231D)) ∷  -- ⌝
    (codes "utilde", Accent Below 0x7E Stretching) ∷  -- ~
    (codes "vDash", Shows (Sign Relation 0x22A8)) ∷  -- ⊨
    (codes "varepsilon", Shows (Letter 0x03B5)) ∷  -- ε
    (codes "varkappa", Shows (UprightLetter 0x03F0)) ∷  -- ϰ
    (codes "varnothing", Shows (Sign Ordinary 0x2205)) ∷  -- ∅
    (codes "varointclockwise", Shows (Integral 0x2232)) ∷  -- ∲
    (codes "varphi", Shows (Letter 0x03C6)) ∷  -- φ
    (codes "varpi", Shows (Letter 0x03D6)) ∷  -- ϖ
    (codes "varpropto", Shows (Sign Relation 0x221D)) ∷  -- ∝
    (codes "varrho", Shows (Letter 0x03F1)) ∷  -- ϱ
    (codes "varsigma", Shows (Letter 0x03C2)) ∷  -- ς
    (codes "varsubsetneq", Shows (Sign Relation 0x228A)) ∷  -- ⊊
    (codes "varsubsetneqq", Shows (Sign Relation 0x2ACB)) ∷  -- ⫋
    (codes "varsupsetneq", Shows (Sign Relation 0x228B)) ∷  -- ⊋
    (codes "varsupsetneqq", Shows (Sign Relation 0x2ACC)) ∷  -- ⫌
    (codes "vartheta", Shows (Letter 0x03D1)) ∷  -- ϑ
    (codes "vartriangle", Shows (Sign Relation 0x25B3)) ∷  -- △
    (codes "vartriangleleft", Shows (Sign Relation 0x22B2)) ∷  -- ⊲
    (codes "vartriangleright", Shows (Sign Relation 0x22B3)) ∷  -- ⊳
    (codes "varvdots", Shows (Sign Ordinary 0x22EE)) ∷  -- ⋮
    (codes "vcentcolon", Shows (Sign Relation 0x3A)) ∷  -- :
    (codes "vdash", Shows (Sign Relation 0x22A2)) ∷  -- ⊢
    (codes "vdots", VerticalDots) ∷
    (codes "vec", Accent Above 0x20D7 Stretching) ∷
    (codes "vee", Shows (Sign Binary 0x2228)) ∷  -- ∨
    (codes "veebar", Shows (Sign Binary 0x22BB)) ∷  -- ⊻
    (codes "venus", Shows (Sign Ordinary 0x2640)) ∷  -- ♀
    (codes "vert", Shows (Sign Ordinary 0x2223)) ∷  -- ∣
    (codes "vphantom", Boxed PhantomHeight) ∷
    (codes "wedge", Shows (Sign Binary 0x2227)) ∷  -- ∧
    (codes "weierp", Shows (Letter 0x2118)) ∷  -- ℘
    (codes "widecheck", Accent Above 0x02C7 Stretching) ∷  -- ˇ
    (codes "widehat", Accent Above 0x0302 Stretching) ∷
    (codes "widetilde", Accent Above 0x7E Stretching) ∷  -- ~
    (codes "wp", Shows (Letter 0x2118)) ∷  -- ℘
    (codes "wr", Shows (Sign Binary 0x2240)) ∷  -- ≀
    (codes "xLeftarrow", Arrow 0x21D0) ∷  -- ⇐
    (codes "xLeftrightarrow", Arrow 0x21D4) ∷  -- ⇔
    (codes "xRightarrow", Arrow 0x21D2) ∷  -- ⇒
    (codes "xcancel", Boxed StrikeTwice) ∷
    (codes "xhookleftarrow", Arrow 0x21A9) ∷  -- ↩
    (codes "xhookrightarrow", Arrow 0x21AA) ∷  -- ↪
    (codes "xi", Shows (Letter 0x03BE)) ∷  -- ξ
    (codes "xleftarrow", Arrow 0x2190) ∷  -- ←
    (codes "xleftequilibrium", Arrow 0x21CB) ∷  -- ⇋
    (codes "xleftharpoondown", Arrow 0x21BD) ∷  -- ↽
    (codes "xleftharpoonup", Arrow 0x21BC) ∷  -- ↼
    (codes "xleftrightarrow", Arrow 0x2194) ∷  -- ↔
    (codes "xleftrightharpoons", Arrow 0x21CB) ∷  -- ⇋
    (codes "xlongequal", Arrow 0x3D) ∷  -- =
    (codes "xmapsto", Arrow 0x21A6) ∷  -- ↦
    (codes "xrightarrow", Arrow 0x2192) ∷  -- →
    (codes "xrightequilibrium", Arrow 0x21CC) ∷  -- ⇌
    (codes "xrightharpoondown", Arrow 0x21C1) ∷  -- ⇁
    (codes "xrightharpoonup", Arrow 0x21C0) ∷  -- ⇀
    (codes "xrightleftarrows", Arrow 0x21C4) ∷  -- ⇄
    (codes "xrightleftharpoons", Arrow 0x21CC) ∷  -- ⇌
    (codes "xtofrom", Arrow 0x21C4) ∷  -- ⇄
    (codes "xtwoheadleftarrow", Arrow 0x219E) ∷  -- ↞
    (codes "xtwoheadrightarrow", Arrow 0x21A0) ∷  -- ↠
    (codes "yen", Shows (Sign Ordinary 0xA5)) ∷  -- ¥
    (codes "zeta", Shows (Letter 0x03B6)) ∷  -- ζ
    (codes "{", Shows (Sign Opening 0x7B)) ∷  -- {
    (codes "|", Shows (Sign Ordinary 0x2225)) ∷  -- ∥
    (codes "}", Shows (Sign Closing 0x7D)) ∷  -- }
    []
