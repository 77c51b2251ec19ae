-- The characters that are signs or letters by themselves, in the order of their code points: a sign that an author writes
-- as a character means the same as its command.
use Rattle.std.specs.Prelude.{ℕ, List, [], ◌∷◌}
use Rattle.latex2mathml_tex_grammar.specs.Symbols.{Symbol, Letter, UprightLetter, Sign, BigOperator, Integral, Ordinary, Binary, Relation, Opening, Closing, Punctuation, Inner}

-- the table of characters, in the order of their numbers
unfoldable pub sign_entries : List (ℕ × Symbol)
sign_entries =
    (0x21, Sign Closing 0x21) ∷  -- !
    (0x22, Sign Ordinary 0x22) ∷  -- "
    (0x28, Sign Opening 0x28) ∷  -- (
    (0x29, Sign Closing 0x29) ∷  -- )
    (0x2A, Sign Binary 0x2217) ∷  -- *
    (0x2B, Sign Binary 0x2B) ∷  -- +
    (0x2C, Sign Punctuation 0x2C) ∷  -- ,
    (0x2D, Sign Binary 0x2212) ∷  -- -
    (0x2E, Sign Ordinary 0x2E) ∷  -- .
    (0x2F, Sign Ordinary 0x2F) ∷  -- /
    (0x3A, Sign Relation 0x3A) ∷  -- :
    (0x3B, Sign Punctuation 0x3B) ∷  -- ;
    (0x3C, Sign Relation 0x3C) ∷  -- <
    (0x3D, Sign Relation 0x3D) ∷  -- =
    (0x3E, Sign Relation 0x3E) ∷  -- >
    (0x3F, Sign Closing 0x3F) ∷  -- ?
    (0x40, Sign Ordinary 0x40) ∷  -- @
    (0x5B, Sign Opening 0x5B) ∷  -- [
    (0x5D, Sign Closing 0x5D) ∷  -- ]
    (0x60, Sign Ordinary 0x2018) ∷  -- ` is ‘
    (0x7C, Sign Ordinary 0x7C) ∷  -- |
    (0xA3, Sign Ordinary 0xA3) ∷  -- £
    (0xA5, Sign Ordinary 0xA5) ∷  -- ¥
    (0xA7, Sign Ordinary 0xA7) ∷  -- §
    (0xA9, Sign Ordinary 0xA9) ∷  -- ©
    (0xAC, Sign Ordinary 0xAC) ∷  -- ¬
    (0xB0, Sign Ordinary 0xB0) ∷  -- °
    (0xB1, Sign Binary 0xB1) ∷  -- ±
    (0xB6, Sign Ordinary 0xB6) ∷  -- ¶
    (0xB7, Sign Binary 0xB7) ∷  -- ·
    (0xC5, UprightLetter 0xC5) ∷  -- Å
    (0xC6, UprightLetter 0xC6) ∷  -- Æ
    (0xD0, UprightLetter 0xD0) ∷  -- Ð
    (0xD7, Sign Binary 0xD7) ∷  -- ×
    (0xD8, UprightLetter 0xD8) ∷  -- Ø
    (0xDE, UprightLetter 0xDE) ∷  -- Þ
    (0xDF, UprightLetter 0xDF) ∷  -- ß
    (0xE5, UprightLetter 0xE5) ∷  -- å
    (0xE6, UprightLetter 0xE6) ∷  -- æ
    (0xF0, UprightLetter 0xF0) ∷  -- ð
    (0xF7, Sign Binary 0xF7) ∷  -- ÷
    (0xF8, UprightLetter 0xF8) ∷  -- ø
    (0xFE, UprightLetter 0xFE) ∷  -- þ
    (0x0111, UprightLetter 0x0111) ∷  -- đ
    (0x0131, Letter 0x0131) ∷  -- ı
    (0x0141, UprightLetter 0x0141) ∷  -- Ł
    (0x0142, UprightLetter 0x0142) ∷  -- ł
    (0x014A, UprightLetter 0x014A) ∷  -- Ŋ
    (0x014B, UprightLetter 0x014B) ∷  -- ŋ
    (0x0152, UprightLetter 0x0152) ∷  -- Œ
    (0x0153, UprightLetter 0x0153) ∷  -- œ
    (0x0237, Letter 0x0237) ∷  -- ȷ
    (0x0391, UprightLetter 0x0391) ∷  -- Α
    (0x0392, UprightLetter 0x0392) ∷  -- Β
    (0x0393, UprightLetter 0x0393) ∷  -- Γ
    (0x0394, UprightLetter 0x0394) ∷  -- Δ
    (0x0395, UprightLetter 0x0395) ∷  -- Ε
    (0x0396, UprightLetter 0x0396) ∷  -- Ζ
    (0x0397, UprightLetter 0x0397) ∷  -- Η
    (0x0398, UprightLetter 0x0398) ∷  -- Θ
    (0x0399, UprightLetter 0x0399) ∷  -- Ι
    (0x039A, UprightLetter 0x039A) ∷  -- Κ
    (0x039B, UprightLetter 0x039B) ∷  -- Λ
    (0x039C, UprightLetter 0x039C) ∷  -- Μ
    (0x039D, UprightLetter 0x039D) ∷  -- Ν
    (0x039E, UprightLetter 0x039E) ∷  -- Ξ
    (0x039F, UprightLetter 0x039F) ∷  -- Ο
    (0x03A0, UprightLetter 0x03A0) ∷  -- Π
    (0x03A1, UprightLetter 0x03A1) ∷  -- Ρ
    (0x03A3, UprightLetter 0x03A3) ∷  -- Σ
    (0x03A4, UprightLetter 0x03A4) ∷  -- Τ
    (0x03A5, UprightLetter 0x03A5) ∷  -- Υ
    (0x03A6, UprightLetter 0x03A6) ∷  -- Φ
    (0x03A7, UprightLetter 0x03A7) ∷  -- Χ
    (0x03A8, UprightLetter 0x03A8) ∷  -- Ψ
    (0x03A9, UprightLetter 0x03A9) ∷  -- Ω
    (0x03B1, Letter 0x03B1) ∷  -- α
    (0x03B2, Letter 0x03B2) ∷  -- β
    (0x03B3, Letter 0x03B3) ∷  -- γ
    (0x03B4, Letter 0x03B4) ∷  -- δ
    (0x03B5, Letter 0x03B5) ∷  -- ε
    (0x03B6, Letter 0x03B6) ∷  -- ζ
    (0x03B7, Letter 0x03B7) ∷  -- η
    (0x03B8, Letter 0x03B8) ∷  -- θ
    (0x03B9, Letter 0x03B9) ∷  -- ι
    (0x03BA, Letter 0x03BA) ∷  -- κ
    (0x03BB, Letter 0x03BB) ∷  -- λ
    (0x03BC, Letter 0x03BC) ∷  -- μ
    (0x03BD, Letter 0x03BD) ∷  -- ν
    (0x03BE, Letter 0x03BE) ∷  -- ξ
    (0x03BF, Letter 0x03BF) ∷  -- ο
    (0x03C0, Letter 0x03C0) ∷  -- π
    (0x03C1, Letter 0x03C1) ∷  -- ρ
    (0x03C2, Letter 0x03C2) ∷  -- ς
    (0x03C3, Letter 0x03C3) ∷  -- σ
    (0x03C4, Letter 0x03C4) ∷  -- τ
    (0x03C5, Letter 0x03C5) ∷  -- υ
    (0x03C6, Letter 0x03C6) ∷  -- φ
    (0x03C7, Letter 0x03C7) ∷  -- χ
    (0x03C8, Letter 0x03C8) ∷  -- ψ
    (0x03C9, Letter 0x03C9) ∷  -- ω
    (0x03D1, Letter 0x03D1) ∷  -- ϑ
    (0x03D5, Letter 0x03D5) ∷  -- ϕ
    (0x03D6, Letter 0x03D6) ∷  -- ϖ
    (0x03DD, Letter 0x03DD) ∷  -- ϝ
    (0x03F0, UprightLetter 0x03F0) ∷  -- ϰ
    (0x03F1, Letter 0x03F1) ∷  -- ϱ
    (0x03F5, Letter 0x03F5) ∷  -- ϵ
    (0x2020, Sign Ordinary 0x2020) ∷  -- †
    (0x2021, Sign Ordinary 0x2021) ∷  -- ‡
    (0x2026, Sign Inner 0x2026) ∷  -- …
    (0x2032, Sign Ordinary 0x2032) ∷  -- ′
    (0x2035, Sign Ordinary 0x2035) ∷  -- ‵
    (0x20AC, Sign Ordinary 0x20AC) ∷  -- €
    (0x20B9, Sign Ordinary 0x20B9) ∷  -- ₹
    (0x210F, Letter 0x210F) ∷  -- ℏ
    (0x2111, UprightLetter 0x2111) ∷  -- ℑ
    (0x2113, Letter 0x2113) ∷  -- ℓ
    (0x211C, UprightLetter 0x211C) ∷  -- ℜ
    (0x2127, Sign Ordinary 0x2127) ∷  -- ℧
    (0x2132, UprightLetter 0x2132) ∷  -- Ⅎ
    (0x2135, UprightLetter 0x2135) ∷  -- ℵ
    (0x2136, UprightLetter 0x2136) ∷  -- ℶ
    (0x2137, UprightLetter 0x2137) ∷  -- ℷ
    (0x2138, UprightLetter 0x2138) ∷  -- ℸ
    (0x2141, Sign Ordinary 0x2141) ∷  -- ⅁
    (0x2190, Sign Relation 0x2190) ∷  -- ←
    (0x2191, Sign Relation 0x2191) ∷  -- ↑
    (0x2192, Sign Relation 0x2192) ∷  -- →
    (0x2193, Sign Relation 0x2193) ∷  -- ↓
    (0x2194, Sign Relation 0x2194) ∷  -- ↔
    (0x2195, Sign Relation 0x2195) ∷  -- ↕
    (0x2196, Sign Relation 0x2196) ∷  -- ↖
    (0x2197, Sign Relation 0x2197) ∷  -- ↗
    (0x2198, Sign Relation 0x2198) ∷  -- ↘
    (0x2199, Sign Relation 0x2199) ∷  -- ↙
    (0x219A, Sign Relation 0x219A) ∷  -- ↚
    (0x219B, Sign Relation 0x219B) ∷  -- ↛
    (0x219E, Sign Relation 0x219E) ∷  -- ↞
    (0x21A0, Sign Relation 0x21A0) ∷  -- ↠
    (0x21A2, Sign Relation 0x21A2) ∷  -- ↢
    (0x21A3, Sign Relation 0x21A3) ∷  -- ↣
    (0x21A6, Sign Relation 0x21A6) ∷  -- ↦
    (0x21A9, Sign Relation 0x21A9) ∷  -- ↩
    (0x21AA, Sign Relation 0x21AA) ∷  -- ↪
    (0x21AB, Sign Relation 0x21AB) ∷  -- ↫
    (0x21AC, Sign Relation 0x21AC) ∷  -- ↬
    (0x21AD, Sign Relation 0x21AD) ∷  -- ↭
    (0x21AE, Sign Relation 0x21AE) ∷  -- ↮
    (0x21AF, Sign Relation 0x21AF) ∷  -- ↯
    (0x21B0, Sign Relation 0x21B0) ∷  -- ↰
    (0x21B1, Sign Relation 0x21B1) ∷  -- ↱
    (0x21B6, Sign Relation 0x21B6) ∷  -- ↶
    (0x21B7, Sign Relation 0x21B7) ∷  -- ↷
    (0x21BA, Sign Relation 0x21BA) ∷  -- ↺
    (0x21BB, Sign Relation 0x21BB) ∷  -- ↻
    (0x21BC, Sign Relation 0x21BC) ∷  -- ↼
    (0x21BD, Sign Relation 0x21BD) ∷  -- ↽
    (0x21BE, Sign Relation 0x21BE) ∷  -- ↾
    (0x21BF, Sign Relation 0x21BF) ∷  -- ↿
    (0x21C0, Sign Relation 0x21C0) ∷  -- ⇀
    (0x21C1, Sign Relation 0x21C1) ∷  -- ⇁
    (0x21C2, Sign Relation 0x21C2) ∷  -- ⇂
    (0x21C3, Sign Relation 0x21C3) ∷  -- ⇃
    (0x21C4, Sign Relation 0x21C4) ∷  -- ⇄
    (0x21C6, Sign Relation 0x21C6) ∷  -- ⇆
    (0x21C7, Sign Relation 0x21C7) ∷  -- ⇇
    (0x21C8, Sign Relation 0x21C8) ∷  -- ⇈
    (0x21C9, Sign Relation 0x21C9) ∷  -- ⇉
    (0x21CA, Sign Relation 0x21CA) ∷  -- ⇊
    (0x21CB, Sign Relation 0x21CB) ∷  -- ⇋
    (0x21CC, Sign Relation 0x21CC) ∷  -- ⇌
    (0x21CD, Sign Relation 0x21CD) ∷  -- ⇍
    (0x21CE, Sign Relation 0x21CE) ∷  -- ⇎
    (0x21CF, Sign Relation 0x21CF) ∷  -- ⇏
    (0x21D0, Sign Relation 0x21D0) ∷  -- ⇐
    (0x21D1, Sign Relation 0x21D1) ∷  -- ⇑
    (0x21D2, Sign Relation 0x21D2) ∷  -- ⇒
    (0x21D3, Sign Relation 0x21D3) ∷  -- ⇓
    (0x21D4, Sign Relation 0x21D4) ∷  -- ⇔
    (0x21D5, Sign Relation 0x21D5) ∷  -- ⇕
    (0x21DA, Sign Relation 0x21DA) ∷  -- ⇚
    (0x21DB, Sign Relation 0x21DB) ∷  -- ⇛
    (0x21DD, Sign Relation 0x21DD) ∷  -- ⇝
    (0x21E0, Sign Relation 0x21E0) ∷  -- ⇠
    (0x21E2, Sign Relation 0x21E2) ∷  -- ⇢
    (0x2200, Sign Ordinary 0x2200) ∷  -- ∀
    (0x2201, Sign Ordinary 0x2201) ∷  -- ∁
    (0x2202, Sign Ordinary 0x2202) ∷  -- ∂
    (0x2203, Sign Ordinary 0x2203) ∷  -- ∃
    (0x2204, Sign Ordinary 0x2204) ∷  -- ∄
    (0x2205, Sign Ordinary 0x2205) ∷  -- ∅
    (0x2207, Sign Ordinary 0x2207) ∷  -- ∇
    (0x2208, Sign Relation 0x2208) ∷  -- ∈
    (0x2209, Sign Relation 0x2209) ∷  -- ∉
    (0x220B, Sign Relation 0x220B) ∷  -- ∋
    (0x220C, Sign Relation 0x220C) ∷  -- ∌
    (0x220D, Sign Relation 0x220D) ∷  -- ∍
    (0x220F, BigOperator 0x220F) ∷  -- ∏
    (0x2210, BigOperator 0x2210) ∷  -- ∐
    (0x2211, BigOperator 0x2211) ∷  -- ∑
    (0x2212, Sign Binary 0x2212) ∷  -- −
    (0x2213, Sign Binary 0x2213) ∷  -- ∓
    (0x2214, Sign Binary 0x2214) ∷  -- ∔
    (0x2216, Sign Binary 0x2216) ∷  -- ∖
    (0x2217, Sign Binary 0x2217) ∷  -- ∗
    (0x2218, Sign Binary 0x2218) ∷  -- ∘
    (0x2219, Sign Binary 0x2219) ∷  -- ∙
    (0x221A, Sign Ordinary 0x221A) ∷  -- √
    (0x221D, Sign Relation 0x221D) ∷  -- ∝
    (0x221E, Sign Ordinary 0x221E) ∷  -- ∞
    (0x2220, Sign Ordinary 0x2220) ∷  -- ∠
    (0x2221, Sign Ordinary 0x2221) ∷  -- ∡
    (0x2222, Sign Ordinary 0x2222) ∷  -- ∢
    (0x2223, Sign Opening 0x2223) ∷  -- ∣
    (0x2224, Sign Relation 0x2224) ∷  -- ∤
    (0x2225, Sign Ordinary 0x2225) ∷  -- ∥
    (0x2226, Sign Relation 0x2226) ∷  -- ∦
    (0x2227, Sign Binary 0x2227) ∷  -- ∧
    (0x2228, Sign Binary 0x2228) ∷  -- ∨
    (0x2229, Sign Binary 0x2229) ∷  -- ∩
    (0x222A, Sign Binary 0x222A) ∷  -- ∪
    (0x222B, Integral 0x222B) ∷  -- ∫
    (0x222C, Integral 0x222C) ∷  -- ∬
    (0x222D, Integral 0x222D) ∷  -- ∭
    (0x222E, Integral 0x222E) ∷  -- ∮
    (0x222F, Integral 0x222F) ∷  -- ∯
    (0x2230, Integral 0x2230) ∷  -- ∰
    (0x2234, Sign Relation 0x2234) ∷  -- ∴
    (0x2235, Sign Relation 0x2235) ∷  -- ∵
    (0x2237, Sign Relation 0x2237) ∷  -- ∷
    (0x223C, Sign Relation 0x223C) ∷  -- ∼
    (0x223D, Sign Relation 0x223D) ∷  -- ∽
    (0x2240, Sign Binary 0x2240) ∷  -- ≀
    (0x2241, Sign Relation 0x2241) ∷  -- ≁
    (0x2242, Sign Relation 0x2242) ∷  -- ≂
    (0x2243, Sign Relation 0x2243) ∷  -- ≃
    (0x2245, Sign Relation 0x2245) ∷  -- ≅
    (0x2246, Sign Relation 0x2246) ∷  -- ≆
    (0x2247, Sign Relation 0x2247) ∷  -- ≇
    (0x2248, Sign Relation 0x2248) ∷  -- ≈
    (0x224A, Sign Relation 0x224A) ∷  -- ≊
    (0x224D, Sign Relation 0x224D) ∷  -- ≍
    (0x224E, Sign Relation 0x224E) ∷  -- ≎
    (0x224F, Sign Relation 0x224F) ∷  -- ≏
    (0x2250, Sign Relation 0x2250) ∷  -- ≐
    (0x2251, Sign Relation 0x2251) ∷  -- ≑
    (0x2252, Sign Relation 0x2252) ∷  -- ≒
    (0x2253, Sign Relation 0x2253) ∷  -- ≓
    (0x2254, Sign Relation 0x2254) ∷  -- ≔
    (0x2256, Sign Relation 0x2256) ∷  -- ≖
    (0x2257, Sign Relation 0x2257) ∷  -- ≗
    (0x225C, Sign Relation 0x225C) ∷  -- ≜
    (0x2260, Sign Relation 0x2260) ∷  -- ≠
    (0x2261, Sign Relation 0x2261) ∷  -- ≡
    (0x2262, Sign Relation 0x2262) ∷  -- ≢
    (0x2264, Sign Relation 0x2264) ∷  -- ≤
    (0x2265, Sign Relation 0x2265) ∷  -- ≥
    (0x2266, Sign Relation 0x2266) ∷  -- ≦
    (0x2267, Sign Relation 0x2267) ∷  -- ≧
    (0x2268, Sign Relation 0x2268) ∷  -- ≨
    (0x2269, Sign Relation 0x2269) ∷  -- ≩
    (0x226A, Sign Relation 0x226A) ∷  -- ≪
    (0x226B, Sign Relation 0x226B) ∷  -- ≫
    (0x226C, Sign Relation 0x226C) ∷  -- ≬
    (0x226E, Sign Relation 0x226E) ∷  -- ≮
    (0x226F, Sign Relation 0x226F) ∷  -- ≯
    (0x2270, Sign Relation 0x2270) ∷  -- ≰
    (0x2271, Sign Relation 0x2271) ∷  -- ≱
    (0x2272, Sign Relation 0x2272) ∷  -- ≲
    (0x2273, Sign Relation 0x2273) ∷  -- ≳
    (0x2276, Sign Relation 0x2276) ∷  -- ≶
    (0x2277, Sign Relation 0x2277) ∷  -- ≷
    (0x227A, Sign Relation 0x227A) ∷  -- ≺
    (0x227B, Sign Relation 0x227B) ∷  -- ≻
    (0x227C, Sign Relation 0x227C) ∷  -- ≼
    (0x227D, Sign Relation 0x227D) ∷  -- ≽
    (0x227E, Sign Relation 0x227E) ∷  -- ≾
    (0x227F, Sign Relation 0x227F) ∷  -- ≿
    (0x2280, Sign Relation 0x2280) ∷  -- ⊀
    (0x2281, Sign Relation 0x2281) ∷  -- ⊁
    (0x2282, Sign Relation 0x2282) ∷  -- ⊂
    (0x2283, Sign Relation 0x2283) ∷  -- ⊃
    (0x2286, Sign Relation 0x2286) ∷  -- ⊆
    (0x2287, Sign Relation 0x2287) ∷  -- ⊇
    (0x2288, Sign Relation 0x2288) ∷  -- ⊈
    (0x2289, Sign Relation 0x2289) ∷  -- ⊉
    (0x228A, Sign Relation 0x228A) ∷  -- ⊊
    (0x228B, Sign Relation 0x228B) ∷  -- ⊋
    (0x228E, Sign Binary 0x228E) ∷  -- ⊎
    (0x228F, Sign Relation 0x228F) ∷  -- ⊏
    (0x2290, Sign Relation 0x2290) ∷  -- ⊐
    (0x2291, Sign Relation 0x2291) ∷  -- ⊑
    (0x2292, Sign Relation 0x2292) ∷  -- ⊒
    (0x2293, Sign Binary 0x2293) ∷  -- ⊓
    (0x2294, Sign Binary 0x2294) ∷  -- ⊔
    (0x2295, Sign Binary 0x2295) ∷  -- ⊕
    (0x2296, Sign Binary 0x2296) ∷  -- ⊖
    (0x2297, Sign Binary 0x2297) ∷  -- ⊗
    (0x2298, Sign Binary 0x2298) ∷  -- ⊘
    (0x2299, Sign Binary 0x2299) ∷  -- ⊙
    (0x229A, Sign Binary 0x229A) ∷  -- ⊚
    (0x229B, Sign Binary 0x229B) ∷  -- ⊛
    (0x229D, Sign Binary 0x229D) ∷  -- ⊝
    (0x229E, Sign Binary 0x229E) ∷  -- ⊞
    (0x229F, Sign Binary 0x229F) ∷  -- ⊟
    (0x22A0, Sign Binary 0x22A0) ∷  -- ⊠
    (0x22A1, Sign Binary 0x22A1) ∷  -- ⊡
    (0x22A2, Sign Relation 0x22A2) ∷  -- ⊢
    (0x22A3, Sign Relation 0x22A3) ∷  -- ⊣
    (0x22A4, Sign Ordinary 0x22A4) ∷  -- ⊤
    (0x22A5, Sign Ordinary 0x22A5) ∷  -- ⊥
    (0x22A8, Sign Relation 0x22A8) ∷  -- ⊨
    (0x22A9, Sign Relation 0x22A9) ∷  -- ⊩
    (0x22AA, Sign Relation 0x22AA) ∷  -- ⊪
    (0x22AC, Sign Relation 0x22AC) ∷  -- ⊬
    (0x22AD, Sign Relation 0x22AD) ∷  -- ⊭
    (0x22AE, Sign Relation 0x22AE) ∷  -- ⊮
    (0x22AF, Sign Relation 0x22AF) ∷  -- ⊯
    (0x22B2, Sign Binary 0x22B2) ∷  -- ⊲
    (0x22B3, Sign Binary 0x22B3) ∷  -- ⊳
    (0x22B4, Sign Relation 0x22B4) ∷  -- ⊴
    (0x22B5, Sign Relation 0x22B5) ∷  -- ⊵
    (0x22B6, Sign Relation 0x22B6) ∷  -- ⊶
    (0x22B7, Sign Relation 0x22B7) ∷  -- ⊷
    (0x22B8, Sign Relation 0x22B8) ∷  -- ⊸
    (0x22BA, Sign Binary 0x22BA) ∷  -- ⊺
    (0x22BB, Sign Binary 0x22BB) ∷  -- ⊻
    (0x22BC, Sign Binary 0x22BC) ∷  -- ⊼
    (0x22C0, BigOperator 0x22C0) ∷  -- ⋀
    (0x22C1, BigOperator 0x22C1) ∷  -- ⋁
    (0x22C2, BigOperator 0x22C2) ∷  -- ⋂
    (0x22C3, BigOperator 0x22C3) ∷  -- ⋃
    (0x22C4, Sign Binary 0x22C4) ∷  -- ⋄
    (0x22C5, Sign Binary 0x22C5) ∷  -- ⋅
    (0x22C6, Sign Binary 0x22C6) ∷  -- ⋆
    (0x22C7, Sign Binary 0x22C7) ∷  -- ⋇
    (0x22C8, Sign Relation 0x22C8) ∷  -- ⋈
    (0x22C9, Sign Binary 0x22C9) ∷  -- ⋉
    (0x22CA, Sign Binary 0x22CA) ∷  -- ⋊
    (0x22CB, Sign Binary 0x22CB) ∷  -- ⋋
    (0x22CC, Sign Binary 0x22CC) ∷  -- ⋌
    (0x22CD, Sign Relation 0x22CD) ∷  -- ⋍
    (0x22CE, Sign Binary 0x22CE) ∷  -- ⋎
    (0x22CF, Sign Binary 0x22CF) ∷  -- ⋏
    (0x22D0, Sign Relation 0x22D0) ∷  -- ⋐
    (0x22D1, Sign Relation 0x22D1) ∷  -- ⋑
    (0x22D2, Sign Binary 0x22D2) ∷  -- ⋒
    (0x22D3, Sign Binary 0x22D3) ∷  -- ⋓
    (0x22D4, Sign Relation 0x22D4) ∷  -- ⋔
    (0x22D6, Sign Binary 0x22D6) ∷  -- ⋖
    (0x22D7, Sign Binary 0x22D7) ∷  -- ⋗
    (0x22D8, Sign Relation 0x22D8) ∷  -- ⋘
    (0x22D9, Sign Relation 0x22D9) ∷  -- ⋙
    (0x22DA, Sign Relation 0x22DA) ∷  -- ⋚
    (0x22DB, Sign Relation 0x22DB) ∷  -- ⋛
    (0x22DE, Sign Relation 0x22DE) ∷  -- ⋞
    (0x22DF, Sign Relation 0x22DF) ∷  -- ⋟
    (0x22E0, Sign Relation 0x22E0) ∷  -- ⋠
    (0x22E1, Sign Relation 0x22E1) ∷  -- ⋡
    (0x22E6, Sign Relation 0x22E6) ∷  -- ⋦
    (0x22E7, Sign Relation 0x22E7) ∷  -- ⋧
    (0x22E8, Sign Relation 0x22E8) ∷  -- ⋨
    (0x22E9, Sign Relation 0x22E9) ∷  -- ⋩
    (0x22EA, Sign Relation 0x22EA) ∷  -- ⋪
    (0x22EB, Sign Relation 0x22EB) ∷  -- ⋫
    (0x22EC, Sign Relation 0x22EC) ∷  -- ⋬
    (0x22ED, Sign Relation 0x22ED) ∷  -- ⋭
    (0x22EE, Sign Ordinary 0x22EE) ∷  -- ⋮
    (0x22EF, Sign Inner 0x22EF) ∷  -- ⋯
    (0x22F1, Sign Inner 0x22F1) ∷  -- ⋱
    (0x2308, Sign Opening 0x2308) ∷  -- ⌈
    (0x2309, Sign Closing 0x2309) ∷  -- ⌉
    (0x230A, Sign Opening 0x230A) ∷  -- ⌊
    (0x230B, Sign Closing 0x230B) ∷  -- ⌋
    (0x231C, Sign Opening 0x231C) ∷  -- ⌜
    (0x231D, Sign Closing 0x231D) ∷  -- ⌝
    (0x231E, Sign Opening 0x231E) ∷  -- ⌞
    (0x231F, Sign Closing 0x231F) ∷  -- ⌟
    (0x2322, Sign Relation 0x2322) ∷  -- ⌢
    (0x2323, Sign Relation 0x2323) ∷  -- ⌣
    (0x23B0, Sign Opening 0x23B0) ∷  -- ⎰
    (0x23B1, Sign Closing 0x23B1) ∷  -- ⎱
    (0x24C7, Sign Ordinary 0x24C7) ∷  -- Ⓡ
    (0x24C8, Sign Ordinary 0x24C8) ∷  -- Ⓢ
    (0x250C, Sign Opening 0x250C) ∷  -- ┌
    (0x2510, Sign Closing 0x2510) ∷  -- ┐
    (0x2514, Sign Opening 0x2514) ∷  -- └
    (0x2518, Sign Closing 0x2518) ∷  -- ┘
    (0x2571, Sign Ordinary 0x2571) ∷  -- ╱
    (0x2572, Sign Ordinary 0x2572) ∷  -- ╲
    (0x25A0, Sign Ordinary 0x25A0) ∷  -- ■
    (0x25A1, Sign Ordinary 0x25A1) ∷  -- □
    (0x25B2, Sign Ordinary 0x25B2) ∷  -- ▲
    (0x25B3, Sign Binary 0x25B3) ∷  -- △
    (0x25B6, Sign Relation 0x25B6) ∷  -- ▶
    (0x25B7, Sign Binary 0x25B7) ∷  -- ▷
    (0x25B9, Sign Binary 0x25B9) ∷  -- ▹
    (0x25BC, Sign Ordinary 0x25BC) ∷  -- ▼
    (0x25BD, Sign Binary 0x25BD) ∷  -- ▽
    (0x25C0, Sign Relation 0x25C0) ∷  -- ◀
    (0x25C1, Sign Binary 0x25C1) ∷  -- ◁
    (0x25C3, Sign Binary 0x25C3) ∷  -- ◃
    (0x25CA, Sign Ordinary 0x25CA) ∷  -- ◊
    (0x25EF, Sign Binary 0x25EF) ∷  -- ◯
    (0x25FB, Sign Ordinary 0x25FB) ∷  -- ◻
    (0x2605, Sign Ordinary 0x2605) ∷  -- ★
    (0x2609, Sign Ordinary 0x2609) ∷  -- ☉
    (0x260A, Sign Ordinary 0x260A) ∷  -- ☊
    (0x263C, Sign Ordinary 0x263C) ∷  -- ☼
    (0x263F, Sign Ordinary 0x263F) ∷  -- ☿
    (0x2640, Sign Ordinary 0x2640) ∷  -- ♀
    (0x2641, Sign Ordinary 0x2641) ∷  -- ♁
    (0x2642, Sign Ordinary 0x2642) ∷  -- ♂
    (0x2643, Sign Ordinary 0x2643) ∷  -- ♃
    (0x2644, Sign Ordinary 0x2644) ∷  -- ♄
    (0x2645, Sign Ordinary 0x2645) ∷  -- ♅
    (0x2646, Sign Ordinary 0x2646) ∷  -- ♆
    (0x2660, Sign Ordinary 0x2660) ∷  -- ♠
    (0x2661, Sign Ordinary 0x2661) ∷  -- ♡
    (0x2662, Sign Ordinary 0x2662) ∷  -- ♢
    (0x2663, Sign Ordinary 0x2663) ∷  -- ♣
    (0x266D, Sign Ordinary 0x266D) ∷  -- ♭
    (0x266E, Sign Ordinary 0x266E) ∷  -- ♮
    (0x266F, Sign Ordinary 0x266F) ∷  -- ♯
    (0x2713, Sign Ordinary 0x2713) ∷  -- ✓
    (0x2720, Sign Ordinary 0x2720) ∷  -- ✠
    (0x27C2, Sign Relation 0x27C2) ∷  -- ⟂
    (0x27E6, Sign Opening 0x27E6) ∷  -- ⟦
    (0x27E7, Sign Closing 0x27E7) ∷  -- ⟧
    (0x27E8, Sign Opening 0x27E8) ∷  -- ⟨
    (0x27E9, Sign Closing 0x27E9) ∷  -- ⟩
    (0x27EE, Sign Opening 0x27EE) ∷  -- ⟮
    (0x27EF, Sign Closing 0x27EF) ∷  -- ⟯
    (0x27F5, Sign Relation 0x27F5) ∷  -- ⟵
    (0x27F6, Sign Relation 0x27F6) ∷  -- ⟶
    (0x27F7, Sign Relation 0x27F7) ∷  -- ⟷
    (0x27F8, Sign Relation 0x27F8) ∷  -- ⟸
    (0x27F9, Sign Relation 0x27F9) ∷  -- ⟹
    (0x27FA, Sign Relation 0x27FA) ∷  -- ⟺
    (0x27FC, Sign Relation 0x27FC) ∷  -- ⟼
    (0x2919, Sign Relation 0x2919) ∷  -- ⤙
    (0x291A, Sign Relation 0x291A) ∷  -- ⤚
    (0x2997, Sign Opening 0x2997) ∷  -- ⦗
    (0x2998, Sign Closing 0x2998) ∷  -- ⦘
    (0x29C4, Sign Relation 0x29C4) ∷  -- ⧄
    (0x29C5, Sign Relation 0x29C5) ∷  -- ⧅
    (0x29C8, Sign Relation 0x29C8) ∷  -- ⧈
    (0x29EB, Sign Ordinary 0x29EB) ∷  -- ⧫
    (0x2A00, BigOperator 0x2A00) ∷  -- ⨀
    (0x2A01, BigOperator 0x2A01) ∷  -- ⨁
    (0x2A02, BigOperator 0x2A02) ∷  -- ⨂
    (0x2A04, BigOperator 0x2A04) ∷  -- ⨄
    (0x2A06, BigOperator 0x2A06) ∷  -- ⨆
    (0x2A0C, Integral 0x2A0C) ∷  -- ⨌
    (0x2A3F, Sign Binary 0x2A3F) ∷  -- ⨿
    (0x2A5E, Sign Binary 0x2A5E) ∷  -- ⩞
    (0x2A7D, Sign Relation 0x2A7D) ∷  -- ⩽
    (0x2A7E, Sign Relation 0x2A7E) ∷  -- ⩾
    (0x2A85, Sign Relation 0x2A85) ∷  -- ⪅
    (0x2A86, Sign Relation 0x2A86) ∷  -- ⪆
    (0x2A87, Sign Relation 0x2A87) ∷  -- ⪇
    (0x2A88, Sign Relation 0x2A88) ∷  -- ⪈
    (0x2A89, Sign Relation 0x2A89) ∷  -- ⪉
    (0x2A8A, Sign Relation 0x2A8A) ∷  -- ⪊
    (0x2A8B, Sign Relation 0x2A8B) ∷  -- ⪋
    (0x2A8C, Sign Relation 0x2A8C) ∷  -- ⪌
    (0x2A95, Sign Relation 0x2A95) ∷  -- ⪕
    (0x2A96, Sign Relation 0x2A96) ∷  -- ⪖
    (0x2AAF, Sign Relation 0x2AAF) ∷  -- ⪯
    (0x2AB0, Sign Relation 0x2AB0) ∷  -- ⪰
    (0x2AB5, Sign Relation 0x2AB5) ∷  -- ⪵
    (0x2AB6, Sign Relation 0x2AB6) ∷  -- ⪶
    (0x2AB7, Sign Relation 0x2AB7) ∷  -- ⪷
    (0x2AB8, Sign Relation 0x2AB8) ∷  -- ⪸
    (0x2AB9, Sign Relation 0x2AB9) ∷  -- ⪹
    (0x2ABA, Sign Relation 0x2ABA) ∷  -- ⪺
    (0x2AC5, Sign Relation 0x2AC5) ∷  -- ⫅
    (0x2AC6, Sign Relation 0x2AC6) ∷  -- ⫆
    (0x2ACB, Sign Relation 0x2ACB) ∷  -- ⫋
    (0x2ACC, Sign Relation 0x2ACC) ∷  -- ⫌
    (0xFE68, Sign Binary 0xFE68) ∷  -- ﹨
    []
