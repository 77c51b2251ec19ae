-- The commands that are one character in words, and those that are accents there, in the order of their names' bytes. A name is
-- its bytes, without the backslash; a character is its code point, and is also shown after its line.
use Rattle.std.specs.Prelude.{ℕ, List, [], ◌∷◌, codes}

-- the commands that are a character in words, in the order of bytes
unfoldable pub text_commands : List (List ℕ × ℕ)
text_commands =
    (codes "#", 0x23) ∷  -- #
    (codes "$", 0x24) ∷  -- $
    (codes "%", 0x25) ∷  -- %
    (codes "&", 0x26) ∷  -- &
    (codes "AA", 0xC5) ∷  -- Å
    (codes "AE", 0xC6) ∷  -- Æ
    (codes "O", 0xD8) ∷  -- Ø
    (codes "OE", 0x0152) ∷  -- Œ
    (codes "_", 0x5F) ∷  -- _
    (codes "aa", 0xE5) ∷  -- å
    (codes "ae", 0xE6) ∷  -- æ
    (codes "i", 0x0131) ∷  -- ı
    (codes "j", 0x0237) ∷  -- ȷ
    (codes "o", 0xF8) ∷  -- ø
    (codes "oe", 0x0153) ∷  -- œ
    (codes "ss", 0xDF) ∷  -- ß
    (codes "textasciicircum", 0x5E) ∷  -- ^
    (codes "textasciitilde", 0x7E) ∷  -- ~
    (codes "textbackslash", 0x5C) ∷  -- \
    (codes "textbar", 0x7C) ∷  -- |
    (codes "textbardbl", 0x2016) ∷  -- ‖
    (codes "textbraceleft", 0x7B) ∷  -- {
    (codes "textbraceright", 0x7D) ∷  -- }
    (codes "textbullet", 0x2022) ∷  -- •
    (codes "textcent", 0xA2) ∷  -- ¢
    (codes "textcopyright", 0xA9) ∷  -- ©
    (codes "textdagger", 0x2020) ∷  -- †
    (codes "textdaggerdbl", 0x2021) ∷  -- ‡
    (codes "textdegree", 0xB0) ∷  -- °
    (codes "textdollar", 0x24) ∷  -- $
    (codes "textellipsis", 0x2026) ∷  -- …
    (codes "textemdash", 0x2014) ∷  -- —
    (codes "textendash", 0x2013) ∷  -- –
    (codes "texteuro", 0x20AC) ∷  -- €
    (codes "textgreater", 0x3E) ∷  -- >
    (codes "textless", 0x3C) ∷  -- <
    (codes "textmu", 0xB5) ∷  -- µ
    (codes "textohm", 0x03A9) ∷  -- Ω
    (codes "textparagraph", 0xB6) ∷  -- ¶
    (codes "textperiodcentered", 0xB7) ∷  -- ·
    (codes "textperthousand", 0x2030) ∷  -- ‰
    (codes "textquotedblleft", 0x201C) ∷  -- “
    (codes "textquotedblright", 0x201D) ∷  -- ”
    (codes "textquoteleft", 0x2018) ∷  -- ‘
    (codes "textquoteright", 0x2019) ∷  -- ’
    (codes "textregistered", 0xAE) ∷  -- ®
    (codes "textsection", 0xA7) ∷  -- §
    (codes "textsterling", 0xA3) ∷  -- £
    (codes "texttrademark", 0x2122) ∷  -- ™
    (codes "textunderscore", 0x5F) ∷  -- _
    (codes "textyen", 0xA5) ∷  -- ¥
    (codes "{", 0x7B) ∷  -- {
    (codes "}", 0x7D) ∷  -- }
    []

-- the commands that put an accent on the next character in words, in the order of bytes: each has the combining character that
-- follows the accented one
unfoldable pub text_accents : List (List ℕ × ℕ)
text_accents =
    (codes "\"", 0x0308) ∷  -- ◌̈
    (codes "'", 0x0301) ∷  -- ◌́
    (codes ".", 0x0307) ∷  -- ◌̇
    (codes "=", 0x0304) ∷  -- ◌̄
    (codes "H", 0x030B) ∷  -- ◌̋
    (codes "^", 0x0302) ∷  -- ◌̂
    (codes "`", 0x0300) ∷  -- ◌̀
    (codes "b", 0x0331) ∷  -- ◌̱
    (codes "c", 0x0327) ∷  -- ◌̧
    (codes "d", 0x0323) ∷  -- ◌̣
    (codes "k", 0x0328) ∷  -- ◌̨
    (codes "r", 0x030A) ∷  -- ◌̊
    (codes "t", 0x0361) ∷  -- ◌͡
    (codes "u", 0x0306) ∷  -- ◌̆
    (codes "v", 0x030C) ∷  -- ◌̌
    (codes "~", 0x0303) ∷  -- ◌̃
    []
