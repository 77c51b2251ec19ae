-- The alphabets: letters and digits as the mathematical characters of Unicode, so that no style sheet is needed.
use Rattle.std.specs.Prelude.{ℕ, ◌+◌, ◌-◌, ◌==◌, ◌&&◌, Bool, nat_le, List, [], ◌∷◌, Option, Some, None, if◌then◌else◌}
use Rattle.latex2mathml_tex_grammar.specs.Symbols.{Alphabet, Upright, Named, Italic, Bold, BoldItalic, DoubleStruck, Fraktur, Calligraphic, SansSerif, Monospace}

-- where an alphabet is: its first capital, small letter, digit, Greek capital and Greek small letter, where it has them
pub record Blocks : Type 0 where
  pub capital : ℕ
  pub small : ℕ
  pub digit : Option ℕ
  pub greek_capital : Option ℕ
  pub greek_small : Option ℕ
  -- the letters that are elsewhere, each with its code point there
  pub elsewhere : List (ℕ × ℕ)

-- where the letters and digits of an alphabet are among Unicode's mathematical characters. Upright ones are ordinary characters.
abbrev pub blocks : Alphabet → Option Blocks
blocks Upright = None
blocks Named = None
blocks Italic = Some (record {
  capital = 0x1D434;
  small = 0x1D44E;
  digit = None;
  greek_capital = Some 0x1D6E2;
  greek_small = Some 0x1D6FC;
  elsewhere = (0x68, 0x210E) ∷ (0x03F5, 0x1D716) ∷ (0x03D1, 0x1D717) ∷ (0x03F0, 0x1D718) ∷ (0x03D5, 0x1D719) ∷ (0x03F1, 0x1D71A) ∷ (0x03D6, 0x1D71B) ∷ [];
})
blocks Bold = Some (record {
  capital = 0x1D400;
  small = 0x1D41A;
  digit = Some 0x1D7CE;
  greek_capital = Some 0x1D6A8;
  greek_small = Some 0x1D6C2;
  elsewhere = (0x03F5, 0x1D6DC) ∷ (0x03D1, 0x1D6DD) ∷ (0x03F0, 0x1D6DE) ∷ (0x03D5, 0x1D6DF) ∷ (0x03F1, 0x1D6E0) ∷ (0x03D6, 0x1D6E1) ∷ [];
})
blocks BoldItalic = Some (record {
  capital = 0x1D468;
  small = 0x1D482;
  digit = Some 0x1D7CE;
  greek_capital = Some 0x1D6A8;
  greek_small = Some 0x1D736;
  elsewhere = (0x03F5, 0x1D750) ∷ (0x03D1, 0x1D751) ∷ (0x03F0, 0x1D752) ∷ (0x03D5, 0x1D753) ∷ (0x03F1, 0x1D754) ∷ (0x03D6, 0x1D755) ∷ [];
})
blocks DoubleStruck = Some (record {
  capital = 0x1D538;
  small = 0x1D552;
  digit = Some 0x1D7D8;
  greek_capital = None;
  greek_small = None;
  elsewhere = (0x43, 0x2102) ∷ (0x48, 0x210D) ∷ (0x4E, 0x2115) ∷ (0x50, 0x2119) ∷ (0x51, 0x211A) ∷ (0x52, 0x211D) ∷ (0x5A, 0x2124) ∷ [];
})
blocks Fraktur = Some (record {
  capital = 0x1D504;
  small = 0x1D51E;
  digit = None;
  greek_capital = None;
  greek_small = None;
  elsewhere = (0x43, 0x212D) ∷ (0x48, 0x210C) ∷ (0x49, 0x2111) ∷ (0x52, 0x211C) ∷ (0x5A, 0x2128) ∷ [];
})
blocks Calligraphic = Some (record {
  capital = 0x1D49C;
  small = 0x1D4B6;
  digit = None;
  greek_capital = None;
  greek_small = None;
  elsewhere = (0x42, 0x212C) ∷ (0x45, 0x2130) ∷ (0x46, 0x2131) ∷ (0x48, 0x210B) ∷ (0x49, 0x2110) ∷ (0x4C, 0x2112) ∷ (0x4D, 0x2133) ∷ (0x52, 0x211B) ∷ (0x65, 0x212F) ∷ (0x67, 0x210A) ∷ (0x6F, 0x2134) ∷ [];
})
blocks SansSerif = Some (record { capital = 0x1D5A0; small = 0x1D5BA; digit = Some 0x1D7E2; greek_capital = None; greek_small = None; elsewhere = [] })
blocks Monospace = Some (record { capital = 0x1D670; small = 0x1D68A; digit = Some 0x1D7F6; greek_capital = None; greek_small = None; elsewhere = [] })

-- whether a character is from the first to the last
abbrev pub is_between : ℕ → ℕ → ℕ → Bool
is_between first last c = nat_le first c && nat_le c last

-- the character of a block that is as far from its first as c is from this one; c, where there is no block
abbrev pub moved : ℕ → Option ℕ → ℕ → ℕ
moved first None c = c
moved first (Some block) c = block + (c - first)

-- the code point that the entries give to c, or else `other`
abbrev pub looked_up : List (ℕ × ℕ) → ℕ → ℕ → ℕ
looked_up [] c other = other
looked_up (entry ∷ entries) c other = if entry.0 == c then entry.1 else looked_up entries c other

-- a character of these blocks
abbrev pub in_blocks : Blocks → ℕ → ℕ
in_blocks b c =
    if is_between 0x41 0x5A c then moved 0x41 (Some b.capital) c
    else if is_between 0x61 0x7A c then moved 0x61 (Some b.small) c
    else if is_between 0x30 0x39 c then moved 0x30 b.digit c
    else if is_between 0x0391 0x03A9 c then moved 0x0391 b.greek_capital c
    else if is_between 0x03B1 0x03C9 c then moved 0x03B1 b.greek_small c
    else c

-- a character in these blocks, or itself without blocks
abbrev pub in_optional_blocks : Option Blocks → ℕ → ℕ
in_optional_blocks None c = c
in_optional_blocks (Some b) c = looked_up b.elsewhere c (in_blocks b c)

-- the character that represents this one in the alphabet; one that the alphabet does not have is left as it is
abbrev pub in_alphabet : Alphabet → ℕ → ℕ
in_alphabet alphabet c = in_optional_blocks (blocks alphabet) c
