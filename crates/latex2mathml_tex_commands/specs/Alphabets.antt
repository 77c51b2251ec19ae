-- The blocks of the code's alphabets, as the definitions have them.
use Rattle.std.specs.Prelude.{ℕ, ◌<◌, ◌≤◌, IfSome}
use Rattle.latex2mathml_tex_grammar.specs.Alphabets as defined
use Rattle.latex2mathml_tex_commands.specs.declared.alphabets.Blocks.{Blocks}

abbrev pub blocks_of : Blocks → defined.Blocks
blocks_of b = record {
  capital = b.capital;
  small = b.small;
  digit = b.digit;
  greek_capital = b.greek_capital;
  greek_small = b.greek_small;
  elsewhere = b.elsewhere.now;
}

-- the block is above the surrogates, so what is near its first is a character
abbrev pub IsHigh : ℕ → Type 0
IsHigh block = (0x1_0000 ≤ block) × (block < 0x2_0000)

-- each block of an alphabet is above the surrogates
pub record AreHigh (b : defined.Blocks) : Type 0 where
  pub capital : IsHigh b.capital
  pub small : IsHigh b.small
  pub digit : IfSome b.digit IsHigh
  pub greek_capital : IfSome b.greek_capital IsHigh
  pub greek_small : IfSome b.greek_small IsHigh
