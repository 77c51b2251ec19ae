-- TeX's table of the space between two atoms, by their classes, in eighteenths of an em.
use Rattle.std.specs.Prelude.{ℕ, Option, Some, None}
use Rattle.latex2mathml_tex_grammar.specs.Symbols.{Class, Ordinary, Operator, Binary, Relation, Opening, Closing, Punctuation, Inner, Style, InScript}

-- An entry of the table: no space; a thin one; a thin, medium or thick one that scripts do not have. A binary operator has operands
-- on both sides, so some entries are missing.
pub data Entry : Type 0 where
  Zero : Entry
  Thin : Entry
  ThinOutsideScripts : Entry
  MediumOutsideScripts : Entry
  ThickOutsideScripts : Entry
  NoEntry : Entry

-- the table
abbrev pub entry : Class → Class → Entry
entry Ordinary Operator = Thin
entry Ordinary Binary = MediumOutsideScripts
entry Ordinary Relation = ThickOutsideScripts
entry Ordinary Inner = ThinOutsideScripts
entry Ordinary right = Zero
entry Operator Ordinary = Thin
entry Operator Operator = Thin
entry Operator Binary = NoEntry
entry Operator Relation = ThickOutsideScripts
entry Operator Inner = ThinOutsideScripts
entry Operator right = Zero
entry Binary Binary = NoEntry
entry Binary Relation = NoEntry
entry Binary Closing = NoEntry
entry Binary Punctuation = NoEntry
entry Binary right = MediumOutsideScripts
entry Relation Binary = NoEntry
entry Relation Relation = Zero
entry Relation Closing = Zero
entry Relation Punctuation = Zero
entry Relation right = ThickOutsideScripts
entry Opening Binary = NoEntry
entry Opening right = Zero
entry Closing Operator = Thin
entry Closing Binary = MediumOutsideScripts
entry Closing Relation = ThickOutsideScripts
entry Closing Inner = ThinOutsideScripts
entry Closing right = Zero
entry Punctuation Binary = NoEntry
entry Punctuation right = ThinOutsideScripts
entry Inner Operator = Thin
entry Inner Binary = MediumOutsideScripts
entry Inner Relation = ThickOutsideScripts
entry Inner Closing = Zero
entry Inner right = ThinOutsideScripts

-- how wide the space of an entry is, where there is one
abbrev pub width : Style → Entry → Option ℕ
width style Zero = Some 0
width style Thin = Some 3
width style NoEntry = None
width InScript entry = Some 0
width style ThinOutsideScripts = Some 3
width style MediumOutsideScripts = Some 4
width style ThickOutsideScripts = Some 5

-- the space between two atoms of these classes, in this style
abbrev pub space_between : Style → Class → Class → Option ℕ
space_between style left right = width style (entry left right)
