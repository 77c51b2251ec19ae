-- Texts of definitions, with nothing else in them but white space, and words that are passed over. Here a text is given as
-- its characters.
use Rattle.std.specs.Prelude.{◌≡◌, ℕ, Bool, false, ◌||◌, List, Some, None, codes, if◌then◌else◌}
use Rattle.std.specs.Str.{bytes_eq}
use Rattle.latex2mathml_tex_grammar.specs.Definitions.{Word, word_of, Definition, definition_of, behind_definition}
use Rattle.latex2mathml_tex_grammar.specs.{Macros.Table, Next.is_space_piece, Reading.Outcome, Reading.Read, Reading.Refused}
use Rattle.latex2mathml_tex_grammar.specs.Refusal.{NoDefinition, Refusal, refusal_at}
use Rattle.latex2mathml_tex_grammar.specs.Units.{Piece, Command, Unit, Units, Next, End, Stop, HasUnits}
use Rattle.latex2mathml_tex_grammar.specs.UsualMacros.{usual_macros}

-- `\global` and `\long`, with which a definition means the same as without them. In a formula they are usual macros.
abbrev pub is_prefix_name : List ℕ → Bool
is_prefix_name name = bytes_eq name (codes "global") || bytes_eq name (codes "long")

-- whether a piece is one of these words
abbrev pub is_prefix : Piece → Bool
is_prefix (Command name) = is_prefix_name name
is_prefix piece = false

-- the units from the first one on that is neither white space nor such a word
abbrev pub past_prefixes : Units → Units
past_prefixes (Next u l) = if is_space_piece u.piece || is_prefix u.piece then past_prefixes l else Next u l
past_prefixes (End place) = End place
past_prefixes (Stop r) = Stop r

-- the macros that hold after the definitions that these units are, where the first ones held before; or why they are refused
pub data ReadsDefinitions : Table → Units → Outcome Table → Type 0 where
  no_more : {table : Table} {l : Units} {place : ℕ}
      → past_prefixes l ≡ End place
      → ReadsDefinitions table l (Read table (End place))
  stopped : {table : Table} {l : Units} {r : Refusal}
      → past_prefixes l ≡ Stop r
      → ReadsDefinitions table l (Refused r)
  defines : {table : Table} {l m n : Units} {u : Unit} {word : Word} {d : Definition} {o : Outcome Table}
      → past_prefixes l ≡ Next u m
      → word_of u.piece ≡ Some word
      → definition_of word u.place m ≡ Read d n
      → ReadsDefinitions (behind_definition word d table) n o
      → ReadsDefinitions table l o
  no_definition : {table : Table} {l m : Units} {u : Unit}
      → past_prefixes l ≡ Next u m
      → word_of u.piece ≡ None
      → ReadsDefinitions table l (Refused (refusal_at NoDefinition u.place))
  definition_refused : {table : Table} {l m : Units} {u : Unit} {word : Word} {r : Refusal}
      → past_prefixes l ≡ Next u m
      → word_of u.piece ≡ Some word
      → definition_of word u.place m ≡ Refused r
      → ReadsDefinitions table l (Refused r)

-- these macros hold after the text, where the usual ones held before it
pub record Defines (text : List ℕ) (macros : Table) : Type 0 where
  pub units : Units
  pub end : ℕ
  pub spelled : HasUnits 0 text units
  pub read : ReadsDefinitions usual_macros units (Read macros (End end))

-- the text is refused
pub record AreRefused (text : List ℕ) (refusal : Refusal) : Type 0 where
  pub units : Units
  pub spelled : HasUnits 0 text units
  pub refused : ReadsDefinitions usual_macros units (Refused refusal)
