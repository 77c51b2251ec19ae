-- What the parser's values are in the definitions. A value holds no elements: its elements are the first of a list that is
-- given with it, the top one first.
use Rattle.std.specs.Prelude.{◌≡◌, ℕ, ◌+◌, Bool, true, false, List, [], ◌∷◌, drop, option_map, Option, Some, None, take}
use Rattle.latex2mathml_elements.specs.Element.{Element}
use Rattle.latex2mathml_attributes.specs.Arounds.{color_of}
use Rattle.latex2mathml_builder.specs.Stacks.{no_element}
use Rattle.latex2mathml_tex_grammar.specs.Atoms as atoms
use Rattle.latex2mathml_tex_grammar.specs.Heights as heights
use Rattle.latex2mathml_tex_grammar.specs.Makes as makes
use Rattle.latex2mathml_tex_grammar.specs.Rows as rows
use Rattle.latex2mathml_tex_grammar.specs.Rules as rules
use Rattle.latex2mathml_tex_grammar.specs.SpaceTable as table
use Rattle.latex2mathml_tex_grammar.specs.Words as words
use Rattle.latex2mathml_tex_commands.specs.Meanings.{alphabet_of, class_of, fraction_rule_of, limit_place_of, style_of, text_size_of}
use Rattle.latex2mathml_attributes.specs.declared.attributes.Side.{Side}
use Rattle.latex2mathml_attributes.specs.declared.attributes.Side.TheVariants as side
use Rattle.latex2mathml_tex_commands.specs.declared.meaning.Class.TheVariants as class
use Rattle.latex2mathml_tex_commands.specs.declared.meaning.{Alphabet.Alphabet, Style.Style}
use Rattle.latex2mathml_tex_commands.specs.declared.meaning.TextSize.TheVariants as text_size
use Rattle.latex2mathml_tex_atoms.specs.declared.atoms.{Before.Before, Context.Context, Core.Core, Joining.Joining, Kind.Kind, Operand.Operand, Row.Row, Scripts.Scripts, Words.Words}
use Rattle.latex2mathml_tex_atoms.specs.declared.atoms.Before.TheVariants as before
use Rattle.latex2mathml_tex_atoms.specs.declared.atoms.Joining.TheVariants as joining
use Rattle.latex2mathml_tex_atoms.specs.declared.atoms.Kind.TheVariants as kind
use Rattle.latex2mathml_tex_atoms.specs.declared.fonts.Font.{Font}
use Rattle.latex2mathml_tex_atoms.specs.declared.heights.Height.{Height}
use Rattle.latex2mathml_tex_atoms.specs.declared.heights.Height.TheVariants as height
use Rattle.latex2mathml_tex_atoms.specs.declared.rests.{Division.Division, Look.Look}
use Rattle.latex2mathml_tex_atoms.specs.declared.fonts.Font.TheVariants as font
use Rattle.latex2mathml_tex_atoms.specs.declared.spaces.Entry.{Entry}
use Rattle.latex2mathml_tex_atoms.specs.declared.spaces.Entry.TheVariants as entry

abbrev pub height_of : Height → heights.Height
height_of height.Low = heights.Low
height_of height.Raised = heights.Raised
height_of height.Tall = heights.Tall
height_of height.Taller = heights.Taller
height_of height.VeryTall = heights.VeryTall

-- whether something is no taller than a letter
abbrev pub is_low : heights.Height → Bool
is_low heights.Low = true
is_low h = false

abbrev pub kind_of : Kind → atoms.Kind
kind_of (kind.SignOf class) = atoms.SignOf (class_of class)
kind_of kind.PlusOrMinus = atoms.PlusOrMinus
kind_of (kind.Plain class) = atoms.Plain (class_of class)
kind_of kind.UprightLetters = atoms.UprightLetters
kind_of kind.UprightIdentifier = atoms.UprightIdentifier
kind_of (kind.Unspaced class) = atoms.Unspaced (class_of class)
kind_of kind.Divider = atoms.Divider
kind_of kind.Blank = atoms.Blank

-- whether an atom is a relation that may join another
abbrev pub is_relation : Kind → Bool
is_relation (kind.SignOf class.Relation) = true
is_relation k = false

-- whether an atom is an upright letter
abbrev pub is_upright : Kind → Bool
is_upright kind.UprightLetters = true
is_upright kind.UprightIdentifier = true
is_upright k = false

abbrev pub joining_of : Joining → rows.Joining
joining_of joining.ToWord = rows.ToWord
joining_of joining.ToRelations = rows.ToRelations
joining_of joining.Separated = rows.Separated
joining_of joining.Apart = rows.Apart

abbrev pub before_of : Before → atoms.Before
before_of before.Nothing = atoms.Nothing
before_of (before.After class) = atoms.After (class_of class)
before_of (before.AfterUnspaced class) = atoms.AfterUnspaced (class_of class)

abbrev pub entry_of : Entry → table.Entry
entry_of entry.Zero = table.Zero
entry_of entry.Thin = table.Thin
entry_of entry.ThinOutsideScripts = table.ThinOutsideScripts
entry_of entry.MediumOutsideScripts = table.MediumOutsideScripts
entry_of entry.ThickOutsideScripts = table.ThickOutsideScripts
entry_of entry.NoEntry = table.NoEntry

abbrev pub context_of : Context → rules.Context
context_of c = record { style = style_of c.style; alphabet = option_map alphabet_of c.alphabet; size = text_size_of c.size }

-- a context of letters of the usual size
abbrev pub usual_context : Style → Option Alphabet → Context
usual_context style alphabet = record { style = style; alphabet = alphabet; size = text_size.NormalSize }

-- the top element
abbrev pub top : List Element → Element
top [] = no_element
top (x ∷ xs) = x

-- an atom without scripts, whose element is this
abbrev pub core_with : Core → Element → makes.Core
core_with core x = record { atom = atoms.atom (kind_of core.kind) (height_of core.height) x; limits = limit_place_of core.limits }

abbrev pub operand_with : Operand → Element → rows.Operand
operand_with operand x = record { element = x; class = class_of operand.class; height = height_of operand.height }

abbrev pub look_of : Look → rows.Look
look_of look = record {
  group = style_of look.group;
  group_size = text_size_of look.group_size;
  has_own_style = look.has_own_style;
  color = option_map color_of look.color;
  scale = look.scale;
}

-- the last change in a row, with the elements before it
abbrev pub restyled_with : Option Look → ℕ → List Element → Option rows.Restyled
restyled_with None settled xs = None
restyled_with (Some look) settled xs = Some (record { before = take settled xs; look = look_of look })

-- the upper part of the fraction, if a row is the lower part of one
abbrev pub under_with : Option Division → List Element → Option rows.Upper
under_with None xs = None
under_with (Some fraction) xs = Some (record { rule = fraction_rule_of fraction.rule; style = style_of fraction.style; element = top xs })

-- how many elements precede a change, if there was one
abbrev pub settled_count : Option Look → ℕ → ℕ
settled_count None settled = 0
settled_count (Some change) settled = settled

abbrev pub under_count : Option Division → ℕ
under_count None = 0
under_count (Some fraction) = 1

-- how many elements of a row are below those since the last change
abbrev pub row_rest : Row → ℕ
row_rest row = settled_count row.restyled row.settled + under_count row.under

-- how many elements a row has
abbrev pub row_count : Row → ℕ
row_count row = row.count + row_rest row

-- A row that is whole at its end: no style, color or size was changed in it, it is not the lower part of a fraction, and no binary sign
-- ends it.
pub record IsFinished (row : Row) : Type 0 where
  pub restyled : row.restyled ≡ None
  pub under : row.under ≡ None
  pub ended : atoms.awaits_second (kind_of row.last) (before_of row.before) ≡ false

-- a row without atoms
abbrev pub empty_row : Row
empty_row = record { count = 0; before = before.Nothing; last = kind.Blank; height = height.Low; class = class.Ordinary; restyled = None; settled = 0; under = None }

-- a row without atoms at the beginning of a formula
abbrev pub begun : Row
begun = record empty_row { before = before.After class.Opening }

abbrev pub row_with : Row → List Element → rows.Row
row_with row xs = record {
  elements = take row.count xs;
  before = before_of row.before;
  last = kind_of row.last;
  height = height_of row.height;
  class = class_of row.class;
  restyled = restyled_with row.restyled row.settled (drop row.count xs);
  under = under_with row.under (drop (row.count + settled_count row.restyled row.settled) xs);
}

abbrev pub font_of : Font → words.Font
font_of font.Usual = words.Usual
font_of font.Typewriter = words.Typewriter

abbrev pub words_with : Words → List Element → words.Words
words_with ws xs = record { elements = take ws.count xs; last = option_map font_of ws.last; accent = ws.accent }

abbrev pub one_if : Bool → ℕ
one_if true = 1
one_if false = 0

-- whether there is a script on this side
abbrev pub has_script : Side → Scripts → Bool
has_script side.Below scripts = scripts.below
has_script side.Above scripts = scripts.above

-- how many scripts there are
abbrev pub script_count : Scripts → ℕ
script_count s = one_if s.below + one_if s.above

-- the elements of the scripts below and above, which are in the order in which they were read
abbrev pub element_below : Bool → Bool → Bool → List Element → Option Element
element_below false above is_exchanged xs = None
element_below true false is_exchanged xs = Some (top xs)
element_below true true false xs = Some (top (drop 1 xs))
element_below true true true xs = Some (top xs)

abbrev pub element_above : Bool → Bool → Bool → List Element → Option Element
element_above below false is_exchanged xs = None
element_above false true is_exchanged xs = Some (top xs)
element_above true true false xs = Some (top xs)
element_above true true true xs = Some (top (drop 1 xs))

abbrev pub scripts_with : Scripts → List Element → makes.Scripts
scripts_with s xs = record {
  primes = s.primes;
  below = element_below s.below s.above s.is_exchanged xs;
  above = element_above s.below s.above s.is_exchanged xs;
  limits = limit_place_of s.limits;
  takes_limits = s.takes_limits;
  height = height_of s.height;
}
