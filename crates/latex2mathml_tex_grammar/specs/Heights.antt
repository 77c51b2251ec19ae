-- How high atoms are. By this, the delimiters around them stretch and have room.
use Rattle.std.specs.Prelude.{Bool, true, false}
use Rattle.latex2mathml_elements.specs.Attributes.{Size, Big, Bigger, VeryBig, Biggest}
use Rattle.latex2mathml_tex_grammar.specs.Symbols.{Style, InDisplay, InScript}

pub data Height : Type 0 where
  -- no taller than a letter: delimiters do not stretch
  Low : Height
  -- as a letter with a superscript, or a fraction in a line of text
  Raised : Height
  -- taller, as most other things are
  Tall : Height
  -- as a fraction or an integral in a block, or two rows
  Taller : Height
  -- as a sum with limits in a block, or more rows
  VeryTall : Height

-- the larger one of two heights
abbrev pub larger : Height → Height → Height
larger Low b = b
larger Raised Low = Raised
larger Raised b = b
larger Tall Low = Tall
larger Tall Raised = Tall
larger Tall b = b
larger Taller VeryTall = VeryTall
larger Taller b = Taller
larger VeryTall b = VeryTall

-- the height of a fraction
abbrev pub fraction_height : Style → Height
fraction_height InDisplay = Taller
fraction_height style = Raised

-- the height of an integral without limits
abbrev pub integral_height : Style → Height
integral_height InDisplay = Taller
integral_height style = Tall

-- a base with limits above and below it, by the height of the base
abbrev pub stacked_height : Style → Height → Height
stacked_height style Low = Tall
stacked_height InDisplay base = VeryTall
stacked_height style base = Tall

-- a script, by its height at the size of the base
abbrev pub script_height : Height → Height
script_height Low = Low
script_height height = Raised

-- a superscript, if there is one
abbrev pub superscript_height : Bool → Height
superscript_height true = Raised
superscript_height false = Low

-- scripts below and above a base of this height, or beside it
abbrev pub scripts_height : Style → Bool → Height → Height → Bool → Height
scripts_height style true base below above = stacked_height style base
scripts_height style false base below above = larger (script_height below) (superscript_height above)

-- A base of this height with scripts below and above it, or beside it. In scripts it is always taller than a letter.
abbrev pub scripted_height : Style → Bool → Height → Height → Bool → Height
scripted_height InScript stacked base below above = larger Raised (larger base (scripts_height InScript stacked base below above))
scripted_height style stacked base below above = larger base (scripts_height style stacked base below above)

-- the height of a delimiter of this size
abbrev pub sized_height : Size → Height
sized_height Big = Raised
sized_height Bigger = Tall
sized_height VeryBig = Taller
sized_height Biggest = VeryTall
