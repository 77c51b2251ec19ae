-- Macros as operands. In LaTeX `\frac` and many other commands are macros, too, and take a macro as a whole: if `\d` means
-- `\Delta x`, then `\frac\d2` means `\frac{\Delta x}2`. What TeX itself reads takes the first atom of what replaces a macro:
-- scripts, `\sqrt` without a degree, `\overline`, and `\mathop` and the like.
use Rattle.std.specs.Prelude.{ℕ, ◌-◌, ◌==◌, ◌&&◌, Bool, true, false, List, [], ◌∷◌, ◌++◌, Option, Some, None, nat_lt, option_map, if◌then◌else◌}
use Rattle.std.specs.Str.{byte}
use Rattle.latex2mathml_elements.specs.Attributes.{Side, Above, Below}
use Rattle.latex2mathml_tex_grammar.specs.{Commands.meaning_of, Macros.Part, Macros.Fixed, Macros.Macro}
use Rattle.latex2mathml_tex_grammar.specs.Meaning.{Accent, Arrow, BeginTable, Boxed, Brace, Changes, ContinuedFraction, EndTable, Fraction, GeneralFraction, Highlight, InColor, Meaning, OperatorName, Raise, Rectangle, Root, SkipInBraces, Slash, Smash, Stack, StackedRelation, Styled, Substack, ToColor, Words}
use Rattle.latex2mathml_tex_grammar.specs.Units.{Piece, Space, Open, Close, Command, Character, Unit}

-- how many operands an accent with this mark takes whole
abbrev pub under_accent : Side → ℕ → ℕ
under_accent Above mark = if mark == 0x0332 then 0 else 1
under_accent Below mark = 1

-- how many operands and other arguments a command with this meaning takes whole
abbrev pub taken_whole : Meaning → ℕ
taken_whole SkipInBraces = 1
taken_whole (Boxed box) = 1
taken_whole Smash = 1
taken_whole Raise = 2
taken_whole InColor = 2
taken_whole Highlight = 2
taken_whole Rectangle = 2
taken_whole (Arrow sign) = 1
taken_whole (Styled alphabet) = 1
taken_whole (Words alphabet) = 1
taken_whole (Fraction rule style) = 2
taken_whole ContinuedFraction = 2
taken_whole GeneralFraction = 6
taken_whole (Accent side mark stretch) = under_accent side mark
taken_whole (Brace side mark) = 1
taken_whole (Stack side) = 2
taken_whole StackedRelation = 2
taken_whole OperatorName = 1
taken_whole Slash = 1
taken_whole (Changes ToColor) = 1
taken_whole BeginTable = 1
taken_whole EndTable = 1
taken_whole Substack = 1
taken_whole meaning = 0

-- what may come before the operands of a command, and how many of them the command then takes whole
pub data Optional : Type 0 where
  -- nothing
  Nothing : Optional
  -- a star
  Star : ℕ → Optional
  -- an argument in brackets
  Brackets : ℕ → Optional

-- what may come before the operands of a command with this meaning. A root takes its operand whole behind its degree.
abbrev pub optional_before : Meaning → Optional
optional_before SkipInBraces = Star 1
optional_before OperatorName = Star 1
optional_before Root = Brackets 1
optional_before (Arrow sign) = Brackets 1
optional_before Smash = Brackets 1
optional_before (Changes ToColor) = Brackets 1
optional_before InColor = Brackets 2
optional_before ContinuedFraction = Brackets 2
optional_before Rectangle = Brackets 2
optional_before meaning = Nothing

-- a group that is open, and how many operands are still to come behind it
pub data Around : Type 0 where
  OpenBrace : ℕ → Around
  OpenBracket : ℕ → Around

-- the operands that are still to come: in the group of the next unit, and in the groups around it, the innermost first
pub record Due : Type 0 where
  pub here : ℕ
  -- what may come before them
  pub optional : Optional
  pub around : List Around

-- these operands
abbrev pub due : ℕ → Optional → List Around → Due
due here optional around = record { here = here; optional = optional; around = around }

-- nothing precedes
abbrev pub none_due : Due
none_due = due 0 Nothing []

-- one operand less is to come
abbrev pub behind_operand : Due → Due
behind_operand d = due (d.here - 1) Nothing d.around

-- how many are to come behind a command that takes this many operands whole. The command may be an operand itself.
abbrev pub behind_taking : ℕ → ℕ → ℕ
behind_taking taken here = if taken == 0 then here - 1 else taken

-- what is to come behind a command, by its meaning, if it has one
abbrev pub behind_command : Option Meaning → Due → Due
behind_command (Some meaning) d = due (behind_taking (taken_whole meaning) d.here) (optional_before meaning) d.around
behind_command None d = behind_operand d

-- what is to come behind a closing brace
abbrev pub behind_brace : List Around → Due
behind_brace [] = none_due
behind_brace (OpenBrace here ∷ around) = due here Nothing around
behind_brace (OpenBracket here ∷ around) = due here Nothing around

-- what is to come behind a closing bracket
abbrev pub behind_bracket : List Around → Due → Due
behind_bracket (OpenBracket here ∷ around) d = due here Nothing around
behind_bracket around d = behind_operand d

-- what is to come behind a character, where nothing may come before the operands
abbrev pub behind_other : ℕ → Due → Due
behind_other c d = if c == byte "]" then behind_bracket d.around d else behind_operand d

-- what is to come behind a character, where this may come before the operands
abbrev pub behind_character : ℕ → Optional → Due → Due
behind_character c Nothing d = behind_other c d
behind_character c (Star behind) d = if c == byte "*" then due behind Nothing d.around else behind_other c d
behind_character c (Brackets behind) d = if c == byte "[" then due 0 Nothing (OpenBracket behind ∷ d.around) else behind_other c d

-- what is to come behind this piece
abbrev pub due_behind : Piece → Due → Due
due_behind Space d = d
due_behind Open d = due 0 Nothing (OpenBrace (d.here - 1) ∷ d.around)
due_behind Close d = behind_brace d.around
due_behind (Command name) d = behind_command (meaning_of name) d
due_behind (Character c) d = behind_character c d.optional d

-- what is to come behind these units
abbrev pub due_behind_units : List Unit → Due → Due
due_behind_units [] d = d
due_behind_units (u ∷ us) d = due_behind_units us (due_behind u.piece d)

-- whether the next unit is an operand that is taken whole
abbrev pub is_due : Due → Bool
is_due d = nat_lt 0 d.here

-- whether a body is in braces where its macro is taken whole: not if it is only one piece
abbrev pub needs_braces : List Part → Bool
needs_braces (Fixed piece ∷ []) = false
needs_braces body = true

-- a body in braces
abbrev pub in_braces : List Part → List Part
in_braces body = Fixed Open ∷ (body ++ Fixed Close ∷ [])

-- a body as it is used, where the flag says whether its macro is taken whole
abbrev pub body_as : Bool → List Part → List Part
body_as whole body = if whole && needs_braces body then in_braces body else body

-- the macro as it is used
abbrev pub used_as : Bool → Macro → Macro
used_as whole m = record m { starred = option_map (body_as whole) m.starred; body = body_as whole m.body }
