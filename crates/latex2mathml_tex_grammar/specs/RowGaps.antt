-- The space below a row, as in `\\[1ex]`.
use Rattle.std.specs.Prelude.{ℤ, pos, Option, Some, None}
use Rattle.latex2mathml_tex_grammar.specs.{Lengths.width_of, Scanning.Found, Scanning.Given, Scanning.Missing, Scanning.BeforeLength, Scanning.BeforeStar, Scanning.past, Scanning.scan}
use Rattle.latex2mathml_tex_grammar.specs.Units.{Units}

-- the space that a width is: none if it is too large to be one
abbrev pub space_of : Option ℤ → ℤ
space_of (Some width) = width
space_of None = pos 0

-- the space of what was found, where a length was
abbrev pub space_found : Found → ℤ
space_found (Given text l) = space_of (width_of text)
space_found (Missing refusal) = pos 0

-- the space, in thousandths of an em, that these units say after the sign that ends a row
abbrev pub gap_at : Units → ℤ
gap_at l = space_found (scan 0 (past BeforeStar l) BeforeLength)
