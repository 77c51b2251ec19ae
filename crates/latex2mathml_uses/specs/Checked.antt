-- What a check finds of a formula.
use Rattle.std.specs.Prelude.{ℕ, List}
use Rattle.latex2mathml.specs.Formulas.{DisplayStyle, IsRendering}

-- the formula has markup with this display style
abbrev pub HasRendering : List ℕ → DisplayStyle → Type 0
HasRendering text display = (markup : List ℕ) × IsRendering text display markup
