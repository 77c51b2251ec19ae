-- What is known of stored markup.
use Rattle.std.specs.Prelude.{ℕ, List}
use Rattle.latex2mathml.specs.Formulas.{DisplayStyle, IsRendering}

-- it is the rendering of a formula that is no longer known
abbrev pub IsStored : List ℕ → Type 0
IsStored markup = (text : List ℕ) × (display : DisplayStyle) × IsRendering text display markup
