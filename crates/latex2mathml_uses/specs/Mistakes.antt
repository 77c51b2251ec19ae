-- What an author has to correct.
use Rattle.latex2mathml.specs.Formulas.{Refusal, UnexpectedToken, MissingParensethis, UnknownEnvironment, InvalidNumberOfDollarSigns}
use Rattle.latex2mathml_uses.specs.declared.refusal.Mistake.{Mistake}
use Rattle.latex2mathml_uses.specs.declared.refusal.Mistake.TheVariants.{Unfinished, Fence, Environment, Dollars}

-- the mistake that leads to this refusal
abbrev pub mistake_of : Refusal → Mistake
mistake_of (UnexpectedToken expected got) = Unfinished
mistake_of (MissingParensethis location got) = Fence
mistake_of (UnknownEnvironment name) = Environment
mistake_of InvalidNumberOfDollarSigns = Dollars
