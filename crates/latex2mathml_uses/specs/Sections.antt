-- Sections of a page.
use Rattle.std.specs.Prelude.{string_bytes}
use Rattle.latex2mathml.specs.Documents.{IsAnswer}
use Rattle.latex2mathml_uses.specs.declared.wiki.Section.{Section}

-- what is shown is the answer for the source
abbrev pub ShowsAnswer : Section → Type 0
ShowsAnswer section = IsAnswer (string_bytes section.source) (string_bytes section.shown)
