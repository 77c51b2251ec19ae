-- The definitions that the contract of a formula uses: its rendering, its refusal, and the laws of both.
unfoldable pub use Rattle.latex2mathml_grammar.specs.Rendering.{IsRendering, IsFormulaRefusal}
pub use Rattle.latex2mathml_grammar.specs.RenderingLaws.{RendersElements, RendersDollarFree, IsNeverForDollars, HasOneRendering, ReadsNoArgument, RenderingsHold}
pub use Rattle.latex2mathml_grammar.specs.TokenLists.{HasOneTokenList, TextHasOneReading}
pub use Rattle.latex2mathml_grammar.specs.Laws.{HasOneReading, IsSliced, IsReadBySlices, IsRefusedBySlices}
pub use Rattle.latex2mathml_grammar.specs.Places.{HasPlaces, SpaceChangesNothing}
pub use Rattle.latex2mathml_grammar.specs.TextLaws.{TextsHold}
pub use Rattle.latex2mathml_tokens.specs.Refusal.{Refusal, UnexpectedToken, MissingParensethis, UnknownEnvironment, InvalidNumberOfDollarSigns, IfRefused, refusal_of, refusal_text, error_text}
pub use Rattle.latex2mathml_tokens.specs.declared.DisplayStyle.{DisplayStyle}
pub use Rattle.latex2mathml_tokens.specs.declared.DisplayStyle.TheVariants.{Block, Inline}
pub use Rattle.latex2mathml_tokens.specs.declared.error.LatexError.TheVariants.{OutOfMemory}
