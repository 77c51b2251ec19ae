-- The definitions that the contract of the counted call uses: the slices of a text, and what is counted over them.
pub use Rattle.latex2mathml_grammar.specs.Counts.{ReadsNodes, IsComparisonCount, IsRefusalCount, IsTokenCount, backslashes}
pub use Rattle.latex2mathml_grammar.specs.Openers.{IsFrameCount, openers}
pub use Rattle.latex2mathml_grammar.specs.Spelling.{Slice, HasSlices, HasTokens}
