pub mod Conversions
pub mod Counting
pub mod DocumentLaws
pub mod Documents
pub mod Elements
pub mod Entries
pub mod Faults
pub mod Files
pub mod Formulas
pub mod Inputs
pub mod Pieces
pub mod Streams
pub mod Surroundings
pub mod Tree
-- texts without a dollar sign
pub use Rattle.latex2mathml_grammar.specs.Dollars
-- the terms of the laws of formulas: the spelling, the grammar, the slices that it reads, and the places between tokens
pub use Rattle.latex2mathml_grammar.specs.Characters
pub use Rattle.latex2mathml_grammar.specs.Grammar
pub use Rattle.latex2mathml_grammar.specs.Places
pub use Rattle.latex2mathml_grammar.specs.SliceRefusals
pub use Rattle.latex2mathml_grammar.specs.Slices
pub use Rattle.latex2mathml_grammar.specs.Spelling
-- tokens, the command table, nodes, and their texts
pub use Rattle.latex2mathml_tokens.specs.Attributes
pub use Rattle.latex2mathml_tokens.specs.Commands
pub use Rattle.latex2mathml_tokens.specs.Escape
pub use Rattle.latex2mathml_tokens.specs.Tok
pub use Rattle.latex2mathml_trees.specs.Arguments
pub use Rattle.latex2mathml_trees.specs.Print
pub use Rattle.latex2mathml_trees.specs.Style
pub use Rattle.latex2mathml_trees.specs.Width
