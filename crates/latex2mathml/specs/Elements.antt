-- The definitions that the contracts use which say that markup is one element and balanced, and those for joined markup.
pub use Rattle.latex2mathml_trees.specs.Markup.{Name, Attribute, Event, OpenElements, Schema, Runs, IsBalanced, IsElement, any_element, at_start, lowest, above, add, open_tag, close_tag, empty_tag, spell_event}
pub use Rattle.latex2mathml_trees.specs.MathSchema.{IsOneElement, child_table}
unfoldable pub use Rattle.latex2mathml_trees.specs.MathSchema.{IsMathElement}
pub use Rattle.latex2mathml_trees.specs.Pages.{IsPage, JoinsBalanced, JoinsMarkup, JoinsPages, is_in_table, page_schema, takes_math}
