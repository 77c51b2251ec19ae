-- Definitions of the code, as those of the grammar.
use Rattle.latex2mathml_tex_grammar.specs.Definitions as definitions
use Rattle.latex2mathml_tex_units.specs.{Bodies.macro_of, declared.macros.definitions.Definition.Definition, declared.macros.definitions.Word.Word}
use Rattle.latex2mathml_tex_units.specs.declared.macros.definitions.Word.TheVariants as word

abbrev pub word_of : Word → definitions.Word
word_of word.NewCommand = definitions.NewCommand
word_of word.ProvideCommand = definitions.ProvideCommand
word_of word.Def = definitions.Def
word_of word.DeclareOperator = definitions.DeclareOperator
word_of word.DeclareDelimiters = definitions.DeclareDelimiters
word_of word.Let = definitions.Let

abbrev pub definition_in : Definition → definitions.Definition
definition_in d = definitions.definition d.name.now (macro_of d.stands_for)
