-- The meanings of the code's table, as the definitions have them.
use Rattle.std.specs.Prelude.{ℕ, List, option_map}
use Rattle.latex2mathml_attributes.specs.Arounds.{color_of}
use Rattle.latex2mathml_attributes.specs.Names.{side_of, size_of, stretch_of}
use Rattle.latex2mathml_tex_grammar.specs.Meaning as meant
use Rattle.latex2mathml_tex_grammar.specs.Symbols as symbol
use Rattle.latex2mathml_tex_commands.specs.declared.meaning.Class.{Class}
use Rattle.latex2mathml_tex_commands.specs.declared.meaning.Class.TheVariants as code_class
use Rattle.latex2mathml_tex_commands.specs.declared.meaning.Style.{Style}
use Rattle.latex2mathml_tex_commands.specs.declared.meaning.Style.TheVariants as code_style
use Rattle.latex2mathml_tex_commands.specs.declared.meaning.TextSize.{TextSize}
use Rattle.latex2mathml_tex_commands.specs.declared.meaning.TextSize.TheVariants as code_size
use Rattle.latex2mathml_tex_commands.specs.declared.meaning.Alphabet.{Alphabet}
use Rattle.latex2mathml_tex_commands.specs.declared.meaning.Alphabet.TheVariants as code_alphabet
use Rattle.latex2mathml_tex_commands.specs.declared.meaning.Symbol.{Symbol}
use Rattle.latex2mathml_tex_commands.specs.declared.meaning.Symbol.TheVariants as code_symbol
use Rattle.latex2mathml_tex_commands.specs.declared.meaning.FractionRule.{FractionRule}
use Rattle.latex2mathml_tex_commands.specs.declared.meaning.FractionRule.TheVariants as code_fractionrule
use Rattle.latex2mathml_tex_commands.specs.declared.meaning.LimitPlace.{LimitPlace}
use Rattle.latex2mathml_tex_commands.specs.declared.meaning.LimitPlace.TheVariants as code_limitplace
use Rattle.latex2mathml_tex_commands.specs.declared.meaning.Change.{Change}
use Rattle.latex2mathml_tex_commands.specs.declared.meaning.Change.TheVariants as code_change
use Rattle.latex2mathml_tex_commands.specs.declared.meaning.OperandBox.{OperandBox}
use Rattle.latex2mathml_tex_commands.specs.declared.meaning.OperandBox.TheVariants as code_box
use Rattle.latex2mathml_tex_commands.specs.declared.meaning.Meaning.{Meaning}
use Rattle.latex2mathml_tex_commands.specs.declared.meaning.Meaning.TheVariants as code_meaning
use Rattle.latex2mathml_tex_commands.specs.declared.meaning.Entry.{Entry}

abbrev pub class_of : Class → symbol.Class
class_of code_class.Ordinary = symbol.Ordinary
class_of code_class.Operator = symbol.Operator
class_of code_class.Binary = symbol.Binary
class_of code_class.Relation = symbol.Relation
class_of code_class.Opening = symbol.Opening
class_of code_class.Closing = symbol.Closing
class_of code_class.Punctuation = symbol.Punctuation
class_of code_class.Inner = symbol.Inner

abbrev pub style_of : Style → symbol.Style
style_of code_style.InDisplay = symbol.InDisplay
style_of code_style.InText = symbol.InText
style_of code_style.InScript = symbol.InScript

abbrev pub text_size_of : TextSize → symbol.TextSize
text_size_of code_size.Tiny = symbol.Tiny
text_size_of code_size.SixPoint = symbol.SixPoint
text_size_of code_size.ScriptSize = symbol.ScriptSize
text_size_of code_size.FootnoteSize = symbol.FootnoteSize
text_size_of code_size.Small = symbol.Small
text_size_of code_size.NormalSize = symbol.NormalSize
text_size_of code_size.Large = symbol.Large
text_size_of code_size.VeryLarge = symbol.VeryLarge
text_size_of code_size.ExtraLarge = symbol.ExtraLarge
text_size_of code_size.Huge = symbol.Huge
text_size_of code_size.VeryHuge = symbol.VeryHuge

abbrev pub alphabet_of : Alphabet → symbol.Alphabet
alphabet_of code_alphabet.Upright = symbol.Upright
alphabet_of code_alphabet.Named = symbol.Named
alphabet_of code_alphabet.Italic = symbol.Italic
alphabet_of code_alphabet.Bold = symbol.Bold
alphabet_of code_alphabet.BoldItalic = symbol.BoldItalic
alphabet_of code_alphabet.DoubleStruck = symbol.DoubleStruck
alphabet_of code_alphabet.Fraktur = symbol.Fraktur
alphabet_of code_alphabet.Calligraphic = symbol.Calligraphic
alphabet_of code_alphabet.SansSerif = symbol.SansSerif
alphabet_of code_alphabet.Monospace = symbol.Monospace

abbrev pub symbol_of : Symbol → symbol.Symbol
symbol_of (code_symbol.Letter x) = symbol.Letter x
symbol_of (code_symbol.UprightLetter x) = symbol.UprightLetter x
symbol_of (code_symbol.Sign x y) = symbol.Sign (class_of x) y
symbol_of (code_symbol.BigOperator x) = symbol.BigOperator x
symbol_of (code_symbol.Integral x) = symbol.Integral x

abbrev pub fraction_rule_of : FractionRule → meant.FractionRule
fraction_rule_of code_fractionrule.Bar = meant.Bar
fraction_rule_of code_fractionrule.NoBar = meant.NoBar
fraction_rule_of code_fractionrule.Braced = meant.Braced
fraction_rule_of code_fractionrule.Bracketed = meant.Bracketed
fraction_rule_of code_fractionrule.Bare = meant.Bare

abbrev pub limit_place_of : LimitPlace → meant.LimitPlace
limit_place_of code_limitplace.Beside = meant.Beside
limit_place_of code_limitplace.ByStyle = meant.ByStyle
limit_place_of code_limitplace.Movable = meant.Movable
limit_place_of code_limitplace.Stacked = meant.Stacked

abbrev pub change_of : Change → meant.Change
change_of (code_change.ToAlphabet x) = meant.ToAlphabet (alphabet_of x)
change_of (code_change.ToStyle x) = meant.ToStyle (style_of x)
change_of (code_change.ToSize x) = meant.ToSize (text_size_of x)
change_of (code_change.Divides x) = meant.Divides (fraction_rule_of x)
change_of code_change.ToColor = meant.ToColor

abbrev pub box_of : OperandBox → meant.Box
box_of code_box.Phantom = meant.Phantom
box_of code_box.PhantomWidth = meant.PhantomWidth
box_of code_box.PhantomHeight = meant.PhantomHeight
box_of code_box.Smashed = meant.Smashed
box_of code_box.WithoutHeight = meant.WithoutHeight
box_of code_box.WithoutDepth = meant.WithoutDepth
box_of code_box.OverRight = meant.OverRight
box_of code_box.OverLeft = meant.OverLeft
box_of code_box.OverBoth = meant.OverBoth
box_of code_box.Frame = meant.Frame
box_of code_box.StrikeUp = meant.StrikeUp
box_of code_box.StrikeDown = meant.StrikeDown
box_of code_box.StrikeTwice = meant.StrikeTwice
box_of (code_box.Raised x) = meant.Raised x
box_of (code_box.Colored x) = meant.Colored (color_of x)
box_of (code_box.OnColor x) = meant.OnColor (color_of x)

abbrev pub meaning_of : Meaning → meant.Meaning
meaning_of (code_meaning.Shows x) = meant.Shows (symbol_of x)
meaning_of (code_meaning.FunctionName x y) = meant.FunctionName (limit_place_of x) y.now
meaning_of code_meaning.Dots = meant.Dots
meaning_of code_meaning.CenteredDots = meant.CenteredDots
meaning_of code_meaning.VerticalDots = meant.VerticalDots
meaning_of (code_meaning.Implication x) = meant.Implication x
meaning_of (code_meaning.Spacing x) = meant.Spacing x
meaning_of code_meaning.Skip = meant.Skip
meaning_of code_meaning.SkipInBraces = meant.SkipInBraces
meaning_of (code_meaning.Boxed x) = meant.Boxed (box_of x)
meaning_of code_meaning.Smash = meant.Smash
meaning_of code_meaning.ContinuedFraction = meant.ContinuedFraction
meaning_of code_meaning.GeneralFraction = meant.GeneralFraction
meaning_of code_meaning.Raise = meant.Raise
meaning_of code_meaning.InColor = meant.InColor
meaning_of code_meaning.Highlight = meant.Highlight
meaning_of code_meaning.Rectangle = meant.Rectangle
meaning_of (code_meaning.Arrow x) = meant.Arrow x
meaning_of (code_meaning.Styled x) = meant.Styled (alphabet_of x)
meaning_of (code_meaning.Words x) = meant.Words (option_map alphabet_of x)
meaning_of (code_meaning.Fraction x y) = meant.Fraction (fraction_rule_of x) (option_map style_of y)
meaning_of code_meaning.Root = meant.Root
meaning_of (code_meaning.Accent x y z) = meant.Accent (side_of x) y (stretch_of z)
meaning_of (code_meaning.Brace x y) = meant.Brace (side_of x) y
meaning_of code_meaning.Choice = meant.Choice
meaning_of (code_meaning.Stack x) = meant.Stack (side_of x)
meaning_of code_meaning.StackedRelation = meant.StackedRelation
meaning_of code_meaning.OperatorName = meant.OperatorName
meaning_of code_meaning.Negation = meant.Negation
meaning_of code_meaning.Slash = meant.Slash
meaning_of (code_meaning.Sized x y) = meant.Sized (size_of x) (class_of y)
meaning_of code_meaning.Left = meant.Left
meaning_of code_meaning.Middle = meant.Middle
meaning_of code_meaning.Right = meant.Right
meaning_of code_meaning.Limits = meant.Limits
meaning_of code_meaning.NoLimits = meant.NoLimits
meaning_of (code_meaning.Classed x) = meant.Classed (class_of x)
meaning_of (code_meaning.Changes x) = meant.Changes (change_of x)
meaning_of code_meaning.BeginTable = meant.BeginTable
meaning_of code_meaning.EndTable = meant.EndTable
meaning_of code_meaning.LineBreak = meant.LineBreak
meaning_of code_meaning.Substack = meant.Substack

abbrev pub entry_of : Entry → List ℕ × meant.Meaning
entry_of entry = (entry.name.now, meaning_of entry.meaning)
