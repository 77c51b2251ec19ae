-- Bars that divide an argument, in the code and in the grammar.
use Rattle.std.specs.Prelude.{◌≡◌, List, ◌++◌, IfOk, Result, Vec}
use Rattle.std.specs.Global.{Global}
use Rattle.latex2mathml_tex_grammar.specs.Bars as bars
use Rattle.latex2mathml_tex_grammar.specs.Pieces as pieces
use Rattle.latex2mathml_tex_grammar.specs.Units as units
use Rattle.latex2mathml_tex_units.specs.{Pending.units_in, declared.macros.bars.Bar.Bar, declared.macros.bars.Brace.Brace, declared.macros.bars.Spot.Spot, declared.unit.Unit.Unit}
use Rattle.latex2mathml_tex_units.specs.declared.macros.bars.Bar.TheVariants as bar
use Rattle.latex2mathml_tex_units.specs.declared.macros.bars.Brace.TheVariants as brace
use Rattle.latex2mathml_tex_units.specs.declared.macros.bars.Spot.TheVariants as spot

abbrev pub bar_in : Bar → bars.Bar
bar_in bar.NoBar = bars.NoBar
bar_in bar.Whole = bars.Whole
bar_in bar.Half = bars.Half

abbrev pub brace_in : Brace → pieces.Brace
brace_in brace.Opening = pieces.Opening
brace_in brace.Closing = pieces.Closing
brace_in brace.NoBrace = pieces.NoBrace

abbrev pub spot_of : Spot → bars.Spot
spot_of spot.AtAny = bars.AtAny
spot_of spot.AtDelimiter = bars.AtDelimiter
spot_of spot.AtHalf = bars.AtHalf
spot_of spot.AtRest = bars.AtRest

-- these units were appended
abbrev pub Extends : Vec Unit Global → Vec Unit Global → List units.Unit → Type 0
Extends old new us = units_in new ≡ units_in old ++ us

-- the units of this step were appended, and the result is what comes behind them
abbrev pub Divides : {E : Type 0} → Result Spot E → List units.Unit × bars.Spot → Vec Unit Global → Vec Unit Global → Type 0
Divides result step old new = IfOk result (λ behind. Extends old new step.0 × (spot_of behind ≡ step.1))
