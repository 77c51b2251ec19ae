-- The bodies of macros, and macros.
use Rattle.std.specs.Prelude.{ℕ, List, [], Option, Some, None, map, option_map, Vec}
use Rattle.std.specs.Global.{Global}
use Rattle.latex2mathml_tex_grammar.specs.Bars as grammar
use Rattle.latex2mathml_tex_grammar.specs.Macros as macros
use Rattle.latex2mathml_tex_grammar.specs.UsualMacros as usual
use Rattle.latex2mathml_tex_units.specs.{Taking.piece_of, declared.macros.part.Bars.Bars, declared.macros.part.Lead.Lead, declared.macros.part.Macro.Macro, declared.macros.part.Part.Part, declared.macros.part.Taken.Taken, declared.macros.part.Takes.Takes, declared.macros.usual.Other.Other, declared.macros.usual.Usual.Usual}
use Rattle.latex2mathml_tex_units.specs.declared.macros.part.Bars.TheVariants as bars
use Rattle.latex2mathml_tex_units.specs.declared.macros.part.Lead.TheVariants as lead
use Rattle.latex2mathml_tex_units.specs.declared.macros.part.Part.TheVariants as part
use Rattle.latex2mathml_tex_units.specs.declared.macros.part.Taken.TheVariants as taken
use Rattle.latex2mathml_tex_units.specs.declared.macros.part.Takes.TheVariants as takes
use Rattle.latex2mathml_tex_units.specs.declared.macros.usual.Other.TheVariants as other

abbrev pub bars_of : Bars → grammar.Bars
bars_of bars.FirstAsRelation = grammar.FirstAsRelation
bars_of bars.FirstStretched = grammar.FirstStretched
bars_of bars.EachStretched = grammar.EachStretched

abbrev pub part_of : Part → macros.Part
part_of (part.Fixed piece) = macros.Fixed (piece_of piece)
part_of (part.Argument k) = macros.Argument k
part_of (part.Split bars k) = macros.Split (bars_of bars) k

abbrev pub parts_in : Vec Part Global → List macros.Part
parts_in v = map part_of v.items

-- what replaces a macro with this lead if a star follows its name, if it takes a star
abbrev pub starred_of : Lead → Option (List macros.Part)
starred_of lead.Nothing = None
starred_of (lead.Default parts) = None
starred_of (lead.Star parts) = Some (parts_in parts)
starred_of (lead.StarOrDefault parts) = Some (parts_in parts)

-- the default of its first argument, if that one can be left out
abbrev pub default_of : Lead → Option (List macros.Part)
default_of lead.Nothing = None
default_of (lead.Default parts) = Some (parts_in parts)
default_of (lead.Star parts) = None
default_of (lead.StarOrDefault parts) = Some []

-- a part of what a macro takes
abbrev pub taken_of : Taken → macros.Taken
taken_of taken.Parameter = macros.Parameter
taken_of (taken.Sign sign) = macros.Sign (piece_of sign)

abbrev pub taken_in : Vec Taken Global → List macros.Taken
taken_in v = map taken_of v.items

-- all that a macro takes after its lead
abbrev pub takes_of : Takes → List macros.Taken
takes_of (takes.Arguments n) = macros.parameters n
takes_of (takes.Mixed v) = taken_in v

abbrev pub macro_of : Macro → macros.Macro
macro_of m = record { alias = option_map piece_of m.alias; starred = starred_of m.lead; default = default_of m.lead; takes = takes_of m.takes; body = parts_in m.body }

-- the macro that is used, where this body was found for a star
abbrev pub form_in : Macro → Option (List Part) → macros.Macro
form_in m (Some body) = macros.macro_taking (takes_of m.takes) (map part_of body)
form_in m None = macro_of m

-- a usual macro that takes more than arguments, or whose argument is divided by bars
abbrev pub other_of : Other → usual.Other
other_of (other.Divided command body) = usual.Divided command.now body.now
other_of (other.Starred starred body) = usual.Starred starred.now body.now
other_of (other.Optional arity body) = usual.Optional arity body.now
other_of (other.Enclosed bars left right) = usual.Enclosed (bars_of bars) left.now right.now

-- an entry of the table of usual macros
abbrev pub entry_of : Usual → List ℕ × ℕ × List ℕ
entry_of entry = (entry.name.now, entry.arity, entry.body.now)

-- the entry as a pair of its name and the rest
abbrev pub by_name : List ℕ × ℕ × List ℕ → List ℕ × (ℕ × List ℕ)
by_name entry = (entry.0, (entry.1, entry.2))

abbrev pub named_entry : Usual → List ℕ × (ℕ × List ℕ)
named_entry entry = by_name (entry_of entry)
