-- What the parser takes by a part of a rule.
use Rattle.std.specs.Prelude.{◌≡◌, ◌≤◌, Option, Some, None}
use Rattle.latex2mathml_tex_grammar.specs.{Refusal.Refusal, Rules.Rule}
use Rattle.latex2mathml_tex_units.specs.{Errors.refusal_of, HandedOn.HandsOn, HandedOn.Stops, Left.unit_count}
use Rattle.latex2mathml_tex.specs.Steps.{left_of}
use Rattle.latex2mathml_tex.specs.declared.parse.Parser.{Parser}

-- The parser took a value by this part of a rule, or the formula is refused.
abbrev pub TookBy : {A : Type 0} → ((A → Rule) → Rule) → Parser → Parser → Option A → Type 0
TookBy part old new (Some x) =
    (new ≡ record old { input = new.input }) × ((unit_count (left_of new) ≤ unit_count (left_of old)) × HandsOn part (left_of old) x (left_of new))
TookBy part old new None =
    (r : Refusal)
    × ((new ≡ record old { input = new.input; refusal = new.refusal })
    × ((refusal_of new.refusal ≡ Some r) × ((unit_count (left_of new) ≤ unit_count (left_of old)) × Stops part (left_of old) r)))
