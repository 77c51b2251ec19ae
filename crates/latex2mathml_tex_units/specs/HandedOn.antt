-- What a part of a rule hands on to what follows it.
use Rattle.latex2mathml_tex_grammar.specs.Makes.{Core}
use Rattle.latex2mathml_tex_grammar.specs.Reading.{Outcome, Refused, ReadsRule}
use Rattle.latex2mathml_tex_grammar.specs.{Refusal.Refusal, Rules.Rule, Units.Units}

-- The part takes a value from the units l and leaves the units m: what the value's rule gives on m, the whole gives on l.
abbrev pub HandsOn : {A : Type 0} → ((A → Rule) → Rule) → Units → A → Units → Type 0
HandsOn {A} part l x m = (more : A → Rule) (o : Outcome Core) → ReadsRule (more x) m o → ReadsRule (part more) l o

-- the formula is refused, whatever follows the part
abbrev pub Stops : {A : Type 0} → ((A → Rule) → Rule) → Units → Refusal → Type 0
Stops {A} part l r = (more : A → Rule) → ReadsRule (part more) l (Refused r)
