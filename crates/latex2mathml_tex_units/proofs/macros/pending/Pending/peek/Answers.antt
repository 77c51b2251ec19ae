use Rattle.std.proofs.Common.{◌∙◌, ap, sym, length, ◌-◌}
use Rattle.std.specs.{List.slice_get, Option.option_copied}
use Rattle.latex2mathml_tex_units.proofs.BeforeText.{last_next}
use Rattle.latex2mathml_tex_units.proofs.macros.pending.Pending.peek.Goals as goal

pub returns-in-Some : goal.returns-in-Some
returns-in-Some c = last_next c.args.self.now.put.items _ c.in-Some.unit.now
    (ap (λ us. slice_get us (length us - 1)) (sym c.deref.ensures.value) ∙ sym c.last.ensures.value ∙ ap option_copied c.in-Some.is)
