use Rattle.std.proofs.Common.{refl}
use Rattle.latex2mathml_tex.specs.Steps.{EndsText}
use Rattle.latex2mathml_tex.specs.declared.parse.endings.Ending.TheVariants as ending
use Rattle.latex2mathml_tex.proofs.parse.Parser.end_of_text.Goals as goal

pub returns-in-Text-clause-holds : goal.returns-in-Text-clause-holds
returns-in-Text-clause-holds c = λ s g.
    let h : EndsText ending.Text c.args.place c.args.style c.args.row c.args.at s c.args.self.now = rw c.in-Text.is at g in
    c.end_formula.ensures.holds s (record { same_style = h.same_style; at = c.args.at; leads = (h.ends refl).leads })
