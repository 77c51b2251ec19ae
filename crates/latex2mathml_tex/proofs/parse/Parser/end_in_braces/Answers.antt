use Rattle.std.proofs.Common.{◌≡◌, ◌∙◌, ap, refl, sym}
use Rattle.latex2mathml_tex_grammar.specs.{Next.past_space, Units.Next}
use Rattle.latex2mathml_tex_units.specs.{Left.units_at, Taking.unit_of}
use Rattle.latex2mathml_tex.specs.Steps.{left_of}
use Rattle.latex2mathml_tex.proofs.Finished.{braces_closed}
use Rattle.latex2mathml_tex.proofs.parse.Parser.end_in_braces.Goals as goal

pub returns-in-Some-clause-holds : goal.returns-in-Some-clause-holds
returns-in-Some-clause-holds c = λ s h.
    let p = c.args.self.now in
    let i = c.advance.new.self in
    let u = c.args.unit in
    let there : left_of p ≡ Next (unit_of u) (units_at i) = c.requires.next ∙ ap (Next (unit_of u)) (sym c.advance.ensures.left) in
    let past : past_space (left_of p) ≡ Next (unit_of u) (units_at i) = ap past_space there ∙ rw c.requires.is refl in
    c.close_braced.ensures.holds s _ (braces_closed p c.take_braced.new.self c.in-Some.row s h c.in-Some.braced c.in-Some.ensures i u past c.requires.is)
