use Rattle.std.proofs.Common.{◌≡◌, ◌≤◌, [], ◌∷◌, List, ap, arith, length, refl, subst}
use Rattle.latex2mathml_tex_atoms.specs.Models.{begun}
use Rattle.latex2mathml_tex.specs.Innermost.{none_begun}
use Rattle.latex2mathml_tex.specs.declared.parse.frames.Frame.{Frame}
use Rattle.latex2mathml_tex.specs.declared.parse.endings.Ending.TheVariants as ending
use Rattle.latex2mathml_tex.specs.declared.parse.frames.Frame.TheVariants as frame
use Rattle.latex2mathml_tex.proofs.parse.frames.Frames.row_context.Goals as goal

none_there : (fs : List Frame) → length fs ≤ 0 → fs ≡ []
none_there [] h = refl
none_there (f ∷ fs) h = absurd (omega (arith, h))

pub returns-in-None : goal.returns-in-None
returns-in-None c =
    let facts = c.in-None.ensures.item in
    let few : length c.as_slice.result.now ≤ 0 = omega (arith, facts) in
    let empty : length c.args.self.now.stack.items ≤ 0 = subst (λ fs. length fs ≤ 0) c.as_slice.ensures.value few in
    let none = none_there c.args.self.now.stack.items empty in
    (ending.Text, (0, (begun, ([], (none_begun none refl (ap (λ k. frame.Row ending.Text 0 k begun) c.text_context.ensures), λ at. refl)))))
