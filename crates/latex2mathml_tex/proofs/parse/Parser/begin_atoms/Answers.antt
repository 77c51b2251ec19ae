use Rattle.std.proofs.Common.{◌≡◌, ◌∙◌, ◌∷◌, ◌++◌, [], ap, refl, subst, sym}
use Rattle.latex2mathml_tex.specs.Frames.{inside}
use Rattle.latex2mathml_tex.specs.Innermost.{begun_row, none_begun, on_top}
use Rattle.latex2mathml_tex.specs.Levels.{Leads}
use Rattle.latex2mathml_tex.specs.Steps.{elements_of, left_of}
use Rattle.latex2mathml_tex.proofs.Opening.{into_frame, out_of_frame}
use Rattle.latex2mathml_tex.proofs.parse.Parser.begin_atoms.Goals as goal

pub returns-clause-holds : goal.returns-clause-holds
returns-clause-holds c = λ s h.
    let p = c.args.self.now in
    let xs = elements_of p in
    let row = begun_row p.style in
    let items : c.begin.new.self.stack.items ≡ [] ++ row ∷ [] = c.in_ok-begin.ensures ∙ ap (λ fs. fs ++ row ∷ []) c.requires in
    let within = into_frame (λ l. Leads l (left_of p)) s p.style h.style [] [] row xs (none_begun refl refl refl) (rw c.requires at h.claims) in
    record {
      style = h.style;
      claims = subst (λ fs. Leads (inside s fs xs) (left_of p)) (sym items) (out_of_frame (λ l. Leads l (left_of p)) s p.style h.style (row ∷ []) [] row xs (on_top refl) within);
    }
