use Rattle.std.proofs.Common.{◌≡◌, ◌<◌, ◌+◌, ◌∷◌, drop, length, subst, sym}
use Rattle.latex2mathml_builder.specs.Built.{Fits, element_of, settled_in}
use Rattle.latex2mathml_builder.proofs.Places.{settled_fits, settled_there}
use Rattle.latex2mathml_builder.proofs.builder.Builder.settled_at.Goals as goal

pub returns-clause-fits : goal.returns-clause-fits
returns-clause-fits c =
    let within = subst (λ b. c.args.place < length b.settled) (sym c.self.view_is) c.requires in
    subst (λ b. Fits b.texts (length b.settled) c.index.result.now) c.self.view_is (settled_fits _ _ _ c.args.place _ c.self.invariant within c.index.ensures)

pub returns-clause-element : goal.returns-clause-element
returns-clause-element c =
    let within = subst (λ b. c.args.place < length b.settled) (sym c.self.view_is) c.requires in
    subst (λ b. drop c.args.place (settled_in b) ≡ element_of b.texts (settled_in b) c.index.result.now ∷ drop (c.args.place + 1) (settled_in b)) c.self.view_is
    (settled_there _ _ _ c.args.place _ c.self.invariant within c.index.ensures)
