use Rattle.std.proofs.Common.{◌≡◌, ◌<◌, ◌+◌, ◌-◌, ◌∷◌, drop, length, subst, sym}
use Rattle.latex2mathml_builder.specs.Built.{Fits, element_of, elements_in, settled_in}
use Rattle.latex2mathml_builder.proofs.Places.{open_fits, open_there}
use Rattle.latex2mathml_builder.proofs.builder.Builder.open_at.Goals as goal

pub returns-clause-fits : goal.returns-clause-fits
returns-clause-fits c =
    let within = subst (λ b. c.args.place < length b.stack) (sym c.self.view_is) c.requires in
    subst (λ b. Fits b.texts (length b.settled) c.index.result.now) c.self.view_is (open_fits _ _ _ c.args.place _ within c.index.ensures c.self.invariant)

pub returns-clause-element : goal.returns-clause-element
returns-clause-element c =
    let within = subst (λ b. c.args.place < length b.stack) (sym c.self.view_is) c.requires in
    subst (λ b. drop (length b.stack - (c.args.place + 1)) (elements_in b) ≡ element_of b.texts (settled_in b) c.index.result.now ∷ drop (length b.stack - c.args.place) (elements_in b)) c.self.view_is
    (open_there _ c.self.inside.settled.items _ c.args.place _ within c.index.ensures)
