use Rattle.std.proofs.Common.{refl, ◌∙◌, sym}
use Rattle.latex2mathml_tex.proofs.Making.{nothing_struck, struck_put}
use Rattle.latex2mathml_tex.proofs.parse.Parser.negate.Goals as goal

pub returns-then-branch-clause-holds : goal.returns-then-branch-clause-holds
returns-then-branch-clause-holds c = λ s g.
    struck_put s c.args.self.now c.args.place c.args.core c.push.new.self c.new.result c.without_letters.result c.new.ensures c.without_letters.ensures (sym c.in_ok-push.ensures.is_token ∙ c.if-branch.true) c.in_ok-push.ensures.elements g

pub returns-clause-holds : goal.returns-clause-holds
returns-clause-holds c = λ s g.
    rw c.refuse.ensures.state (nothing_struck s c.args.self.now c.args.place c.args.core c.refuse.new.self (rw c.refuse.ensures.parser refl) (rw c.refuse.ensures.parser refl) (sym c.in_ok-push.ensures.is_token ∙ c.if-branch.false) g)
