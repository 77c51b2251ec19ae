use Rattle.latex2mathml_uses.proofs.insert.blank.Goals as goal

pub returns-clause-balanced : goal.returns-clause-balanced
returns-clause-balanced c = rw c.new.ensures.bytes c.joined_markup.ensures.balanced.nothing
