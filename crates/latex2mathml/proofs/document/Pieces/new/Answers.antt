use Rattle.std.proofs.Common.{[]}
use Rattle.latex2mathml.proofs.{Cuts.nothing_made, Given.up_to}
use Rattle.latex2mathml.proofs.document.Pieces.new.Goals as goal

pub returns-clause-so_far : goal.returns-clause-so_far
returns-clause-so_far c = λ given place y. up_to given c.args.document.now [] (record { rest = c.args.document }) place (nothing_made c.args.document.now) y
