use Rattle.latex2mathml.proofs.Cuts.{one_cut_lem}
use Rattle.latex2mathml.proofs.laws.one_cut.Goals as goal

pub returns : goal.returns
returns c = λ pieces others. one_cut_lem pieces others c.args.document.now
