use Rattle.latex2mathml_parser.proofs.parse.Parser.begin_special.Goals as goal

pub returns-in-BigOp : goal.returns-in-BigOp
returns-in-BigOp c = rw c.in-BigOp.is c.limits.ensures

pub returns-in-Integral : goal.returns-in-Integral
returns-in-Integral c = rw c.in-Integral.is c.limits-in-Integral.ensures
