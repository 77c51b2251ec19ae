use Rattle.latex2mathml_tex.proofs.Answering.{come}
use Rattle.latex2mathml_tex.proofs.convert.Converter.read_as.Goals as goal

pub returns : goal.returns
returns c =
    come c.args.form c.args.style _ c.restart.new.self c.finish.new.self c.finish.result c.in_ok-restart.ensures.units c.in_ok-restart.ensures.style
    c.finish.ensures.holds c.finish.ensures.ready
