use Rattle.latex2mathml_program.proofs.Lines.{can_go_on, put}
use Rattle.latex2mathml_program.proofs.serving.put_line.Goals as goal

pub returns : goal.returns
returns g c = record {
  put = put _ _ _ c.write_text.result c.write_text.ensures.taken c.write_text.ensures.ready c.write_text.ensures.stopped;
  ready = can_go_on c.args.line.now _ _ c.write_text.result c.is_ok.result c.is_ok.ensures.value c.write_text.ensures.ready c.write_text.ensures.stopped;
}
