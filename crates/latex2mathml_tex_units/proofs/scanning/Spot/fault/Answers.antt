use Rattle.std.proofs.Common.{ap, option_map, sym}
use Rattle.latex2mathml_tex_grammar.specs.Refusal.{refusal_at}
use Rattle.latex2mathml_tex_grammar.specs.Scanning.{found_at_end}
use Rattle.latex2mathml_tex_grammar.specs.Units.{Stop}
use Rattle.latex2mathml_tex_units.specs.Taking.{kind_of}
use Rattle.latex2mathml_tex_units.proofs.scanning.Spot.fault.Goals as goal

pub returns : goal.returns
returns c = λ place.
    let r = refusal_at (kind_of c.args.fault) c.args.at in
    (r, ap (option_map (λ k. refusal_at k c.args.at)) c.of_fault.ensures, ap (λ b. found_at_end b (Stop r) r) (sym c.if-may_end.ensures))
