use Rattle.std.proofs.Common.{ap, option_map, sym}
use Rattle.latex2mathml_tex_grammar.specs.Refusal.{refusal_at}
use Rattle.latex2mathml_tex_grammar.specs.Scanning.{found_at_end, missing}
use Rattle.latex2mathml_tex_grammar.specs.Units.{End}
use Rattle.latex2mathml_tex_units.specs.Scans.{spot_of}
use Rattle.latex2mathml_tex_units.proofs.scanning.Spot.end.Goals as goal

pub returns : goal.returns
returns c = λ at.
    let r = refusal_at (missing (spot_of c.args.self)) c.args.place in
    (r, ap (option_map (λ k. refusal_at k c.args.place)) c.missing.ensures, ap (λ b. found_at_end b (End at) r) (sym c.if-may_end.ensures))
