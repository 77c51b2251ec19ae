use Rattle.std.proofs.Common.{◌∙◌}
use Rattle.latex2mathml_tex_units.proofs.Scanned.{other_deed}
use Rattle.latex2mathml_tex_units.proofs.scanning.Spot.deed.Goals as goal

pub returns-in_default : goal.returns-in_default
returns-in_default c = c.deed_there.ensures ∙ other_deed c.args.self c.args.piece c.in_default.not-Space
