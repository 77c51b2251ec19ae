use Rattle.latex2mathml_tex_units.proofs.BeforeText.{put_before-last}
use Rattle.latex2mathml_tex_units.proofs.macros.pending.Pending.take.Goals as goal

pub returns-in-Some : goal.returns-in-Some
returns-in-Some c = put_before-last _ _ _ _ c.in-Some.ensures.items
