-- The columns of the signs so far, of which there are no more than can be listed.
use Rattle.std.proofs.Common.{length}
use Rattle.latex2mathml_attributes.specs.Columns.{columns_of}
use Rattle.latex2mathml_tex_units.proofs.Listings.{AreListed}
use Rattle.latex2mathml_tex.proofs.parse.environments.listed.Given as goal

abbrev pub invariant-signs : goal.invariant-signs
invariant-signs l = AreListed (columns_of l.columns) l.rest l.signs

abbrev pub decreases-signs : goal.decreases-signs
decreases-signs l = length l.rest
