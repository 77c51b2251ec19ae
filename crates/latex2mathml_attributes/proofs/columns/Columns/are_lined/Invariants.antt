-- No column before this place has a line after it.
use Rattle.std.proofs.Common.{◌≡◌, ◌-◌, drop, take}
use Rattle.latex2mathml_elements.specs.Columns.{any_lined}
use Rattle.latex2mathml_attributes.specs.{Columns.columns_in, declared.columns.TheConstants.MOST_COLUMNS}
use Rattle.latex2mathml_attributes.proofs.columns.Columns.are_lined.Given as goal

abbrev pub invariant-columns : goal.invariant-columns
invariant-columns l = any_lined (drop l.place (take l.fn.self.len (columns_in l.fn.self.listed))) ≡ any_lined (take l.fn.self.len (columns_in l.fn.self.listed))

abbrev pub decreases-columns : goal.decreases-columns
decreases-columns l = MOST_COLUMNS - l.place
