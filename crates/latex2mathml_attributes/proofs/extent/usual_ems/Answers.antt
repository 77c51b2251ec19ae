use Rattle.std.proofs.Common.{◌≡◌, ap, arith, pos, sym}
use Rattle.std.proofs.lemmas.Int.{ints}
use Rattle.std.specs.Fmt.{digits}
use Rattle.latex2mathml_elements.specs.Extents.{ems}
use Rattle.latex2mathml_attributes.proofs.extent.usual_ems.Goals as goal

pub returns-in-0 : goal.returns-in-0
unfolding digits
returns-in-0 c = (let is : c.args.length ≡ pos 0 = omega (arith, ints, c.in-0, c.ranges.length.sfits) in ap ems (sym is))

pub returns-in-257 : goal.returns-in-257
unfolding digits
returns-in-257 c = (let is : c.args.length ≡ pos 257 = omega (arith, ints, c.in-257, c.ranges.length.sfits) in ap ems (sym is))

pub returns-in-360 : goal.returns-in-360
unfolding digits
returns-in-360 c = (let is : c.args.length ≡ pos 360 = omega (arith, ints, c.in-360, c.ranges.length.sfits) in ap ems (sym is))

pub returns-in-432 : goal.returns-in-432
unfolding digits
returns-in-432 c = (let is : c.args.length ≡ pos 432 = omega (arith, ints, c.in-432, c.ranges.length.sfits) in ap ems (sym is))

pub returns-in-472 : goal.returns-in-472
unfolding digits
returns-in-472 c = (let is : c.args.length ≡ pos 472 = omega (arith, ints, c.in-472, c.ranges.length.sfits) in ap ems (sym is))

pub returns-in-528 : goal.returns-in-528
unfolding digits
returns-in-528 c = (let is : c.args.length ≡ pos 528 = omega (arith, ints, c.in-528, c.ranges.length.sfits) in ap ems (sym is))

pub returns-in-597 : goal.returns-in-597
unfolding digits
returns-in-597 c = (let is : c.args.length ≡ pos 597 = omega (arith, ints, c.in-597, c.ranges.length.sfits) in ap ems (sym is))

pub returns-in-600 : goal.returns-in-600
unfolding digits
returns-in-600 c = (let is : c.args.length ≡ pos 600 = omega (arith, ints, c.in-600, c.ranges.length.sfits) in ap ems (sym is))

pub returns-in-611 : goal.returns-in-611
unfolding digits
returns-in-611 c = (let is : c.args.length ≡ pos 611 = omega (arith, ints, c.in-611, c.ranges.length.sfits) in ap ems (sym is))

pub returns-in-667 : goal.returns-in-667
unfolding digits
returns-in-667 c = (let is : c.args.length ≡ pos 667 = omega (arith, ints, c.in-667, c.ranges.length.sfits) in ap ems (sym is))

pub returns-in-736 : goal.returns-in-736
unfolding digits
returns-in-736 c = (let is : c.args.length ≡ pos 736 = omega (arith, ints, c.in-736, c.ranges.length.sfits) in ap ems (sym is))

pub returns-in-750 : goal.returns-in-750
unfolding digits
returns-in-750 c = (let is : c.args.length ≡ pos 750 = omega (arith, ints, c.in-750, c.ranges.length.sfits) in ap ems (sym is))

pub returns-in-840 : goal.returns-in-840
unfolding digits
returns-in-840 c = (let is : c.args.length ≡ pos 840 = omega (arith, ints, c.in-840, c.ranges.length.sfits) in ap ems (sym is))

pub returns-in-1008 : goal.returns-in-1008
unfolding digits
returns-in-1008 c = (let is : c.args.length ≡ pos 1008 = omega (arith, ints, c.in-1008, c.ranges.length.sfits) in ap ems (sym is))
