use Rattle.std.proofs.Common.{[], ◌≡◌, arith, codes, pos}
use Rattle.std.proofs.lemmas.Int.{ints}
use Rattle.latex2mathml_builder.proofs.Spaces.{pushed, shown}
use Rattle.latex2mathml_builder.proofs.write.write_space.Goals as goal

pub returns-in-3 : goal.returns-in-3
returns-in-3 c =
    let same : c.args.width ≡ pos 3 = omega (arith, ints) in
    pushed c.push_str.result c.args.width (pos 3) _ _ _ same (shown 0 (codes ".167") (omega arith)) c.push_str.ensures.bytes

pub returns-in-4 : goal.returns-in-4
returns-in-4 c =
    let same : c.args.width ≡ pos 4 = omega (arith, ints) in
    pushed c.push_str-in-4.result c.args.width (pos 4) _ _ _ same (shown 0 (codes ".222") (omega arith)) c.push_str-in-4.ensures.bytes

pub returns-in-5 : goal.returns-in-5
returns-in-5 c =
    let same : c.args.width ≡ pos 5 = omega (arith, ints) in
    pushed c.push_str-in-5.result c.args.width (pos 5) _ _ _ same (shown 0 (codes ".278") (omega arith)) c.push_str-in-5.ensures.bytes

pub returns-in-18 : goal.returns-in-18
returns-in-18 c =
    let same : c.args.width ≡ pos 18 = omega (arith, ints) in
    pushed c.push_str-in-18.result c.args.width (pos 18) _ _ _ same (shown 1 [] (omega arith)) c.push_str-in-18.ensures.bytes

pub returns-in-36 : goal.returns-in-36
returns-in-36 c =
    let same : c.args.width ≡ pos 36 = omega (arith, ints) in
    pushed c.push_str-in-36.result c.args.width (pos 36) _ _ _ same (shown 2 [] (omega arith)) c.push_str-in-36.ensures.bytes
