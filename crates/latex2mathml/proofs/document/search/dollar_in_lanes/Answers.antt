use Rattle.std.proofs.Common.{arith, eqb, drop, sym, take, w8, ◌∙◌}
use Rattle.std.proofs.lemmas.Simd.{bitmask_splat, length-chunk}
use Rattle.latex2mathml.proofs.Searches.{first_marked, none_marked}
use Rattle.latex2mathml.proofs.document.search.dollar_in_lanes.Goals as goal

pub returns-then-marks-eq0 : goal.returns-then-marks-eq0
returns-then-marks-eq0 c =
    let is = bitmask_splat w8 eqb (take 16 (drop c.args.place c.args.bytes.now)) 16 36 (length-chunk c.args.place 16 c.args.bytes.now c.requires) (omega arith) in
    none_marked c.args.bytes.now c.args.place c.requires (sym is ∙ c.if-marks-eq0.true)

pub returns : goal.returns
returns c =
    let is = bitmask_splat w8 eqb (take 16 (drop c.args.place c.args.bytes.now)) 16 36 (length-chunk c.args.place 16 c.args.bytes.now c.requires) (omega arith) in
    rw is (first_marked c.args.bytes.now c.args.place c.requires (λ none. c.if-marks-eq0.false (is ∙ none)))
