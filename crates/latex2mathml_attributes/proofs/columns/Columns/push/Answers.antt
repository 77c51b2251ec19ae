use Rattle.std.proofs.Common.{◌≡◌, ◌+◌, ◌-◌, ◌*◌, ◌%◌, ◌∷◌, ◌++◌, ◌∙◌, [], ap, arith, length, sym, take}
use Rattle.std.proofs.Math.ListN.{get_or, set}
use Rattle.latex2mathml_attributes.specs.{Columns.columns_in, Columns.numbered, Lines.line_of}
use Rattle.latex2mathml_attributes.proofs.Halves.{lower_put, one_more, upper_put}
use Rattle.latex2mathml_attributes.proofs.columns.Columns.push.Goals.{else-place-lt16, in-Listed, in_default, then-place-lt16}
use Rattle.latex2mathml_attributes.proofs.columns.Columns.push.Goals as goal

pub returns-clause-columns : goal.returns-clause-columns
returns-clause-columns c =
    let old = c.args.self.now in
    let n = old.len in
    let number = c.number-number.result in
    let sixteen : length old.listed ≡ 16 = omega arith in
    let is = ap (λ k. take n (columns_in old.listed) ++ k ∷ []) c.number-number.ensures.column in
    elim c.match-matches.branch [
      | in_default w ↦ grind (arith, w.matches-is, c.if-not-matches.false)
      | in-Listed w ↦ elim c.if-place-lt16.branch [
        | then-place-lt16 v ↦ (
            let put = lower_put old.listed n number (omega (arith, v.if-place-lt16.true, sixteen)) c.number-number.ensures.half ∙ is in
            rw v.self-is (one_more old.kind (line_of old.before) old.listed (set old.listed n number) n _ w.in-Listed.is c.if-self-ge-MOST_COLUMNS.false sixteen put))
        | else-place-lt16 v ↦ (
            let place = n - 16 in
            let byte = get_or old.listed place 0 % 16 + 16 * number in
            let first : length old.listed + place ≡ n = omega (arith, v.if-place-lt16.false, sixteen) in
            let next : length old.listed + (place + 1) ≡ n + 1 = omega (arith, first) in
            let put =
            ap (λ k. take k (columns_in (set old.listed place byte))) (sym next)
            ∙ upper_put old.listed place number 0 (omega (arith, v.if-place-lt16.false, c.if-self-ge-MOST_COLUMNS.false, sixteen)) c.number-number.ensures.half
            ∙ ap (λ k. take k (columns_in old.listed) ++ numbered number ∷ []) first
            ∙ is in
            rw v.self-is (one_more old.kind (line_of old.before) old.listed (set old.listed place byte) n _ w.in-Listed.is c.if-self-ge-MOST_COLUMNS.false sixteen put))
      ]
    ]
