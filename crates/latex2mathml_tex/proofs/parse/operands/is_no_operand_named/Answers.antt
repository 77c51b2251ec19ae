use Rattle.std.proofs.Common.{sym}
use Rattle.latex2mathml_tex_units.proofs.{Listings.one_of_nine, Names.is_other}
use Rattle.latex2mathml_tex.proofs.parse.operands.is_no_operand_named.Goals as goal

pub returns-in_default : goal.returns-in_default
returns-in_default c =
    let o = c.in_default in
    sym (one_of_nine _ _ _ _ _ _ _ _ _ (is_other o.not-text) (is_other o.not-cr) (is_other o.not-newline) (is_other o.not-end) (is_other o.not-right) (is_other o.not-middle) (is_other o.not-limits) (is_other o.not-nolimits) (is_other o.not-displaylimits))
