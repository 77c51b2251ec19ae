use Rattle.std.proofs.Common.{◌≡◌, ◌∙◌, ap, arith, drop, sym, None}
use Rattle.latex2mathml_builder.specs.Built.{elements_in}
use Rattle.latex2mathml_tex_grammar.specs.Rests
use Rattle.latex2mathml_tex_grammar.specs.Rests.{begun_below}
use Rattle.latex2mathml_tex_commands.specs.Meanings.{fraction_rule_of, style_of}
use Rattle.latex2mathml_tex_atoms.specs.Models.{row_count}
use Rattle.latex2mathml_tex_atoms.proofs.rests.divide.Goals as goal

pub returns-clause-row : goal.returns-clause-row
returns-clause-row c =
    let style = style_of c.args.style in
    rw (c.empty.ensures, c.in_ok-put_row.ensures)
    (ap (begun_below (fraction_rule_of c.args.fraction.rule) (style_of c.args.fraction.style)) (c.in_ok-whole.ensures.row ∙ ap (Rests.settled style) c.end_operand-row.ensures.row))

pub returns-clause-below : goal.returns-clause-below
returns-clause-below c =
    let row = c.in_ok-whole.whole in
    let ended = c.end_operand-row.result in
    let ys = elements_in c.settle.new.builder in
    let none : ended.under ≡ None = ap (λ r. r.under) c.end_operand-row.ensures.same ∙ c.requires.none in
    let same : row_count ended ≡ row_count c.args.row = ap row_count c.end_operand-row.ensures.same in
    let count : row_count row ≡ row.count = rw (c.in_ok-whole.ensures.restyled, c.in_ok-whole.ensures.under, none) (omega arith) in
    rw (c.empty.ensures, c.in_ok-put_row.ensures)
    (ap (λ n. drop n ys) (sym count)
    ∙ c.in_ok-whole.ensures.below
    ∙ ap (λ n. drop n (elements_in c.end_operand-row.new.builder)) same
    ∙ c.end_operand-row.ensures.below)
