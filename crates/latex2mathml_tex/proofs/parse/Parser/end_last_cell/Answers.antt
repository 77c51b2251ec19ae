use Rattle.latex2mathml_tex.specs.declared.parse.endings.Ending.TheVariants as ending
use Rattle.latex2mathml_tex.proofs.Resting.{finished_can, made_finished}
use Rattle.latex2mathml_tex.proofs.Tabled.{text_ends_cell}
use Rattle.latex2mathml_tex.proofs.parse.Parser.end_last_cell.Goals as goal
use Rattle.std.proofs.Common.{refl}
use Rattle.latex2mathml_tex_grammar.specs.Units.{End}
use Rattle.latex2mathml_tex_atoms.specs.Models.{row_with}
use Rattle.latex2mathml_builder.specs.Built.{elements_in}

pub end_cells-requires : goal.end_cells-requires
end_cells-requires c =
    let whole = c.in_ok-row.ensures in
    record { can = finished_can c.args.self.now c.finish.new.builder c.args.row c.in_ok-row.row whole.below whole.count (ending.Cell c.args.table) c.requires.can }

pub returns-clause-holds : goal.returns-clause-holds
returns-clause-holds c = λ s g.
    let p = c.args.self.now in
    let b = c.finish.new.builder in
    let row = c.in_ok-row.row in
    let whole = c.in_ok-row.ensures in
    let made = made_finished s p b c.args.style c.args.row row whole.row whole.below (ending.Cell c.args.table) c.args.place (End c.args.at) g.leads in
    c.end_cells.ensures.holds s (text_ends_cell s (record p { builder = b }) c.args.table c.args.place c.args.at row.count row.last (row_with row (elements_in b)) g.same_style g.left refl made)
