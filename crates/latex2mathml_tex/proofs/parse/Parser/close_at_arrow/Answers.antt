use Rattle.std.proofs.Common.{◌≡◌, ◌∙◌, ◌+◌, ◌≤◌, ◌∷◌, List, [], ap, arith, drop, false, length, refl, sym, take, true}
use Rattle.std.proofs.lemmas.List.{length-take-le}
use Rattle.latex2mathml_elements.specs.Element.{Element}
use Rattle.latex2mathml_tex_commands.specs.Diagrams.{arrow_sign, diagram_arrow}
use Rattle.latex2mathml_tex_grammar.specs.{Diagrams.fills_cell, Diagrams.sign_of_arrow, Refusal.IncompleteArrow, Refusal.refusal_at, Rows.lone}
use Rattle.latex2mathml_tex_units.specs.Left.{units_at}
use Rattle.latex2mathml_tex_units.proofs.Nexts.{no_more_taken}
use Rattle.latex2mathml_tex_atoms.specs.{Models.kind_of, declared.atoms.Row.Row}
use Rattle.latex2mathml_tex.specs.Steps.{elements_of, left_of}
use Rattle.latex2mathml_tex.specs.Tables.{cells_of, table_of}
use Rattle.latex2mathml_tex.specs.declared.parse.endings.Table.{Table}
use Rattle.latex2mathml_tex.proofs.{Diagrams.cell_before, Diagrams.cell_filled, Diagrams.none_follows, Rows.step_within, TableRules.refused_at, Tabled.count_below, Tabled.lone_length}
use Rattle.latex2mathml_tex.proofs.parse.Parser.close_at_arrow.Goals as goal

-- how many elements and cells there are
module _ (xs : List Element) (t : Table) (row : Row) (there : row.count + (t.cells + t.rows) ≤ length xs) where
  atoms_there : length (lone (kind_of row.last) (take row.count xs)) ≡ row.count
  atoms_there = lone_length (kind_of row.last) (take row.count xs) ∙ length-take-le row.count xs (omega (arith, there))

  cells_there : length (cells_of t (drop row.count xs)) ≡ t.cells
  cells_there = length-take-le t.cells (drop row.count xs) (count_below t.cells row.count xs (omega (arith, there)))

pub returns-in_default-clause-holds : goal.returns-in_default-clause-holds
returns-in_default-clause-holds c = λ s g.
    let p = c.args.self.now in
    let t = table_of c.args.diagram in
    let r = refusal_at IncompleteArrow c.args.unit.place in
    rw c.refuse.ensures.state
    (refused_at s p c.refuse.new.self (c.args.row.count + (t.cells + t.rows)) r (rw c.refuse.ensures.parser refl) (rw c.refuse.ensures.parser refl) g.style (none_follows s p t c.args.place c.args.row c.args.unit c.requires.begins g c.in_default.ensures.0))

pub returns-then-fills_cell-clause-holds : goal.returns-then-fills_cell-clause-holds
returns-then-fills_cell-clause-holds c = λ s g.
    let p = c.args.self.now in
    let t = table_of c.args.diagram in
    let row = c.args.row in
    let xs = elements_of p in
    let a = c.in-Some.arrow in
    let there : row.count + (t.cells + t.rows) ≤ length xs = omega (arith, c.requires.can.elements) in
    let atoms = lone (kind_of row.last) (take row.count xs) in
    let fills : fills_cell (diagram_arrow a) t.cells atoms ≡ true = sym (c.fills_cell.ensures.fills atoms (atoms_there xs t row there)) ∙ c.if-fills_cell.true in
    let filled = ap (λ n. fills_cell (diagram_arrow a) n atoms) (cells_there xs t row there) ∙ fills in
    c.begin_arrow.ensures.holds s (cell_filled s p t c.args.place row c.args.unit c.requires.begins g c.take_arrow.new.self a c.in-Some.ensures (c.fills_cell.ensures.empty c.if-fills_cell.true) filled)

pub returns-then-fills_cell-clause-step : goal.returns-then-fills_cell-clause-step
returns-then-fills_cell-clause-step c =
    let p = c.args.self.now in
    let i = c.take_arrow.new.self in
    let less = no_more_taken (sign_of_arrow ∷ []) (left_of p) (units_at i) (arrow_sign c.in-Some.arrow) c.in-Some.ensures in
    step_within p (record p { input = i }) c.begin_arrow.new.self c.begin_arrow.new.next c.begin_arrow.result 6 13 (omega (arith, less)) c.begin_arrow.ensures.step

pub returns-clause-holds : goal.returns-clause-holds
returns-clause-holds c = λ s g.
    let p = c.args.self.now in
    let t = table_of c.args.diagram in
    let row = c.args.row in
    let xs = elements_of p in
    let a = c.in-Some.arrow in
    let there : row.count + (t.cells + t.rows) ≤ length xs = omega (arith, c.requires.can.elements) in
    let atoms = lone (kind_of row.last) (take row.count xs) in
    let fills : fills_cell (diagram_arrow a) t.cells atoms ≡ false = sym (c.fills_cell.ensures.fills atoms (atoms_there xs t row there)) ∙ c.if-fills_cell.false in
    let filled = ap (λ n. fills_cell (diagram_arrow a) n atoms) (cells_there xs t row there) ∙ fills in
    c.begin_arrow-2.ensures.holds s (cell_before s p t c.args.place row c.args.unit c.requires.begins g c.take_arrow.new.self a c.in-Some.ensures c.put_braced.new.builder _ refl c.in_ok-put_braced.ensures filled)

pub returns-clause-step : goal.returns-clause-step
returns-clause-step c =
    let p = c.args.self.now in
    let i = c.take_arrow.new.self in
    let less = no_more_taken (sign_of_arrow ∷ []) (left_of p) (units_at i) (arrow_sign c.in-Some.arrow) c.in-Some.ensures in
    step_within p (record p { input = i; builder = c.put_braced.new.builder }) c.begin_arrow-2.new.self c.begin_arrow-2.new.next c.begin_arrow-2.result 6 13 (omega (arith, less)) c.begin_arrow-2.ensures.step
