use Rattle.std.proofs.Common.{◌∙◌, ap, refl, sym}
use Rattle.latex2mathml_tex_grammar.specs.Starts.{change_by, start_of_mark}
use Rattle.latex2mathml_tex_units.specs.Taking.{piece_of}
use Rattle.latex2mathml_tex.proofs.Beginnings.{begins_scripts, divider_begun, rule_begun, scripts_begun, unmarked_begun}
use Rattle.latex2mathml_tex.proofs.RowAwaits.{row_awaits}
use Rattle.latex2mathml_tex.proofs.parse.Parser.begin_atom.Goals as goal

pub returns-then-is_divided_by-clause-holds : goal.returns-then-is_divided_by-clause-holds
returns-then-is_divided_by-clause-holds c = λ s t.
    c.divider.ensures.holds s (divider_begun s c.args.self.now c.args.unit c.args.ending c.requires.due c.requires.some t (λ place. c.if-is_divided_by.ensures place))

pub returns-in_default-clause-holds : goal.returns-in_default-clause-holds
returns-in_default-clause-holds c = λ s t.
    let change = change_by (piece_of c.args.unit.piece) in
    c.begin_unmarked.ensures.holds s (unmarked_begun s c.args.self.now c.args.unit c.args.ending c.requires.due c.requires.some t (λ place. c.if-is_divided_by.ensures place ∙ ap (start_of_mark change) (sym c.in_default.ensures)))

pub returns-in-Prime : goal.returns-in-Prime
returns-in-Prime c = record {
  holds = λ s t. c.begin_scripts.ensures.holds s (scripts_begun s c.args.self.now c.args.unit c.args.ending c.requires.due c.requires.some t c.in-Some.mark (λ place. c.if-is_divided_by.ensures place ∙ ap (start_of_mark (change_by (piece_of c.args.unit.piece))) (sym c.in-Some.ensures) ∙ begins_scripts (change_by (piece_of c.args.unit.piece)) c.in-Some.mark c.in-Prime.is) c.in-Some.ensures);
  step = c.begin_scripts.ensures.step;
}

pub returns-in-Limits-clause-holds : goal.returns-in-Limits-clause-holds
returns-in-Limits-clause-holds c = λ s t.
    c.begin.ensures.holds s (rule_begun s c.args.self.now c.args.unit c.args.ending c.requires.due c.requires.some t (λ place. c.if-is_divided_by.ensures place ∙ ap (start_of_mark (change_by (piece_of c.args.unit.piece))) (sym c.in-Some.ensures) ∙ rw c.in-Limits.is refl))

pub divider-requires-clause-row : goal.divider-requires-clause-row
divider-requires-clause-row c =
    let (place, (row, (k, (others, inner)))) = c.requires.due in
    row_awaits c.args.self.now c.args.ending place row k others inner c.requires.begin

pub begin_unmarked-requires-clause-row : goal.begin_unmarked-requires-clause-row
begin_unmarked-requires-clause-row c =
    let (place, (row, (k, (others, inner)))) = c.requires.due in
    row_awaits c.args.self.now c.args.ending place row k others inner c.requires.begin

pub begin_scripts-requires-clause-row : goal.begin_scripts-requires-clause-row
begin_scripts-requires-clause-row c =
    let (place, (row, (k, (others, inner)))) = c.requires.due in
    row_awaits c.args.self.now c.args.ending place row k others inner c.requires.begin
