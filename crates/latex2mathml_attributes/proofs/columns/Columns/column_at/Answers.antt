use Rattle.std.proofs.Common.{◌≡◌, ◌∙◌, ◌<◌, ap, arith, length, sym, take}
use Rattle.latex2mathml_elements.specs.Columns.{Centered, column_at, unlined}
use Rattle.latex2mathml_attributes.specs.{Columns.behind_line, Columns.columns_with, Columns.columns_in, Columns.line_before, Columns.listed_of, Lines.line_of}
use Rattle.latex2mathml_attributes.proofs.Halves.{length_in}
use Rattle.latex2mathml_attributes.proofs.ColumnPlaces.{listed_there, none_behind, none_beyond}
use Rattle.latex2mathml_attributes.proofs.columns.Columns.column_at.Goals.{then-place-lt-MOST_COLUMNS+else-place-self, else-place-lt-MOST_COLUMNS}
use Rattle.latex2mathml_attributes.proofs.columns.Columns.column_at.Goals as goal

pub returns-in-Listed : goal.returns-in-Listed
returns-in-Listed c =
    let self = c.args.self.now in
    let cs = columns_in self.listed in
    let room : c.args.place < length cs = omega (arith, c.if-place-lt-MOST_COLUMNS.true, length_in self.listed, c.well_formed) in
    c.listed.ensures
    ∙ ap (λ l. behind_line l (listed_of c.listed_at.result)) c.line_before.ensures
    ∙ ap (behind_line (line_before (line_of self.before) c.args.place)) c.listed_at.ensures
    ∙ listed_there (line_of self.before) cs self.len c.args.place (unlined Centered) c.if-place-self.true room
    ∙ ap (λ k. column_at (columns_with k (line_of self.before) (take self.len cs)) c.args.place) (sym c.in-Listed.is)

pub returns-in-Listed-2 : goal.returns-in-Listed-2
returns-in-Listed-2 c =
    let self = c.args.self.now in
    let cs = columns_in self.listed in
    let none : column_at (columns_with c.args.self.now.kind (line_of self.before) (take self.len cs)) c.args.place ≡ unlined Centered =
    ap (λ k. column_at (columns_with k (line_of self.before) (take self.len cs)) c.args.place) c.in-Listed-2.is
    ∙ elim c.if-place-lt-MOST_COLUMNS.branch [
      | then-place-lt-MOST_COLUMNS+else-place-self w ↦ none_behind (line_of self.before) cs self.len c.args.place (omega (arith, w.if-place-self.false))
      | else-place-lt-MOST_COLUMNS w ↦ none_beyond (line_of self.before) cs self.len c.args.place (omega (arith, w.if-place-lt-MOST_COLUMNS.false, length_in self.listed, c.well_formed))
    ] in
    c.listed-in-Listed-2.ensures ∙ sym none
