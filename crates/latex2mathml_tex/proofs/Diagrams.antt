-- What holds of the parser in diagrams.
use Rattle.std.proofs.Common.{◌≡◌, ◌∙◌, ◌+◌, ◌∷◌, ℕ, Bool, if◌then◌else◌, true, false, List, [], None, Some, ap, arith, drop, length, refl, subst, sym, take}
use Rattle.std.proofs.lemmas.List.{drop-drop}
use Rattle.std.specs.{Borrow.Bor, Str.byte}
use Rattle.latex2mathml_elements.specs.Element.{Element}
use Rattle.latex2mathml_builder.specs.Built.{Built, elements_in}
use Rattle.latex2mathml_tex_commands.specs.{Diagrams.arrow_sign, Diagrams.diagram_arrow, Diagrams.direction_of, Meanings.style_of}
use Rattle.latex2mathml_tex_commands.specs.declared.diagrams.{DiagramArrow.DiagramArrow}
use Rattle.latex2mathml_tex_commands.specs.declared.diagrams.DiagramArrow.TheVariants as arrow
use Rattle.latex2mathml_tex_commands.specs.declared.diagrams.Direction.TheVariants as direction
use Rattle.latex2mathml_tex_commands.specs.declared.meaning.Style.TheVariants as style
use Rattle.latex2mathml_tex_grammar.specs.Diagrams.{arrow_of, bare_arrow, before_arrow, direction_sign, fills_cell, first_label, joined_arrow, sign_of_arrow}
use Rattle.latex2mathml_tex_grammar.specs.{Makes.Core, Next.next_are, Refusal.IncompleteArrow, Refusal.refusal_at, Rows.lone, Rows.row_element, Symbols.InScript}
use Rattle.latex2mathml_tex_grammar.specs.Reading.{Outcome, Read, Refused, ReadsRule, arrow_read, arrow_refused, no_arrow}
use Rattle.latex2mathml_tex_grammar.specs.Rules as rules
use Rattle.latex2mathml_tex_grammar.specs.Rules.{Rule, InCell, ByName, ByBrace, ByText, a_character, after_label, arrow_rule, gives, takes_if}
use Rattle.latex2mathml_tex_grammar.specs.Starts as starts
use Rattle.latex2mathml_tex_grammar.specs.Starts.{BeginsArrow, PartsCells, EndsRow, EndsTable, cell_end, is_character}
use Rattle.latex2mathml_tex_grammar.specs.Units.{Piece, Space, Open, Close, Command, Character, Units}
use Rattle.latex2mathml_tex_units.specs.{Left.units_at, Taking.piece_of}
use Rattle.latex2mathml_tex_units.specs.declared.{input.Input.Input, unit.Unit.Unit}
use Rattle.latex2mathml_tex_atoms.specs.Models.{context_of, empty_row, kind_of, top}
use Rattle.latex2mathml_tex_atoms.specs.declared.{atoms.Context.Context, atoms.Row.Row}
use Rattle.latex2mathml_tex.specs.Diagrams.{MakesArrow}
use Rattle.latex2mathml_tex.specs.Frames.{Start, behind_first_label, ending_count, context_at, inside}
use Rattle.latex2mathml_tex.specs.Innermost.{frame_context}
use Rattle.latex2mathml_tex.specs.Levels.{CoreMade, Leads, Level, Refuses, RuleLeads}
use Rattle.latex2mathml_tex.specs.Steps.{ClosesBefore, ClosesCell, GoesOnTable, InnermostIs, elements_of, left_of, level, level_within}
use Rattle.latex2mathml_tex.specs.Tables.{ArrowMade, cell_context, cells_of, ended_by, rows_of, table_of}
use Rattle.latex2mathml_tex.specs.declared.parse.Parser.{Parser}
use Rattle.latex2mathml_tex.specs.declared.parse.endings.{Ending.Ending, Labeled.Labeled, Table.Table, TableKind.TableKind}
use Rattle.latex2mathml_tex.specs.declared.parse.endings.TableKind.TheVariants as kind
use Rattle.latex2mathml_tex_units.specs.declared.environments.Environment.{Environment}
use Rattle.latex2mathml_tex_grammar.proofs.OneList.{is_byte}
use Rattle.latex2mathml_tex.specs.declared.parse.frames.Frame.{Frame}
use Rattle.latex2mathml_tex.specs.declared.parse.endings.Ending.TheVariants as ending
use Rattle.latex2mathml_tex.specs.declared.parse.frames.Frame.TheVariants as frame
use Rattle.latex2mathml_tex_atoms.proofs.Wording.{drop_more, take_more}
use Rattle.latex2mathml_tex.proofs.{Leading.given, Leading.not_taken, Leading.refused, Leading.row_due, Leading.taken, Marks.core_refuses, Opening.context_is, Tabled.goes_on}

-- the sign of an arrow says which it is
pub sign_says : (a : DiagramArrow) → arrow_of (arrow_sign a) ≡ diagram_arrow a
sign_says (arrow.Labeled direction.Rightwards) = refl
sign_says (arrow.Labeled direction.Leftwards) = refl
sign_says (arrow.Labeled direction.Upwards) = refl
sign_says (arrow.Labeled direction.Downwards) = refl
sign_says arrow.LongEquals = refl
sign_says arrow.HighBars = refl
sign_says arrow.Nothing = refl

-- an arrow is due, which is the next cell of a table after these rows and cells, within this level
abbrev ArrowDue : DiagramArrow → Table → (place at : ℕ) → List Element → List Element → Level → Units → Type 0
ArrowDue a t place at rows cells l m = RuleLeads (arrow_rule at (cell_context t (context_at l)) (diagram_arrow a)) (ArrowMade t place rows cells (context_at l) (CoreMade l)) m

makes : (s : Start) (q : Parser) (a : DiagramArrow) (t : Table) (place at : ℕ) (rows cells ys : List Element) → s.style ≡ style_of q.style → rows_of t (elements_of q) ≡ rows → cells_of t (elements_of q) ≡ cells → drop (t.cells + t.rows) (elements_of q) ≡ ys → ArrowDue a t place at rows cells (inside s q.frames.stack.items ys) (left_of q) → MakesArrow a t place at s q
makes s q a t place at rows cells ys style r c d due = record {
  style = style;
  leads = subst (λ ys. ArrowDue a t place at (rows_of t (elements_of q)) (cells_of t (elements_of q)) (inside s q.frames.stack.items ys) (left_of q)) (sym d)
      (subst (λ k. ArrowDue a t place at (rows_of t (elements_of q)) k (inside s q.frames.stack.items ys) (left_of q)) (sym c)
      (subst (λ k. ArrowDue a t place at k cells (inside s q.frames.stack.items ys) (left_of q)) (sym r) due));
}

-- Only the cells of diagrams end with an at sign

begins_arrow : (parts begins breaks : Bool) → BeginsArrow ≡ (if parts then PartsCells else if begins then BeginsArrow else if breaks then EndsRow else EndsTable) → begins ≡ true
begins_arrow true begins breaks e = cc
begins_arrow false true breaks e = refl
begins_arrow false false true e = cc
begins_arrow false false false e = cc

at_sign : (piece : Piece) → is_character (byte "@") piece ≡ true → piece ≡ Character (byte "@")
at_sign Space e = cc
at_sign Open e = cc
at_sign Close e = cc
at_sign (Command name) e = cc
at_sign (Character c) e = ap Character (sym (is_byte (byte "@") c e))

pub only_diagrams : (k : TableKind) (place : ℕ) (piece : Piece) → ((e : Bor Environment) → k ≡ kind.Diagram e → ⊥) → BeginsArrow ≡ cell_end piece → starts.ends (InCell (ended_by k) place) piece ≡ true → ⊥
only_diagrams (kind.Environment e columns) place piece none begins ends = (let same = ap (starts.ends (InCell ByName place)) (at_sign piece (begins_arrow _ _ _ begins)) in cc)
only_diagrams (kind.Diagram e) place piece none begins ends = none e refl
only_diagrams kind.Braces place piece none begins ends = (let same = ap (starts.ends (InCell ByBrace place)) (at_sign piece (begins_arrow _ _ _ begins)) in cc)
only_diagrams (kind.Text columns) place piece none begins ends = (let same = ap (starts.ends (InCell ByText place)) (at_sign piece (begins_arrow _ _ _ begins)) in cc)

-- A cell ends with an at sign

module _ (s : Start) (p : Parser) (t : Table) (place : ℕ) (row : Row) (u : Unit) (ends : BeginsArrow ≡ cell_end (piece_of u.piece)) (g : ClosesCell t place row u s p) where
  abbrev below : List Element
  below = drop row.count (elements_of p)

  abbrev atoms : List Element
  atoms = lone (kind_of row.last) (take row.count (elements_of p))

  abbrev outer : Level
  outer = level (row.count + (t.cells + t.rows)) s p

  under : drop (t.cells + t.rows) below ≡ drop (row.count + (t.cells + t.rows)) (elements_of p)
  under = drop-drop (t.cells + t.rows) row.count (elements_of p)

  pub none_follows : next_are (sign_of_arrow ∷ []) (left_of p) ≡ None → Refuses outer (refusal_at IncompleteArrow u.place)
  none_follows none = core_refuses (refusal_at IncompleteArrow u.place) outer (g.leads _ (no_arrow g.next (sym ends) none))

  module _ (i : Input) (a : DiagramArrow) (taken : next_are (sign_of_arrow ∷ []) (left_of p) ≡ Some (arrow_sign a, units_at i)) where
    abbrev before : List Element
    before = before_arrow (fills_cell (arrow_of (arrow_sign a)) (length (cells_of t below)) atoms) atoms (cells_of t below)

    made : (o : Outcome Core) → ReadsRule (arrow_rule u.place (cell_context t (context_at outer)) (arrow_of (arrow_sign a))) (units_at i) o → ArrowMade t place (rows_of t below) before (context_at outer) (CoreMade outer) o
    made (Read x m) d = λ o ds. g.leads o (arrow_read g.next (sym ends) taken d ds)
    made (Refused r) d = g.leads (Refused r) (arrow_refused g.next (sym ends) taken d)

    due : ArrowDue a t place u.place (rows_of t below) before outer (units_at i)
    due = subst (λ b. RuleLeads (arrow_rule u.place (cell_context t (context_at outer)) b) (ArrowMade t place (rows_of t below) before (context_at outer) (CoreMade outer)) (units_at i)) (sign_says a) (record { to = made })

    -- the arrow is all of the cell
    pub cell_filled : row.count ≡ 0 → fills_cell (diagram_arrow a) (length (cells_of t below)) atoms ≡ true → MakesArrow a t place u.place s (record p { input = i })
    cell_filled empty fills =
        let all : below ≡ elements_of p = ap (λ n. drop n (elements_of p)) empty in
        let filled : fills_cell (arrow_of (arrow_sign a)) (length (cells_of t below)) atoms ≡ true = ap (λ k. fills_cell k (length (cells_of t below)) atoms) (sign_says a) ∙ fills in
        let cells : before ≡ cells_of t below = ap (λ b. before_arrow b atoms (cells_of t below)) filled in
        makes s (record p { input = i }) a t place u.place (rows_of t below) (cells_of t below) (drop (row.count + (t.cells + t.rows)) (elements_of p)) g.style
        (ap (rows_of t) (sym all)) (ap (cells_of t) (sym all)) (ap (drop (t.cells + t.rows)) (sym all) ∙ under)
        (subst (λ k. ArrowDue a t place u.place (rows_of t below) k outer (units_at i)) cells due)

    -- the cell comes before the arrow
    pub cell_before : (b : Built) (v : Table) → v ≡ record t { cells = t.cells + 1 } → elements_in b ≡ row_element atoms ∷ below → fills_cell (diagram_arrow a) (length (cells_of t below)) atoms ≡ false → MakesArrow a v place u.place s (record p { input = i; builder = b })
    cell_before b v is put filled =
        let next : Table = record t { cells = t.cells + 1 } in
        let cell = row_element atoms in
        let fills : fills_cell (arrow_of (arrow_sign a)) (length (cells_of t below)) atoms ≡ false = ap (λ k. fills_cell k (length (cells_of t below)) atoms) (sign_says a) ∙ filled in
        let all_cells : before ≡ cell ∷ cells_of t below = ap (λ k. before_arrow k atoms (cells_of t below)) fills in
        let rows : rows_of next (elements_in b) ≡ rows_of t below = ap (λ ys. take t.rows (drop (t.cells + 1) ys)) put ∙ ap (take t.rows) (drop_more t.cells cell below) in
        let cells : cells_of next (elements_in b) ≡ cell ∷ cells_of t below = ap (take (t.cells + 1)) put ∙ take_more t.cells cell below in
        let more : (t.cells + 1) + t.rows ≡ (t.cells + t.rows) + 1 = omega arith in
        let all : drop ((t.cells + 1) + t.rows) (elements_in b) ≡ drop (row.count + (t.cells + t.rows)) (elements_of p) = ap (λ n. drop n (elements_in b)) more ∙ ap (drop ((t.cells + t.rows) + 1)) put ∙ drop_more (t.cells + t.rows) cell below ∙ under in
        subst (λ v. MakesArrow a v place u.place s (record p { input = i; builder = b })) (sym is)
        (makes s (record p { input = i; builder = b }) a next place u.place (rows_of t below) (cell ∷ cells_of t below) (drop (row.count + (t.cells + t.rows)) (elements_of p)) g.style rows cells all
        (subst (λ k. ArrowDue a next place u.place (rows_of t below) k outer (units_at i)) all_cells due))

-- An arrow that was made is the next cell

module _ (s : Start) (p : Parser) (b : Built) (t : Table) (place : ℕ) (xs : List Element) (x : Core) (put : elements_in b ≡ x.atom.element ∷ xs) where
  pub cell_given : s.style ≡ style_of p.style → let l = inside s p.frames.stack.items (drop (t.cells + t.rows) xs) in ArrowMade t place (rows_of t xs) (cells_of t xs) (context_at l) (CoreMade l) (Read x (left_of p)) → GoesOnTable (record t { cells = t.cells + 1 }) place s (record p { builder = b })
  cell_given style leads =
      let next : Table = record t { cells = t.cells + 1 } in
      let y = x.atom.element in
      let rows : rows_of next (elements_in b) ≡ rows_of t xs = ap (λ ys. take t.rows (drop (t.cells + 1) ys)) put ∙ ap (take t.rows) (drop_more t.cells y xs) in
      let cells : cells_of next (elements_in b) ≡ y ∷ cells_of t xs = ap (take (t.cells + 1)) put ∙ take_more t.cells y xs in
      let more : (t.cells + 1) + t.rows ≡ (t.cells + t.rows) + 1 = omega arith in
      let all : drop ((t.cells + 1) + t.rows) (elements_in b) ≡ drop (t.cells + t.rows) xs = ap (λ n. drop n (elements_in b)) more ∙ ap (drop ((t.cells + t.rows) + 1)) put ∙ drop_more (t.cells + t.rows) y xs in
      goes_on s (record p { builder = b }) next place (rows_of t xs) (y ∷ cells_of t xs) (drop (t.cells + t.rows) xs) style rows cells all leads

-- an arrow without labels was put
pub arrow_put : (s : Start) (p : Parser) (b : Built) (a : DiagramArrow) (t : Table) (place at : ℕ) (x : Core) → elements_in b ≡ x.atom.element ∷ elements_of p → arrow_rule at (cell_context t (context_at (level (t.cells + t.rows) s p))) (diagram_arrow a) ≡ gives x → MakesArrow a t place at s p → GoesOnTable (record t { cells = t.cells + 1 }) place s (record p { builder = b })
arrow_put s p b a t place at x put rule g =
    let l = level (t.cells + t.rows) s p in
    let K = ArrowMade t place (rows_of t (elements_of p)) (cells_of t (elements_of p)) (context_at l) (CoreMade l) in
    cell_given s p b t place (elements_of p) x put g.style (given (subst (λ r. RuleLeads r K (left_of p)) rule g.leads))

-- Labels

-- the first label of an arrow is due
pub first_label_due : (s : Start) (p : Parser) (b : Built) (k : Labeled) (at : ℕ) (f : Frame) (around small : Context) → InnermostIs f p → around ≡ frame_context f → small ≡ record around { style = style.InScript } → elements_in b ≡ bare_arrow (direction_of k.direction) ∷ elements_of p → (row : Row) → row ≡ empty_row → MakesArrow (arrow.Labeled k.direction) (table_of k.diagram) k.place at s p → Leads (level_within (frame.Row (ending.FirstLabel k) at small row) 0 s (record p { builder = b })) (left_of p)
first_label_due s p b k at f around small inner is smaller put row none g =
    let d = direction_of k.direction in
    let l = level (k.diagram.cells + k.diagram.rows) s p in
    let same = ap context_of is ∙ context_is s p.style p.frames.stack.items f (drop (k.diagram.cells + k.diagram.rows) (elements_of p)) g.style inner in
    let within : context_of small ≡ rules.styled (context_at l) InScript = ap context_of smaller ∙ ap (λ (c : rules.Context). rules.styled c InScript) same in
    let n = k.diagram.cells + k.diagram.rows in
    let xs = bare_arrow d ∷ elements_of p in
    let one : 0 + (1 + n) ≡ n + 1 = omega arith in
    let all : drop (0 + (1 + n)) xs ≡ drop n (elements_of p) = ap (λ m. drop m xs) one ∙ drop_more n (bare_arrow d) (elements_of p) in
    rw (none, put, within, all) (row_due (behind_first_label d at (context_at l) (bare_arrow d)) g.leads)

-- a label ends before a unit
module _ (s : Start) (p : Parser) (e : Ending) (at : ℕ) (own : Row) (u : Unit) (g : ClosesBefore e at own u s p) (c : ℕ) {more otherwise : Rule} {K : Outcome Core → Type 0} (leads : RuleLeads (takes_if (a_character c ∷ []) (λ sign. more) otherwise) K g.before) where
  pub sign_follows : a_character c (piece_of u.piece) ≡ Some (c ∷ []) → RuleLeads more K (left_of p)
  sign_follows is = taken (λ sign. more) {texts = c ∷ []} (rw (g.next, is) refl) leads

  pub no_sign_follows : a_character c (piece_of u.piece) ≡ None → RuleLeads otherwise K g.before
  no_sign_follows is = not_taken (rw (g.next, is) refl) leads

-- the second label of an arrow is due
pub second_label_due : (s : Start) (p : Parser) (b : Built) (k : Labeled) (at : ℕ) (own : Row) (u : Unit) (f : Frame) (around small : Context) → InnermostIs f p → around ≡ frame_context f → small ≡ record around { style = style.InScript } → elements_in b ≡ first_label (direction_of k.direction) (row_element (take own.count (elements_of p))) ∷ drop own.count (elements_of p) → (row : Row) → row ≡ empty_row → a_character (direction_sign (direction_of k.direction)) (piece_of u.piece) ≡ Some (direction_sign (direction_of k.direction) ∷ []) → ClosesBefore (ending.FirstLabel k) at own u s p → Leads (level_within (frame.Row (ending.SecondLabel k) at small row) 0 s (record p { builder = b })) (left_of p)
second_label_due s p b k at own u f around small inner is smaller put row none sign g =
    let d = direction_of k.direction in
    let n = k.diagram.cells + k.diagram.rows in
    let behind = drop own.count (elements_of p) in
    let l = level (own.count + (1 + n)) s p in
    let same = ap context_of is ∙ context_is s p.style p.frames.stack.items f (drop (own.count + (1 + n)) (elements_of p)) g.style inner in
    let within : context_of small ≡ rules.styled (context_at l) InScript = ap context_of smaller ∙ ap (λ (c : rules.Context). rules.styled c InScript) same in
    let others : drop (1 + n) behind ≡ drop (own.count + (1 + n)) (elements_of p) = drop-drop (1 + n) own.count (elements_of p) in
    let x = first_label d (row_element (take own.count (elements_of p))) in
    let one : 0 + (2 + n) ≡ (1 + n) + 1 = omega arith in
    let all : drop (0 + (2 + n)) (x ∷ behind) ≡ drop (own.count + (1 + n)) (elements_of p) = ap (λ m. drop m (x ∷ behind)) one ∙ drop_more (1 + n) x behind ∙ others in
    rw (none, put, within, all) (row_due (λ second. after_label at d (gives (joined_arrow d (top behind) x (row_element second.elements)))) (sign_follows s p (ending.FirstLabel k) at own u g (direction_sign d) g.leads sign))

-- an arrow was made of its labels
pub labels_joined : (s : Start) (p : Parser) (b : Built) (k : Labeled) (at : ℕ) (own : Row) (u : Unit) → let below = drop own.count (elements_of p) in elements_in b ≡ (joined_arrow (direction_of k.direction) (top (drop 1 below)) (top below) (row_element (take own.count (elements_of p)))).atom.element ∷ drop 2 below → a_character (direction_sign (direction_of k.direction)) (piece_of u.piece) ≡ Some (direction_sign (direction_of k.direction) ∷ []) → ClosesBefore (ending.SecondLabel k) at own u s p → GoesOnTable (table_of (record k.diagram { cells = k.diagram.cells + 1 })) k.place s (record p { builder = b })
labels_joined s p b k at own u put sign g =
    let t = table_of k.diagram in
    let n = t.cells + t.rows in
    let behind = drop own.count (elements_of p) in
    let others : drop n (drop 2 behind) ≡ drop (own.count + (2 + n)) (elements_of p) = drop-drop n 2 behind ∙ ap (λ m. drop m behind) (omega arith) ∙ drop-drop (2 + n) own.count (elements_of p) in
    let x = joined_arrow (direction_of k.direction) (top (drop 1 behind)) (top behind) (row_element (take own.count (elements_of p))) in
    cell_given s p b t k.place (drop 2 behind) x put g.style
    (subst (λ ys. let l = inside s p.frames.stack.items ys in ArrowMade t k.place (rows_of t (drop 2 behind)) (cells_of t (drop 2 behind)) (context_at l) (CoreMade l) (Read x (left_of p))) (sym others) (given (sign_follows s p (ending.SecondLabel k) at own u g (direction_sign (direction_of k.direction)) g.leads sign)))

-- a label ends without the sign of its arrow
pub first_label_unended : (s : Start) (p : Parser) (k : Labeled) (at : ℕ) (own : Row) (u : Unit) → a_character (direction_sign (direction_of k.direction)) (piece_of u.piece) ≡ None → ClosesBefore (ending.FirstLabel k) at own u s p → Refuses (level (own.count + ending_count (ending.FirstLabel k)) s p) (refusal_at IncompleteArrow at)
first_label_unended s p k at own u none g =
    core_refuses (refusal_at IncompleteArrow at) (level (own.count + ending_count (ending.FirstLabel k)) s p) (refused (no_sign_follows s p (ending.FirstLabel k) at own u g (direction_sign (direction_of k.direction)) g.leads none))

pub second_label_unended : (s : Start) (p : Parser) (k : Labeled) (at : ℕ) (own : Row) (u : Unit) → a_character (direction_sign (direction_of k.direction)) (piece_of u.piece) ≡ None → ClosesBefore (ending.SecondLabel k) at own u s p → Refuses (level (own.count + ending_count (ending.SecondLabel k)) s p) (refusal_at IncompleteArrow at)
second_label_unended s p k at own u none g =
    core_refuses (refusal_at IncompleteArrow at) (level (own.count + ending_count (ending.SecondLabel k)) s p) (refused (no_sign_follows s p (ending.SecondLabel k) at own u g (direction_sign (direction_of k.direction)) g.leads none))
