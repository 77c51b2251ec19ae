-- Rows that end as they are: nothing in them is left to be finished.
use Rattle.std.proofs.Common.{◌≡◌, ℕ, List, arith, drop, refl, sym, take, ap, subst}
use Rattle.latex2mathml_elements.specs.Element.{Element}
use Rattle.latex2mathml_builder.specs.Built.{Built, elements_in}
use Rattle.latex2mathml_tex_grammar.specs.{Next.past_space, Rests.finished, Rows.lone}
use Rattle.latex2mathml_tex_grammar.specs.Reading.{Read}
use Rattle.latex2mathml_tex_grammar.specs.Units.{Next, End}
use Rattle.latex2mathml_tex_units.specs.{Left.units_at, Taking.unit_of}
use Rattle.latex2mathml_tex_commands.specs.Meanings.{style_of}
use Rattle.latex2mathml_tex.specs.Frames.{Start, Whole}
use Rattle.latex2mathml_tex.specs.Innermost.{IsInnermost, TookRow, braced_ending, on_top}
use Rattle.latex2mathml_tex_atoms.specs.Models.{IsFinished, kind_of, row_count, row_with}
use Rattle.latex2mathml_tex.specs.Steps.{ClosesRow, EndsText, Holds, elements_of, left_of}
use Rattle.latex2mathml_tex_units.specs.declared.{input.Input.Input, unit.Unit.Unit}
use Rattle.latex2mathml_tex_units.specs.declared.unit.Piece.TheVariants as piece
use Rattle.latex2mathml_tex_commands.specs.declared.meaning.Style.{Style}
use Rattle.latex2mathml_tex_atoms.specs.declared.atoms.Row.{Row}
use Rattle.latex2mathml_tex.specs.declared.parse.Parser.{Parser}
use Rattle.latex2mathml_tex.specs.declared.parse.State.TheVariants as state
use Rattle.latex2mathml_tex.specs.declared.parse.frames.{Braced.Braced, Frames.Frames}
use Rattle.latex2mathml_tex.specs.declared.parse.frames.Braced.TheVariants as braced
use Rattle.latex2mathml_tex.specs.declared.parse.endings.Ending.TheVariants as ending
use Rattle.latex2mathml_tex.specs.declared.parse.frames.Frame.TheVariants as frame
use Rattle.latex2mathml_tex.proofs.{NoAtom.row_closed, NoAtom.text_ended, Resting.row_finished}

module _ (style : Style) (row : Row) (xs : List Element) (is : IsFinished row) where
  as_it_is : row_with row xs ≡ finished (style_of style) (row_with row xs)
  as_it_is = rw (is.restyled, is.under, is.ended) refl

  own_elements : drop row.count xs ≡ drop (row_count row) xs
  own_elements = let count : row_count row ≡ row.count = rw (is.restyled, is.under) (omega arith) in rw count refl

module _ (p : Parser) (fr : Frames) (row : Row) (s : Start) (h : Holds s p state.Next) where
  -- a group or an operand ends with a closing brace
  pub braces_closed : (b : Braced) (took : TookRow (braced_ending b) row p.frames.stack.items fr.stack.items) (i : Input) (u : Unit) → past_space (left_of p) ≡ Next (unit_of u) (units_at i) → u.piece ≡ piece.Close → ClosesRow (braced_ending b) took.place row s (record p { input = i; frames = fr })
  braces_closed braced.Operand took i u next is =
      let f = frame.Row ending.Operand took.place took.context row in
      let inner : IsInnermost p.style p.frames.stack.items f fr.stack.items = on_top took.before in
      let ended = row_closed p ending.Operand took.place row took.context fr.stack.items inner s h i fr f u inner next (rw is refl) in
      row_finished s (record p { input = i; frames = fr }) p.builder took.context.style row row (as_it_is took.context.style row (elements_of p) took.finished) (own_elements took.context.style row (elements_of p) took.finished) ending.Operand took.place u ended
  braces_closed braced.Group took i u next is =
      let f = frame.Row ending.Group took.place took.context row in
      let inner : IsInnermost p.style p.frames.stack.items f fr.stack.items = on_top took.before in
      let ended = row_closed p ending.Group took.place row took.context fr.stack.items inner s h i fr f u inner next (rw is refl) in
      row_finished s (record p { input = i; frames = fr }) p.builder took.context.style row row (as_it_is took.context.style row (elements_of p) took.finished) (own_elements took.context.style row (elements_of p) took.finished) ending.Group took.place u ended

  -- the formula ends with the text
  pub formula_ended : TookRow ending.Text row p.frames.stack.items fr.stack.items → (at : ℕ) → left_of p ≡ End at → (b : Built) → take row.count (elements_in b) ≡ lone (kind_of row.last) (take row.count (elements_of p)) → Holds s (record p { frames = fr; builder = b }) (state.End row.count)
  formula_ended took at end b isolated =
      let f = frame.Row ending.Text took.place took.context row in
      let inner : IsInnermost p.style p.frames.stack.items f fr.stack.items = on_top took.before in
      let ended : EndsText ending.Text took.place took.context.style row at s (record p { frames = fr }) = text_ended p ending.Text took.place row took.context fr.stack.items inner s h p.input fr f at inner (ap past_space end) end in
      let whole = subst (λ r. Whole s (Read r (End at))) (sym (as_it_is took.context.style row (elements_of p) took.finished)) (ended.ends refl).leads in
      record { style = h.style; claims = (row_with row (elements_of p), at, sym isolated, whole) }
