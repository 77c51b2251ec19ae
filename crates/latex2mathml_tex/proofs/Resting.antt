-- What holds of the parser where a row ends, and where what follows a change begins.
use Rattle.std.specs.Prelude.{⊤}
use Rattle.std.proofs.Common.{◌≡◌, ◌∙◌, ℕ, ◌+◌, ◌-◌, ◌≤◌, List, Result, Some, drop, length, reverse, sym, ap, subst, arith}
use Rattle.std.proofs.lemmas.{Bool.and_parts, List.drop-drop, List.length-drop}
use Rattle.std.specs.declared.alloc.AllocError.{AllocError}
use Rattle.latex2mathml_elements.specs.Element.{Element}
use Rattle.latex2mathml_builder.specs.Built.{Built, elements_in}
use Rattle.latex2mathml_tex_grammar.specs.{Meaning.Change, Rows.Row}
use Rattle.latex2mathml_tex_grammar.specs.Reading.{Outcome, Read, Refused, ReadsAtoms}
use Rattle.latex2mathml_elements.specs.Colors.{Color}
use Rattle.latex2mathml_tex_grammar.specs.{Colors.color_of, Meaning.ToColor}
use Rattle.latex2mathml_tex_grammar.specs.Refusal.{Refusal, UnknownColor, refusal_at}
use Rattle.latex2mathml_tex_grammar.specs.Scanning.{BeforeColor}
use Rattle.latex2mathml_tex_grammar.specs.Rests.{Rest, GoesOnIn, NoRest, finished, recolored, rest_behind_name, rest_in, rest_of}
use Rattle.latex2mathml_tex_grammar.specs.Rules.{Context as RuleContext}
use Rattle.latex2mathml_tex_grammar.specs.Units.{Units}
use Rattle.latex2mathml_tex.specs.Frames.{RowMade, Start, Whole, ending_count, ending_of, inside, within}
use Rattle.latex2mathml_tex_units.specs.Errors.{refusal_of}
use Rattle.latex2mathml_tex_commands.specs.Meanings.{style_of}
use Rattle.latex2mathml_tex.specs.Innermost.{IsInnermost}
use Rattle.latex2mathml_tex.specs.Levels.{FollowsChange, Leads, Refuses, RestLeads}
use Rattle.latex2mathml_tex_atoms.specs.Models.{context_of, row_count, row_with}
use Rattle.latex2mathml_tex.specs.Steps.{Advances, BeginsRest, CanBegin, CanMake, Closes, EndsRow, IsLeft, Follows, HasElements, Holds, NoValue, TookValue, has_none, is_missing, elements_of, ending_weight, left_of, level, row_makes, to_do}
use Rattle.latex2mathml_tex_commands.specs.declared.meaning.Style.{Style as CodeStyle}
use Rattle.latex2mathml_tex_units.specs.declared.unit.Unit.{Unit as CodeUnit}
use Rattle.latex2mathml_tex_atoms.specs.declared.{atoms.Context.Context, atoms.Row.Row as CodeRow}
use Rattle.latex2mathml_tex.specs.declared.{parse.Parser.Parser, parse.State.State}
use Rattle.latex2mathml_tex.specs.declared.parse.State.TheVariants as state
use Rattle.latex2mathml_tex.specs.declared.parse.endings.Ending.{Ending}
use Rattle.latex2mathml_tex.specs.declared.parse.frames.{Frame.Frame, Frames.Frames}
use Rattle.latex2mathml_tex.specs.declared.parse.endings.Ending.TheVariants as ending
use Rattle.latex2mathml_tex.specs.declared.parse.frames.Frame.TheVariants as frame
use Rattle.latex2mathml_tex.proofs.{Marks.all_refuse, NoAtom.elements_left, Opening.into_frame, Opening.out_of_frame, Rows.others_await, Rows.step_within, Rows.weighed}

-- The end of a group

module _ (p : Parser) (b : Built) (row whole : CodeRow) (below : drop whole.count (elements_in b) ≡ drop (row_count row) (elements_of p)) (there : whole.count ≤ length (elements_in b)) where
  same_left : length (elements_in b) - whole.count ≡ length (elements_of p) - row_count row
  same_left = sym (length-drop whole.count (elements_in b)) ∙ ap length below ∙ length-drop (row_count row) (elements_of p)

  pub finished_can : (e : Ending) → CanMake (row_makes e) (row_count row + ending_count e) p → CanMake (row_makes e) (whole.count + ending_count e) (record p { builder = b })
  finished_can e can = record {
    elements = omega (arith, same_left, there, can.elements);
    awaits = record { accepted = can.awaits.accepted; nested = can.awaits.nested };
  }

  pub formula_step : HasElements (row_count row) p → Follows (to_do p + 1) (record p { builder = b }) (state.End whole.count)
  formula_step enough = record { ready = record { elements = omega (arith, enough, same_left, there); may_come = there }; falls = omega arith }

module _ (s : Start) (p : Parser) (b : Built) (style : CodeStyle) (row whole : CodeRow) (is : row_with whole (elements_in b) ≡ finished (style_of style) (row_with row (elements_of p))) (below : drop whole.count (elements_in b) ≡ drop (row_count row) (elements_of p)) (e : Ending) (place : ℕ) where
  abbrev MadeOf : Units → List Element → List Element → Row → Type 0
  MadeOf rest own others r = RowMade s e place own (inside s p.frames.stack.items others) (Read r rest)

  pub made_finished : (rest : Units) → RowMade s e place (drop (row_count row) (elements_of p)) (level (row_count row + ending_count e) s p) (Read (finished (style_of style) (row_with row (elements_of p))) rest) → MadeOf rest (drop whole.count (elements_in b)) (drop (whole.count + ending_count e) (elements_in b)) (row_with whole (elements_in b))
  made_finished rest leads =
      let xs = elements_of p in
      let ys = elements_in b in
      let others : drop (whole.count + ending_count e) ys ≡ drop (row_count row + ending_count e) xs =
      sym (drop-drop (ending_count e) whole.count ys) ∙ ap (drop (ending_count e)) below ∙ drop-drop (ending_count e) (row_count row) xs in
      subst (λ r. MadeOf rest (drop whole.count ys) (drop (whole.count + ending_count e) ys) r) (sym is)
      (subst (λ zs. MadeOf rest zs (drop (whole.count + ending_count e) ys) (finished (style_of style) (row_with row xs))) (sym below)
      (subst (λ zs. MadeOf rest (drop (row_count row) xs) zs (finished (style_of style) (row_with row xs))) (sym others) leads))

-- the finished row can be closed
closes_by : (s : Start) (p : Parser) (e : Ending) (place : ℕ) (xs : CodeRow) (u : CodeUnit) (rest : Units) → IsLeft e u rest (left_of p) → s.style ≡ style_of p.style → RowMade s e place (drop xs.count (elements_of p)) (level (xs.count + ending_count e) s p) (Read (row_with xs (elements_of p)) rest) → Closes e place xs u s p
closes_by s p (ending.Cell t) place xs u rest left style leads = record { style = style; before = rest; next = left; leads = leads }
closes_by s p ending.Text place xs u rest left style leads = record { style = style; leads = subst (λ m. Whole s (Read (row_with xs (elements_of p)) m)) left leads }
closes_by s p ending.Group place xs u rest left style leads = record { style = style; leads = rw left at leads }
closes_by s p ending.Operand place xs u rest left style leads = record { style = style; leads = rw left at leads }
closes_by s p ending.Degree place xs u rest left style leads = record { style = style; leads = rw left at leads }
closes_by s p ending.BelowArrow place xs u rest left style leads = record { style = style; leads = rw left at leads }
closes_by s p (ending.Delimiters opening) place xs u rest left style leads = record { style = style; leads = rw left at leads }
closes_by s p (ending.Formula n) place xs u rest left style leads = record { style = style; leads = rw left at leads }
closes_by s p (ending.FirstLabel k) place xs u rest left style leads = record { style = style; before = rest; next = left; leads = leads }
closes_by s p (ending.SecondLabel k) place xs u rest left style leads = record { style = style; before = rest; next = left; leads = leads }

pub row_finished : (s : Start) (p : Parser) (b : Built) (style : CodeStyle) (row whole : CodeRow) → row_with whole (elements_in b) ≡ finished (style_of style) (row_with row (elements_of p)) → drop whole.count (elements_in b) ≡ drop (row_count row) (elements_of p) → (e : Ending) (place : ℕ) (u : CodeUnit) → EndsRow e place style row u s p → Closes e place whole u s (record p { builder = b })
row_finished s p b style row whole is below e place u g =
    closes_by s (record p { builder = b }) e place whole u g.rest g.left g.same_style (made_finished s p b style row whole is below e place g.rest g.leads)

-- What follows a change

-- a change of color, where there is none or where it was taken

abbrev no_color : ℕ → List ℕ → Refusal
no_color place name = refusal_at (UnknownColor name) place

pub no_color_rest : (c : RuleContext) (row : Row) (place : ℕ) (l : Units) (r : Refusal) → NoValue place BeforeColor color_of (no_color place) l r → rest_of ToColor c row place l ≡ NoRest r
no_color_rest c row place l r (is_missing e) = ap (rest_behind_name c row place) e
no_color_rest c row place l r (has_none {text = name} {m = m} e none) = ap (rest_behind_name c row place) e ∙ ap (rest_in name c row place m) none

pub color_rest : (c : RuleContext) (row : Row) (place : ℕ) (p q : Parser) (color : Color) → TookValue place BeforeColor color_of (no_color place) p q (Some color) → rest_of ToColor c row place (left_of p) ≡ GoesOnIn c (recolored color c row) (left_of q)
color_rest c row place p q color (same, (name, (is, known))) = ap (rest_behind_name c row place) is ∙ ap (rest_in name c row place (left_of q)) known

module _ (p : Parser) (fr : Frames) (f : Frame) (e : Ending) (at : ℕ) (context : Context) (row : CodeRow) (inner : IsInnermost p.style p.frames.stack.items f fr.stack.items) (is : f ≡ frame.Row e at context row) where
  abbrev others : List Frame
  others = fr.stack.items

  at_row : IsInnermost p.style p.frames.stack.items (frame.Row e at context row) others
  at_row = subst (λ f. IsInnermost p.style p.frames.stack.items f others) is inner

  -- the row's frame can be put back
  pub rest_can : (b : Built) (other : CodeRow) → CanBegin 0 p → drop (row_count other) (elements_in b) ≡ drop (row_count row) (elements_of p) → row_count other ≤ length (elements_in b) → CanMake (row_makes e) (row_count other + ending_count e) (record p { frames = fr; builder = b })
  rest_can b other can own there =
      let some = elements_left p.style p.frames.stack.items others e at context row (length (elements_of p)) at_row can.elements in
      let left = sym (length-drop (row_count other) (elements_in b)) ∙ ap length own ∙ length-drop (row_count row) (elements_of p) in
      let awaits = and_parts _ _ (others_await p.style p.frames.stack.items others e at context row at_row can.awaits.nested) in
      record {
        elements = omega (arith, some, left, there);
        awaits = record { accepted = awaits.0; nested = awaits.1 };
      }

  -- the row's frame can be put back, also after units that were taken
  pub rest_can_behind : (q : Parser) (b : Built) (other : CodeRow) → q ≡ record p { frames = fr; input = q.input } → CanBegin 0 p → drop (row_count other) (elements_in b) ≡ drop (row_count row) (elements_of q) → row_count other ≤ length (elements_in b) → CanMake (row_makes e) (row_count other + ending_count e) (record q { builder = b })
  rest_can_behind q b other same can own there =
      let made = rest_can b other can (own ∙ ap (λ (x : Parser). drop (row_count row) (elements_of x)) same) there in
      subst (λ (x : Parser). CanMake (row_makes e) (row_count other + ending_count e) (record x { builder = b })) (sym same) (record {
        elements = made.elements;
        awaits = record { accepted = made.awaits.accepted; nested = made.awaits.nested };
      })

  -- less is left to do where the row's frame is put back
  pub rest_step : (b : Built) (new : Parser) (st : State) (answer : Result ⊤ AllocError) → Advances (ending_weight e + 2) (record p { frames = fr; builder = b }) new st answer → Advances 13 p new st answer
  rest_step b new st answer step =
      let brought = weighed p.style p.frames.stack.items others (frame.Row e at context row) at_row in
      step_within p (record p { frames = fr; builder = b }) new st answer (ending_weight e + 2) 13 (omega (arith, brought)) step

  module _ (s : Start) (change : Change) (place : ℕ) (g : BeginsRest change place s p) where
    -- where the outcome of the row leads
    abbrev RowLeads : Outcome Row → Type 0
    RowLeads = RowMade s e at (drop (row_count row) (elements_of p)) (inside s others (drop (row_count row + ending_count e) (elements_of p)))

    abbrev rest : Rest
    rest = rest_of change (context_of context) (row_with row (elements_of p)) place (left_of p)

    follows : FollowsChange (ending_of e at) RowLeads rest
    follows = into_frame (λ l. RestLeads change place l (left_of p)) s p.style g.style p.frames.stack.items others (frame.Row e at context row) (elements_of p) at_row g.leads

    abbrev AllLead : RuleContext → Row → Units → List Element → List Element → Type 0
    AllLead c r m own below = (o : Outcome Row) → ReadsAtoms (ending_of e at) c r m o → RowMade s e at own (inside s others below) o

    -- what follows the change is due within the row's frame
    pub rest_begins : (new_context : Context) (c : RuleContext) (other : CodeRow) (ys : List Element) (r : Row) (m : Units) → context_of new_context ≡ c → row_with other ys ≡ r → drop (row_count other) ys ≡ drop (row_count row) (elements_of p) → rest ≡ GoesOnIn c r m → Leads (within s others (frame.Row e at new_context other) ys) m
    rest_begins new_context c other ys r m same_context same_row own is =
        let xs = elements_of p in
        let due : AllLead c r m (drop (row_count row) xs) (drop (row_count row + ending_count e) xs) = subst (λ (x : Rest). FollowsChange (ending_of e at) RowLeads x) is follows in
        let below : drop (row_count other + ending_count e) ys ≡ drop (row_count row + ending_count e) xs =
        sym (drop-drop (ending_count e) (row_count other) ys) ∙ ap (drop (ending_count e)) own ∙ drop-drop (ending_count e) (row_count row) xs in
        subst (λ d. AllLead d (row_with other ys) m (drop (row_count other) ys) (drop (row_count other + ending_count e) ys)) (sym same_context)
        (subst (λ t. AllLead c t m (drop (row_count other) ys) (drop (row_count other + ending_count e) ys)) (sym same_row)
        (subst (λ zs. AllLead c r m zs (drop (row_count other + ending_count e) ys)) (sym own)
        (subst (λ zs. AllLead c r m (drop (row_count row) xs) zs) (sym below) due)))

    -- what follows the change is refused
    pub no_rest : (q : Parser) (r : Refusal) → rest ≡ NoRest r → q.style ≡ p.style → refusal_of q.refusal ≡ Some r → Holds s q state.Refused
    no_rest q r is same told =
        let led : RowLeads (Refused r) = subst (λ (x : Rest). FollowsChange (ending_of e at) RowLeads x) is follows in
        let here : Refuses (level 0 s p) r = out_of_frame (λ l. Refuses l r) s p.style g.style p.frames.stack.items others (frame.Row e at context row) (elements_of p) at_row led in
        record {
          style = g.style ∙ ap style_of (sym same);
          claims = rw told (all_refuse r s (reverse p.frames.stack.items) (elements_of p) here);
        }
