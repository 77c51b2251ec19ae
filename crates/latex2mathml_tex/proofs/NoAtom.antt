-- Where no atom begins in a row: its ending is there, the text ends, or what is there is not a unit.
use Rattle.std.specs.Prelude.{⊤}
use Rattle.std.proofs.Common.{◌≡◌, refl, ◌∙◌, ℕ, suc, ◌+◌, ◌≤◌, true, Some, List, length, reverse, sum_by, Result, sym, ap, arith, subst}
use Rattle.std.proofs.lemmas.{Bool.and_parts, List.Sums.sum_by_push}
use Rattle.std.specs.declared.alloc.AllocError.{AllocError}
use Rattle.latex2mathml_tex_grammar.specs.{Next.past_space, Reading.Refused, Refusal.Refusal}
use Rattle.latex2mathml_tex_grammar.specs.Starts.{ends, left_behind}
use Rattle.latex2mathml_tex_grammar.specs.Units.{Unit, Units, Next, End, Stop}
use Rattle.latex2mathml_tex_units.specs.{Errors.refusal_of, Left.put_back, Left.unit_count, Left.units_at, Taking.piece_of, Taking.unit_of}
use Rattle.latex2mathml_tex_commands.specs.Meanings.{style_of}
use Rattle.latex2mathml_tex.specs.Frames.{Start, Whole, element_count, ending_count, ending_of, within}
use Rattle.latex2mathml_tex.specs.Innermost.{IsInnermost, none_begun, on_top}
use Rattle.latex2mathml_tex.specs.Levels.{Leads, Level, Refuses}
use Rattle.latex2mathml_tex_atoms.specs.Models.{row_count}
use Rattle.latex2mathml_tex.specs.Steps.{Awaits, CanMake, EndsRow, EndsText, HasElements, Holds, IsLeft, Advances, core_made, elements_of, ending_weight, frame_weight, left_of, row_makes}
use Rattle.latex2mathml_tex_units.specs.declared.{input.Input.Input, unit.Next.Next as CodeNext, unit.Unit.Unit as CodeUnit}
use Rattle.latex2mathml_tex_commands.specs.declared.meaning.Style.{Style}
use Rattle.latex2mathml_tex_atoms.specs.declared.{atoms.Context.Context, atoms.Row.Row as CodeRow}
use Rattle.latex2mathml_tex.specs.declared.{parse.Parser.Parser, parse.State.State}
use Rattle.latex2mathml_tex_units.specs.declared.unit.Next.TheVariants as next
use Rattle.latex2mathml_tex.specs.declared.parse.State.TheVariants as state
use Rattle.latex2mathml_tex.specs.declared.parse.endings.Ending.{Ending}
use Rattle.latex2mathml_tex.specs.declared.parse.frames.{Frame.Frame, Frames.Frames}
use Rattle.latex2mathml_tex.specs.declared.parse.endings.Ending.TheVariants as ending
use Rattle.latex2mathml_tex.specs.declared.parse.frames.Frame.TheVariants as frame
use Rattle.latex2mathml_tex_grammar.proofs.Spaces.{next_stays}
use Rattle.latex2mathml_tex.proofs.Leading.{row_ended, row_ends_text, row_stopped, row_unended}
use Rattle.latex2mathml_tex_grammar.proofs.Shrinking.{no_more_past_space}
use Rattle.latex2mathml_tex.proofs.{Marks.all_refuse, Opening.into_frame, Opening.out_of_frame, Rows.others_await, Rows.step_within, Rows.weighed, Wording.one_innermost}

-- the elements of a row and of the frames around it are among those of all frames
pub elements_left : (style : Style) (fs others : List Frame) (e : Ending) (place : ℕ) (c : Context) (row : CodeRow) (n : ℕ) → IsInnermost style fs (frame.Row e place c row) others → sum_by element_count fs + 0 ≤ n → sum_by element_count others + (row_count row + ending_count e) ≤ n
elements_left style fs others e place c row n (none_begun h k g) enough =
    let none : row_count row + ending_count e ≡ 0 = ap element_count g in
    let brought : sum_by element_count others ≡ 0 = ap (sum_by element_count) k in
    omega (arith, none, brought)
elements_left style fs others e place c row n (on_top h) enough =
    let brought : sum_by element_count fs ≡ sum_by element_count others + (row_count row + ending_count e) = ap (sum_by element_count) h ∙ sum_by_push element_count others (frame.Row e place c row) in
    omega (arith, brought, enough)

-- the frames around the innermost one bring no more than all frames
pub frames_left : (style : Style) (fs others : List Frame) (f : Frame) → IsInnermost style fs f others → sum_by frame_weight others ≤ sum_by frame_weight fs
frames_left style fs others f (none_begun h k g) = let brought : sum_by frame_weight others ≡ 0 = ap (sum_by frame_weight) k in omega (arith, brought)
frames_left style fs others f (on_top h) =
    let brought : sum_by frame_weight fs ≡ sum_by frame_weight others + frame_weight f = ap (sum_by frame_weight) h ∙ sum_by_push frame_weight others f in
    omega (arith, brought)

-- what a row leaves after its end
is_left : (e : Ending) (place : ℕ) (u : CodeUnit) (l m : Units) → past_space l ≡ Next (unit_of u) m → IsLeft e u (left_behind (ending_of e place) (unit_of u) m) m
is_left (ending.Cell t) place u l m next = next_stays l (unit_of u) m next
is_left ending.Text place u l m next = refl
is_left ending.Group place u l m next = refl
is_left ending.Operand place u l m next = refl
is_left ending.Degree place u l m next = refl
is_left ending.BelowArrow place u l m next = refl
is_left (ending.Delimiters opening) place u l m next = refl
is_left (ending.Formula n) place u l m next = refl
is_left (ending.FirstLabel k) place u l m next = next_stays l (unit_of u) m next
is_left (ending.SecondLabel k) place u l m next = next_stays l (unit_of u) m next

module _ (p : Parser) (e : Ending) (place : ℕ) (row : CodeRow) (c : Context) (others : List Frame) (inner : IsInnermost p.style p.frames.stack.items (frame.Row e place c row) others) where
  module _ (s : Start) (h : Holds s p state.Next) where
    abbrev in_row : (Level → Type 0) → Type 0
    in_row P = P (within s others (frame.Row e place c row) (elements_of p))

    -- what is due leads to the atoms after the row
    atoms_due : in_row (λ l. Leads l (left_of p))
    atoms_due = into_frame (λ l. Leads l (left_of p)) s p.style h.style p.frames.stack.items others (frame.Row e place c row) (elements_of p) inner h.claims

    -- what is refused in the row is refused as a whole
    refused_within : (r : Refusal) → in_row (λ l. Refuses l r) → Whole s (Refused r)
    refused_within r k = all_refuse r s (reverse p.frames.stack.items) (elements_of p) (out_of_frame (λ l. Refuses l r) s p.style h.style p.frames.stack.items others (frame.Row e place c row) (elements_of p) inner k)

    pub no_unit_there : (q : Parser) (r : Refusal) → past_space (left_of p) ≡ Stop r → q.style ≡ p.style → refusal_of q.refusal ≡ Some r → Holds s q state.Refused
    no_unit_there q r stop f g = record { style = h.style ∙ ap style_of (sym f); claims = rw g (refused_within r (row_stopped stop atoms_due)) }

    -- the frame that was taken off is that of the row
    begun : (fr : Frames) (f : Frame) → IsInnermost p.style p.frames.stack.items f fr.stack.items → Leads (within s fr.stack.items (frame.Row e place c row) (elements_of p)) (left_of p)
    begun fr f taken =
        let fs = p.frames.stack.items in
        let same : f ≡ frame.Row e place c row = one_innermost p.style fs fr.stack.items others f (frame.Row e place c row) taken inner in
        let at_row = subst (λ f. IsInnermost p.style fs f fr.stack.items) same taken in
        into_frame (λ l. Leads l (left_of p)) s p.style h.style fs fr.stack.items (frame.Row e place c row) (elements_of p) at_row h.claims

    pub text_ended : (i : Input) (fr : Frames) (f : Frame) (at : ℕ) → IsInnermost p.style p.frames.stack.items f fr.stack.items → past_space (left_of p) ≡ End at → units_at i ≡ End at → EndsText e place c.style row at s (record p { input = i; frames = fr })
    text_ended i fr f at taken end units = record {
      same_style = h.style;
      ends = λ whole. record { same_style = h.style; left = units; leads = row_ends_text end whole (begun fr f taken) };
      refuses = λ r one. refused_within r (row_unended end one atoms_due);
    }

    pub row_closed : (i : Input) (fr : Frames) (f : Frame) (u : CodeUnit) → IsInnermost p.style p.frames.stack.items f fr.stack.items → past_space (left_of p) ≡ Next (unit_of u) (units_at i) → true ≡ ends (ending_of e place) (piece_of u.piece) → EndsRow e place c.style row u s (record p { input = i; frames = fr })
    row_closed i fr f u taken next is = record {
      same_style = h.style;
      rest = left_behind (ending_of e place) (unit_of u) (units_at i);
      left = is_left e place u (left_of p) (units_at i) next;
      leads = row_ended next (sym is) (begun fr f taken);
    }

  -- without its frame, the row can be given to what it was started for
  pub row_can_close : (i : Input) (fr : Frames) (f : Frame) → IsInnermost p.style p.frames.stack.items f fr.stack.items → HasElements 0 p → Awaits core_made p → CanMake (row_makes e) (row_count row + ending_count e) (record p { input = i; frames = fr })
  row_can_close i fr f taken enough awaits =
      let fs = p.frames.stack.items in
      let same : f ≡ frame.Row e place c row = one_innermost p.style fs fr.stack.items others f (frame.Row e place c row) taken inner in
      let at_row = subst (λ f. IsInnermost p.style fs f fr.stack.items) same taken in
      let nested = and_parts _ _ (others_await p.style fs fr.stack.items e place c row at_row awaits.nested) in
      record {
        elements = elements_left p.style fs fr.stack.items e place c row (length (elements_of p)) at_row enough;
        awaits = record { accepted = nested.0; nested = nested.1 };
      }

  -- less is left to do where the text ends, and the row's frame is taken off
  pub ended_step : (i : Input) (fr : Frames) (f : Frame) (new : Parser) (st : State) (answer : Result ⊤ AllocError) → IsInnermost p.style p.frames.stack.items f fr.stack.items → units_at i ≡ past_space (left_of p) → Advances (ending_weight e + 1) (record p { input = i; frames = fr }) new st answer → Advances 1 p new st answer
  ended_step i fr f new st answer taken units step =
      let fs = p.frames.stack.items in
      let same : f ≡ frame.Row e place c row = one_innermost p.style fs fr.stack.items others f (frame.Row e place c row) taken inner in
      let at_row = subst (λ f. IsInnermost p.style fs f fr.stack.items) same taken in
      let brought = weighed p.style fs fr.stack.items (frame.Row e place c row) at_row in
      let fewer : unit_count (units_at i) ≤ unit_count (left_of p) = rw units (no_more_past_space (left_of p)) in
      step_within p (record p { input = i; frames = fr }) new st answer (ending_weight e + 1) 1 (omega (arith, fewer, brought)) step

-- a unit that comes next, after any white space
pub unit_next : (l m w : Units) (n : CodeNext) (u : CodeUnit) → w ≡ past_space l → w ≡ put_back n m → n ≡ next.Unit u → past_space l ≡ Next (unit_of u) m
unit_next l m w n u space behind is = sym space ∙ behind ∙ ap (λ n. put_back n m) is

-- less is left to do where a unit is taken, and where the row's frame is taken off
pub unit_step : (p : Parser) (i : Input) (u : Unit) (new : Parser) (st : State) (answer : Result ⊤ AllocError) → past_space (left_of p) ≡ Next u (units_at i) → Advances 13 (record p { input = i }) new st answer → Advances 1 p new st answer
unit_step p i u new st answer next step =
    let one : unit_count (past_space (left_of p)) ≡ suc (unit_count (units_at i)) = ap unit_count next in
    let space = no_more_past_space (left_of p) in
    step_within p (record p { input = i }) new st answer 13 1 (omega (arith, one, space)) step

pub closing_step : (p : Parser) (i : Input) (fr : Frames) (f : Frame) (u : Unit) (new : Parser) (st : State) (answer : Result ⊤ AllocError) → IsInnermost p.style p.frames.stack.items f fr.stack.items → past_space (left_of p) ≡ Next u (units_at i) → Advances 13 (record p { input = i; frames = fr }) new st answer → Advances 1 p new st answer
closing_step p i fr f u new st answer taken next step =
    let one : unit_count (past_space (left_of p)) ≡ suc (unit_count (units_at i)) = ap unit_count next in
    let space = no_more_past_space (left_of p) in
    let fewer = frames_left p.style p.frames.stack.items fr.stack.items f taken in
    step_within p (record p { input = i; frames = fr }) new st answer 13 1 (omega (arith, one, space, fewer)) step
