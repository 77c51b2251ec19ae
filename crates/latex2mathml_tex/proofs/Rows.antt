-- What holds of the parser where an atom is put after a row.
use Rattle.std.specs.Prelude.{⊤}
use Rattle.std.proofs.Common.{◌≡◌, ℕ, ◌+◌, ◌-◌, ◌<◌, ◌≤◌, ◌&&◌, ◌++◌, Bool, true, false, sum_by, Some, None, Result, Ok, Err, IsTrue, List, [], ◌∷◌, drop, length, refl, sym, ap, ◌∙◌, subst, arith, reverse}
use Rattle.std.proofs.lemmas.{List.drop-drop, List.length-drop, List.reverse-append, List.Sums.sum_by_push}
use Rattle.latex2mathml_elements.specs.Element.{Element}
use Rattle.latex2mathml_builder.specs.Built.{Built, elements_in}
use Rattle.latex2mathml_tex_grammar.specs.{Atoms.Atom, Delimiters.delimiter_of, Makes.core, Makes.divider, Makes.no_scripts, Meaning.Beside, Rules.gives, Starts.empty_base, Units.Units}
use Rattle.latex2mathml_tex_grammar.specs.Next.{next_are, past_space, refusal_here}
use Rattle.latex2mathml_tex_grammar.specs.Refusal.{MissingDelimiter, Refusal}
use Rattle.latex2mathml_tex_grammar.specs.Reading.{Outcome, Read, ReadsAtoms}
use Rattle.latex2mathml_tex_grammar.specs.Rows.{Row, row_element, with_atom}
use Rattle.latex2mathml_tex_units.specs.{Errors.refusal_of, Left.unit_count, Left.units_at}
use Rattle.latex2mathml_tex.specs.Frames.{RowMade, Start, base_of, element_count, ending_count, ending_of, inside, within}
use Rattle.latex2mathml_tex.specs.Innermost.{IsInnermost, frame_row, none_begun, on_top}
use Rattle.latex2mathml_tex.specs.Levels.{AtomMade, Leads, Refuses}
use Rattle.latex2mathml_tex_commands.specs.Meanings.{style_of}
use Rattle.latex2mathml_tex_atoms.specs.Models.{before_of, context_of, core_with, row_count, row_rest, row_with, script_count, scripts_with, top}
use Rattle.latex2mathml_tex.specs.Steps.{Awaits, BeginsDivider, CanMake, Follows, HasElements, Holds, Advances, MadeAtom, TookMark, accepts, are_nested, atom_made, core_made, elements_of, first_accepts, frame_weight, left_of, level, row_makes, to_do}
use Rattle.std.specs.declared.alloc.AllocError.{AllocError}
use Rattle.latex2mathml_tex_units.specs.declared.{error.TexError.TexError, input.Input.Input}
use Rattle.latex2mathml_tex_commands.specs.declared.meaning.Style.{Style}
use Rattle.latex2mathml_tex_atoms.specs.declared.{atoms.Before.Before as CodeBefore, atoms.Context.Context, atoms.Core.Core as CodeCore, atoms.Row.Row as CodeRow, atoms.Scripts.Scripts as CodeScripts}
use Rattle.latex2mathml_tex.specs.declared.{parse.Parser.Parser, parse.State.State, parse.scripts.Mark.Mark}
use Rattle.latex2mathml_tex_atoms.specs.declared.heights.Height.TheVariants as code_height
use Rattle.latex2mathml_tex_atoms.specs.declared.atoms.Kind.TheVariants as kind
use Rattle.latex2mathml_tex_commands.specs.declared.meaning.Class.TheVariants as class
use Rattle.latex2mathml_tex_commands.specs.declared.meaning.LimitPlace.TheVariants as code_place
use Rattle.latex2mathml_tex.specs.declared.parse.State.TheVariants as state
use Rattle.latex2mathml_tex.specs.declared.parse.endings.Ending.{Ending}
use Rattle.latex2mathml_tex.specs.declared.parse.frames.Frame.{Frame}
use Rattle.latex2mathml_tex.specs.declared.parse.endings.Ending.TheVariants as ending
use Rattle.latex2mathml_tex.specs.declared.parse.frames.Frame.TheVariants as frame
use Rattle.latex2mathml_tex.proofs.Leading.{delimited, given, undelimited}
use Rattle.latex2mathml_tex.proofs.Marks.{all_refuse, atom_refuses}
use Rattle.latex2mathml_tex_grammar.specs.Makes.{Scripts, scripted}
use Rattle.latex2mathml_tex_grammar.specs.Starts.{mark_of, step_next, step_of_mark}
use Rattle.latex2mathml_tex_units.specs.{Left.put_back, Taking.piece_of}
use Rattle.latex2mathml_tex.specs.{Frames.before_at, Frames.context_at, Innermost.frame_context, Steps.InnermostIs}
use Rattle.latex2mathml_tex.specs.Levels.{Level, ScriptsLead}
use Rattle.latex2mathml_tex.specs.Levels as levels
use Rattle.latex2mathml_tex_units.specs.declared.unit.{Next.Next as CodeNext, Unit.Unit as CodeUnit}
use Rattle.latex2mathml_tex_units.specs.declared.unit.Next.TheVariants as next
use Rattle.latex2mathml_tex.proofs.Leading.{scripts_ended}
use Rattle.latex2mathml_tex.proofs.Opening.{before_is, context_is, into_frame, out_of_frame}
use Rattle.latex2mathml_tex.specs.{Innermost.IsLonger, declared.parse.frames.Frames.Frames}

-- A row with an atom after it

-- a row with an atom after it is as long as it was, except for its atoms
count_longer : (row longer : CodeRow) (xs ys : List Element) → drop longer.count ys ≡ drop (row.count + 1) xs → row_rest longer ≡ row_rest row → drop (row_count longer) ys ≡ drop (row_count row) (drop 1 xs)
count_longer row longer xs ys below rest =
    let swap : row.count + 1 ≡ 1 + row.count = omega arith in
    let own : drop longer.count ys ≡ drop row.count (drop 1 xs) = below ∙ ap (λ n. drop n xs) swap ∙ sym (drop-drop row.count 1 xs) in
    sym (drop-drop (row_rest longer) longer.count ys) ∙ ap (λ n. drop n (drop longer.count ys)) rest ∙ ap (drop (row_rest row)) own ∙ drop-drop (row_rest row) row.count (drop 1 xs)

module _ (s : Start) (fs : List Frame) (e : Ending) (place : ℕ) (context : Context) (row longer : CodeRow) (a : Atom) (xs ys : List Element) (m : Units) where
  abbrev AllLead : Row → List Element → List Element → Type 0
  AllLead r own others = (o : Outcome Row) → ReadsAtoms (ending_of e place) (context_of context) r m o → RowMade s e place own (inside s fs others) o

  pub row_longer : row_with longer ys ≡ with_atom (style_of context.style) (row_with row (drop 1 xs)) a → drop longer.count ys ≡ drop (row.count + 1) xs → row_rest longer ≡ row_rest row → AtomMade (within s fs (frame.Row e place context row) (drop 1 xs)) (Read a m) → Leads (within s fs (frame.Row e place context longer) ys) m
  row_longer made below rest k =
      let own : drop (row_count longer) ys ≡ drop (row_count row) (drop 1 xs) = count_longer row longer xs ys below rest in
      let others : drop (row_count longer + ending_count e) ys ≡ drop (row_count row + ending_count e) (drop 1 xs) =
      sym (drop-drop (ending_count e) (row_count longer) ys) ∙ ap (drop (ending_count e)) own ∙ drop-drop (ending_count e) (row_count row) (drop 1 xs) in
      subst (λ r. AllLead r (drop (row_count longer) ys) (drop (row_count longer + ending_count e) ys)) (sym made)
      (subst (λ zs. AllLead (with_atom (style_of context.style) (row_with row (drop 1 xs)) a) zs (drop (row_count longer + ending_count e) ys)) (sym own)
      (subst (λ zs. AllLead (with_atom (style_of context.style) (row_with row (drop 1 xs)) a) (drop (row_count row) (drop 1 xs)) zs) (sym others) k))

pub atom_put : (s : Start) (p : Parser) (f : Frame) (others : List Frame) (e : Ending) (place : ℕ) (context : Context) (row longer : CodeRow) (c : CodeCore) (ys : List Element) → IsInnermost p.style p.frames.stack.items f others → f ≡ frame.Row e place context row → row_with longer ys ≡ with_atom (style_of context.style) (row_with row (drop 1 (elements_of p))) (core_with c (top (elements_of p))).atom → drop longer.count ys ≡ drop (row.count + 1) (elements_of p) → row_rest longer ≡ row_rest row → MadeAtom c s p → Leads (within s others (frame.Row e place context longer) ys) (left_of p)
atom_put s p f others e place context row longer c ys i is made below rest g =
    let a = (core_with c (top (elements_of p))).atom in
    let xs = drop 1 (elements_of p) in
    let within_f = into_frame (λ l. AtomMade l (Read a (left_of p))) s p.style g.style p.frames.stack.items others f xs i g.leads in
    row_longer s others e place context row longer a (elements_of p) ys (left_of p) made below rest (subst (λ f. AtomMade (within s others f xs) (Read a (left_of p))) is within_f)

-- a frame that waits for an atom is a row
is_row : (f : Frame) → IsTrue (accepts atom_made f) → (e : Ending) × ((place : ℕ) × ((c : Context) × ((row : CodeRow) × (f ≡ frame.Row e place c row))))
is_row (frame.Row e place c row) waits = (e, (place, (c, (row, refl))))
is_row f waits = absurd (cc)

innermost_accepts : (style : Style) (fs others : List Frame) (f : Frame) → IsInnermost style fs f others → IsTrue (first_accepts atom_made (reverse fs)) → IsTrue (accepts atom_made f)
innermost_accepts style fs others f (none_begun h k is) waits = rw is search
innermost_accepts style fs others f (on_top h) waits = subst (λ l. IsTrue (first_accepts atom_made l)) (reverse-append others (f ∷ [])) (rw h at waits)

-- the innermost frame is a row, where an atom is due
pub row_there : (p : Parser) (r : Context × CodeRow) → (f : Frame) × ((others : List Frame) × (IsInnermost p.style p.frames.stack.items f others × (r ≡ frame_row f))) → Awaits atom_made p → (e : Ending) × ((place : ℕ) × ((others : List Frame) × IsInnermost p.style p.frames.stack.items (frame.Row e place r.0 r.1) others))
row_there p r (f, (others, (i, is))) waits =
    let row = is_row f (innermost_accepts p.style p.frames.stack.items others f i waits.accepted) in
    let there : (row.1.1.0, row.1.1.1.0) ≡ r = sym (is ∙ ap frame_row row.1.1.1.1) in
    let same : f ≡ frame.Row row.0 row.1.0 r.0 r.1 = row.1.1.1.1 ∙ ap (λ q. frame.Row row.0 row.1.0 q.0 q.1) there in
    (row.0, (row.1.0, (others, subst (λ f. IsInnermost p.style p.frames.stack.items f others) same i)))

-- the frame of a row that was taken off can be put back with another row
pub others_await : (style : Style) (fs others : List Frame) (e : Ending) (place : ℕ) (context : Context) (row : CodeRow) → IsInnermost style fs (frame.Row e place context row) others → IsTrue (are_nested (reverse fs)) → IsTrue (first_accepts (row_makes e) (reverse others) && are_nested (reverse others))
others_await style fs others e place context row (none_begun h k g) nested = rw k (cc)
others_await style fs others e place context row (on_top h) nested = subst (λ l. IsTrue (are_nested l)) (reverse-append others (frame.Row e place context row ∷ [])) (rw h at nested)

both : (a b : Bool) → IsTrue (a && b) → IsTrue a × IsTrue b
both true true h = (h, h)
both true false h = absurd (cc)
both false b h = absurd (cc)

-- there are elements for another row in place of the one that was taken off
pub others_counted : (style : Style) (fs others : List Frame) (e : Ending) (place : ℕ) (context : Context) (row longer : CodeRow) (xs ys : List Element) → IsInnermost style fs (frame.Row e place context row) others → sum_by element_count fs + 1 ≤ length xs → drop longer.count ys ≡ drop (row.count + 1) xs → row_rest longer ≡ row_rest row → longer.count ≤ length ys → sum_by element_count others + (row_count longer + ending_count e) ≤ length ys
others_counted style fs others e place context row longer xs ys (none_begun h k g) enough below rest there =
    let none : row_count row + ending_count e ≡ 0 = ap element_count g in
    let brought : sum_by element_count others ≡ 0 = ap (sum_by element_count) k in
    omega (arith, none, brought, rest, there)
others_counted style fs others e place context row longer xs ys (on_top h) enough below rest there =
    let left : length ys - longer.count ≡ length xs - (row.count + 1) = sym (length-drop longer.count ys) ∙ ap length below ∙ length-drop (row.count + 1) xs in
    let brought : sum_by element_count fs ≡ sum_by element_count others + (row_count row + ending_count e) = ap (sum_by element_count) h ∙ sum_by_push element_count others (frame.Row e place context row) in
    omega (arith, left, brought, enough, rest, there)

frame_same : (e : Ending) (place : ℕ) (context : Context) (row longer : CodeRow) → frame_weight (frame.Row e place context longer) ≡ frame_weight (frame.Row e place context row)
frame_same ending.Text place context row longer = refl
frame_same e place context row longer = refl

pub weighed : (style : Style) (fs others : List Frame) (f : Frame) → IsInnermost style fs f others → sum_by frame_weight fs ≡ sum_by frame_weight others + frame_weight f
weighed style fs others f (none_begun h k g) = rw (h, k, g) refl
weighed style fs others f (on_top h) = ap (sum_by frame_weight) h ∙ sum_by_push frame_weight others f

-- a row is put back in place of the other one
pub row_put_back : (p q : Parser) (f : Frame) (others : List Frame) (e : Ending) (place : ℕ) (context : Context) (row longer : CodeRow) → IsInnermost p.style p.frames.stack.items f others → f ≡ frame.Row e place context row → CanMake atom_made 1 p → drop longer.count (elements_of q) ≡ drop (row.count + 1) (elements_of p) → row_rest longer ≡ row_rest row → longer.count ≤ length (elements_of q) → q.frames.stack.items ≡ others ++ frame.Row e place context longer ∷ [] → left_of q ≡ left_of p → Follows (to_do p + 2) q state.Next
row_put_back p q f others e place context row longer i is can below rest there items left =
    let back = frame.Row e place context longer in
    let inner : IsInnermost p.style p.frames.stack.items (frame.Row e place context row) others = subst (λ f. IsInnermost p.style p.frames.stack.items f others) is i in
    let nested = others_await p.style p.frames.stack.items others e place context row inner can.awaits.nested in
    let counted = others_counted p.style p.frames.stack.items others e place context row longer (elements_of p) (elements_of q) inner can.elements below rest there in
    let brought : sum_by element_count q.frames.stack.items ≡ sum_by element_count others + (row_count longer + ending_count e) = ap (sum_by element_count) items ∙ sum_by_push element_count others back in
    let after : sum_by frame_weight q.frames.stack.items ≡ sum_by frame_weight others + frame_weight back = ap (sum_by frame_weight) items ∙ sum_by_push frame_weight others back in
    let before = weighed p.style p.frames.stack.items others (frame.Row e place context row) inner in
    let same = frame_same e place context row longer in
    let units : unit_count (left_of q) ≡ unit_count (left_of p) = ap unit_count left in
    let turned : reverse q.frames.stack.items ≡ back ∷ reverse others = ap reverse items ∙ reverse-append others (back ∷ []) in
    record {
      ready = record {
        elements = omega (arith, brought, counted);
        may_come = record { accepted = subst (λ l. IsTrue (first_accepts core_made l)) (sym turned) search; nested = subst (λ l. IsTrue (are_nested l)) (sym turned) nested };
      };
      falls = omega (arith, after, before, same, units);
    }

-- an atom is added in place to the row of the innermost frame
module _ (p : Parser) (fr : Frames) (core : CodeCore) (is : IsLonger core p.frames.stack.items fr.stack.items) (can : CanMake atom_made 1 p) where
  inner : IsInnermost p.style p.frames.stack.items (frame.Row is.ending is.place is.context is.row) is.others
  inner = on_top is.before

  enough : is.row.count + 1 ≤ length (elements_of p)
  enough =
      let brought : sum_by element_count p.frames.stack.items ≡ sum_by element_count is.others + (row_count is.row + ending_count is.ending) = ap (sum_by element_count) is.before ∙ sum_by_push element_count is.others (frame.Row is.ending is.place is.context is.row) in
      omega (arith, brought, can.elements)

  below : drop is.longer.count (elements_of p) ≡ drop (is.row.count + 1) (elements_of p)
  below = ap (λ n. drop n (elements_of p)) is.added.count

  pub row_added : (s : Start) → MadeAtom core s p → Holds s (record p { frames = fr }) state.Next
  row_added s g =
      let leads = atom_put s p (frame.Row is.ending is.place is.context is.row) is.others is.ending is.place is.context is.row is.longer core (elements_of p) inner refl (is.added.row (elements_of p) enough) below is.added.rest g in
      record {
        style = g.style;
        claims = out_of_frame (λ l. Leads l (left_of p)) s p.style g.style fr.stack.items is.others (frame.Row is.ending is.place is.context is.longer) (elements_of p) (on_top is.after) leads;
      }

  pub row_added_step : Follows (to_do p + 2) (record p { frames = fr }) state.Next
  row_added_step = row_put_back p (record p { frames = fr }) (frame.Row is.ending is.place is.context is.row) is.others is.ending is.place is.context is.row is.longer inner refl can below is.added.rest (omega (arith, is.added.count, enough)) is.after refl

-- What is refused

module _ (p q : Parser) (i : Input) (error : TexError) (st : State) (same : q ≡ record p { input = i; refusal = error }) (is : st ≡ state.Refused) where
  pub refused_within : (m : ℕ) → 0 < m → unit_count (units_at i) ≤ unit_count (left_of p) → HasElements 0 p → Follows (to_do p + m) q st
  refused_within m some less enough =
      subst (λ q. Follows (to_do p + m) q st) (sym same) (subst (λ t. Follows (to_do p + m) (record p { input = i; refusal = error }) t) (sym is)
      (record { ready = record { elements = enough; may_come = search }; falls = omega (arith, less, some) }))

  pub refused_step : unit_count (units_at i) ≤ unit_count (left_of p) → HasElements 0 p → Follows (to_do p + 13) q st
  refused_step = refused_within 13 (omega arith)

  pub refused_here : (s : Start) (r : Refusal) → refusal_of error ≡ Some r → s.style ≡ style_of p.style → Refuses (level 0 s p) r → Holds s q st
  refused_here s r e style k =
      subst (λ q. Holds s q st) (sym same) (subst (λ t. Holds s (record p { input = i; refusal = error }) t) (sym is)
      (record { style = style; claims = rw e (all_refuse r s (reverse p.frames.stack.items) (elements_of p) k) }))

-- a step that does no more
pub step_within : (old q new : Parser) (st : State) (answer : Result ⊤ AllocError) (n m : ℕ) → to_do q + n ≤ to_do old + m → Advances n q new st answer → Advances m old new st answer
step_within old q new st (Ok u) n m h f = record { ready = f.ready; falls = omega (arith, f.falls, h) }
step_within old q new st (Err e) n m h f = f

-- Delimiters within others

pub no_divider : (s : Start) (p : Parser) → next_are (delimiter_of ∷ []) (left_of p) ≡ None → BeginsDivider s p → Refuses (level 0 s p) (refusal_here MissingDelimiter (past_space (left_of p)))
no_divider s p e g = atom_refuses (refusal_here MissingDelimiter (past_space (left_of p))) (level 0 s p) (undelimited e g.leads)

pub divider_put : (s : Start) (p : Parser) (i : Input) (b : Built) (c : CodeCore) (text : List ℕ) → next_are (delimiter_of ∷ []) (left_of p) ≡ Some (text, units_at i) → elements_in b ≡ (divider text).element ∷ elements_of p → c ≡ record { kind = kind.Divider; height = code_height.Low; limits = code_place.Beside } → BeginsDivider s p → MadeAtom c s (record p { input = i; builder = b })
divider_put s p i b c text e put is g = record {
  style = g.style;
  leads = rw (put, is) (given (delimited (λ text. gives (core (divider text))) e g.leads));
}

-- Scripts whose base is a row without atoms

pub mark_begins : (s : Start) (p : Parser) (b : Built) (m : Mark) (place : ℕ) (c : CodeCore) (scripts : CodeScripts) → elements_in b ≡ row_element [] ∷ elements_of p → c ≡ record { kind = kind.Plain class.Ordinary; height = code_height.Low; limits = code_place.Beside } → scripts ≡ record { primes = 0; below = false; above = false; is_exchanged = false; limits = code_place.Beside; takes_limits = false; height = code_height.Low } → TookMark m place (level 0 s p) empty_base (no_scripts empty_base.kind Beside) s p → TookMark m place (inside s p.frames.stack.items (drop (script_count scripts + 1) (elements_in b))) (base_of c scripts (elements_in b)).atom (scripts_with scripts (elements_in b)) s (record p { builder = b })
mark_begins s p b m place c scripts put is none g = record {
  style = g.style;
  before = g.before;
  unit = g.unit;
  next = g.next;
  is = g.is;
  at = g.at;
  leads = rw (put, is, none) g.leads;
}

-- After an atom with its scripts

no_step : (scripts : Scripts) (n : CodeNext) (l w : Units) → w ≡ put_back n l → ((u : CodeUnit) → n ≡ next.Unit u → mark_of (piece_of u.piece) ≡ None) → step_next scripts w ≡ None
no_step scripts (next.Unit u) l w e h = rw e (ap (step_of_mark scripts) (h u refl))
no_step scripts (next.End place) l w e h = rw e refl
no_step scripts (next.Fault fault place) l w e h = rw e refl

ended : (l : Level) (base : Atom) (scripts : Scripts) (m : Units) → step_next scripts (past_space m) ≡ None → ScriptsLead l base scripts m → AtomMade l (Read (scripted (context_at l).style (before_at l) base scripts) m)
ended (levels.row e c xs K) base scripts m h k = scripts_ended e c xs K h k
ended l base scripts m h k = absurd k

pub scripts_made : (s : Start) (p : Parser) (b : Built) (c made : CodeCore) (scripts : CodeScripts) (f : Frame) (style : Style) (before : CodeBefore) (n : CodeNext) (l : Units) → style ≡ (frame_context f).style → before ≡ (frame_row f).1.before → InnermostIs f p → past_space (left_of p) ≡ put_back n l → ((u : CodeUnit) → n ≡ next.Unit u → mark_of (piece_of u.piece) ≡ None) → (core_with made (top (elements_in b))).atom ≡ scripted (style_of style) (before_of before) (base_of c scripts (elements_of p)).atom (scripts_with scripts (elements_of p)) → drop 1 (elements_in b) ≡ drop (script_count scripts + 1) (elements_of p) → Holds s p (state.Atom c scripts) → MadeAtom made s (record p { builder = b })
scripts_made s p b c made scripts f style before n l is follows inner seen none atom below g =
    let fs = p.frames.stack.items in
    let at = level (script_count scripts + 1) s p in
    let base = (base_of c scripts (elements_of p)).atom in
    let read = scripts_with scripts (elements_of p) in
    let below_it = drop (script_count scripts + 1) (elements_of p) in
    let same = ap style_of is ∙ ap (λ c. c.style) (context_is s p.style fs f below_it g.style inner) in
    let same_before = ap before_of follows ∙ before_is s p.style fs f below_it g.style inner in
    let k = ended at base read (left_of p) (no_step read n l (past_space (left_of p)) seen none) g.claims in
    let in_style = subst (λ st. AtomMade at (Read (scripted st (before_of before) base read) (left_of p))) (sym same) (subst (λ b. AtomMade at (Read (scripted (context_at at).style b base read) (left_of p))) (sym same_before) k) in
    record {
      style = g.style;
      leads = subst (λ a. AtomMade (inside s fs (drop 1 (elements_in b))) (Read a (left_of p))) (sym atom) (subst (λ zs. AtomMade (inside s fs zs) (Read (scripted (style_of style) (before_of before) base read) (left_of p))) (sym below) in_style);
    }
