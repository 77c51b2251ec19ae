-- Where an operand, and an atom without scripts, lead within the innermost frame.
use Rattle.std.proofs.Common.{◌≡◌, ◌⊎◌, inl, inr, ℕ, ◌+◌, ◌-◌, ◌≤◌, false, IsTrue, List, [], ◌∷◌, drop, take, length, reverse, refl, sym, ap, ◌∙◌, subst, arith, pos}
use Rattle.std.proofs.lemmas.List.{drop-drop, length-drop, length-take, reverse-append}
use Rattle.latex2mathml_elements.specs.Element.{Element}
use Rattle.latex2mathml_builder.specs.Built.{Built, elements_in}
use Rattle.latex2mathml_attributes.specs.declared.attributes.Side.{Side}
use Rattle.latex2mathml_tex_grammar.specs.Atoms.{Atom, Blank, Kind, Nothing, gap}
use Rattle.latex2mathml_tex_grammar.specs.{Rules.gives, Makes.Core, Makes.no_scripts, Makes.takes_limits, Reading.Read, Symbols.Style, Units.Units}
use Rattle.latex2mathml_tex_grammar.specs.Rows.{empty_row, operand_of, row_element, single, with_atom}
use Rattle.latex2mathml_tex.specs.Frames.{ScriptMade, Start, after_first, context_at, first_count, inside, last_count, made_of, primes_put, within}
use Rattle.latex2mathml_tex.specs.Innermost.{IsInnermost, none_begun, on_top}
use Rattle.latex2mathml_tex.specs.Levels.{CoreMade, OperandMade, RuleLeads, ScriptsLead, Then}
use Rattle.latex2mathml_tex_commands.specs.Meanings.{style_of}
use Rattle.latex2mathml_tex_atoms.specs.declared.heights.Height.TheVariants as code_height
use Rattle.latex2mathml_tex_atoms.specs.Models.{context_of, core_with, kind_of, operand_with, row_with, script_count, top}
use Rattle.latex2mathml_tex.specs.Steps.{Begins, FirstRead, Follows, Holds, InnermostIs, Ready, TookScript, accepts, elements_of, first_accepts, left_of, operand_made, to_do}
use Rattle.latex2mathml_tex_commands.specs.declared.meaning.Style.{Style as CodeStyle}
use Rattle.latex2mathml_tex_atoms.specs.declared.{atoms.Context.Context, atoms.Core.Core as CodeCore, atoms.Operand.Operand as CodeOperand, atoms.Row.Row as CodeRow, atoms.Scripts.Scripts}
use Rattle.latex2mathml_tex.specs.declared.parse.Parser.{Parser}
use Rattle.latex2mathml_tex.specs.declared.parse.State.TheVariants as state
use Rattle.latex2mathml_tex.specs.Innermost.{frame_context}
use Rattle.latex2mathml_tex_commands.specs.declared.meaning.TextSize.{TextSize}
use Rattle.latex2mathml_tex.specs.declared.parse.endings.Ending.{Ending}
use Rattle.latex2mathml_tex.specs.declared.parse.frames.{First.First, Frame.Frame, Frames.Frames, Last.Last}
use Rattle.latex2mathml_tex.specs.declared.parse.frames.Frame.TheVariants as frame
use Rattle.latex2mathml_tex.proofs.Opening.{into_frame, out_of_frame}

-- the operand of a script, whose frame is taken off
pub script_taken : (s : Start) (p : Parser) (fr : Frames) (c : CodeCore) (scripts : Scripts) (on : Side) (place : ℕ) (context : Context) (operand : CodeOperand) → IsInnermost p.style p.frames.stack.items (frame.Script c scripts on place context) fr.stack.items → Holds s p (state.Operand operand) → TookScript c scripts on operand.height s (record p { frames = fr })
script_taken s p fr c scripts on place context operand i g =
    let xs = elements_of p in
    let own = primes_put on scripts.primes + (script_count scripts + 1) in
    let all = primes_put on scripts.primes + (script_count scripts + 2) in
    let read = Read (operand_with operand (top xs)) (left_of p) in
    let k = into_frame (λ l. OperandMade l read) s p.style g.style p.frames.stack.items fr.stack.items (frame.Script c scripts on place context) (drop 1 xs) i g.claims in
    let count : 1 + own ≡ all = omega arith in
    let others : drop own (drop 1 xs) ≡ drop all xs = drop-drop own 1 xs ∙ ap (λ n. drop n xs) count in
    record {
      style = g.style;
      leads = λ class. subst (λ ys. ScriptMade (inside s fr.stack.items ys) c scripts on (drop 1 xs) read) others k;
    }

-- the last operand of a command, whose frame is taken off
pub last_taken : (s : Start) (p : Parser) (fr : Frames) (last : Last) (place : ℕ) (context : Context) (operand : CodeOperand) → IsInnermost p.style p.frames.stack.items (frame.Last last place context) fr.stack.items → Holds s p (state.Operand operand) → Begins (gives (made_of last (drop 1 (elements_of p)) (operand_with operand (top (elements_of p))))) (last_count last + 1) s (record p { frames = fr })
last_taken s p fr last place context operand i g =
    let xs = elements_of p in
    let y = operand_with operand (top xs) in
    let k = into_frame (λ l. OperandMade l (Read y (left_of p))) s p.style g.style p.frames.stack.items fr.stack.items (frame.Last last place context) (drop 1 xs) i g.claims in
    let count : 1 + last_count last ≡ last_count last + 1 = omega arith in
    let others : drop (last_count last) (drop 1 xs) ≡ drop (last_count last + 1) xs = drop-drop (last_count last) 1 xs ∙ ap (λ n. drop n xs) count in
    record {
      style = g.style;
      leads = subst (λ ys. RuleLeads (gives (made_of last (drop 1 xs) y)) (CoreMade (inside s fr.stack.items ys)) (left_of p)) others k;
    }

-- an operand that others follow, whose frame is taken off
pub first_taken : (s : Start) (p : Parser) (fr : Frames) (one : First) (place : ℕ) (context : Context) (operand : CodeOperand) → IsInnermost p.style p.frames.stack.items (frame.First one place context) fr.stack.items → Holds s p (state.Operand operand) → FirstRead one place context operand s (record p { frames = fr })
first_taken s p fr one place context operand i g =
    let xs = elements_of p in
    let read = Read (operand_with operand (top xs)) (left_of p) in
    let k = into_frame (λ l. OperandMade l read) s p.style g.style p.frames.stack.items fr.stack.items (frame.First one place context) (drop 1 xs) i g.claims in
    let count : 1 + first_count one ≡ first_count one + 1 = omega arith in
    let others : drop (first_count one) (drop 1 xs) ≡ drop (first_count one + 1) xs = drop-drop (first_count one) 1 xs ∙ ap (λ n. drop n xs) count in
    record {
      style = g.style;
      leads = subst (λ ys. Then (after_first one place (context_of context) (context_at (inside s fr.stack.items ys)) (drop 1 xs)) (CoreMade (inside s fr.stack.items ys)) read) others k;
    }

-- Within a row scripts may follow the atom

pub core_in_row : (s : Start) (p : Parser) (c : CodeCore) (scripts : Scripts) (f : Frame) (e : Ending) (place : ℕ) (context : Context) (row : CodeRow) → InnermostIs f p → f ≡ frame.Row e place context row → scripts ≡ record { primes = 0; below = false; above = false; is_exchanged = false; limits = c.limits; takes_limits = takes_limits (kind_of c.kind); height = code_height.Low } → Holds s p (state.Core c) → Holds s p (state.Atom c scripts)
core_in_row s p c scripts f e place context row (others, i) is none g =
    let xs = drop 1 (elements_of p) in
    let fs = p.frames.stack.items in
    let inner = frame.Row e place context row in
    let x : Core = core_with c (top (elements_of p)) in
    let same : IsInnermost p.style fs inner others = subst (λ f. IsInnermost p.style fs f others) is i in
    let k = into_frame (λ l. CoreMade l (Read x (left_of p))) s p.style g.style fs others inner xs same g.claims in
    record {
      style = g.style;
      claims = rw none (out_of_frame (λ l. ScriptsLead l x.atom (no_scripts x.atom.kind x.limits) (left_of p)) s p.style g.style fs others inner xs same k);
    }

-- Within a frame that waits for an operand it is one

abbrev pub WaitsIn : Context → Frame → Type 0
WaitsIn c (frame.Last made place d) = d ≡ c
WaitsIn c (frame.First one place d) = d ≡ c
WaitsIn c (frame.Script base scripts on place d) = d ≡ c
WaitsIn c f = ⊥

pub waits : (c : Context) (f : Frame) → ((made : Last) × (place : ℕ) × (f ≡ frame.Last made place c)) ⊎ (((one : First) × (place : ℕ) × (f ≡ frame.First one place c)) ⊎ ((base : CodeCore) × (scripts : Scripts) × (on : Side) × (place : ℕ) × (f ≡ frame.Script base scripts on place c))) → WaitsIn c f
waits c f (inl (made, place, e)) = rw e refl
waits c f (inr (inl (one, place, e))) = rw e refl
waits c f (inr (inr (base, scripts, on, place, e))) = rw e refl

pub others_wait : (f : Frame) → ((e : Ending) (place : ℕ) (c : Context) (row : CodeRow) → f ≡ frame.Row e place c row → ⊥) → ((place : ℕ) (c : Context) → f ≡ frame.Negation place c → ⊥) → (f ≡ frame.Text → ⊥) → ((place : ℕ) (c : Context) → f ≡ frame.Words place c → ⊥) → ((n : ℕ) (size : TextSize) (c : Context) → f ≡ frame.Resized n size c → ⊥) → ((n place : ℕ) (c : Context) → f ≡ frame.AtomInWords n place c → ⊥) → WaitsIn (frame_context f) f
others_wait (frame.Last made place c) no_row no_negation no_text no_words no_resized no_atom = refl
others_wait (frame.First one place c) no_row no_negation no_text no_words no_resized no_atom = refl
others_wait (frame.Script base scripts on place c) no_row no_negation no_text no_words no_resized no_atom = refl
others_wait (frame.Row e place c row) no_row no_negation no_text no_words no_resized no_atom = absurd (no_row e place c row refl)
others_wait (frame.Negation place c) no_row no_negation no_text no_words no_resized no_atom = absurd (no_negation place c refl)
others_wait frame.Text no_row no_negation no_text no_words no_resized no_atom = absurd (no_text refl)
others_wait (frame.Words place c) no_row no_negation no_text no_words no_resized no_atom = absurd (no_words place c refl)
others_wait (frame.Resized n size c) no_row no_negation no_text no_words no_resized no_atom = absurd (no_resized n size c refl)
others_wait (frame.AtomInWords n place c) no_row no_negation no_text no_words no_resized no_atom = absurd (no_atom n place c refl)

single_made : (s : Start) (others : List Frame) (f : Frame) (xs : List Element) (c : Context) (x : Core) (m : Units) → WaitsIn c f → CoreMade (within s others f xs) (Read x m) → OperandMade (within s others f xs) (Read (single (style_of c.style) x.atom) m)
single_made s others (frame.Last made place d) xs c x m e k = rw (sym e) k
single_made s others (frame.First one place d) xs c x m e k = rw (sym e) k
single_made s others (frame.Script base scripts on place d) xs c x m e k = rw (sym e) k
single_made s others f xs c x m e k = absurd e

takes_operand : (c : Context) (f : Frame) → WaitsIn c f → IsTrue (accepts operand_made f)
takes_operand c (frame.Last made place d) e = search
takes_operand c (frame.First one place d) e = search
takes_operand c (frame.Script base scripts on place d) e = search
takes_operand c f e = absurd e

pub innermost_takes : (style : CodeStyle) (fs others : List Frame) (f : Frame) (c : Context) → IsInnermost style fs f others → WaitsIn c f → IsTrue (first_accepts operand_made (reverse fs))
innermost_takes style fs others f c (none_begun h k g) e = let no : ⊥ = rw g at e in absurd no
innermost_takes style fs others f c (on_top h) e = rw h (subst (λ l. IsTrue (first_accepts operand_made l)) (sym (reverse-append others (f ∷ []))) (takes_operand c f e))

-- nothing separates the first atom of a row from what precedes it
never_parted : (style : Style) (kind : Kind) → gap style Nothing kind ≡ pos 0
never_parted style Blank = refl
never_parted style kind = refl

one_alone : (n : ℕ) (xs : List Element) → n ≡ 1 → n ≤ length xs → row_element (take n xs) ≡ top xs
one_alone n [] e h = absurd (omega (arith, e, h))
one_alone n (x ∷ xs) e h = rw e refl

-- a row of this atom alone, whose element comes first, in place of its own
module _ (style : Style) (x : Atom) (row : CodeRow) (xs ys : List Element) (longer : row_with row ys ≡ with_atom style empty_row x) (under : drop row.count ys ≡ drop 1 xs) (there : row.count ≤ length ys) where
  one : row.count ≡ 1
  one =
      let some = ap (λ r. length r.elements) longer in
      let none = never_parted style x.kind in
      omega (arith, length-take row.count ys, there, rw none at some)

  pub is_single : operand_with (record { class = row.class; height = row.height }) (top ys) ≡ single style x
  is_single =
      let alone : operand_with (record { class = row.class; height = row.height }) (top ys) ≡ operand_of (row_with row ys) = rw (one_alone row.count ys one there) refl in
      alone ∙ ap operand_of longer

  pub under_one : drop 1 ys ≡ drop 1 xs
  under_one = ap (λ n. drop n ys) (sym one) ∙ under

  pub some_there : 1 ≤ length ys
  some_there = omega (arith, one, there)

module _ (p : Parser) (b : Built) (c : CodeCore) (f : Frame) (context : Context) (row : CodeRow) where
  abbrev put_operand : CodeOperand
  put_operand = record { class = row.class; height = row.height }

  -- the atom was put in a row of its own
  abbrev pub PutAlone : Type 0
  PutAlone =
      (row_with row (elements_in b) ≡ with_atom (style_of context.style) empty_row (core_with c (top (elements_of p))).atom)
      × (drop row.count (elements_in b) ≡ drop 1 (elements_of p))
      × (row.count ≤ length (elements_in b))

  pub core_as_operand : (s : Start) → InnermostIs f p → WaitsIn context f → PutAlone → Holds s p (state.Core c) → Holds s (record p { builder = b }) (state.Operand put_operand)
  core_as_operand s (others, i) w (longer, under, there) g =
      let xs = elements_of p in
      let ys = elements_in b in
      let fs = p.frames.stack.items in
      let style = style_of context.style in
      let x : Core = core_with c (top xs) in
      let k = into_frame (λ l. CoreMade l (Read x (left_of p))) s p.style g.style fs others f (drop 1 xs) i g.claims in
      let made = single_made s others f (drop 1 xs) context x (left_of p) w k in
      let all = out_of_frame (λ l. OperandMade l (Read (single style x.atom) (left_of p))) s p.style g.style fs others f (drop 1 xs) i made in
      let is = is_single style x.atom row xs ys longer under there in
      record {
        style = g.style;
        claims = rw (is, under_one style x.atom row xs ys longer under there) all;
      }

  pub operand_step : InnermostIs f p → WaitsIn context f → PutAlone → Ready p (state.Core c) → Follows (to_do p + 3) (record p { builder = b }) (state.Operand put_operand)
  operand_step (others, i) w (longer, under, there) can =
      let xs = elements_of p in
      let ys = elements_in b in
      let style = style_of context.style in
      let x : Core = core_with c (top xs) in
      let some = some_there style x.atom row xs ys longer under there in
      let left : length ys - 1 ≡ length xs - 1 = sym (length-drop 1 ys) ∙ ap length (under_one style x.atom row xs ys longer under there) ∙ length-drop 1 xs in
      record {
        ready = record {
          elements = omega (arith, can.elements, some, left);
          may_come = record { accepted = innermost_takes p.style p.frames.stack.items others f context i w; nested = can.may_come.nested };
        };
        falls = omega arith;
      }
