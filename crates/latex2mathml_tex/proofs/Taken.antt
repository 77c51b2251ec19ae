-- What holds of the parser where its innermost frame is taken off, and where a frame is pushed.
use Rattle.std.specs.Prelude.{⊤}
use Rattle.std.proofs.Common.{◌<◌, None, length, ◌≡◌, ◌∙◌, ◌+◌, ◌≤◌, ◌&&◌, ◌++◌, ℕ, Bool, IsTrue, List, Result, [], ◌∷◌, ap, arith, drop, false, refl, reverse, subst, sum_by, sym, take, true}
use Rattle.std.proofs.lemmas.{Bool.and_parts, List.reverse-append, List.Sums.sum_by_push}
use Rattle.std.specs.declared.alloc.AllocError.{AllocError}
use Rattle.latex2mathml_tex_grammar.specs.{Makes.core, Makes.struck, Reading.Read, Rests.with_resized, Rules.gives, Rules.struck_atom}
use Rattle.latex2mathml_builder.specs.Built.{Built, elements_in}
use Rattle.latex2mathml_elements.specs.Element.{Element}
use Rattle.latex2mathml_tex_atoms.proofs.Wording.{drop_more, take_more}
use Rattle.latex2mathml_tex_grammar.specs.Words as words
use Rattle.latex2mathml_tex_grammar.specs.Words.{text_atom, with_accent_ended}
use Rattle.latex2mathml_tex_atoms.specs.Wording.{Replaced}
use Rattle.latex2mathml_tex_atoms.specs.Models.{context_of, core_with, top, words_with}
use Rattle.latex2mathml_tex.specs.{Frames.Start, Frames.element_count, Innermost.IsInnermost, Innermost.none_begun, Innermost.on_top}
use Rattle.latex2mathml_tex.specs.Levels.{CoreMade, PartMade}
use Rattle.latex2mathml_tex.specs.Steps.{Advances, Begins, CanMake, Follows, HasElements, Holds, Made, accepts, are_nested, elements_of, first_accepts, frame_weight, left_of, makes, to_do, words_made}
use Rattle.latex2mathml_tex_commands.specs.declared.meaning.{Style.Style, TextSize.TextSize}
use Rattle.latex2mathml_tex_commands.specs.Meanings.{text_size_of}
use Rattle.latex2mathml_tex_atoms.specs.declared.atoms.{Context.Context, Core.Core, Words.Words}
use Rattle.latex2mathml_tex.specs.declared.parse.{Parser.Parser, State.State, frames.Frame.Frame, frames.Frames.Frames}
use Rattle.latex2mathml_tex.specs.declared.parse.State.TheVariants as state
use Rattle.latex2mathml_tex.specs.declared.parse.frames.Frame.TheVariants as frame
use Rattle.latex2mathml_tex.proofs.{Opening.into_frame, Rows.step_within, Rows.weighed}

-- the elements of all frames are those of the innermost one and of the others
counted : (style : Style) (fs others : List Frame) (f : Frame) → IsInnermost style fs f others → sum_by element_count fs ≡ sum_by element_count others + element_count f
counted style fs others f (none_begun h k g) = rw (h, k, g) refl
counted style fs others f (on_top h) = ap (sum_by element_count) h ∙ sum_by_push element_count others f

-- the others await what the innermost one makes
others_await : (style : Style) (fs others : List Frame) (f : Frame) → IsInnermost style fs f others → IsTrue (are_nested (reverse fs)) → IsTrue (first_accepts (makes f) (reverse others) && are_nested (reverse others))
others_await style fs others f (none_begun h k g) nested = rw (k, g) (cc)
others_await style fs others f (on_top h) nested = subst (λ l. IsTrue (are_nested l)) (ap reverse h ∙ reverse-append others (f ∷ [])) nested

-- the uppermost elements
take_one : (n : ℕ) (xs : List Element) → 0 < length xs → take (n + 1) xs ≡ top xs ∷ take n (drop 1 xs)
take_one n [] some = absurd (omega (arith, some))
take_one n (x ∷ xs) some = take_more n x xs

drop_one : (n : ℕ) (xs : List Element) → 0 < length xs → drop (n + 1) xs ≡ drop n (drop 1 xs)
drop_one n [] some = absurd (omega (arith, some))
drop_one n (x ∷ xs) some = drop_more n x xs

module _ (p : Parser) (fr : Frames) (f : Frame) (inner : IsInnermost p.style p.frames.stack.items f fr.stack.items) where
  -- the elements of the frame are now free, and what it makes is awaited
  pub taken_can : (n m : ℕ) → HasElements n p → IsTrue (are_nested (reverse p.frames.stack.items)) → m ≡ n + element_count f → CanMake (makes f) m (record p { frames = fr })
  taken_can n m enough nested same =
      let all = counted p.style p.frames.stack.items fr.stack.items f inner in
      let awaits = and_parts _ _ (others_await p.style p.frames.stack.items fr.stack.items f inner nested) in
      record {
        elements = omega (arith, all, enough, same);
        awaits = record { accepted = awaits.0; nested = awaits.1 };
      }

  -- as much less is left to do as the frame still brought
  pub taken_step : (n m : ℕ) (new : Parser) (st : State) (answer : Result ⊤ AllocError) → n ≤ frame_weight f + m → Advances n (record p { frames = fr }) new st answer → Advances m p new st answer
  taken_step n m new st answer less step =
      let brought = weighed p.style p.frames.stack.items fr.stack.items f inner in
      step_within p (record p { frames = fr }) new st answer n m (omega (arith, brought, less)) step

  -- in a text, the words are those of its command
  pub text_taken : (s : Start) (b : Built) (ws after : Words) → f ≡ frame.Text → Replaced with_accent_ended ws (elements_of p) after (elements_in b) → Holds s p (state.Words ws)
      → Begins (gives (core (text_atom (take after.count (elements_in b))))) after.count s (record p { frames = fr; builder = b })
  text_taken s b ws after is ended h =
      let within = subst (λ f. IsInnermost p.style p.frames.stack.items f fr.stack.items) is inner in
      let elements : take after.count (elements_in b) ≡ (with_accent_ended (words_with ws (elements_of p))).elements = ap (λ (w : words.Words). w.elements) ended.words in
      record {
        style = h.style;
        leads = rw (elements, ended.below) (into_frame (λ l. PartMade l (Read (words_with ws (elements_of p)) (left_of p))) s p.style h.style p.frames.stack.items fr.stack.items frame.Text (drop ws.count (elements_of p)) within h.claims);
      }

  -- words behind a change of size follow those before it
  pub resized_taken : (s : Start) (b : Built) (ws after : Words) (n : ℕ) (size : TextSize) (c : Context) → f ≡ frame.Resized n size c → words_with after (elements_in b) ≡ with_resized (text_size_of size) (context_of c) (take n (drop ws.count (elements_of p))) (take ws.count (elements_of p)) → drop after.count (elements_in b) ≡ drop n (drop ws.count (elements_of p)) → Holds s p (state.Words ws)
      → Holds s (record p { frames = fr; builder = b }) (state.Words after)
  resized_taken s b ws after n size c is same below h =
      let within = subst (λ f. IsInnermost p.style p.frames.stack.items f fr.stack.items) is inner in
      record {
        style = h.style;
        claims = rw (same, below) (into_frame (λ l. PartMade l (Read (words_with ws (elements_of p)) (left_of p))) s p.style h.style p.frames.stack.items fr.stack.items (frame.Resized n size c) (drop ws.count (elements_of p)) within h.claims);
      }

  -- an atom in words follows those before it
  pub atom_taken : (s : Start) (n place : ℕ) (context : Context) (c : Core) → f ≡ frame.AtomInWords n place context → 0 < length (elements_of p) → Holds s p (state.Core c) → Holds s (record p { frames = fr }) (state.Words (record { count = n + 1; last = None; accent = None }))
  atom_taken s n place context c is some h =
      let within = subst (λ f. IsInnermost p.style p.frames.stack.items f fr.stack.items) is inner in
      let first = take_one n (elements_of p) some in
      let below = drop_one n (elements_of p) some in
      record {
        style = h.style;
        claims = rw (first, below) (into_frame (λ l. CoreMade l (Read (core_with c (top (elements_of p))) (left_of p))) s p.style h.style p.frames.stack.items fr.stack.items (frame.AtomInWords n place context) (drop 1 (elements_of p)) within h.claims);
      }

  -- what is to be negated is struck through
  pub negation_taken : (s : Start) (place : ℕ) (context : Context) (c : Core) → f ≡ frame.Negation place context → Holds s p (state.Core c) → Begins (struck_atom place (core_with c (top (elements_of p))) (struck (top (elements_of p)))) 1 s (record p { frames = fr })
  negation_taken s place context c is h =
      let within = subst (λ f. IsInnermost p.style p.frames.stack.items f fr.stack.items) is inner in
      record {
        style = h.style;
        leads = into_frame (λ l. CoreMade l (Read (core_with c (top (elements_of p))) (left_of p))) s p.style h.style p.frames.stack.items fr.stack.items (frame.Negation place context) (drop 1 (elements_of p)) within h.claims;
      }

both : (a b : Bool) → IsTrue a → IsTrue b → IsTrue (a && b)
both true b x y = y
both false b x y = absurd (cc)

module _ (p : Parser) (fr : Frames) (f : Frame) (same : fr.stack.items ≡ p.frames.stack.items ++ f ∷ []) where
  -- the frame waits for this, and has its elements
  pub pushed_can : (m : Made) (n k : ℕ) → k ≡ element_count f + n → CanMake (makes f) k p → IsTrue (accepts m f) → CanMake m n (record p { frames = fr })
  pushed_can m n k is can accepted =
      let all : sum_by element_count fr.stack.items ≡ sum_by element_count p.frames.stack.items + element_count f = ap (sum_by element_count) same ∙ sum_by_push element_count p.frames.stack.items f in
      let turned : reverse fr.stack.items ≡ f ∷ reverse p.frames.stack.items = ap reverse same ∙ reverse-append p.frames.stack.items (f ∷ []) in
      record {
        elements = omega (arith, all, is, can.elements);
        awaits = record {
          accepted = subst (λ l. IsTrue (first_accepts m l)) (sym turned) accepted;
          nested = subst (λ l. IsTrue (are_nested l)) (sym turned) (both _ _ can.awaits.accepted can.awaits.nested);
        };
      }

  pub pushed_weight : sum_by frame_weight fr.stack.items ≡ sum_by frame_weight p.frames.stack.items + frame_weight f
  pushed_weight = ap (sum_by frame_weight) same ∙ sum_by_push frame_weight p.frames.stack.items f

-- braces were opened in a text
pub braces_opened_step : (p : Parser) (fr : Frames) (place : ℕ) (c : Context) (ws : Words) → fr.stack.items ≡ p.frames.stack.items ++ frame.Words place c ∷ [] → CanMake words_made ws.count p → Follows (to_do p + 13) (record p { frames = fr }) (state.Words ws)
braces_opened_step p fr place c ws same can =
    let made = pushed_can p fr (frame.Words place c) same words_made ws.count ws.count (omega arith) can search in
    let brought = pushed_weight p fr (frame.Words place c) same in
    record { ready = record { elements = made.elements; may_come = made.awaits }; falls = omega (arith, brought) }
