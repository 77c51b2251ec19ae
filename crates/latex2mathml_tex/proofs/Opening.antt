-- The parser's level, where frames are opened and taken off.
use Rattle.std.proofs.Common.{◌≡◌, List, [], ◌∷◌, ◌++◌, refl, sym, ap, subst}
use Rattle.std.proofs.lemmas.List.{reverse-append}
use Rattle.latex2mathml_elements.specs.Element.{Element}
use Rattle.latex2mathml_tex_grammar.specs.{Rules.Context as RuleContext, Rules.Rule}
use Rattle.latex2mathml_tex.specs.Frames.{Start, before_at, context_at, enter, inside, inside_all, whole_level, within}
use Rattle.latex2mathml_tex.specs.Innermost.{IsInnermost, begun_row, frame_context, frame_row, none_begun, on_top}
use Rattle.latex2mathml_tex.specs.Levels.{Level}
use Rattle.latex2mathml_tex_commands.specs.Meanings.{style_of}
use Rattle.latex2mathml_tex_atoms.specs.Models.{before_of, context_of}
use Rattle.latex2mathml_tex.specs.Steps.{Begins, BeginsIn, level}
use Rattle.latex2mathml_tex_commands.specs.declared.meaning.Style.{Style}
use Rattle.latex2mathml_tex.specs.declared.parse.Parser.{Parser}
use Rattle.latex2mathml_tex.specs.declared.parse.frames.Frame.{Frame}
use Rattle.latex2mathml_tex.specs.declared.parse.frames.Frame.TheVariants as frame

-- the level within one more frame
pub pushed : (s : Start) (fs : List Frame) (f : Frame) (xs : List Element) → inside s (fs ++ f ∷ []) xs ≡ within s fs f xs
pushed s fs f xs = ap (λ l. inside_all s l xs) (reverse-append fs (f ∷ []))

-- what holds at the level of a formula also holds within its innermost frame, and the other way round
module _ (P : Level → Type 0) (s : Start) (style : Style) (e : s.style ≡ style_of style) (fs others : List Frame) (f : Frame) (xs : List Element) where
  begun : within s [] (begun_row style) xs ≡ whole_level s
  begun = rw e refl

  pub into_frame : IsInnermost style fs f others → P (inside s fs xs) → P (within s others f xs)
  into_frame (none_begun h k g) p = rw (k, g) (subst P (sym begun) (rw h at p))
  into_frame (on_top h) p = subst P (pushed s others f xs) (rw h at p)

  pub out_of_frame : IsInnermost style fs f others → P (within s others f xs) → P (inside s fs xs)
  out_of_frame (none_begun h k g) p = rw h (subst P begun (rw (k, g) at p))
  out_of_frame (on_top h) p = rw h (subst P (sym (pushed s others f xs)) p)

-- the context of a frame is that of its level
entered : (s : Start) (f : Frame) (xs : List Element) (l : Level) → context_of (frame_context f) ≡ context_at (enter s f xs l)
entered s (frame.Row e place c row) xs l = refl
entered s (frame.Last made place c) xs l = refl
entered s (frame.First one place c) xs l = refl
entered s (frame.Negation place c) xs l = refl
entered s (frame.AtomInWords n place c) xs l = refl
entered s (frame.Script base scripts on place c) xs l = refl
entered s frame.Text xs l = refl
entered s (frame.Words place c) xs l = refl
entered s (frame.Resized n size c) xs l = refl

pub context_is : (s : Start) (style : Style) (fs : List Frame) (f : Frame) (xs : List Element) → s.style ≡ style_of style → (others : List Frame) × IsInnermost style fs f others → context_of (frame_context f) ≡ context_at (inside s fs xs)
context_is s style fs f xs e (others, i) = out_of_frame (λ l. context_of (frame_context f) ≡ context_at l) s style e fs others f xs i (entered s f xs _)

-- what precedes the next atom of a frame's row is what precedes it at its level
entered_behind : (s : Start) (f : Frame) (xs : List Element) (l : Level) → before_of (frame_row f).1.before ≡ before_at (enter s f xs l)
entered_behind s (frame.Row e place c row) xs l = refl
entered_behind s (frame.Last made place c) xs l = refl
entered_behind s (frame.First one place c) xs l = refl
entered_behind s (frame.Negation place c) xs l = refl
entered_behind s (frame.AtomInWords n place c) xs l = refl
entered_behind s (frame.Script base scripts on place c) xs l = refl
entered_behind s frame.Text xs l = refl
entered_behind s (frame.Words place c) xs l = refl
entered_behind s (frame.Resized n size c) xs l = refl

pub before_is : (s : Start) (style : Style) (fs : List Frame) (f : Frame) (xs : List Element) → s.style ≡ style_of style → (others : List Frame) × IsInnermost style fs f others → before_of (frame_row f).1.before ≡ before_at (inside s fs xs)
before_is s style fs f xs e (others, i) = out_of_frame (λ l. before_of (frame_row f).1.before ≡ before_at l) s style e fs others f xs i (entered_behind s f xs _)

-- a rule of the level's context
pub begins_in : (s : Start) (p : Parser) (f : Frame) (r : RuleContext → Rule) → (others : List Frame) × IsInnermost p.style p.frames.stack.items f others → Begins (r (context_at (level 0 s p))) 0 s p → BeginsIn (frame_context f) (r (context_of (frame_context f))) 0 s p
begins_in s p f r i b =
    let same = context_is s p.style p.frames.stack.items f _ b.style i in
    record { style = b.style; context = same; leads = rw same b.leads }
