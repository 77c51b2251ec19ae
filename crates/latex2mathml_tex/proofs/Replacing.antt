-- The innermost frame of a stack: where it is, and another one put in its place.
use Rattle.std.proofs.Common.{◌≡◌, ◌-◌, ◌∙◌, ◌++◌, ◌∷◌, ◌≤◌, ◌<◌, zero, suc, ℕ, List, [], ap, arith, drop, length, take, refl, sym, length-append, slice_index_or, slice_set}
use Rattle.std.proofs.Math.Seq.{get_or-append_seam, set-append_seam}
use Rattle.std.proofs.lemmas.List.{set-get_or, set_split}
use Rattle.latex2mathml_tex.specs.Innermost.{IsInnermost, IsLonger, none_begun, on_top}
use Rattle.latex2mathml_tex_atoms.specs.Adding.{IsAdded}
use Rattle.latex2mathml_tex_atoms.specs.declared.atoms.{Context.Context, Core.Core, Row.Row}
use Rattle.latex2mathml_tex_commands.specs.declared.meaning.Style.{Style}
use Rattle.latex2mathml_tex_commands.specs.declared.meaning.Style.TheVariants as style
use Rattle.latex2mathml_tex.specs.declared.parse.endings.Ending.{Ending}
use Rattle.latex2mathml_tex.specs.declared.parse.frames.Frame.{Frame}
use Rattle.latex2mathml_tex.specs.declared.parse.frames.Frame.TheVariants as frame

pub replaced : (style : Style) (fs others : List Frame) (f g : Frame) → (length fs ≡ 0 → ⊥) → IsInnermost style fs f others → slice_set fs (length fs - 1) g ≡ others ++ g ∷ []
replaced style fs others f g some (none_begun h k is) = absurd (some (ap length h))
replaced style fs others f g some (on_top h) =
    let last : length (others ++ f ∷ []) - 1 ≡ length others = omega (arith, length-append others (f ∷ [])) in
    rw h (ap (λ n. slice_set (others ++ f ∷ []) n g) last ∙ set-append_seam others f [] g)

pub innermost_at : (style : Style) (fs others : List Frame) (f d : Frame) → (length fs ≡ 0 → ⊥) → IsInnermost style fs f others → slice_index_or fs (length fs - 1) d ≡ f
innermost_at style fs others f d some (none_begun h k is) = absurd (some (ap length h))
innermost_at style fs others f d some (on_top h) =
    let last : length (others ++ f ∷ []) - 1 ≡ length others = omega (arith, length-append others (f ∷ [])) in
    rw h (ap (λ n. slice_index_or (others ++ f ∷ []) n d) last ∙ get_or-append_seam others f [] d)

positive : (n : ℕ) → (n ≡ 0 → ⊥) → n - 1 < n
positive zero some = absurd (some refl)
positive (suc n) some = omega arith

past_end : (n : ℕ) (fs : List Frame) → length fs ≤ n → drop n fs ≡ []
past_end zero [] h = refl
past_end (suc n) [] h = refl
past_end zero (f ∷ fs) h = absurd (omega (arith, h))
past_end (suc n) (f ∷ fs) h = past_end n fs (omega (arith, h))

-- the last of these frames, and another one put in its place
module _ (fs : List Frame) (some : length fs ≡ 0 → ⊥) where
  abbrev last : ℕ
  last = length fs - 1

  within : last < length fs
  within = positive (length fs) some

  last_put : (f : Frame) → slice_set fs last f ≡ take last fs ++ f ∷ []
  last_put f = set_split fs last f within ∙ ap (λ l. take last fs ++ f ∷ l) (past_end (suc last) fs (omega (arith, within)))

  split : (d : Frame) → fs ≡ take last fs ++ slice_index_or fs last d ∷ []
  split d = sym (set-get_or fs last d) ∙ last_put (slice_index_or fs last d)

  -- an atom is added to the row of the last frame
  pub longer : (d : Frame) (core : Core) (e : Ending) (place : ℕ) (k : Context) (row more : Row) → slice_index_or fs last d ≡ frame.Row e place k row → IsAdded k.style core row more → IsLonger core fs (slice_set fs last (frame.Row e place k more))
  longer d core e place k row more is added = record {
    ending = e;
    place = place;
    context = k;
    row = row;
    longer = more;
    others = take last fs;
    before = split d ∙ ap (λ f. take last fs ++ f ∷ []) is;
    after = last_put (frame.Row e place k more);
    added = added;
  }

  -- it does not depend on what would be there otherwise
  pub same_found : (d e : Frame) → slice_index_or fs last e ≡ slice_index_or fs last d
  same_found d e = innermost_at style.InText fs (take last fs) (slice_index_or fs last d) e some (on_top (split d))

  -- it stays as it is
  pub same_last : (d f : Frame) → f ≡ slice_index_or fs last d → slice_set fs last f ≡ fs
  same_last d f is = ap (slice_set fs last) is ∙ set-get_or fs last d
