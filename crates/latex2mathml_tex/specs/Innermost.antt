-- The innermost frame of a stack of frames.
use Rattle.std.specs.Prelude.{◌≡◌, ℕ, List, [], ◌∷◌, ◌++◌, None}
use Rattle.latex2mathml_tex_atoms.specs.Adding.{IsAdded}
use Rattle.latex2mathml_tex_atoms.specs.declared.atoms.{Context.Context, Core.Core, Row.Row}
use Rattle.latex2mathml_tex_atoms.specs.Models.{IsFinished, begun, empty_row, usual_context}
use Rattle.latex2mathml_tex_commands.specs.declared.meaning.Style.{Style}
use Rattle.latex2mathml_tex_commands.specs.declared.meaning.Style.TheVariants as style
use Rattle.latex2mathml_tex.specs.declared.parse.endings.Ending.{Ending}
use Rattle.latex2mathml_tex.specs.declared.parse.frames.{Braced.Braced, Frame.Frame}
use Rattle.latex2mathml_tex.specs.declared.parse.frames.Braced.TheVariants as braced
use Rattle.latex2mathml_tex.specs.declared.parse.endings.Ending.TheVariants as ending
use Rattle.latex2mathml_tex.specs.declared.parse.frames.Frame.TheVariants as frame

-- the row of a whole formula of this style, before its first atom
abbrev pub begun_row : Style → Frame
begun_row s = frame.Row ending.Text 0 (usual_context s None) begun

-- The frame is the innermost of these, and `others` are the rest. If there are none, it is the row of the whole formula.
pub data IsInnermost (s : Style) (fs : List Frame) (f : Frame) (others : List Frame) : Type 0 where
  none_begun : fs ≡ [] → others ≡ [] → f ≡ begun_row s → IsInnermost s fs f others
  on_top : fs ≡ others ++ f ∷ [] → IsInnermost s fs f others

-- the context in which the parts of a frame are read; words are read in none
abbrev pub frame_context : Frame → Context
frame_context (frame.Row e place c row) = c
frame_context (frame.Last made place c) = c
frame_context (frame.First one place c) = c
frame_context (frame.Negation place c) = c
frame_context (frame.AtomInWords n place c) = c
frame_context (frame.Script base scripts on place c) = c
frame_context f = usual_context style.InText None

-- the row of a frame with its context; a frame that is not a row has none
abbrev pub frame_row : Frame → Context × Row
frame_row (frame.Row e place c row) = (c, row)
frame_row f = (frame_context f, empty_row)

-- The innermost of these frames is a row, to which an atom was added in place.
pub record IsLonger (core : Core) (old new : List Frame) : Type 0 where
  pub ending : Ending
  pub place : ℕ
  pub context : Context
  pub row : Row
  pub longer : Row
  pub others : List Frame
  pub before : old ≡ others ++ frame.Row ending place context row ∷ []
  pub after : new ≡ others ++ frame.Row ending place context longer ∷ []
  pub added : IsAdded context.style core row longer

-- The innermost of these frames was a row with this ending, in which nothing is left to be finished. It was taken off.
pub record TookRow (ending : Ending) (row : Row) (old new : List Frame) : Type 0 where
  pub place : ℕ
  pub context : Context
  pub before : old ≡ new ++ frame.Row ending place context row ∷ []
  pub finished : IsFinished row

-- the ending of a row in braces
abbrev pub braced_ending : Braced → Ending
braced_ending braced.Group = ending.Group
braced_ending braced.Operand = ending.Operand
