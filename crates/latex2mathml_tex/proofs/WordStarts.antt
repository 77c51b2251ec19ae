-- Where a part of words is due: how it begins, and why none does. Whether words in braces end.
use Rattle.std.proofs.Common.{◌≡◌, ℕ, IsFalse, List, Some, ap, refl, subst}
use Rattle.latex2mathml_tex_grammar.specs.Refusal.{MissingArgument, Refusal, refusal_at}
use Rattle.latex2mathml_tex_grammar.specs.Units as grammar
use Rattle.latex2mathml_tex_grammar.specs.Units.{Close, Units, Next, End, Stop}
use Rattle.latex2mathml_tex_grammar.specs.{Starts.is_close, Words.word_rule}
use Rattle.latex2mathml_tex_units.specs.{Errors.refusal_of, Left.units_at, Taking.piece_of, Taking.unit_of}
use Rattle.latex2mathml_tex.specs.{Frames.Start, Innermost.IsInnermost}
use Rattle.latex2mathml_tex.specs.Steps.{BeginsWordOf, Holds, left_of, level}
use Rattle.latex2mathml_tex_units.specs.declared.{input.Input.Input, unit.Piece.Piece, unit.Unit.Unit}
use Rattle.latex2mathml_tex_commands.specs.declared.meaning.Style.{Style}
use Rattle.latex2mathml_tex_atoms.specs.Models.{context_of}
use Rattle.latex2mathml_tex_atoms.specs.declared.atoms.{Context.Context, Words.Words as CodeWords}
use Rattle.latex2mathml_tex.specs.declared.{parse.Parser.Parser, parse.frames.Frame.Frame}
use Rattle.latex2mathml_tex.specs.declared.parse.State.TheVariants as state
use Rattle.latex2mathml_tex_units.specs.declared.unit.Piece.TheVariants as code_piece
use Rattle.latex2mathml_tex.proofs.Leading.{word_ended, word_halted, word_is_missing}
use Rattle.latex2mathml_tex.proofs.Wording.{one_innermost, words_refused}

module _ (s : Start) (p : Parser) (ws : CodeWords) (place : ℕ) (c : Context) (h : Holds s p (state.Word ws place c)) where
  module _ (q : Parser) (same : q.style ≡ p.style) where
    -- no part of words is there
    module _ (reason : refusal_of q.refusal ≡ Some (refusal_at MissingArgument place)) where
      pub none_at_end : (at : ℕ) → left_of p ≡ End at → Holds s q state.Refused
      none_at_end at e = words_refused s p q ws.count (refusal_at MissingArgument place) h.style same reason (word_ended (level ws.count s p) (rw e at h.claims))

      pub none_in_braces : (u : grammar.Unit) (l : Units) → left_of p ≡ Next u l → u.piece ≡ Close → Holds s q state.Refused
      none_in_braces u l e close =
          let rule = ap (λ piece. word_rule (context_of c).alphabet piece) close in
          words_refused s p q ws.count (refusal_at MissingArgument place) h.style same reason (word_is_missing (level ws.count s p) {u = u} rule (rw e at h.claims))

    pub none_at_stop : (r : Refusal) → refusal_of q.refusal ≡ Some r → left_of p ≡ Stop r → Holds s q state.Refused
    none_at_stop r reason e = words_refused s p q ws.count r h.style same reason (word_halted (level ws.count s p) (rw e at h.claims))

  -- the unit that comes next was taken
  pub word_begins : (i : Input) (u : Unit) → left_of p ≡ Next (unit_of u) (units_at i) → BeginsWordOf ws (piece_of u.piece) u.place (context_of c) s (record p { input = i })
  word_begins i u e = record { style = h.style; taken_at = place; leads = rw e at h.claims }

-- a unit that is not a closing brace
pub other_piece : (piece : Piece) → (piece ≡ code_piece.Close → ⊥) → IsFalse (is_close (piece_of piece))
other_piece code_piece.Close other = absurd (other refl)
other_piece code_piece.Space other = refl
other_piece code_piece.Open other = refl
other_piece (code_piece.Command name) other = refl
other_piece (code_piece.Character c) other = refl

-- the frame that is taken off is the innermost one
pub taken_innermost : (style : Style) (fs others left : List Frame) (f taken : Frame) → IsInnermost style fs f others → IsInnermost style fs taken left → IsInnermost style fs f left
taken_innermost style fs others left f taken i t = subst (λ g. IsInnermost style fs g left) (one_innermost style fs left others taken f t i) t
