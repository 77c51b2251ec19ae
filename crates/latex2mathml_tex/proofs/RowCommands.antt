-- Commands that begin atoms in every row.
use Rattle.std.proofs.Common.{◌≡◌, ◌∙◌, ℕ, Bool, true, false, List, codes, Option, Some, None, ap, inl, inr, refl, sym}
use Rattle.std.proofs.lemmas.Bool.{cases_Bool}
use Rattle.std.proofs.lemmas.Slice.Eq.{bytes_eq-Decides}
use Rattle.std.specs.Str.{bytes_eq}
use Rattle.latex2mathml_tex_grammar.specs.{Commands.command_entries, Commands.meaning_of, CommandsFromM.commands_from_m, CommandsUpToL.commands_up_to_l, Next.past_space}
use Rattle.latex2mathml_tex_grammar.specs.Meaning.{Changes, Meaning}
use Rattle.latex2mathml_tex_grammar.specs.Rules as rules
use Rattle.latex2mathml_tex_grammar.specs.Rules.{WholeText, InBraces, InBrackets, InDollars, InDelimiters, InCell, InLabel, ByName, OfDiagram, ByBrace, ByText, meaning_rule}
use Rattle.latex2mathml_tex_grammar.specs.Starts.{RuleStart, atom_start, change_meant, ends}
use Rattle.latex2mathml_tex_grammar.specs.Units.{Command, Next, Units}
use Rattle.latex2mathml_tex_atoms.specs.Models.{context_of}
use Rattle.latex2mathml_tex_units.specs.{Left.units_at, Taking.piece_of, Taking.unit_of}
use Rattle.latex2mathml_tex_units.specs.declared.{input.Input.Input, unit.Unit.Unit}
use Rattle.latex2mathml_tex_atoms.specs.declared.atoms.Context.{Context}
use Rattle.latex2mathml_tex.specs.Frames.{Start, ending_of}
use Rattle.latex2mathml_tex.specs.{RowCharacters.IsRowInnermost, RowCommands.begins_atoms}
use Rattle.latex2mathml_tex.specs.Steps.{BeginsIn, Holds, Took, left_of}
use Rattle.latex2mathml_tex.specs.declared.parse.Parser.{Parser}
use Rattle.latex2mathml_tex.specs.declared.parse.State.TheVariants as state
use Rattle.latex2mathml_tex.specs.declared.parse.frames.Frame.TheVariants as frame
use Rattle.latex2mathml_tex.proofs.{Beginning.unit_begins, Beginnings.rule_begun}

some_begins : Option Meaning → Bool
some_begins (Some m) = begins_atoms m
some_begins None = false

right_ends : some_begins (meaning_of (codes "right")) ≡ false
unfolding some_begins meaning_of command_entries commands_up_to_l commands_from_m
right_ends = refl

middle_divides : some_begins (meaning_of (codes "middle")) ≡ false
unfolding some_begins meaning_of command_entries commands_up_to_l commands_from_m
middle_divides = refl

end_ends : some_begins (meaning_of (codes "end")) ≡ false
unfolding some_begins meaning_of command_entries commands_up_to_l commands_from_m
end_ends = refl

break_ends : some_begins (meaning_of (codes "\\")) ≡ false
unfolding some_begins meaning_of command_entries commands_up_to_l commands_from_m
break_ends = refl

cr_ends : some_begins (meaning_of (codes "cr")) ≡ false
unfolding some_begins meaning_of command_entries commands_up_to_l commands_from_m
cr_ends = refl

newline_ends : some_begins (meaning_of (codes "newline")) ≡ false
unfolding some_begins meaning_of command_entries commands_up_to_l commands_from_m
newline_ends = refl

limits_mark : some_begins (meaning_of (codes "limits")) ≡ false
unfolding some_begins meaning_of command_entries commands_up_to_l commands_from_m
limits_mark = refl

nolimits_mark : some_begins (meaning_of (codes "nolimits")) ≡ false
unfolding some_begins meaning_of command_entries commands_up_to_l commands_from_m
nolimits_mark = refl

displaylimits_mark : some_begins (meaning_of (codes "displaylimits")) ≡ false
unfolding some_begins meaning_of command_entries commands_up_to_l commands_from_m
displaylimits_mark = refl

no_change : (m : Meaning) → begins_atoms m ≡ true → change_meant (Some m) ≡ None
no_change (Changes change) b = absurd (cc)
no_change m b = refl

module _ (name : List ℕ) (m : Meaning) (is : meaning_of name ≡ Some m) (begins : begins_atoms m ≡ true) where
  some : some_begins (meaning_of name) ≡ true
  unfolding some_begins
  some = rw is begins

  -- the command has none of these names
  is_not : (w : List ℕ) → some_begins (meaning_of w) ≡ false → bytes_eq w name ≡ false
  is_not w h = elim (cases_Bool (bytes_eq w name)) [
    | inl t ↦ (
        let same : w ≡ name = (bytes_eq-Decides w name).0 t in
        let other : some_begins (meaning_of w) ≡ true = ap (λ n. some_begins (meaning_of n)) same ∙ some in
        absurd (cc (other, h)))
    | inr f ↦ f
  ]

  is_no : (w : List ℕ) → some_begins (meaning_of w) ≡ false → bytes_eq name w ≡ false
  is_no w h = elim (cases_Bool (bytes_eq name w)) [
    | inl t ↦ (
        let same : name ≡ w = (bytes_eq-Decides name w).0 t in
        let other : some_begins (meaning_of w) ≡ true = ap (λ n. some_begins (meaning_of n)) (sym same) ∙ some in
        absurd (cc (other, h)))
    | inr f ↦ f
  ]

  -- the command ends no row
  pub ends_none : (e : rules.Ending) → ends e (Command name) ≡ false
  ends_none WholeText = refl
  ends_none (InBraces place) = refl
  ends_none (InBrackets place) = refl
  ends_none (InDollars place) = refl
  ends_none (InDelimiters place) = is_not (codes "right") right_ends
  ends_none (InCell ByName place) = rw (is_not (codes "end") end_ends, is_not (codes "\\") break_ends, is_not (codes "cr") cr_ends, is_not (codes "newline") newline_ends) refl
  ends_none (InCell OfDiagram place) = rw (is_not (codes "end") end_ends, is_not (codes "\\") break_ends, is_not (codes "cr") cr_ends, is_not (codes "newline") newline_ends) refl
  ends_none (InLabel direction place) = rw (is_not (codes "end") end_ends, is_not (codes "\\") break_ends, is_not (codes "cr") cr_ends, is_not (codes "newline") newline_ends) refl
  ends_none (InCell ByBrace place) = rw (is_not (codes "\\") break_ends, is_not (codes "cr") cr_ends, is_not (codes "newline") newline_ends) refl
  ends_none (InCell ByText place) = rw (is_not (codes "\\") break_ends, is_not (codes "cr") cr_ends, is_not (codes "newline") newline_ends) refl

  -- the command begins an atom by its rule
  pub begins_by_rule : (e : rules.Ending) → atom_start e (Command name) ≡ RuleStart
  begins_by_rule (InDelimiters place) = rw (is_not (codes "middle") middle_divides, is_no (codes "limits") limits_mark, is_no (codes "nolimits") nolimits_mark, is_no (codes "displaylimits") displaylimits_mark, is, no_change m begins) refl
  begins_by_rule WholeText = rw (is_no (codes "limits") limits_mark, is_no (codes "nolimits") nolimits_mark, is_no (codes "displaylimits") displaylimits_mark, is, no_change m begins) refl
  begins_by_rule (InBraces place) = rw (is_no (codes "limits") limits_mark, is_no (codes "nolimits") nolimits_mark, is_no (codes "displaylimits") displaylimits_mark, is, no_change m begins) refl
  begins_by_rule (InBrackets place) = rw (is_no (codes "limits") limits_mark, is_no (codes "nolimits") nolimits_mark, is_no (codes "displaylimits") displaylimits_mark, is, no_change m begins) refl
  begins_by_rule (InDollars place) = rw (is_no (codes "limits") limits_mark, is_no (codes "nolimits") nolimits_mark, is_no (codes "displaylimits") displaylimits_mark, is, no_change m begins) refl
  begins_by_rule (InLabel direction place) = rw (is_no (codes "limits") limits_mark, is_no (codes "nolimits") nolimits_mark, is_no (codes "displaylimits") displaylimits_mark, is, no_change m begins) refl
  begins_by_rule (InCell end place) = rw (is_no (codes "limits") limits_mark, is_no (codes "nolimits") nolimits_mark, is_no (codes "displaylimits") displaylimits_mark, is, no_change m begins) refl

-- two units with which the same units begin are one piece
pub same_unit : (u v : Unit) (l m : Units) → Next (unit_of u) l ≡ Next (unit_of v) m → piece_of u.piece ≡ piece_of v.piece
same_unit u v l m same = let one : unit_of u ≡ unit_of v = cc in ap (λ x. x.piece) one

module _ (p : Parser) (i : Input) (u : Unit) (text : List ℕ) (is : piece_of u.piece ≡ Command text) where
  -- no white space precedes the command
  pub command_next : left_of p ≡ Next (unit_of u) (units_at i) → past_space (left_of p) ≡ Next (unit_of u) (units_at i)
  command_next next = ap past_space next ∙ rw is refl

  -- the rule of the command begins in the innermost row
  pub command_begins : (s : Start) (k : Context) (m : Meaning) → IsRowInnermost p.style p.frames.stack.items k → meaning_of text ≡ Some m → begins_atoms m ≡ true → past_space (left_of p) ≡ Next (unit_of u) (units_at i) → Holds s p state.Next → BeginsIn k (meaning_rule u.place (context_of k) m) 0 s (record p { input = i })
  command_begins s k m (e, (place, (row, (others, (inner, plain))))) meant begins next h =
      let q = record p { input = i } in
      let took : Took u s q = record { style = h.style; before = left_of p; next = next; leads = h.claims } in
      let begun = rule_begun s q u e (place, (row, (k, (others, inner)))) (λ at. rw is (ends_none text m meant begins (ending_of e at))) took (λ at. rw is (begins_by_rule text m meant begins (ending_of e at))) in
      rw (is, meant) at (unit_begins s q (frame.Row e place k row) k u u.piece refl refl (others, inner) begun)
