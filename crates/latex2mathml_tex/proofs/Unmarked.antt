-- An atom without scripts is added to its row where no mark comes next.
use Rattle.std.proofs.Common.{◌≡◌, ◌∙◌, ◌+◌, ◌≤◌, Bool, true, false, IsTrue, None, arith, refl, sym}
use Rattle.latex2mathml_tex_grammar.specs.{Next.past_space, Starts.mark_of}
use Rattle.latex2mathml_tex_units.specs.{Left.put_back, Left.unit_count, Left.units_at, Left.units_behind, Taking.piece_of}
use Rattle.latex2mathml_tex_units.specs.declared.{input.Input.Input, unit.Next.Next as CodeNext, unit.Unit.Unit}
use Rattle.latex2mathml_tex_units.specs.declared.unit.Next.TheVariants as next
use Rattle.latex2mathml_tex_grammar.proofs.Shrinking.{no_more_past_space}
use Rattle.latex2mathml_tex_atoms.specs.declared.atoms.Core.{Core}
use Rattle.latex2mathml_tex.specs.{RowSymbols.lone_scripts, Frames.Start}
use Rattle.latex2mathml_tex.specs.Innermost.{IsLonger, on_top}
use Rattle.latex2mathml_tex.specs.Steps.{CanMake, Follows, Holds, Ready, atom_made, left_of, level, to_do}
use Rattle.latex2mathml_tex.specs.declared.{parse.Parser.Parser, parse.frames.Frames.Frames}
use Rattle.latex2mathml_tex.specs.declared.parse.State.TheVariants as state
use Rattle.latex2mathml_tex.specs.declared.parse.frames.Frame.TheVariants as frame
use Rattle.latex2mathml_tex.proofs.Rows.{row_added, row_added_step, scripts_made}
use Rattle.latex2mathml_tex.proofs.Spaced.{made_spaced, scripts_spaced}

module _ (p : Parser) (core : Core) (i : Input) (past : units_at i ≡ past_space (left_of p)) where
  no_more : unit_count (units_at i) ≤ unit_count (left_of p)
  no_more = rw past (no_more_past_space (left_of p))

  -- the atom was not added
  module _ (fr : Frames) (same : fr.stack.items ≡ p.frames.stack.items) where
    pub marks_held : (s : Start) → Holds s p (state.Atom core (lone_scripts core)) → Holds s (record p { input = i; frames = fr }) (state.Atom core (lone_scripts core))
    marks_held s h = record { style = h.style; claims = rw same (scripts_spaced (level 1 s p) _ _ (left_of p) (units_at i) past h.claims) }

    pub marks_follow : Ready p (state.Atom core (lone_scripts core)) → Follows (to_do p + 3) (record p { input = i; frames = fr }) (state.Atom core (lone_scripts core))
    marks_follow can = record {
      ready = record {
        elements = rw same can.elements;
        may_come = record { accepted = rw same can.may_come.accepted; nested = rw same can.may_come.nested };
      };
      falls = rw same (omega (arith, no_more));
    }

  -- it was added
  module _ (fr : Frames) (added : IsLonger core p.frames.stack.items fr.stack.items) (can : Ready p (state.Atom core (lone_scripts core))) where
    can_make : CanMake atom_made 1 (record p { input = i })
    can_make = record { elements = can.elements; awaits = record { accepted = can.may_come.accepted; nested = can.may_come.nested } }

    pub added_follow : Follows (to_do p + 3) (record p { input = i; frames = fr }) state.Next
    added_follow =
        let step = row_added_step (record p { input = i }) fr core added can_make in
        record { ready = step.ready; falls = omega (arith, step.falls, no_more) }

    pub added_held : (s : Start) (n : CodeNext) → units_at i ≡ put_back n (units_behind i) → ((u : Unit) → n ≡ next.Unit u → mark_of (piece_of u.piece) ≡ None) → Holds s p (state.Atom core (lone_scripts core)) → Holds s (record p { input = i; frames = fr }) state.Next
    added_held s n peeked none h =
        let f = frame.Row added.ending added.place added.context added.row in
        let made = scripts_made s p p.builder core core (lone_scripts core) f added.context.style added.row.before n (units_behind i) refl refl (added.others, on_top added.before) (sym past ∙ peeked) none refl refl h in
        row_added (record p { input = i }) fr core added can_make s (made_spaced s p core i past made)

-- by whether a test holds
pub by_test : (P : Bool → Type 0) (b : Bool) → (IsTrue b → P true) → (b ≡ false → P false) → P b
by_test P true held failed = held search
by_test P false held failed = failed refl
