-- Where an atom of a row begins: what the unit is that was taken, and what is due then.
use Rattle.std.proofs.Common.{◌≡◌, ◌∙◌, ℕ, ◌⊎◌, false, Option, Some, ap, inl, inr, refl, sym, subst}
use Rattle.latex2mathml_tex_grammar.specs.{Makes.core, Makes.divider, Makes.no_scripts, Meaning.Beside, Next.past_space}
use Rattle.latex2mathml_tex_grammar.specs.Reading.{Outcome, Read, Refused, ReadsRule, divider_read, divider_refused}
use Rattle.latex2mathml_tex_grammar.specs.Rows.{Row}
use Rattle.latex2mathml_tex_grammar.specs.Rules as rules
use Rattle.latex2mathml_tex_grammar.specs.Rules.{gives, rule, takes_delimiter}
use Rattle.latex2mathml_tex_grammar.specs.Makes.{Core}
use Rattle.latex2mathml_tex_grammar.specs.Starts.{DividerStart, RuleStart, ScriptStart, atom_start, change_by, empty_base, ends, mark_of, start_of_change, start_of_mark}
use Rattle.latex2mathml_tex_grammar.specs.Meaning.{Change}
use Rattle.latex2mathml_tex_grammar.specs.Units.{Unit, Units, Next}
use Rattle.latex2mathml_tex_units.specs.Taking.{piece_of, unit_of}
use Rattle.latex2mathml_tex.specs.Frames.{Start, context_at, ending_of}
use Rattle.latex2mathml_tex_atoms.specs.Models.{context_of}
use Rattle.latex2mathml_tex.specs.Levels.{AtomMade, CoreMade, Leads, Level, RestLeads, RuleLeads, ScriptsLead, as_atom}
use Rattle.latex2mathml_tex.specs.Levels as levels
use Rattle.latex2mathml_tex.specs.Steps.{AwaitsAtom, BeginsDivider, BeginsUnit, Took, TookMark, TookUnmarked, elements_of, left_of, level, mark_model}
use Rattle.latex2mathml_tex_units.specs.declared.unit.Unit.{Unit as CodeUnit}
use Rattle.latex2mathml_tex_atoms.specs.declared.atoms.Row.{Row as CodeRow}
use Rattle.latex2mathml_tex.specs.declared.{parse.Parser.Parser, parse.scripts.Mark.Mark}
use Rattle.latex2mathml_tex.specs.declared.parse.endings.Ending.{Ending}
use Rattle.latex2mathml_tex.specs.declared.parse.frames.Frame.TheVariants as frame
use Rattle.latex2mathml_tex.specs.declared.parse.scripts.Mark.TheVariants as mark
use Rattle.latex2mathml_attributes.specs.declared.attributes.Side.{Side}
use Rattle.latex2mathml_attributes.specs.declared.attributes.Side.TheVariants as side
use Rattle.latex2mathml_tex.proofs.Leading.{atom_due, base_due, rest_due, scripts_due}
use Rattle.latex2mathml_tex.proofs.Opening.{into_frame, out_of_frame}
use Rattle.latex2mathml_tex_grammar.proofs.Spaces.{past_twice}

-- a prime or a script begins an atom, whose base is a row without atoms
pub begins_scripts : (change : Option Change) (m : Mark) → (m ≡ mark.Prime) ⊎ ((on : Side) × (m ≡ mark.Script on)) → start_of_mark change (Some (mark_model m)) ≡ ScriptStart
begins_scripts change mark.Prime h = refl
begins_scripts change (mark.Script side.Below) h = refl
begins_scripts change (mark.Script side.Above) h = refl
begins_scripts change (mark.Limits place) (inl e) = cc e
begins_scripts change (mark.Limits place) (inr (on, e)) = cc e

module _ {e : rules.Ending} {c : rules.Context} {xs : Row} {K : Outcome Row → Type 0} {l m : Units} {u : Unit} where
  divider_made : past_space l ≡ Next u m → ends e u.piece ≡ false → atom_start e u.piece ≡ DividerStart → Leads (levels.row e c xs K) l → (o : Outcome Core) → ReadsRule (takes_delimiter (λ text. gives (core (divider text)))) m o → AtomMade (levels.row e c xs K) (as_atom o)
  divider_made next some start k (Read x n) d = atom_due next some k _ (divider_read start d)
  divider_made next some start k (Refused r) d = atom_due next some k _ (divider_refused start d)

module _ (s : Start) (p : Parser) (u : CodeUnit) (e : Ending) (due : (place : ℕ) × ((row : CodeRow) × AwaitsAtom e place row p)) (some : (place : ℕ) → ends (ending_of e place) (piece_of u.piece) ≡ false) (t : Took u s p) where
  -- the unit was taken in a row with this ending
  in_row : (P : Level → Type 0) → ((place : ℕ) (c : rules.Context) (xs : Row) (K : Outcome Row → Type 0) → Leads (levels.row (ending_of e place) c xs K) t.before → P (levels.row (ending_of e place) c xs K)) → P (level 0 s p)
  in_row P on = within_row due
    where
      within_row : (place : ℕ) × ((row : CodeRow) × AwaitsAtom e place row p) → P (level 0 s p)
      within_row (place, (row, (c, (others, inner)))) =
          let fs = p.frames.stack.items in
          let f = frame.Row e place c row in
          let xs = elements_of p in
          let begun = into_frame (λ l. Leads l t.before) s p.style t.style fs others f xs inner t.leads in
          out_of_frame P s p.style t.style fs others f xs inner (on place (context_of c) _ _ begun)

  pub divider_begun : ((place : ℕ) → atom_start (ending_of e place) (piece_of u.piece) ≡ DividerStart) → BeginsDivider s p
  divider_begun start = record {
    style = t.style;
    leads = in_row (λ l. RuleLeads (takes_delimiter (λ text. gives (core (divider text)))) (λ o. AtomMade l (as_atom o)) (left_of p))
        (λ place c xs K k. record { to = λ o d. divider_made t.next (some place) (start place) k o d });
  }

  -- the unit is still there, as the mark that the scripts begin with
  still_next : past_space (Next (unit_of u) (left_of p)) ≡ Next (unit_of u) (left_of p)
  still_next = subst (λ l. past_space l ≡ l) t.next (past_twice t.before)

  pub scripts_begun : (m : Mark) → ((place : ℕ) → atom_start (ending_of e place) (piece_of u.piece) ≡ ScriptStart) → Some (mark_model m) ≡ mark_of (piece_of u.piece) → TookMark m u.place (level 0 s p) empty_base (no_scripts empty_base.kind Beside) s p
  scripts_begun m start is = record {
    style = t.style;
    before = Next (unit_of u) (left_of p);
    unit = unit_of u;
    next = still_next;
    is = sym is;
    at = refl;
    leads = in_row (λ l. ScriptsLead l empty_base (no_scripts empty_base.kind Beside) (Next (unit_of u) (left_of p)))
        (λ place c xs K k. scripts_due t.next (some place) (start place) k);
  }

  pub rule_begun : ((place : ℕ) → atom_start (ending_of e place) (piece_of u.piece) ≡ RuleStart) → BeginsUnit u s p
  rule_begun start = record {
    style = t.style;
    leads = in_row (λ l. RuleLeads (rule u.place (context_at l) (piece_of u.piece)) (CoreMade l) (left_of p))
        (λ place c xs K k. base_due t.next (some place) (start place) k);
  }

  -- what is not a mark begins an atom, or changes what follows it
  pub unmarked_begun : ((place : ℕ) → atom_start (ending_of e place) (piece_of u.piece) ≡ start_of_change (change_by (piece_of u.piece))) → TookUnmarked u s p
  unmarked_begun start = record {
    begins = λ none. rule_begun (λ place. start place ∙ ap start_of_change none);
    changes = λ change is. record {
      style = t.style;
      leads = in_row (λ l. RestLeads change u.place l (left_of p)) (λ place c xs K k. rest_due t.next (some place) (start place ∙ ap start_of_change is) k);
    };
  }
