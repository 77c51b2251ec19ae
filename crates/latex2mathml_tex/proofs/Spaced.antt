-- White space after an atom does not matter to the atoms after it.
use Rattle.std.proofs.Common.{◌≡◌, ◌∙◌, ap, sym}
use Rattle.latex2mathml_tex_grammar.specs.{Atoms.Atom, Atoms.Before, Next.past_space, Rows.Row, Rules.Context, Rules.Ending, Units.Units}
use Rattle.latex2mathml_tex_grammar.specs.Makes.{Scripts}
use Rattle.latex2mathml_tex_grammar.specs.Reading.{Outcome, Read, ReadsAtoms, ReadsScripts, atom_read, atom_refused, atoms_end, atoms_stopped, change_refused, mark_refused, mark_taken, never_ended, rest_read, script_read, script_refused, scripts_end, text_ends}
use Rattle.latex2mathml_tex_grammar.specs.Starts.{step_next}
use Rattle.latex2mathml_tex_units.specs.Left.{units_at}
use Rattle.latex2mathml_tex.specs.{Frames.Start, Levels.AtomMade, Levels.Level, Levels.ScriptsLead}
use Rattle.latex2mathml_tex.specs.Levels as levels
use Rattle.latex2mathml_tex.specs.Steps.{MadeAtom, left_of, level}
use Rattle.latex2mathml_tex_units.specs.declared.input.Input.{Input}
use Rattle.latex2mathml_tex_atoms.specs.declared.atoms.Core.{Core}
use Rattle.latex2mathml_tex.specs.declared.parse.Parser.{Parser}
use Rattle.latex2mathml_tex_grammar.proofs.Spaces.{past_twice}

respaced : {e : Ending} {c : Context} {row : Row} {o : Outcome Row} (l m : Units) → past_space m ≡ past_space l → ReadsAtoms e c row l o → ReadsAtoms e c row m o
respaced l m same (text_ends h u) = text_ends (same ∙ h) u
respaced l m same (never_ended h u) = never_ended (same ∙ h) u
respaced l m same (atoms_stopped h) = atoms_stopped (same ∙ h)
respaced l m same (atoms_end h e) = atoms_end (same ∙ h) e
respaced l m same (atom_read h e a others) = atom_read (same ∙ h) e a others
respaced l m same (atom_refused h e a) = atom_refused (same ∙ h) e a
respaced l m same (rest_read h e s r others) = rest_read (same ∙ h) e s r others
respaced l m same (change_refused h e s r) = change_refused (same ∙ h) e s r

atom_spaced : (l : Level) (a : Atom) (m n : Units) → n ≡ past_space m → AtomMade l (Read a m) → AtomMade l (Read a n)
atom_spaced (levels.row e c xs K) a m n is k = λ o r. k o (respaced n m (sym (ap past_space is ∙ past_twice m)) r)
atom_spaced l a m n is k = absurd k

pub made_spaced : (s : Start) (p : Parser) (c : Core) (i : Input) → units_at i ≡ past_space (left_of p) → MadeAtom c s p → MadeAtom c s (record p { input = i })
made_spaced s p c i is g = record {
  style = g.style;
  leads = atom_spaced (level 1 s p) _ (left_of p) (units_at i) is g.leads;
}

-- White space before what follows an atom does not matter.
module _ (l : Level) (base : Atom) (m n : Units) (is : n ≡ past_space m) where
  same : past_space m ≡ past_space n
  same = sym (ap past_space is ∙ past_twice m)

  scripts_led : {c : Context} {before : Before} {scripts : Scripts} → ((o : Outcome Atom) → ReadsScripts c before base scripts m o → AtomMade l o) → (o : Outcome Atom) → ReadsScripts c before base scripts n o → AtomMade l o
  scripts_led {scripts = scripts} k o (scripts_end h) = atom_spaced l _ m n is (k _ (scripts_end (ap (step_next scripts) same ∙ h)))
  scripts_led k o (mark_taken h g r) = k o (mark_taken (same ∙ h) g r)
  scripts_led k o (script_read h g x r) = k o (script_read (same ∙ h) g x r)
  scripts_led k o (script_refused h g x) = k o (script_refused (same ∙ h) g x)
  scripts_led k o (mark_refused h g) = k o (mark_refused (same ∙ h) g)

pub scripts_spaced : (l : Level) (base : Atom) (scripts : Scripts) (m n : Units) → n ≡ past_space m → ScriptsLead l base scripts m → ScriptsLead l base scripts n
scripts_spaced (levels.row e c xs K) base scripts m n is k = scripts_led (levels.row e c xs K) base m n is k
scripts_spaced l base scripts m n is k = absurd k
