-- What holds of the parser where an element is put.
use Rattle.std.proofs.Common.{Bool, true, ◌≡◌, ℕ, ◌+◌, ◌≤◌, false, List, ◌∷◌, Option, Some, None, sym, ap, ◌∙◌, arith}
use Rattle.latex2mathml_elements.specs.Element.{Element}
use Rattle.latex2mathml_builder.specs.Built.{Built, elements_in}
use Rattle.latex2mathml_tex_grammar.specs.Heights.{Low}
use Rattle.latex2mathml_tex_grammar.specs.{Atoms.Plain, Atoms.atom, Makes.Core, Makes.core, Makes.number, Next.digits_next, Next.follows, Next.next_are, Symbols.Alphabet, Symbols.Ordinary, Units.Piece}
use Rattle.latex2mathml_tex_grammar.specs.Rules.{Rule, gives, if_follows, takes_digits, takes_if}
use Rattle.latex2mathml_tex_units.specs.Left.{unit_count, units_at}
use Rattle.latex2mathml_tex.specs.Frames.{Start}
use Rattle.latex2mathml_tex_atoms.specs.{Models.core_with, Shapes.IsPut}
use Rattle.latex2mathml_tex.specs.Steps.{Begins, CanBegin, Follows, Holds, elements_of, left_of, to_do}
use Rattle.latex2mathml_tex_units.specs.declared.input.Input.{Input}
use Rattle.latex2mathml_tex_atoms.specs.declared.atoms.Core.{Core as CodeCore}
use Rattle.latex2mathml_tex.specs.declared.parse.Parser.{Parser}
use Rattle.latex2mathml_tex.specs.declared.parse.State.TheVariants as state
use Rattle.latex2mathml_tex.proofs.Leading.{digits, follows_next, given, none_follows, not_taken, taken}

-- the element of an atom without scripts
pub core_put : (s : Start) (p : Parser) (b : Built) (c : CodeCore) (x : Element) (k : Core) → elements_in b ≡ x ∷ elements_of p → core_with c x ≡ k → Begins (gives k) 0 s p → Holds s (record p { builder = b }) (state.Core c)
core_put s p b c x k e f g = record {
  style = g.style;
  claims = rw (e, f) (given g.leads);
}

-- an element is a whole atom
pub is_put : (c : CodeCore) (x : Element) (k : Core) (old new : List Element) → new ≡ x ∷ old → core_with c x ≡ k → IsPut c k old new
is_put c x k old new e f = record {
  element = e ∙ ap (λ (j : Core). j.atom.element ∷ old) f;
  is = ap (λ (j : Core). core_with c j.atom.element) (sym f) ∙ f;
}

-- what was put is what the parser then has
pub put_held : (s : Start) (p : Parser) (b : Built) (c : CodeCore) (k : Core) → IsPut c k (elements_of p) (elements_in b) → Begins (gives k) 0 s p → Holds s (record p { builder = b }) (state.Core c)
put_held s p b c k is g = core_put s p b c k.atom.element k is.element is.is g

-- how much is left to do where an element was put, if there are no more units than before
pub core_step : (p : Parser) (i : Input) (b : Built) (c : CodeCore) (x : Element) → CanBegin 0 p → elements_in b ≡ x ∷ elements_of p → unit_count (units_at i) ≤ unit_count (left_of p) → Follows (to_do p + 13) (record p { input = i; builder = b }) (state.Core c)
core_step p i b c x begins e h = record {
  ready = record { elements = rw e (omega (arith, begins.elements)); may_come = record { accepted = begins.awaits.accepted; nested = begins.awaits.nested } };
  falls = omega (arith, h);
}

-- What begins where units were taken

module _ (s : Start) (p : Parser) (i : Input) where
  pub past_digits : (then : List ℕ → Rule) → units_at i ≡ (digits_next (left_of p)).1 → Begins (takes_digits then) 0 s p → Begins (then (digits_next (left_of p)).0) 0 s (record p { input = i })
  past_digits then e g = record { style = g.style; leads = rw e (digits then g.leads) }

  pub past_units : {tests : List (Piece → Option (List ℕ))} (then : List ℕ → Rule) {otherwise : Rule} (texts : List ℕ) → next_are tests (left_of p) ≡ Some (texts, units_at i) → Begins (takes_if tests then otherwise) 0 s p → Begins (then texts) 0 s (record p { input = i })
  past_units then texts e g = record { style = g.style; leads = taken then e g.leads }

  pub past_none : {tests : List (Piece → Option (List ℕ))} {then : List ℕ → Rule} (otherwise : Rule) → next_are tests (left_of p) ≡ None → units_at i ≡ left_of p → Begins (takes_if tests then otherwise) 0 s p → Begins otherwise 0 s (record p { input = i })
  past_none otherwise e f g = record { style = g.style; leads = rw f (not_taken e g.leads) }

-- What begins if a unit that passes a test comes next, and if none does
module _ (s : Start) (p : Parser) {test : Piece → Bool} {then otherwise : Rule} where
  pub before_unit : follows test (left_of p) ≡ true → Begins (if_follows test then otherwise) 0 s p → Begins then 0 s p
  before_unit e g = record { style = g.style; leads = follows_next e g.leads }

  pub before_none : follows test (left_of p) ≡ false → Begins (if_follows test then otherwise) 0 s p → Begins otherwise 0 s p
  before_none e g = record { style = g.style; leads = none_follows e g.leads }

-- the element of a number
pub number_put : (s : Start) (p : Parser) (b : Built) (c : CodeCore) (given_alphabet alphabet : Option Alphabet) (ds : List ℕ) → ((x : Element) → core_with c x ≡ core (atom (Plain Ordinary) Low x)) → given_alphabet ≡ alphabet → elements_in b ≡ (number given_alphabet ds).element ∷ elements_of p → Begins (gives (core (number alphabet ds))) 0 s p → Holds s (record p { builder = b }) (state.Core c)
number_put s p b c given_alphabet alphabet ds f h e g = core_put s p b c (number given_alphabet ds).element (core (number alphabet ds)) e (f (number given_alphabet ds).element ∙ ap (λ a. core (number a ds)) h) g
