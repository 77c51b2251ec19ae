-- What is made of the operands of a command, and of an atom that is struck through.
use Rattle.std.proofs.Common.{◌≡◌, ℕ, ◌+◌, ◌≤◌, true, false, List, [], ◌∷◌, ◌++◌, drop, length, reverse, take, refl, sym, ap, ◌∙◌, arith}
use Rattle.std.proofs.lemmas.List.{length-drop}
use Rattle.std.specs.Prelude.{if◌then◌else◌}
use Rattle.latex2mathml_elements.specs.Element.{Element, token}
use Rattle.latex2mathml_builder.specs.{Built.Built, Built.elements_in, Stacks.is_token, Stacks.lengthened, Stacks.ordered, Stacks.group_at}
use Rattle.latex2mathml_tex_grammar.specs.{Atoms.atom, Atoms.element_as, Makes.Core, Makes.classed, Makes.core, Makes.classed_kind, Makes.no_letters, Makes.spaced_as, Makes.struck, Makes.text, Makes.choice}
use Rattle.latex2mathml_tex_grammar.specs.Refusal.{NothingToNegate, refusal_at}
use Rattle.latex2mathml_tex_grammar.specs.Rules.{gives, refuses, slashed, struck_atom}
use Rattle.latex2mathml_tex_commands.specs.Meanings.{class_of, style_of}
use Rattle.latex2mathml_tex_atoms.specs.{Models.core_with, Models.height_of, Models.kind_of, Models.operand_with, Models.top, Shapes.IsPut, Shapes.changed_at}
use Rattle.latex2mathml_tex.specs.{Choices.depth_in, Frames.Start, Frames.last_count, Frames.made_of, Frames.operand_in}
use Rattle.latex2mathml_tex.specs.Steps.{Begins, CanMake, Follows, HasElements, Holds, core_made, elements_of, level, to_do}
use Rattle.latex2mathml_tex_commands.specs.declared.meaning.{Class.Class as CodeClass, Style.Style as CodeStyle}
use Rattle.latex2mathml_tex_atoms.specs.declared.{atoms.Core.Core as CodeCore, atoms.Kind.Kind as CodeKind, atoms.Operand.Operand as CodeOperand}
use Rattle.latex2mathml_tex.specs.declared.{parse.Parser.Parser}
use Rattle.latex2mathml_tex_atoms.specs.declared.heights.Height.{Height as CodeHeight}
use Rattle.latex2mathml_tex_atoms.specs.declared.heights.Height.TheVariants as code_height
use Rattle.latex2mathml_tex_atoms.specs.declared.atoms.Kind.TheVariants as kind
use Rattle.latex2mathml_tex_units.specs.declared.error.TexErrorKind.TheVariants as error
use Rattle.latex2mathml_tex_commands.specs.declared.meaning.Class.TheVariants as class
use Rattle.latex2mathml_tex_commands.specs.declared.meaning.Style.TheVariants as style_is
use Rattle.latex2mathml_tex_commands.specs.declared.meaning.LimitPlace.TheVariants as place
use Rattle.latex2mathml_tex.specs.declared.parse.State.TheVariants as state
use Rattle.latex2mathml_tex.specs.declared.parse.frames.Last.{Last}
use Rattle.latex2mathml_tex.specs.declared.parse.frames.Last.TheVariants as last_is
use Rattle.latex2mathml_tex.proofs.Leading.{refused}
use Rattle.latex2mathml_tex.proofs.Marks.{all_refuse, core_refuses}
use Rattle.latex2mathml_tex.proofs.Wording.{core_of_words}

-- The uppermost elements

pub enough : (n : ℕ) (p : Parser) → HasElements n p → n ≤ length (elements_of p)
enough n p h = omega (arith, h)

pub top_first : (xs : List Element) → 1 ≤ length xs → xs ≡ top xs ∷ drop 1 xs
top_first [] h = absurd (omega (arith, h))
top_first (x ∷ xs) h = refl

pub first_changed : (f : Element → Element) (xs : List Element) → 1 ≤ length xs → changed_at f 0 xs ≡ f (top xs) ∷ drop 1 xs
first_changed f [] h = absurd (omega (arith, h))
first_changed f (x ∷ xs) h = refl

pub behind_changed : (f : Element → Element) (xs : List Element) → drop 1 (changed_at f 0 xs) ≡ drop 1 xs
behind_changed f [] = refl
behind_changed f (x ∷ xs) = refl

pub behind_two_changed : (f : Element → Element) (xs : List Element) → drop 2 (changed_at f 0 xs) ≡ drop 2 xs
behind_two_changed f [] = refl
behind_two_changed f (x ∷ xs) = refl

pub top_changed : (f : Element → Element) (xs : List Element) → 1 ≤ length xs → top (changed_at f 0 xs) ≡ f (top xs)
top_changed f [] h = absurd (omega (arith, h))
top_changed f (x ∷ xs) h = refl

pub one_taken : (xs : List Element) → 1 ≤ length xs → reverse (take 1 xs) ≡ top xs ∷ []
one_taken [] h = absurd (omega (arith, h))
one_taken (x ∷ xs) h = refl

pub two_exchanged : (xs : List Element) → 2 ≤ length xs → ordered true (reverse (take 2 xs)) ≡ top xs ∷ top (drop 1 xs) ∷ []
two_exchanged [] h = absurd (omega (arith, h))
two_exchanged (x ∷ []) h = absurd (omega (arith, h))
two_exchanged (x ∷ y ∷ xs) h = refl

-- An atom in place of the uppermost elements

module _ (p : Parser) (last : Last) (operand : CodeOperand) where
  -- the atom of a command whose last operand this is
  abbrev pub made : Core
  made = made_of last (drop 1 (elements_of p)) (operand_with operand (top (elements_of p)))

  abbrev pub below : List Element
  below = drop (last_count last + 1) (elements_of p)

  -- the uppermost element as a base of this class
  abbrev pub base : CodeStyle → CodeClass → Element → Element
  base style class x = element_as (style_of style) (class_of class) (class_of operand.class) x

  -- the uppermost element with the space of this class
  abbrev pub spaced : CodeClass → Element → Element
  spaced class x = spaced_as (class_of class) (class_of operand.class) x

  pub made_step : (b : Built) (c : CodeCore) (x : Element) → elements_in b ≡ x ∷ below → CanMake core_made (last_count last + 1) p → Follows (to_do p + 4) (record p { builder = b }) (state.Core c)
  made_step b c x put can = record {
    ready = record {
      elements = rw put (omega (arith, can.elements, length-drop (last_count last + 1) (elements_of p)));
      may_come = record { accepted = can.awaits.accepted; nested = can.awaits.nested };
    };
    falls = omega arith;
  }

  module _ (s : Start) where
    abbrev pub BeginsMade : Type 0
    BeginsMade = Begins (gives made) (last_count last + 1) s p

    pub made_put : (b : Built) (c : CodeCore) (x : Element) → elements_in b ≡ x ∷ below → core_with c x ≡ made → BeginsMade → Holds s (record p { builder = b }) (state.Core c)
    made_put b c x put is g = core_of_words s p b (last_count last + 1) c x made put is g

    pub made_held : (b : Built) (c : CodeCore) → IsPut c made below (elements_in b) → BeginsMade → Holds s (record p { builder = b }) (state.Core c)
    made_held b c is g = made_put b c made.atom.element is.element is.is g

    pub classed_put : (b d : Built) (class : CodeClass) (style : CodeStyle) (c : CodeCore) → last ≡ last_is.Classed class style → 1 ≤ length (elements_of p) → elements_in b ≡ changed_at (base style class) 0 (elements_of p) → (kind : CodeKind) → kind_of kind ≡ classed_kind (class_of class) (top (elements_in b)) → elements_in d ≡ changed_at (spaced class) 0 (elements_in b) → ((x : Element) → kind_of kind ≡ classed_kind (class_of class) x → core_with c (spaced class x) ≡ classed (class_of class) (operand_with operand x)) → BeginsMade → Holds s (record p { builder = d }) (state.Core c)
    classed_put b d class style c e some put kind is put_space same g =
        let x = base style class (top (elements_of p)) in
        let one : elements_in b ≡ x ∷ below = put ∙ rw e (first_changed (base style class) (elements_of p) some) in
        let all : elements_in d ≡ spaced class x ∷ below = put_space ∙ ap (changed_at (spaced class) 0) one in
        made_put d c (spaced class x) all (rw e (same x (is ∙ ap (λ ys. classed_kind (class_of class) (top ys)) one))) g

-- One of four operands

-- what is shown of an operand as its core
abbrev pub shown_core : CodeOperand → CodeCore
shown_core o = record { kind = kind.Plain o.class; height = o.height; limits = place.Beside }

-- what is shown in this style, of the operands below the uppermost one
abbrev pub shown_of : CodeStyle → CodeOperand → List Element → Core
shown_of style o xs = choice (style_of style) (operand_in o (drop 1 (drop 1 xs))) (operand_in o (drop 1 xs)) (operand_in o xs)

pub choice_put : (style : CodeStyle) (o : CodeOperand) (xs : List Element) → 4 ≤ length xs → IsPut (shown_core o) (shown_of style o (drop 1 xs)) (drop 4 xs) (group_at (depth_in style) xs ∷ drop 4 xs)
choice_put style o [] h = absurd (omega (arith, h))
choice_put style o (x ∷ []) h = absurd (omega (arith, h))
choice_put style o (x ∷ y ∷ []) h = absurd (omega (arith, h))
choice_put style o (x ∷ y ∷ z ∷ []) h = absurd (omega (arith, h))
choice_put style_is.InDisplay o (x ∷ y ∷ z ∷ w ∷ xs) h = record { element = refl; is = refl }
choice_put style_is.InText o (x ∷ y ∷ z ∷ w ∷ xs) h = record { element = refl; is = refl }
choice_put style_is.InScript o (x ∷ y ∷ z ∷ w ∷ xs) h = record { element = refl; is = refl }

-- A stroke through the uppermost element

abbrev pub stroke : List ℕ
stroke = text 0x0338

-- an ordinary atom without limits
abbrev pub ordinary : CodeHeight → CodeCore
ordinary height = record { kind = kind.Plain class.Ordinary; height = height; limits = place.Beside }

pub slash_put : (operand : CodeOperand) (height : CodeHeight) (xs : List Element) → 1 ≤ length xs → height ≡ (if is_token xs then code_height.Low else operand.height) → IsPut (ordinary height) (slashed (operand_with operand (top xs)) (struck (top xs))) (drop 1 xs) (lengthened stroke xs)
slash_put operand height [] h e = absurd (omega (arith, h))
slash_put operand height (token t a signs ∷ xs) h e = record { element = refl; is = rw e refl }
slash_put operand height (x ∷ xs) h e = record { element = refl; is = rw e refl }

-- the atom of a core that is struck through
abbrev pub StruckTo : ℕ → CodeCore → CodeCore → List Element → Core → Type 0
StruckTo at c d xs k = IsPut d k (drop 1 xs) (lengthened stroke xs) × (struck_atom at (core_with c (top xs)) (struck (top xs)) ≡ gives k)

is_struck : (at : ℕ) (c : CodeCore) (k : CodeKind) (xs : List Element) → is_token xs ≡ true → kind_of k ≡ no_letters (kind_of c.kind) → (made : Core) × StruckTo at c (record { kind = k; height = c.height; limits = place.Beside }) xs made
is_struck at c k [] is same = absurd (cc)
is_struck at c k (token t a signs ∷ xs) is same = (core (atom (kind_of k) (height_of c.height) (token t a (signs ++ stroke))), (record { element = refl; is = refl }, rw same refl))
is_struck at c k (x ∷ xs) is same = absurd (cc)

not_struck : (at : ℕ) (c : CodeCore) (xs : List Element) → is_token xs ≡ false → struck_atom at (core_with c (top xs)) (struck (top xs)) ≡ refuses (refusal_at NothingToNegate at)
not_struck at c [] is = refl
not_struck at c (token t a signs ∷ xs) is = absurd (cc)
not_struck at c (x ∷ xs) is = refl

module _ (s : Start) (p : Parser) (at : ℕ) (c : CodeCore) where
  abbrev pub BeginsStruck : Type 0
  BeginsStruck = Begins (struck_atom at (core_with c (top (elements_of p))) (struck (top (elements_of p)))) 1 s p

  pub struck_put : (b : Built) (d : CodeCore) (k : CodeKind) → d ≡ record { kind = k; height = c.height; limits = place.Beside } → kind_of k ≡ no_letters (kind_of c.kind) → is_token (elements_of p) ≡ true → elements_in b ≡ lengthened stroke (elements_of p) → BeginsStruck → Holds s (record p { builder = b }) (state.Core d)
  struck_put b d k e same is put g =
      let (made, (to, rule)) = is_struck at c k (elements_of p) is same in
      rw e (core_of_words s p b 1 (record { kind = k; height = c.height; limits = place.Beside }) made.atom.element made (put ∙ to.element) to.is (rw rule at g))

  pub nothing_struck : (q : Parser) → q.style ≡ p.style → q.refusal ≡ record { kind = error.NothingToNegate; place = at } → is_token (elements_of p) ≡ false → BeginsStruck → Holds s q state.Refused
  nothing_struck q f h is g =
      let r = refusal_at NothingToNegate at in
      let due : Begins (refuses r) 1 s p = rw (not_struck at c (elements_of p) is) at g in
      record {
        style = g.style ∙ ap style_of (sym f);
        claims = rw h (all_refuse r s (reverse p.frames.stack.items) (drop 1 (elements_of p)) (core_refuses r (level 1 s p) (refused due.leads)));
      }
