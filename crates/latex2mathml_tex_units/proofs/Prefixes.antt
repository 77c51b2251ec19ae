-- Words that may precede definitions, and are passed over.
use Rattle.std.proofs.Common.{◌≡◌, ◌∙◌, ◌||◌, ◌<◌, ◌≤◌, Bool, true, false, Some, None, inl, inr, refl, sym, ap, subst, arith}
use Rattle.std.proofs.lemmas.Bool.{cases_Bool}
use Rattle.std.specs.Prelude.{if◌then◌else◌}
use Rattle.latex2mathml_tex_grammar.specs.{DefinitionTexts.is_prefix, DefinitionTexts.past_prefixes, Macros.unit_count, Next.is_space_piece, Next.past_space}
use Rattle.latex2mathml_tex_grammar.specs.Units as units
use Rattle.latex2mathml_tex_grammar.specs.Units.{Units, Next, End, Stop}
use Rattle.latex2mathml_tex_grammar.proofs.Shrinking.{no_more_past_space}
use Rattle.latex2mathml_tex_units.specs.{Pending.next_piece, Taking.Takes, Taking.unit_of}
use Rattle.latex2mathml_tex_units.specs.declared.unit.Next.{Next as CodeNext}
use Rattle.latex2mathml_tex_units.specs.declared.unit.Next.TheVariants as next

either_is : (b : Bool) (l m : Units) → b ≡ true → (if b then l else m) ≡ l
either_is true l m e = refl
either_is false l m e = cc

neither_is : (b : Bool) (l m : Units) → b ≡ false → (if b then l else m) ≡ m
neither_is true l m e = cc
neither_is false l m e = refl

-- white space that was skipped before makes no difference
past_first : (l : Units) → past_prefixes (past_space l) ≡ past_prefixes l
past_first (Next u l) = elim (cases_Bool (is_space_piece u.piece)) [
  | inl h ↦ ap past_prefixes (either_is (is_space_piece u.piece) (past_space l) (Next u l) h) ∙ past_first l ∙ sym (either_is (is_space_piece u.piece || is_prefix u.piece) (past_prefixes l) (Next u l) (or_first (is_space_piece u.piece) (is_prefix u.piece) h))
  | inr h ↦ ap past_prefixes (neither_is (is_space_piece u.piece) (past_space l) (Next u l) h)
]
  where
    or_first : (a b : Bool) → a ≡ true → (a || b) ≡ true
    or_first true b e = refl
    or_first false b e = cc
past_first (End place) = refl
past_first (Stop r) = refl

-- what follows white space is none
no_space : (l m : Units) (u : units.Unit) → past_space l ≡ Next u m → is_space_piece u.piece ≡ false
no_space (Next v l) m u e = elim (cases_Bool (is_space_piece v.piece)) [
  | inl h ↦ no_space l m u (sym (either_is (is_space_piece v.piece) (past_space l) (Next v l) h) ∙ e)
  | inr h ↦ (
      let same : Next v l ≡ Next u m = sym (neither_is (is_space_piece v.piece) (past_space l) (Next v l) h) ∙ e in
      let is : v ≡ u = cc in
      subst (λ w. is_space_piece w.piece ≡ false) is h)
]
no_space (End place) m u e = cc
no_space (Stop r) m u e = cc

pub nothing_follows : (k l start : Units) → past_prefixes l ≡ past_prefixes start → k ≡ past_space l → None ≡ next_piece k → k ≡ past_prefixes start
nothing_follows k l start same s e = itself k e ∙ ap past_prefixes s ∙ past_first l ∙ same
  where
    itself : (k : Units) → None ≡ next_piece k → k ≡ past_prefixes k
    itself (Next u m) e = cc
    itself (End place) e = refl
    itself (Stop r) e = refl

pub another_follows : (k l start : Units) (p : units.Piece) → past_prefixes l ≡ past_prefixes start → k ≡ past_space l → Some p ≡ next_piece k → is_prefix p ≡ false → k ≡ past_prefixes start
another_follows k l start p same s e none = itself k s e ∙ ap past_prefixes s ∙ past_first l ∙ same
  where
    or_none : (a b : Bool) → a ≡ false → b ≡ false → (a || b) ≡ false
    or_none true b e f = cc
    or_none false b e f = f

    itself : (k : Units) → k ≡ past_space l → Some p ≡ next_piece k → k ≡ past_prefixes k
    itself (Next u m) s e =
        let is : p ≡ u.piece = cc in
        sym (neither_is (is_space_piece u.piece || is_prefix u.piece) (past_prefixes m) (Next u m) (or_none (is_space_piece u.piece) (is_prefix u.piece) (no_space l m u (sym s)) (ap is_prefix (sym is) ∙ none)))
    itself (End place) s e = cc
    itself (Stop r) s e = cc

-- the unit that comes next was taken
was_taken : (taken : CodeNext) (k m : Units) (p : units.Piece) → Takes taken k m → Some p ≡ next_piece k → (u : units.Unit) × (k ≡ Next u m) × (p ≡ u.piece)
was_taken (next.Unit u) k m p takes e =
    let there : Some p ≡ next_piece (Next (unit_of u) m) = e ∙ ap next_piece takes in
    let is : p ≡ (unit_of u).piece = cc in
    (unit_of u, takes, is)
was_taken (next.End place) k m p takes e = (let none : Some p ≡ None = e ∙ ap next_piece takes.0 in cc)
was_taken (next.Fault fault place) k m p takes e = (let none : Some p ≡ None = e ∙ ap next_piece takes.0 in cc)

pub prefix_smaller : (taken : CodeNext) (k l m : Units) (p : units.Piece) → k ≡ past_space l → Takes taken k m → Some p ≡ next_piece k → unit_count m < unit_count l
prefix_smaller taken k l m p s takes e =
    let (u, is, piece) = was_taken taken k m p takes e in
    let less : unit_count k ≤ unit_count l = subst (λ x. unit_count x ≤ unit_count l) (sym s) (no_more_past_space l) in
    omega (arith, ap unit_count is, less)

pub prefix_passed : (taken : CodeNext) (k l m start : Units) (p : units.Piece) → past_prefixes l ≡ past_prefixes start → k ≡ past_space l → Takes taken k m → Some p ≡ next_piece k → is_prefix p ≡ true → past_prefixes m ≡ past_prefixes start
prefix_passed taken k l m start p same s takes e passes =
    let (u, is, piece) = was_taken taken k m p takes e in
    sym (either_is (is_space_piece u.piece || is_prefix u.piece) (past_prefixes m) (Next u m) (or_second (is_space_piece u.piece) (is_prefix u.piece) (ap is_prefix (sym piece) ∙ passes)))
    ∙ ap past_prefixes (sym is ∙ s) ∙ past_first l ∙ same
  where
    or_second : (a b : Bool) → b ≡ true → (a || b) ≡ true
    or_second true b e = refl
    or_second false b e = e
