-- White space between the units of a formula is ignored.
use Rattle.std.proofs.Common.{◌≡◌, ◌||◌, ℕ, List, ap, refl, sym, subst, ◌∙◌, IsTrue, IsFalse}
use Rattle.latex2mathml_tex_grammar.specs.{Expansion.Stands, Expansion.role_of, ExpansionLaws.AllStand, Formulas.IsExpansion, Formulas.IsReading, Formulas.IsRefusal, Formulas.formula_context, Laws.HaveAlikeExpansions, Laws.IsSpaceNothing, Laws.StandsByItself, Macros.Table, Operands.none_due, Refusal.Refusal, Rows.Row, Symbols.Style}
use Rattle.latex2mathml_tex_grammar.specs.Reading.{Outcome, Read, Refused, ReadsAtoms, ReadsRule}
use Rattle.latex2mathml_tex_grammar.specs.Rules.{Context, WholeText, begun, rows_of_text}
use Rattle.latex2mathml_tex_grammar.specs.Spacing.{Standing, InFormula, standing_behind, AreAlike, both_end, both_stop, same_piece, space_before, space_behind, Alike, AreAlikeOutcomes, HaveAlikeUnits}
use Rattle.latex2mathml_tex_grammar.specs.Separators.{columns_by, depth_behind, has_separator, separates, text_columns}
use Rattle.latex2mathml_tex_grammar.specs.Units.{Units, Next, End, Stop, HasUnits}
use Rattle.latex2mathml_tex_grammar.proofs.{AlikeRules.both_whole, Expanded.own, OneList.units_are, Readings.expanded_are, Readings.formula_to_the_end, Spaces.in_formula, Unique.one_atoms, AlikeRules.rows_too, AlikeRules.gives_too, Carrying.carry_rule}
use Rattle.latex2mathml_tex_grammar.proofs.Carrying.{Carried, also_read, also_refused, carry_atoms}
use Rattle.latex2mathml_tex_grammar.specs.Formulas.{ReadsFormula, as_atoms, as_rows, alone, asks_for_rows, is_outside}
use Rattle.latex2mathml_tex_grammar.specs.Makes.{Core}

carried : {c : Context} {row : Row} {l m : Units} {o : Outcome Row} → Alike l m → ReadsAtoms WholeText c row l o → Carried InFormula (ReadsAtoms WholeText c row m) o
carried h d = carry_atoms InFormula d both_whole in_formula h

itself : (at : Standing) (l : Units) → AreAlike at l l
itself at (Next u l) = same_piece refl (itself (standing_behind u.piece at) l)
itself at (End place) = both_end
itself at (Stop r) = both_stop refl

turned : {at : Standing} {l m : Units} → AreAlike at l m → AreAlike at m l
turned both_end = both_end
turned (both_stop e) = both_stop (sym e)
turned {at = at} (same_piece {l = l} {m = m} e h) = same_piece (sym e) (subst (λ p. AreAlike (standing_behind p at) m l) e (turned h))
turned (space_before w e h) = space_behind w e (turned h)
turned (space_behind w e h) = space_before w e (turned h)

-- what is carried over is the one outcome there
alike_outcomes : {reads : Outcome Row → Type 0} {o : Outcome Row} (p : Outcome Row) → Carried InFormula reads o → ((q : Outcome Row) → reads q → q ≡ p) → AreAlikeOutcomes o p
alike_outcomes p (also_read {x = x} {l = l} n h d) one = subst (AreAlikeOutcomes (Read x l)) (one (Read x n) d) refl
alike_outcomes p (also_refused {r = r} q e d) one = subst (AreAlikeOutcomes (Refused r)) (one (Refused q) d) e

-- a text has one expansion
with_units : {macros : Table} {text : List ℕ} {l m : Units} (P : Units → Type 0) → IsExpansion macros text l → IsExpansion macros text m → P l → P m
with_units P h k p = subst P (sym (expanded_are h) ∙ expanded_are k) p

-- white space separates no cells
same_separators : {at : Standing} {l m : Units} (depth : ℕ) → AreAlike at l m → has_separator depth l ≡ has_separator depth m
same_separators depth both_end = refl
same_separators depth (both_stop e) = refl
same_separators depth (same_piece {u = u} {v = v} {l = l} e h) =
    ap (λ p. separates p depth || has_separator (depth_behind p depth) l) e
    ∙ ap (λ b. separates v.piece depth || b) (same_separators (depth_behind v.piece depth) h)
same_separators depth (space_before w e h) = rw e (same_separators depth h)
same_separators depth (space_behind w e h) = rw e (same_separators depth h)

-- formulas are carried over too

atoms_there : {style : Style} {m : Units} {o : Outcome Row} → IsFalse (asks_for_rows o) → Carried InFormula (ReadsAtoms WholeText (formula_context style) (begun WholeText) m) o → Carried InFormula (ReadsFormula style m) o
atoms_there s (also_read n h d) = also_read n h (as_atoms d s)
atoms_there s (also_refused q e d) = also_refused q e (as_atoms d (subst (λ k. IsFalse (is_outside k)) e s))

rows_there : {style : Style} {m : Units} {o : Outcome Row} {p : Outcome Core} → IsTrue (asks_for_rows o) → Carried InFormula (ReadsAtoms WholeText (formula_context style) (begun WholeText) m) o → Carried InFormula (ReadsRule (rows_of_text (text_columns m) (formula_context style)) m) p → Carried InFormula (ReadsFormula style m) (alone style p)
rows_there s (also_read n h d) rows = cc s
rows_there s (also_refused q e d) (also_read n h t) = also_read n h (as_rows d (subst (λ k. IsTrue (is_outside k)) e s) t)
rows_there s (also_refused q e d) (also_refused r f t) = also_refused r f (as_rows d (subst (λ k. IsTrue (is_outside k)) e s) t)

carried_formula : {style : Style} {l m : Units} {o : Outcome Row} → Alike l m → ReadsFormula style l o → Carried InFormula (ReadsFormula style m) o
carried_formula h (as_atoms d s) = atoms_there s (carried h d)
carried_formula {style = style} {m = m} h (as_rows {p = p} d s t) =
    rows_there s (carried h d)
    (subst (λ b. Carried InFormula (ReadsRule (rows_of_text (columns_by b) (formula_context style)) m) p) (same_separators 0 h)
    (carry_rule t (rows_too (λ lines at other. gives_too)) in_formula h))

reading_there : {macros : Table} {text : List ℕ} {style : Style} {row : Row} {end : ℕ} {m : Units} → IsExpansion macros text m → Carried InFormula (ReadsFormula style m) (Read row (End end)) → IsReading macros text style row
unfolding IsReading
reading_there {style = style} {row = row} {m = m} has (also_read n h d) =
    let (other, e) = formula_to_the_end d in (m, has, (other, subst (λ k. ReadsFormula style m (Read row k)) e d))

refusal_there : {macros : Table} {text : List ℕ} {style : Style} {r : Refusal} {m : Units} → IsExpansion macros text m → Carried InFormula (ReadsFormula style m) (Refused r) → (q : Refusal) × (r.kind ≡ q.kind) × IsRefusal macros text style q
unfolding IsRefusal
refusal_there {m = m} has (also_refused q e d) = (q, e, (m, has, d))

-- where no macro is used and none is defined among units, none is among units that are alike
stand_there : (macros : Table) {at : Standing} {l m : Units} → AreAlike at l m → AllStand macros l → AllStand macros m
stand_there macros both_end h = tt
stand_there macros (both_stop e) h = tt
stand_there macros (same_piece e d) h = (subst (λ p. role_of macros p ≡ Stands p) e h.0, stand_there macros d h.1)
stand_there macros (space_before w e d) h = stand_there macros d h.1
stand_there macros (space_behind w e d) h = (rw e refl, stand_there macros d h)

stands_itself : (macros : Table) (text : List ℕ) (l : Units) → HasUnits 0 text l → AllStand macros l → IsExpansion macros text l
stands_itself macros text l has h = record { units = l; spelled = has; expands = own macros _ _ none_due l h }

alike_there : (macros : Table) (text other : List ℕ) → HaveAlikeUnits text other → StandsByItself macros text → HaveAlikeExpansions macros text other
alike_there macros text other (l, m, has, there, h) (units, also, stand) =
    let stands : AllStand macros l = subst (AllStand macros) (sym (units_are 0 text units also) ∙ units_are 0 text l has) stand in
    (l, m, stands_itself macros text l has stands, stands_itself macros other m there (stand_there macros h stands), h)

-- the law
pub is_space_nothing : IsSpaceNothing
unfolding IsReading IsRefusal
is_space_nothing = record {
  itself = itself InFormula;
  turned = λ l m h. turned h;
  outcomes = λ c row l m o p h d e. alike_outcomes p (carried h d) (λ q k. one_atoms k e);
  readings = λ macros text other style row (l, m, has, there, h) (k, here, (end, d)).
      reading_there there (carried_formula h (with_units (λ k. ReadsFormula style k (Read row (End end))) here has d));
  refusals = λ macros text other style r (l, m, has, there, h) (k, here, d).
      refusal_there there (carried_formula h (with_units (λ k. ReadsFormula style k (Refused r)) here has d));
  expansions = alike_there;
}
