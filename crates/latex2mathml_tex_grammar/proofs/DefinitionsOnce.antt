-- A text of definitions defines one table of macros, or has one refusal.
use Rattle.std.proofs.Common.{ℕ, List, ◌≡◌, ◌⊎◌, inl, inr, refl, subst}
use Rattle.latex2mathml_tex_grammar.specs.DefinitionLaws.{HaveOneTableOrRefusal}
use Rattle.latex2mathml_tex_grammar.specs.DefinitionTexts.{AreRefused, Defines, ReadsDefinitions, no_more, stopped, defines, no_definition, definition_refused}
use Rattle.latex2mathml_tex_grammar.specs.{Macros.Table, Reading.Outcome, Reading.Read, Reading.Refused, Refusal.Refusal}
use Rattle.latex2mathml_tex_grammar.specs.Units.{Units, End, HasUnits}
use Rattle.latex2mathml_tex_grammar.specs.UsualMacros.{usual_macros}
use Rattle.latex2mathml_tex_grammar.proofs.{DefinitionTexts.have_one_table, OneList.has_one_list}

-- where the outcome of definitions is a table, they end with their text
read_to_end : {table : Table} {l : Units} {o : Outcome Table} → ReadsDefinitions table l o → (t : Table) (k : Units) → o ≡ Read t k → (end : ℕ) × (k ≡ End end)
read_to_end (no_more {place = place} e) t k is = let same : k ≡ End place = cc in (place, same)
read_to_end (stopped e) t k is = cc
read_to_end (defines e w g d) t k is = read_to_end d t k is
read_to_end (no_definition e w) t k is = cc
read_to_end (definition_refused e w g) t k is = cc

some : (text : List ℕ) (units : Units) (o : Outcome Table) → HasUnits 0 text units → ReadsDefinitions usual_macros units o → ((table : Table) × Defines text table) ⊎ ((r : Refusal) × AreRefused text r)
some text units (Read table k) spelled d =
    let end = read_to_end d table k refl in
    inl (table, record { units = units; end = end.0; spelled = spelled; read = subst (λ m. ReadsDefinitions usual_macros units (Read table m)) end.1 d })
some text units (Refused r) spelled d = inr (r, record { units = units; spelled = spelled; refused = d })

-- the units of a text have one outcome
one_outcome : (text : List ℕ) (l m : Units) (o p : Outcome Table) → HasUnits 0 text l → HasUnits 0 text m → ReadsDefinitions usual_macros l o → ReadsDefinitions usual_macros m p → o ≡ p
one_outcome text l m o p spelled also d e =
    let same : m ≡ l = (has_one_list text).one m l also spelled in
    (have_one_table usual_macros l).one o p d (subst (λ k. ReadsDefinitions usual_macros k p) same e)

pub have_one_table_or_refusal : HaveOneTableOrRefusal
have_one_table_or_refusal = λ text. record {
  some =
      let list = (has_one_list text).some in
      let outcome = (have_one_table usual_macros list.0).some in
      some text list.0 outcome.0 list.1 outcome.1;
  one_table = λ table other d e.
      let same : Read table (End d.end) ≡ Read other (End e.end) = one_outcome text d.units e.units _ _ d.spelled e.spelled d.read e.read in
      cc;
  one_refusal = λ r q d e.
      let same : Refused r ≡ Refused q = one_outcome text d.units e.units _ _ d.spelled e.spelled d.refused e.refused in
      cc;
  never_both = λ table r d e.
      let same : Read table (End d.end) ≡ Refused r = one_outcome text d.units e.units _ _ d.spelled e.spelled d.read e.refused in
      cc;
}
