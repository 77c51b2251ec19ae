-- Units that stay as they are when a text is expanded.
use Rattle.std.proofs.Common.{◌≡◌, ◌∙◌, ◌-◌, ℕ, Bool, List, [], ◌∷◌, ◌++◌, None, Option, Some, false, append-nil, drop, take, length, append_assoc, map, refl, sym, ap}
use Rattle.std.specs.Option.{is_some}
use Rattle.std.specs.Prelude.{Err, IsTrue, Ok, OnOk, Result, ⊤}
use Rattle.std.proofs.lemmas.List.{map-append}
use Rattle.latex2mathml_tex_grammar.specs.Expanding.{expansion}
use Rattle.latex2mathml_tex_grammar.specs.Expansion.{Stands, role_as, role_of, turn_of}
use Rattle.latex2mathml_tex_grammar.specs.{Macros.Table, Macros.before, Operands.Due, Operands.due_behind_units, Operands.is_due}
use Rattle.latex2mathml_tex_grammar.specs.Units as units
use Rattle.latex2mathml_tex_grammar.specs.Units.{Units}
use Rattle.latex2mathml_tex_grammar.proofs.Expanding.{expansion_end, expansion_stays}
use Rattle.latex2mathml_tex_units.specs.{Expanded.after_refusal, Pending.put_before, MacroTables.defined_in, MacroTables.or_usual, MacroTables.table_of, Taking.piece_of, Taking.unit_of, declared.macros.scope.Scope.Scope, declared.unit.Fault.Fault, declared.unit.Unit.Unit}
use Rattle.latex2mathml_tex_units.specs.Standing.{AreStanding, IsUsual, Moves}
use Rattle.latex2mathml_tex_units.proofs.{Dues.behind_more, Dues.behind_list, Whole.before-last, Whole.moved_all}

pub none_moved : (usual : Bool) (old : List Unit) (l : Units) → Moves old old (λ taken. AreStanding usual taken l l)
none_moved usual old l = ([], sym (append-nil old), λ table uses room d holds. refl)

-- one more unit stays
pub moved_on : (usual : Bool) (old new more : List Unit) (u : Unit) (start l m : Units) → Moves old new (λ taken. AreStanding usual taken start l) → more ≡ new ++ u ∷ [] → l ≡ units.Next (unit_of u) m
    → ((table : Table) → IsUsual usual table → role_of table (piece_of u.piece) ≡ Stands (piece_of u.piece))
    → Moves old more (λ taken. AreStanding usual taken start m)
moved_on usual old new more u start l m (us, e, so_far) pushed is stands = (
  us ++ u ∷ [],
  pushed ∙ ap (λ k. k ++ u ∷ []) e ∙ append_assoc old us (u ∷ []),
  λ table uses room d holds.
      let here = due_behind_units (map unit_of us) d in
      let next = due_behind_units (map unit_of (u ∷ [])) here in
      so_far table uses room d holds
      ∙ ap (λ k. before (map unit_of us) (expansion table uses room here k)) is
      ∙ ap (before (map unit_of us)) (expansion_stays table uses room here (unit_of u) (piece_of u.piece) m (ap (λ role. turn_of (role_as (is_due here) role) table uses room (unit_of u) m) (stands table holds)))
      ∙ sym (before-last (map unit_of us) (unit_of u) (expansion table uses room next m))
      ∙ ap (λ xs. before xs (expansion table uses room next m)) (sym (map-append unit_of us (u ∷ [])))
      ∙ ap (λ x. before (map unit_of (us ++ u ∷ [])) (expansion table uses room x m)) (sym (behind_more us (u ∷ []) d)),
)

-- where no macro was defined, only the usual ones hold
pub usual_alone : (usual : Bool) (m : Scope) → (IsTrue usual → (name : List ℕ) → defined_in m name ≡ None) → IsUsual usual (table_of m)
usual_alone usual m none = λ h name. ap (λ x. or_usual x name) (none h name)

-- units that stay up to the end of a text are its expansion
pub listed_end : (usual : Bool) (old us : List Unit) (l m : Units) (place : ℕ) (table : Table) (uses room : ℕ) (d : Due) → old ≡ [] → Moves old us (λ taken. AreStanding usual taken l m) → IsUsual usual table → m ≡ units.End place
    → before (map unit_of us) (units.End place) ≡ expansion table uses room d l
listed_end usual old us l m place table uses room d none (taken, e, standing) holds is =
    let behind = due_behind_units (map unit_of taken) d in
    ap (λ xs. before (map unit_of xs) (units.End place)) (e ∙ ap (λ o. o ++ taken) none)
    ∙ ap (before (map unit_of taken)) (sym (expansion_end table uses room behind place) ∙ ap (expansion table uses room behind) (sym is))
    ∙ sym (standing table uses room d holds)

-- the units so far and the expansion of what is left are those before more of them were taken
pub standing_all : (usual : Bool) (old us : List Unit) (l m : Units) (table : Table) (uses room : ℕ) (d : Due) → Moves old us (λ taken. AreStanding usual taken l m) → IsUsual usual table
    → before (map unit_of us) (expansion table uses room (due_behind_units (map unit_of us) d) m) ≡ before (map unit_of old) (expansion table uses room (due_behind_units (map unit_of old) d) l)
standing_all usual old us l m table uses room d (taken, e, standing) holds =
    let start = due_behind_units (map unit_of old) d in
    ap (λ x. before (map unit_of us) (expansion table uses room x m)) (ap (λ xs. due_behind_units (map unit_of xs) d) e ∙ behind_more old taken d)
    ∙ moved_all old us (expansion table uses room start l) (expansion table uses room (due_behind_units (map unit_of taken) start) m) _ refl (taken, e, standing table uses room start holds)

-- the same, where nothing is left
pub standing_end : (usual : Bool) (old us : List Unit) (l m : Units) (place : ℕ) (table : Table) (uses room : ℕ) (d : Due) → Moves old us (λ taken. AreStanding usual taken l m) → IsUsual usual table → m ≡ units.End place
    → before (map unit_of us) (units.End place) ≡ before (map unit_of old) (expansion table uses room (due_behind_units (map unit_of old) d) l)
standing_end usual old us l m place table uses room d moved holds is =
    let behind = due_behind_units (map unit_of us) d in
    ap (before (map unit_of us)) (sym (expansion_end table uses room behind place) ∙ ap (expansion table uses room behind) (sym is))
    ∙ standing_all usual old us l m table uses room d moved holds

-- units that stay were taken by an expander that has nothing else before them, and passed
pub standing_left : {E : Type 0} (result : Result ⊤ E) (refused : Option (Fault × ℕ)) (put old us slice : List Unit) (n : ℕ) (usual : Bool) (l m : Units) (table : Table) (uses room : ℕ) (d e : Due)
    → false ≡ is_some refused
    → put ≡ []
    → Moves old us (λ taken. AreStanding usual taken l m)
    → IsUsual usual table
    → slice ≡ take (length us - n) (drop n us)
    → n ≡ length old
    → OnOk result (e ≡ due_behind_units (map unit_of slice) d)
    → OnOk result (Moves old us (λ taken. after_refusal refused (expansion table uses room d (put_before put l)) ≡ before taken (after_refusal refused (expansion table uses room e (put_before put m)))))
standing_left (Ok done) None put old us slice n usual l m table uses room d e none empty (taken, is, standing) holds cut len passed =
    rw empty (
      taken,
      is,
      standing table uses room d holds
          ∙ ap (λ x. before (map unit_of taken) (expansion table uses room x m)) (ap (λ xs. due_behind_units (map unit_of xs) d) (sym (cut ∙ behind_list old taken us n is len)) ∙ sym passed),
    )
standing_left (Ok done) (Some refused) put old us slice n usual l m table uses room d e none empty moved holds cut len passed = cc
standing_left (Err e) refused put old us slice n usual l m table uses room d f none empty moved holds cut len passed = tt
