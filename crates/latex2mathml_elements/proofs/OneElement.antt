-- The print of an element is one element that obeys the child table, and each schema that allows more. It holds no dollar
-- sign, and no character that XML forbids where its texts hold none.
use Rattle.std.proofs.Common.{ℕ, pos, negsuc, Bool, false, ◌&&◌, IsTrue, List, [], ◌∷◌, ◌++◌, Option, Some, None, refl, ap, ◌∙◌, append_assoc, arith, codes, cond, subst}
use Rattle.std.specs.{List.list_all, Str.bytes_eq}
use Rattle.latex2mathml_elements.specs.Characters.{IsAllowed, EachText, EachTextOf, EachTextOfCells, EachTextOfRows}
use Rattle.latex2mathml_elements.specs.Element.{Element, Elements, Rows, Cells, token, space, rectangle, container, pair, triple, table, none, more, one_row, more_rows, one_cell, more_cells}
use Rattle.latex2mathml_elements.specs.Laws.{PrintAsElements}
use Rattle.latex2mathml_elements.specs.Print.{cells_print, container_name, formula_print, have_line, pair_name, print, prints, rows_print, table_attributes, token_name, triple_name}
use Rattle.latex2mathml_elements.proofs.{Characters.IsClean, Characters.both, Characters.clean, Characters.contents, Plain.IsPlain, Plain.called, Plain.name_plain, Plain.name_valid}
use Rattle.latex2mathml_elements.proofs.Settings.{AreSettings, column, extent, math, row, settings, width}
use Rattle.latex2mathml_trees.specs.{MathSchema.child_table, MathSchema.has_some, MathSchema.IsMathElement}
use Rattle.latex2mathml_trees.specs.Markup.{Name, Schema, open_tag, close_tag, empty_tag, above, add, at_start, lowest, name_of, OpenElements, Runs, is_attribute, is_name, spell_event}
use Rattle.latex2mathml_trees.specs.Width.{width_text}
use Rattle.latex2mathml_trees.proofs.Runs.{content_leads, joined, obeying, single, spelled_as, staying}

-- a part of a print: where it leads, and that it is clean
pub record Piece (schema : Schema) (C : Type 0) (text : List ℕ) (s t : OpenElements) : Type 0 where
  pub runs : Runs schema text s t
  pub is_clean : IsClean C text

pub then : {schema : Schema} {C : Type 0} {a b : List ℕ} {s t u : OpenElements} → Piece schema C a s t → Piece schema C b t u → Piece schema C (a ++ b) s u
then x y = record { runs = joined x.runs y.runs; is_clean = both x.is_clean y.is_clean }

pub plainly : {schema : Schema} {C : Type 0} {text : List ℕ} {s t : OpenElements} → IsPlain text → Runs schema text s t → Piece schema C text s t
plainly {text = text} h d = record { runs = d; is_clean = clean text h }

-- at least one child, and each of this name
abbrev AreSome : Name → List Name → Type 0
AreSome name names = IsTrue (has_some names && list_all (bytes_eq name) names)

module _ (schema : Schema) (allows : (parent : Option Name) (name : Name) (children : List Name) (has_text : Bool) → IsTrue (child_table parent name children has_text) → IsTrue (schema parent name children has_text)) (C : Type 0) where
  starts : {text : List ℕ} (n : Name) (s : OpenElements) → IsTrue (is_name n) → AreSettings text → Piece schema C (codes "<" ++ (n ++ (text ++ codes ">"))) s (above n [] false (add n s))
  starts {text} n s valid some = record {
    runs = spelled_as (ap (λ l. codes "<" ++ (n ++ (l ++ codes ">"))) some.spelled)
        (single schema (open_tag n some.list) s _ (ap (λ b. b && list_all is_attribute some.list) valid ∙ some.valid) refl);
    is_clean = both (clean (codes "<") refl) (both (clean n (name_plain n valid)) (both (clean text some.plain) (clean (codes ">") refl)));
  }

  -- an end tag closes an element that obeys the child table
  ends : (n : Name) (ks : List Name) (d : Bool) (s : OpenElements) → IsTrue (is_name n) → IsTrue (child_table (name_of s) n ks d) → Piece schema C (spell_event (close_tag n)) (above n ks d s) s
  ends n ks d s valid fit = record {
    runs = obeying schema n ks d s valid (allows (name_of s) n ks d fit);
    is_clean = both (clean (codes "</") refl) (both (clean n (name_plain n valid)) (clean (codes ">") refl));
  }

  -- an element with what is inside
  around : {text inside : List ℕ} (n : Name) (ks : List Name) (d : Bool) (s : OpenElements) → IsTrue (is_name n) → IsTrue (child_table (name_of (add n s)) n ks d) → AreSettings text → Piece schema C inside (above n [] false (add n s)) (above n ks d (add n s)) → Piece schema C ((codes "<" ++ (n ++ (text ++ codes ">"))) ++ (inside ++ spell_event (close_tag n))) s (add n s)
  around n ks d s valid fit some x = then (starts n s valid some) (then x (ends n ks d (add n s) valid fit))

  space_piece : {text : List ℕ} (s : OpenElements) → AreSettings text → Piece schema C (codes "<mspace" ++ (text ++ codes "/>")) s (add (codes "mspace") s)
  space_piece {text} s some = record {
    runs = spelled_as (ap (λ l. codes "<mspace" ++ (l ++ codes "/>")) some.spelled)
        (single schema (empty_tag (codes "mspace") some.list) s _ some.valid (ap (λ b. cond b (Some (add (codes "mspace") s)) None) (allows (name_of s) (codes "mspace") [] false refl)));
    is_clean = both (clean (codes "<mspace") refl) (both (clean text some.plain) (clean (codes "/>") refl));
  }

  mutual
    pub element : (x : Element) (s : OpenElements) → (C → EachText IsAllowed x) → Piece schema C (print x) s (add (called x) s)
    element (token t a text) s h =
        let inner = content_leads schema (token_name t) [] false (add (token_name t) s) text in
        around _ [] inner.0 s (name_valid (token t a text)) (grind arith) (settings a) (record { runs = inner.1; is_clean = contents text h })
    element (space (pos n)) s h =
        subst (λ l. Piece schema C (codes "<mspace width=\"" ++ l) s (add (codes "mspace") s)) (append_assoc (width_text (pos n)) (codes "em\"") (codes "/>")) (space_piece s (width (pos n)))
    element (space (negsuc n)) s h =
        subst (λ l. Piece schema C (codes "<mspace style=\"margin-left: " ++ l) s (add (codes "mspace") s)) (append_assoc (width_text (negsuc n)) (codes "em\"") (codes "/>")) (space_piece s (width (negsuc n)))
    element (rectangle e) s h = space_piece s (extent e)
    element (container c a xs) s h =
        let inner = elements xs (container_name c) [] (add (container_name c) s) h in
        around _ inner.0 false s (name_valid (container c a xs)) (grind arith) (settings a) inner.1
    element (pair p a x y) s h =
        let valid = name_valid (pair p a x y) in
        then (starts (pair_name p) s valid (settings a)) (then (element x _ (λ c. (h c).0)) (then (element y _ (λ c. (h c).1)) (ends (pair_name p) _ false _ valid (grind arith))))
    element (triple t a x y z) s h =
        let valid = name_valid (triple t a x y z) in
        then (starts (triple_name t) s valid (settings a)) (then (element x _ (λ c. (h c).0)) (then (element y _ (λ c. (h c).1)) (then (element z _ (λ c. (h c).2)) (ends (triple_name t) _ false _ valid (grind arith)))))
    element (table a rs) s h =
        let inner = rows rs [] (add (codes "mtable") s) refl h in around (codes "mtable") inner.0 false s refl inner.1 (settings (table_attributes (have_line rs) a)) inner.2

    rows : (rs : Rows) (ks : List Name) (s : OpenElements) → IsTrue (list_all (bytes_eq (codes "mtr")) ks) → (C → EachTextOfRows IsAllowed rs) → (names : List Name) × AreSome (codes "mtr") names × Piece schema C (rows_print rs) (above (codes "mtable") ks false s) (above (codes "mtable") names false s)
    rows (one_row lines cs) ks s k h = let inner = cells cs [] _ refl h in (codes "mtr" ∷ ks, k, around (codes "mtr") inner.0 false _ refl inner.1 (row lines) inner.2)
    rows (more_rows lines cs rs) ks s k h =
        let inner = cells cs [] _ refl (λ c. (h c).0) in
        let others = rows rs (codes "mtr" ∷ ks) s k (λ c. (h c).1) in
        (others.0, others.1, then (around (codes "mtr") inner.0 false _ refl inner.1 (row lines) inner.2) others.2)

    cells : (cs : Cells) (ks : List Name) (s : OpenElements) → IsTrue (list_all (bytes_eq (codes "mtd")) ks) → (C → EachTextOfCells IsAllowed cs) → (names : List Name) × AreSome (codes "mtd") names × Piece schema C (cells_print cs) (above (codes "mtr") ks false s) (above (codes "mtr") names false s)
    cells (one_cell c xs) ks s k h = let inner = elements xs (codes "mtd") [] _ h in (codes "mtd" ∷ ks, k, around (codes "mtd") inner.0 false _ refl refl (column c) inner.1)
    cells (more_cells c xs cs) ks s k h =
        let inner = elements xs (codes "mtd") [] _ (λ c. (h c).0) in
        let others = cells cs (codes "mtd" ∷ ks) s k (λ c. (h c).1) in
        (others.0, others.1, then (around (codes "mtd") inner.0 false _ refl refl (column c) inner.1) others.2)

    -- elements are further children of the element that they are in
    elements : (xs : Elements) (n : Name) (ks : List Name) (s : OpenElements) → (C → EachTextOf IsAllowed xs) → (names : List Name) × Piece schema C (prints xs) (above n ks false s) (above n names false s)
    elements none n ks s h = (ks, plainly refl staying)
    elements (more x xs) n ks s h =
        let others = elements xs n (called x ∷ ks) s (λ c. (h c).1) in (others.0, then (element x (above n ks false s) (λ c. (h c).0)) others.1)

formula : (is_display : Bool) (xs : Elements) → Piece child_table (EachTextOf IsAllowed xs) (formula_print is_display xs) at_start (lowest (codes "math" ∷ []) false)
formula is_display xs =
    let allows = λ (parent : Option Name) (name : Name) (children : List Name) (has_text : Bool) (h : IsTrue (child_table parent name children has_text)). h in
    let inner = elements child_table allows (EachTextOf IsAllowed xs) xs (codes "math") [] (lowest (codes "math" ∷ []) false) (λ h. h) in
    let tag = math is_display in
    subst (λ start. Piece child_table (EachTextOf IsAllowed xs) (start ++ (prints xs ++ codes "</math>")) at_start (lowest (codes "math" ∷ []) false)) tag.2
    (around child_table allows (EachTextOf IsAllowed xs) (codes "math") inner.0 false at_start refl refl tag.1 inner.1)

-- the law
pub print_as_elements : PrintAsElements
unfolding IsMathElement
print_as_elements = record {
  elements = λ x. (called x, (element child_table (λ parent name children has_text h. h) (EachText IsAllowed x) x at_start (λ h. h)).runs);
  formulas = λ is_display xs. (formula is_display xs).runs;
  dollars = λ is_display xs. (formula is_display xs).is_clean.free;
  characters = λ is_display xs. (formula is_display xs).is_clean.allowed;
}
