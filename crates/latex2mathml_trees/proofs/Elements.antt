-- The print of a tree is elements one after another. Where no function in it has an argument, it is one element that obeys
-- the child table.
use Rattle.std.proofs.Common.{◌≡◌, ℕ, ℤ, Bool, true, false, ◌&&◌, ◌||◌, ◌==◌, IsTrue, List, [], ◌∷◌, ◌++◌, length, Option, Some, None, refl, ap, ◌∙◌, append_assoc, append-nil, arith, codes, map, cond, ◌+◌, sym, length-append}
use Rattle.std.specs.{Char.encode_utf8, List.list_all, Str.bytes_eq}
use Rattle.std.proofs.lemmas.Grind.{flat_map-append}
use Rattle.latex2mathml_tokens.specs.Attributes.{bool_text, variant_text, align_text, accent_text, thickness_text}
use Rattle.latex2mathml_tokens.specs.Escape.{content, content_char, quoted, value}
use Rattle.latex2mathml_tokens.specs.declared.{DisplayStyle.DisplayStyle, DisplayStyle.TheVariants.Block, DisplayStyle.TheVariants.Inline, attribute.Accent.Accent, attribute.ColumnAlign.ColumnAlign, attribute.LineThickness.LineThickness, attribute.LineThickness.TheVariants.Thin, attribute.LineThickness.TheVariants.Medium, attribute.LineThickness.TheVariants.Thick, attribute.LineThickness.TheVariants.Length, attribute.Variant.Variant, attribute.Variant.TheVariants.Italic}
use Rattle.latex2mathml_tokens.specs.declared.attribute.ColumnAlign.TheVariants as align
use Rattle.latex2mathml_trees.specs.{Arguments.HasNoArgument, Arguments.HaveNoArgument, MathSchema.child_table, MathSchema.IsOneElement, Width.width_text}
use Rattle.latex2mathml_trees.specs.Markup.{Name, Reference, numbered, plain, Attribute, attribute, open_tag, close_tag, empty_tag, reference, OpenElements, above, add, name_of, any_element, Schema, Runs, is_name, is_attribute, is_reference, is_event, spell_event, spell_reference, at_start, IsBalanced}
use Rattle.latex2mathml_trees.specs.Print.{error_print, letter_print, operator_print, member_print, print, prints, members_print, slashed_print, style_open}
use Rattle.latex2mathml_trees.specs.Tree.{Tree, ampersand, new_line, Trees, number, letter, operator, applied, subscript, superscript, sub_sup, over_op, under_op, overset, underset, under, under_over, root, sqrt, frac, row, fenced, other_operator, sized_paren, matrix, slashed, style, undefined, no_trees, more_trees}
use Rattle.latex2mathml_trees.proofs.Runs.{content_leads, ending_as, joined, more, one_more, obeying, plain-spells, single, spelled_as, opened, staying, more-append, none_more}
use Rattle.latex2mathml_trees.proofs.ValueTexts.{beside, plain_text, plain_width, escaped, plain_decimal}

-- If strict, elements obey the child table. Otherwise every element is allowed.
abbrev schema_of : Bool → Schema
schema_of true = child_table
schema_of false = any_element

obeys : (strict : Bool) (parent : Option Name) (n : Name) (ks : List Name) (d : Bool) → (IsTrue strict → IsTrue (child_table parent n ks d)) → IsTrue (schema_of strict parent n ks d)
obeys strict parent n ks d h = grind (arith, h)

-- the bytes are elements one after another, and exactly `count` if strict
record AreElements (strict : Bool) (count : ℕ) (bytes : List ℕ) : Type 0 where
  names : List Name
  counted : IsTrue strict → length names ≡ count
  leads : (s : OpenElements) → Runs (schema_of strict) bytes s (more names s)

respelled : {strict : Bool} {count : ℕ} {a b : List ℕ} → AreElements strict count a → a ≡ b → AreElements strict count b
respelled x e = record { names = x.names; counted = x.counted; leads = λ s. spelled_as e (x.leads s) }

both : {strict : Bool} {j k : ℕ} {a b : List ℕ} → AreElements strict j a → AreElements strict k b → AreElements strict (j + k) (a ++ b)
both x y = record {
  names = y.names ++ x.names;
  counted = λ e. omega (arith, length-append y.names x.names, x.counted e, y.counted e);
  leads = λ s. ending_as (sym (more-append y.names x.names s)) (joined (x.leads s) (y.leads (more x.names s)));
}

-- an open row of an open table, and an open cell in it: what the cell holds, the row's earlier cells, and the earlier rows
abbrev in_row : List Name → List Name → OpenElements → OpenElements
in_row cs rs s = above (codes "mtr") cs false (above (codes "mtable") (codes "mtr" ∷ rs) false s)

abbrev in_cell : List Name → List Name → List Name → OpenElements → OpenElements
in_cell ks cs rs s = above (codes "mtd") ks false (in_row (codes "mtd" ∷ cs) rs s)

-- the bytes lead from cell to cell, and leave rows of cells
record Inside (strict : Bool) (bs : List ℕ) (ks cs rs : List Name) (s : OpenElements) : Type 0 where
  ks' : List Name
  cs' : List Name
  rs' : List Name
  cells : IsTrue (list_all (bytes_eq (codes "mtd")) cs')
  rows : IsTrue (list_all (bytes_eq (codes "mtr")) rs')
  leads : Runs (schema_of strict) bs (in_cell ks cs rs s) (in_cell ks' cs' rs' s)

-- the bytes are members of a table
abbrev AreMembers : Bool → List ℕ → Type 0
AreMembers strict bs = (ks cs rs : List Name) (s : OpenElements) → IsTrue (list_all (bytes_eq (codes "mtd")) cs) → IsTrue (list_all (bytes_eq (codes "mtr")) rs) → Inside strict bs ks cs rs s

module _ (strict : Bool) where
  closes : (n : Name) (ks : List Name) (d : Bool) (s : OpenElements) → IsTrue (is_name n) → (IsTrue strict → IsTrue (child_table (name_of s) n ks d)) → Runs (schema_of strict) (spell_event (close_tag n)) (above n ks d s) s
  closes n ks d s valid h = obeying (schema_of strict) n ks d s valid (obeys strict (name_of s) n ks d h)

  -- an element, from its open tag and what leads from there to its end
  tagged : (n : Name) (attributes : List Attribute) {bytes : List ℕ} → IsTrue (is_event (open_tag n attributes)) → ((s : OpenElements) → Runs (schema_of strict) bytes (above n [] false s) s) → AreElements strict 1 (spell_event (open_tag n attributes) ++ bytes)
  tagged n attributes valid end = record {
    names = n ∷ [];
    counted = λ h. refl;
    leads = λ s. ending_as (one_more n s) (joined (single (schema_of strict) (open_tag n attributes) s (above n [] false (add n s)) valid refl) (end (add n s)));
  }

  -- the bytes are text of an element that holds no element
  abbrev IsText : List ℕ → Type 0
  IsText bytes = (n : Name) (s : OpenElements) → (d : Bool) × Runs (schema_of strict) bytes (above n [] false s) (above n [] d s)

  contents : (bs : List ℕ) → IsText (content bs)
  contents bs n s = content_leads (schema_of strict) n [] false s bs

  referring : (bs : List ℕ) (r : Reference) → IsTrue (is_reference r) → IsText (content bs ++ spell_reference r)
  referring bs r valid n s =
      let text = contents bs n s in (text.0 || true, joined text.1 (single (schema_of strict) (reference r) (above n [] text.0 s) (above n [] (text.0 || true) s) valid refl))

  -- an element of text
  leaf : (n : Name) (attributes : List Attribute) → IsTrue (is_name n) → IsTrue (list_all is_attribute attributes) → ((parent : Option Name) (d : Bool) → IsTrue (child_table parent n [] d)) → {bytes : List ℕ} → IsText bytes → AreElements strict 1 (spell_event (open_tag n attributes) ++ (bytes ++ spell_event (close_tag n)))
  leaf n attributes valid valids fit text = tagged n attributes (ap (λ b. b && list_all is_attribute attributes) valid ∙ valids)
      (λ s. (let held = text n s in joined held.1 (closes n [] held.0 s valid (λ h. fit (name_of s) held.0))))

  identifier : (bs : List ℕ) → AreElements strict 1 (codes "<mi>" ++ (content bs ++ codes "</mi>"))
  identifier bs = leaf (codes "mi") [] refl refl (λ parent d. refl) (contents bs)

  wording : (bs : List ℕ) → AreElements strict 1 (codes "<mtext>" ++ (content bs ++ codes "</mtext>"))
  wording bs = leaf (codes "mtext") [] refl refl (λ parent d. refl) (contents bs)

  sign : (attributes : List Attribute) → IsTrue (list_all is_attribute attributes) → (bs : List ℕ) → AreElements strict 1 (spell_event (open_tag (codes "mo") attributes) ++ (content bs ++ codes "</mo>"))
  sign attributes valid bs = leaf (codes "mo") attributes refl valid (λ parent d. refl) (contents bs)

  letter_is_element : (c : ℕ) (v : Variant) → AreElements strict 1 (letter_print c v)
  letter_is_element c Italic = identifier (encode_utf8 c)
  letter_is_element c v = leaf (codes "mi") (attribute (codes "mathvariant") (map plain (variant_text v)) ∷ []) refl refl (λ parent d. refl) (contents (encode_utf8 c))

  operator_is_element : (c : ℕ) → AreElements strict 1 (operator_print c)
  operator_is_element c =
      elim (c == 0x2202) as (λ b. AreElements strict 1 (cond b (codes "<mo mathvariant=\"italic\">" ++ (content_char 0x2202 ++ codes "</mo>")) (codes "<mo>" ++ (content_char c ++ codes "</mo>")))) [
        | true ↦ sign (attribute (codes "mathvariant") (map plain (codes "italic")) ∷ []) refl (encode_utf8 0x2202)
        | false ↦ sign [] refl (encode_utf8 c)
      ]

  stretched_is_element : (b : Bool) (bs : List ℕ) → AreElements strict 1 (codes "<mo stretchy=\"" ++ (bool_text b ++ (codes "\">" ++ (content bs ++ codes "</mo>"))))
  stretched_is_element b bs = respelled (sign (attribute (codes "stretchy") (map plain (bool_text b)) ∷ []) (grind arith) bs) (simp (append_assoc, append-nil, plain-spells))

  error_is_element : (bs : List ℕ) → AreElements strict 1 (error_print bs)
  error_is_element bs = respelled (wording (codes "[PARSE ERROR: " ++ (bs ++ codes "]"))) (simp (flat_map-append, append_assoc))

  space_is_element : (n : ℤ) → AreElements strict 1 (codes "<mspace width=\"" ++ (width_text n ++ codes "em\"/>"))
  space_is_element n =
      let width = beside (plain_width n) (plain_text (codes "em") refl) in
      record {
        names = codes "mspace" ∷ [];
        counted = λ h. refl;
        leads = λ s. ending_as (one_more _ s) (spelled_as (simp (append_assoc, append-nil, width.spelled))
            (single (schema_of strict) (empty_tag (codes "mspace") (attribute (codes "width") width.parts ∷ [])) s (add (codes "mspace") s) (ap (λ b. b && true) width.are_parts) (ap (λ b. cond b (Some (add (codes "mspace") s)) None) (obeys strict (name_of s) (codes "mspace") [] false (λ h. refl)))));
      }

  -- an element of text after a function's name represents its application
  application : AreElements strict 1 (codes "<mo>&#x2061;</mo>")
  application = leaf (codes "mo") [] refl refl (λ parent d. refl) (referring [] (numbered (codes "2061")) refl)

  -- a letter and an operator with a slash, which is a reference
  slashed_letter : (c : ℕ) (v : Variant) → AreElements strict 1 (codes "<mi mathvariant=\"" ++ (variant_text v ++ (codes "\">" ++ (content_char c ++ codes "&#x0338;</mi>"))))
  slashed_letter c v = respelled (leaf (codes "mi") (attribute (codes "mathvariant") (map plain (variant_text v)) ∷ []) refl (grind arith) (λ parent d. refl) (referring (encode_utf8 c) (numbered (codes "0338")) refl))
      (simp (append_assoc, append-nil, plain-spells))

  slashed_sign : (c : ℕ) → AreElements strict 1 (codes "<mo>" ++ (content_char c ++ codes "&#x0338;</mo>"))
  slashed_sign c = respelled (leaf (codes "mo") [] refl refl (λ parent d. refl) (referring (encode_utf8 c) (numbered (codes "0338")) refl)) (simp append_assoc)

  no_members : AreMembers strict []
  no_members ks cs rs s h i = record { ks' = ks; cs' = cs; rs' = rs; cells = h; rows = i; leads = staying }

  more_members : (a b : List ℕ) → AreMembers strict a → AreMembers strict b → AreMembers strict (a ++ b)
  more_members a b x y ks cs rs s h i =
      let p = x ks cs rs s h i in
      let q = y p.ks' p.cs' p.rs' s p.cells p.rows in
      record { ks' = q.ks'; cs' = q.cs'; rs' = q.rs'; cells = q.cells; rows = q.rows; leads = joined p.leads q.leads }

  one_member : (x : Tree) → AreElements strict 1 (print x) → AreMembers strict (member_print x (print x))
  one_member new_line g ks cs rs s h i =
      let opens = joined (opened (schema_of strict) (codes "mtr") _ refl) (opened (schema_of strict) (codes "mtd") _ refl) in
      record { ks' = []; cs' = []; rs' = codes "mtr" ∷ rs; cells = refl; rows = i; leads = joined (closes (codes "mtd") ks false (in_row (codes "mtd" ∷ cs) rs s) refl (λ e. refl)) (joined (closes (codes "mtr") (codes "mtd" ∷ cs) false _ refl (λ e. h)) opens) }
  one_member ampersand g ks cs rs s h i = record { ks' = []; cs' = codes "mtd" ∷ cs; rs' = rs; cells = h; rows = i; leads = joined (closes (codes "mtd") ks false (in_row (codes "mtd" ∷ cs) rs s) refl (λ e. refl)) (opened (schema_of strict) (codes "mtd") _ refl) }
  one_member x g ks cs rs s h i = record { ks' = g.names ++ ks; cs' = cs; rs' = rs; cells = h; rows = i; leads = g.leads (in_cell ks cs rs s) }

  table_ends : (bs : List ℕ) → AreMembers strict bs → (s : OpenElements) → Runs (schema_of strict) (codes "<mtr><mtd>" ++ (bs ++ codes "</mtd></mtr></mtable>")) (above (codes "mtable") [] false s) s
  table_ends bs x s =
      let r = x [] [] [] s refl refl in
      joined (opened (schema_of strict) (codes "mtr") _ refl) (joined (opened (schema_of strict) (codes "mtd") _ refl) (joined r.leads (joined (closes (codes "mtd") r.ks' false (in_row (codes "mtd" ∷ r.cs') r.rs' s) refl (λ e. refl)) (joined (closes (codes "mtr") (codes "mtd" ∷ r.cs') false _ refl (λ e. r.cells)) (closes (codes "mtable") (codes "mtr" ∷ r.rs') false s refl (λ e. r.rows))))))

  table_is_element : (a : ColumnAlign) (bs : List ℕ) → AreMembers strict bs → AreElements strict 1 (codes "<mtable" ++ (align_text a ++ (codes "><mtr><mtd>" ++ (bs ++ codes "</mtd></mtr></mtable>"))))
  table_is_element align.Center bs x = tagged (codes "mtable") [] refl (table_ends bs x)
  table_is_element align.Left bs x = tagged (codes "mtable") (attribute (codes "columnalign") (map plain (codes "left")) ∷ []) refl (table_ends bs x)
  table_is_element align.Right bs x = tagged (codes "mtable") (attribute (codes "columnalign") (map plain (codes "right")) ∷ []) refl (table_ends bs x)

  -- an element of this name holds `count` elements
  abbrev Holds : Name → ℕ → Type 0
  Holds n count = IsTrue (is_name n) × ((parent : Option Name) (ks : List Name) → length ks ≡ count → IsTrue (child_table parent n ks false))

  within : (n : Name) (attributes : List Attribute) {count : ℕ} {a : List ℕ} → IsTrue (list_all is_attribute attributes) → Holds n count → AreElements strict count a → AreElements strict 1 (spell_event (open_tag n attributes) ++ (a ++ spell_event (close_tag n)))
  within n attributes valid holds x = tagged n attributes (ap (λ b. b && list_all is_attribute attributes) holds.0 ∙ valid)
      (λ s. joined (x.leads (above n [] false s))
      (closes n (x.names ++ []) false s holds.0 (λ e. holds.1 (name_of s) (x.names ++ []) (omega (arith, length-append x.names [], x.counted e)))))

  two : (n : Name) (attributes : List Attribute) {a b : List ℕ} → IsTrue (list_all is_attribute attributes) → Holds n 2 → AreElements strict 1 a → AreElements strict 1 b → AreElements strict 1 (spell_event (open_tag n attributes) ++ (a ++ (b ++ spell_event (close_tag n))))
  two n attributes valid holds x y = respelled (within n attributes valid holds (both x y)) (simp append_assoc)

  three : (n : Name) {a b c : List ℕ} → Holds n 3 → AreElements strict 1 a → AreElements strict 1 b → AreElements strict 1 c → AreElements strict 1 (spell_event (open_tag n []) ++ (a ++ (b ++ (c ++ spell_event (close_tag n)))))
  three n holds x y z = respelled (within n [] refl holds (both x (both y z))) (simp append_assoc)

  accented : (n : Name) → Holds n 2 → (c : ℕ) (k : Accent) {a : List ℕ} → AreElements strict 1 a → AreElements strict 1 (spell_event (open_tag n []) ++ (a ++ (codes "<mo accent=\"" ++ (accent_text k ++ (codes "\">" ++ (content_char c ++ (codes "</mo>" ++ spell_event (close_tag n))))))))
  accented n holds c k x = respelled (two n [] refl holds x (sign (attribute (codes "accent") (map plain (accent_text k)) ∷ []) (grind arith) (encode_utf8 c))) (simp (append_assoc, append-nil, plain-spells))

  fraction : (t : LineThickness) {a b : List ℕ} → AreElements strict 1 a → AreElements strict 1 b → AreElements strict 1 (codes "<mfrac" ++ (thickness_text t ++ (codes ">" ++ (a ++ (b ++ codes "</mfrac>")))))
  fraction Thin x y = two (codes "mfrac") (attribute (codes "linethickness") (map plain (codes "thin")) ∷ []) refl (refl, λ parent ks e. rw e) x y
  fraction Medium x y = two (codes "mfrac") [] refl (refl, λ parent ks e. rw e) x y
  fraction Thick x y = two (codes "mfrac") (attribute (codes "linethickness") (map plain (codes "thick")) ∷ []) refl (refl, λ parent ks e. rw e) x y
  fraction (Length l) x y =
      let v = plain_decimal l in
      respelled (two (codes "mfrac") (attribute (codes "linethickness") v.parts ∷ []) (ap (λ b. b && true) v.are_parts) (refl, λ parent ks e. rw e) x y)
      (simp (append_assoc, append-nil, v.spelled))

  abbrev fence : List ℕ → List Attribute
  fence form = attribute (codes "stretchy") (map plain (codes "true")) ∷ attribute (codes "form") (map plain form) ∷ []

  between_fences : (o c : List ℕ) {a : List ℕ} → AreElements strict 1 a → AreElements strict 1 (codes "<mrow><mo stretchy=\"true\" form=\"prefix\">" ++ (content o ++ (codes "</mo>" ++ (a ++ (codes "<mo stretchy=\"true\" form=\"postfix\">" ++ (content c ++ codes "</mo></mrow>"))))))
  between_fences o c x = respelled (within (codes "mrow") [] refl (refl, λ parent ks e. refl) (both (sign (fence (codes "prefix")) refl o) (both x (sign (fence (codes "postfix")) refl c)))) (simp append_assoc)

  -- a parenthesis with a size, which is any text
  sized : (z p : List ℕ) → AreElements strict 1 (codes "<mrow><mo maxsize=\"" ++ (value z ++ (codes "\" minsize=\"" ++ (value z ++ (codes "\">" ++ (content p ++ codes "</mo></mrow>"))))))
  sized z p =
      let v = escaped z in
      respelled (within (codes "mrow") [] refl (refl, λ parent ks e. refl) (sign (attribute (codes "maxsize") v.parts ∷ attribute (codes "minsize") v.parts ∷ []) (ap (λ b. b && (b && true)) v.are_parts) p))
      (simp (append_assoc, append-nil, v.spelled))

  slashed_elements : (x : Tree) → AreElements strict 1 (print x) → AreElements strict 1 (slashed_print x (print x))
  slashed_elements (letter c v) g = slashed_letter c v
  slashed_elements (operator c) g = slashed_sign c
  slashed_elements x g = g

  styled : (d : Option DisplayStyle) {a : List ℕ} → AreElements strict 1 a → AreElements strict 1 (style_open d ++ (a ++ codes "</mstyle>"))
  styled None x = within (codes "mstyle") [] refl (refl, λ parent ks e. refl) x
  styled (Some Block) x = within (codes "mstyle") (attribute (codes "displaystyle") (map plain (codes "true")) ∷ []) refl (refl, λ parent ks e. refl) x
  styled (Some Inline) x = within (codes "mstyle") (attribute (codes "displaystyle") (map plain (codes "false")) ∷ []) refl (refl, λ parent ks e. refl) x

  -- elements that are a tree
  ruleset whole_elements = (identifier, wording, letter_is_element, operator_is_element, stretched_is_element, space_is_element)

  mutual
    elements : (t : Tree) → (IsTrue strict → HasNoArgument t) → AreElements strict 1 (print t)
    elements (number digits) h = leaf (codes "mn") [] refl refl (λ parent d. refl) (contents digits)
    elements (applied name x) h =
        let whole = respelled (both (identifier name) (both (application) (elements x (λ e. absurd (h e))))) (simp append_assoc) in
        record { names = whole.names; counted = λ e. absurd (h e); leads = whole.leads }
    elements (subscript a b) h = two (codes "msub") [] refl (refl, λ parent ks e. rw e) (elements a (λ e. (h e).0)) (elements b (λ e. (h e).1))
    elements (superscript a b) h = two (codes "msup") [] refl (refl, λ parent ks e. rw e) (elements a (λ e. (h e).0)) (elements b (λ e. (h e).1))
    elements (sub_sup a b c) h = three (codes "msubsup") (refl, λ parent ks e. rw e) (elements a (λ e. (h e).0)) (elements b (λ e. (h e).1)) (elements c (λ e. (h e).2))
    elements (over_op c k x) h = accented (codes "mover") (refl, λ parent ks e. rw e) c k (elements x h)
    elements (under_op c k x) h = accented (codes "munder") (refl, λ parent ks e. rw e) c k (elements x h)
    elements (overset a b) h = two (codes "mover") [] refl (refl, λ parent ks e. rw e) (elements b (λ e. (h e).1)) (elements a (λ e. (h e).0))
    elements (underset a b) h = two (codes "munder") [] refl (refl, λ parent ks e. rw e) (elements b (λ e. (h e).1)) (elements a (λ e. (h e).0))
    elements (under a b) h = two (codes "munder") [] refl (refl, λ parent ks e. rw e) (elements a (λ e. (h e).0)) (elements b (λ e. (h e).1))
    elements (under_over a b c) h = three (codes "munderover") (refl, λ parent ks e. rw e) (elements a (λ e. (h e).0)) (elements b (λ e. (h e).1)) (elements c (λ e. (h e).2))
    elements (root d x) h = two (codes "mroot") [] refl (refl, λ parent ks e. rw e) (elements x (λ e. (h e).1)) (elements d (λ e. (h e).0))
    elements (sqrt x) h = within (codes "msqrt") [] refl (refl, λ parent ks e. refl) (elements x h)
    elements (frac a b t) h = fraction t (elements a (λ e. (h e).0)) (elements b (λ e. (h e).1))
    elements (row members) h = let some = all_elements members h in within (codes "mrow") [] refl (refl, λ parent ks e. refl) some.1
    elements (fenced o c x) h = between_fences o c (elements x h)
    elements (other_operator text) h = sign [] refl text
    elements (sized_paren size paren) h = sized size paren
    elements (matrix members a) h = table_is_element a _ (some_members members h)
    elements ampersand h = error_is_element (codes "Ampersand")
    elements new_line h = error_is_element (codes "NewLine")
    elements (slashed x) h = slashed_elements x (elements x h)
    elements (style d x) h = styled d (elements x h)
    elements (undefined text) h = error_is_element (codes "Undefined(" ++ (quoted text ++ codes ")"))
    elements t h = search whole_elements

    all_elements : (ts : Trees) → (IsTrue strict → HaveNoArgument ts) → (count : ℕ) × AreElements strict count (prints ts)
    all_elements no_trees h = (0, record { names = []; counted = λ e. refl; leads = λ s. ending_as (none_more s) staying })
    all_elements (more_trees x rest) h = let others = all_elements rest (λ e. (h e).1) in (1 + others.0, both (elements x (λ e. (h e).0)) others.1)

    some_members : (ts : Trees) → (IsTrue strict → HaveNoArgument ts) → AreMembers strict (members_print ts)
    some_members no_trees h = no_members
    some_members (more_trees x rest) h = more_members _ _ (one_member x (elements x (λ e. (h e).0))) (some_members rest (λ e. (h e).1))

pub print_is_balanced : (t : Tree) → IsBalanced (print t)
print_is_balanced t = let some = elements false t (λ e. cc) in (some.names ++ [], (false, some.leads at_start))

-- markup with one name is one element
one_of : (bytes : List ℕ) (names : List Name) → length names ≡ 1 → Runs child_table bytes at_start (more names at_start) → IsOneElement bytes
one_of bytes (n ∷ []) e m = (n, m)
one_of bytes names e m = absurd (omega arith)

pub one_element : (t : Tree) → HasNoArgument t → IsOneElement (print t)
one_element t h = let some = elements true t (λ e. h) in one_of (print t) some.names (some.counted refl) (some.leads at_start)

-- within any element
pub some_children : (ts : Trees) → HaveNoArgument ts → (n : Name) (ks : List Name) (s : OpenElements) → (ks' : List Name) × Runs child_table (prints ts) (above n ks false s) (above n ks' false s)
some_children ts h n ks s = let some = (all_elements true ts (λ e. h)).1 in (some.names ++ ks, some.leads (above n ks false s))
