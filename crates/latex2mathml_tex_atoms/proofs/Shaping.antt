-- The top elements changed, and a row with an atom after it.
use Rattle.std.proofs.Common.{◌≡◌, ℕ, ◌+◌, ◌<◌, ◌≤◌, ◌==◌, Bool, false, true, zero, suc, List, [], ◌∷◌, ◌++◌, Option, Some, None, length, take, drop, arith, ℤ, pos, negsuc, refl, sym, ap, ◌∙◌}
use Rattle.std.proofs.Math.Dec.{eqb-suc-zero}
use Rattle.std.proofs.lemmas.List.{drop-drop}
use Rattle.latex2mathml_elements.specs.Attributes.{Attributes, plain}
use Rattle.latex2mathml_elements.specs.Element.{Element, Mo, Token, space, token}
use Rattle.latex2mathml_attributes.specs.Names.{token_of}
use Rattle.latex2mathml_builder.specs.Stacks.{are_tokens, given, joined, token_at, token_of_element, with_attributes}
use Rattle.latex2mathml_attributes.specs.declared.tag.Token.{Token as CodeToken}
use Rattle.latex2mathml_attributes.specs.declared.tag.Token.TheVariants as code_token
use Rattle.latex2mathml_tex_grammar.specs.Atoms
use Rattle.latex2mathml_tex_grammar.specs.Atoms.{Before, Kind}
use Rattle.latex2mathml_tex_grammar.specs.Makes
use Rattle.latex2mathml_tex_grammar.specs.Meaning
use Rattle.latex2mathml_tex_grammar.specs.Heights.{Height, Low}
use Rattle.latex2mathml_tex_grammar.specs.Rows
use Rattle.latex2mathml_tex_grammar.specs.Symbols.{Class, Style}
use Rattle.latex2mathml_tex_commands.specs.Meanings.{class_of}
use Rattle.latex2mathml_tex_atoms.specs.Models.{kind_of, top}
use Rattle.latex2mathml_tex_atoms.specs.Shapes.{changed_at, mapped_first}
use Rattle.latex2mathml_tex_atoms.specs.declared.atoms.Kind.{Kind as CodeKind}
use Rattle.latex2mathml_tex_atoms.specs.declared.atoms.Kind.TheVariants as code_kind
use Rattle.latex2mathml_tex_commands.specs.declared.meaning.Class.{Class as CodeClass}
use Rattle.latex2mathml_tex_commands.specs.declared.meaning.Class.TheVariants as code_class

-- One element changed

-- an element that holds a text, and gets other attributes
module _ (f : Element → Element) (t : Token) (a b : Attributes) (same : (text : List ℕ) → f (token t a text) ≡ token t b text) where
  given_there : (x : Element) → token_of_element x ≡ Some (t, a) → with_attributes b x ≡ f x
  given_there (token u c text) found =
      let tags : ◌≡◌ {A = Token × Attributes} (u, c) (t, a) = cc in
      ap (λ p. token p.0 b text) tags ∙ sym (same text) ∙ ap (λ p. f (token p.0 p.1 text)) (sym tags)
  given_there x found = cc

  pub given_changed : (depth : ℕ) (xs : List Element) → token_at depth xs ≡ Some (t, a) → given depth b xs ≡ changed_at f depth xs
  given_changed depth [] found = refl
  given_changed zero (x ∷ xs) found = ap (λ y. y ∷ xs) (given_there x found)
  given_changed (suc depth) (x ∷ xs) found = ap (λ ys. x ∷ ys) (given_changed depth xs found)

-- an element that stays as it is
pub unchanged_at : (f : Element → Element) (depth : ℕ) (xs : List Element) → ((x : Element) → token_of_element x ≡ token_at depth xs → f x ≡ x) → changed_at f depth xs ≡ xs
unchanged_at f depth [] stays = refl
unchanged_at f zero (x ∷ xs) stays = ap (λ y. y ∷ xs) (stays x refl)
unchanged_at f (suc depth) (x ∷ xs) stays = ap (λ ys. x ∷ ys) (unchanged_at f depth xs stays)

-- each element stays as it is
pub unchanged : (f : Element → Element) (depth : ℕ) (xs : List Element) → ((x : Element) → f x ≡ x) → changed_at f depth xs ≡ xs
unchanged f depth xs stays = unchanged_at f depth xs (λ x e. stays x)

-- an element that is changed as a sign between two operands
pub infix_there : (depth : ℕ) (style : Style) (first : Bool) (before : Before) (xs : List Element) → Atoms.begins_operand before ≡ false → changed_at (Atoms.tight style) depth (changed_at (Atoms.as_infix first) depth xs) ≡ changed_at (Atoms.element_there style first before Atoms.PlusOrMinus) depth xs
infix_there depth style first before [] none = refl
infix_there zero style first before (x ∷ xs) none = rw none
infix_there (suc depth) style first before (x ∷ xs) none = ap (λ ys. x ∷ ys) (infix_there depth style first before xs none)

-- one change after another
pub changed_twice : (f g : Element → Element) (depth : ℕ) (xs : List Element) → changed_at g depth (changed_at f depth xs) ≡ changed_at (λ x. g (f x)) depth xs
changed_twice f g depth [] = refl
changed_twice f g zero (x ∷ xs) = refl
changed_twice f g (suc depth) (x ∷ xs) = ap (λ ys. x ∷ ys) (changed_twice f g depth xs)

-- the same change
pub changed_alike : (f g : Element → Element) (depth : ℕ) (xs : List Element) → ((x : Element) → f x ≡ g x) → changed_at f depth xs ≡ changed_at g depth xs
changed_alike f g depth [] same = refl
changed_alike f g zero (x ∷ xs) same = ap (λ y. y ∷ xs) (same x)
changed_alike f g (suc depth) (x ∷ xs) same = ap (λ ys. x ∷ ys) (changed_alike f g depth xs same)

pub length_changed : (f : Element → Element) (depth : ℕ) (xs : List Element) → length (changed_at f depth xs) ≡ length xs
length_changed f depth [] = refl
length_changed f zero (x ∷ xs) = refl
length_changed f (suc depth) (x ∷ xs) = ap suc (length_changed f depth xs)

-- a sign that is all of a row, and any other row
pub lone_sign : (last : Kind) (xs : List Element) → Rows.is_spaced last ≡ true → take 1 (changed_at Atoms.without_space 0 xs) ≡ Rows.lone last (take 1 xs)
lone_sign last [] spaced = refl
lone_sign last (x ∷ xs) spaced = rw spaced refl

pub no_lone_sign : (last : Kind) (xs : List Element) → (length xs ≡ 1 → Rows.is_spaced last ≡ false) → (1 < length xs → Rows.leaves_space last ≡ false) → xs ≡ Rows.lone last xs
no_lone_sign last [] other still = refl
no_lone_sign last (x ∷ []) other still = rw (other refl) refl
no_lone_sign last (x ∷ y ∷ xs) other still = rw (still (omega arith)) refl

-- a sign that ends a row of several elements
pub last_sign : (last : Kind) (n : ℕ) (xs : List Element) → Rows.leaves_space last ≡ true → 1 < n → n ≤ length xs → take n (changed_at Atoms.without_space_after 0 xs) ≡ Rows.lone last (take n xs)
last_sign last zero xs leaves several enough = absurd (omega (arith, several))
last_sign last (suc zero) xs leaves several enough = absurd (omega (arith, several))
last_sign last (suc (suc n)) [] leaves several enough = absurd (omega (arith, enough))
last_sign last (suc (suc n)) (x ∷ []) leaves several enough = absurd (omega (arith, enough))
last_sign last (suc (suc n)) (x ∷ y ∷ xs) leaves several enough = rw leaves refl

-- What stays as it is: an element that holds no text

pub no_prefix : (x : Element) → token_of_element x ≡ None → Atoms.as_prefix x ≡ x
no_prefix (token t a text) h = cc
no_prefix x h = refl

pub no_infix : (first : Bool) (x : Element) → token_of_element x ≡ None → Atoms.as_infix first x ≡ x
no_infix true (token t a text) h = cc
no_infix true x h = refl
no_infix false x h = refl

pub no_space_after : (x : Element) → token_of_element x ≡ None → Atoms.without_space_after x ≡ x
no_space_after (token t a text) h = cc
no_space_after x h = refl

pub no_space : (x : Element) → token_of_element x ≡ None → Atoms.without_space x ≡ x
no_space (token t a text) h = cc
no_space x h = refl

pub no_lead : (x : Element) → token_of_element x ≡ None → Atoms.without_space_before x ≡ x
no_lead (token t a text) h = cc
no_lead x h = refl

pub no_sign_alone : (style : Style) (class : Class) (x : Element) → token_of_element x ≡ None → Atoms.lone_sign style class x ≡ x
no_sign_alone style class (token Mo a text) h = cc
no_sign_alone style class x h = refl

pub no_space_alone : (class own : Class) (x : Element) → token_of_element x ≡ None → Makes.spaced_as class own x ≡ x
no_space_alone class own (token Mo a text) h = cc
no_space_alone class own x h = refl

pub no_divider : (x : Element) → token_of_element x ≡ None → Makes.lowered_divider x ≡ x
no_divider (token t a text) h = cc
no_divider x h = refl

pub no_base : (x : Element) → token_of_element x ≡ None → Makes.fixed_base Meaning.Stacked x ≡ x
no_base (token t a text) h = cc
no_base x h = refl

-- an element that is no fence
pub no_fence : (x : Element) (t : Token) (a : Attributes) → token_of_element x ≡ Some (t, a) → a.fence ≡ false → Makes.lowered_divider x ≡ x
no_fence (token t b text) u a h none =
    let tags : ◌≡◌ {A = Token × Attributes} (t, b) (u, a) = cc in
    rw (ap (λ p. p.1.fence) tags ∙ none)
no_fence x u a h none = refl

-- an element that is no operator
module _ (tag : CodeToken) (other : tag ≡ code_token.Mo → ⊥) where
  clash : (tag : CodeToken) → (tag ≡ code_token.Mo → ⊥) → Mo ≡ token_of tag → ⊥
  clash code_token.Mo other h = other refl
  clash tag other h = cc

  is_operator : (a b : Attributes) → ◌≡◌ {A = Token × Attributes} (Mo, b) (token_of tag, a) → ⊥
  is_operator a b tags = clash tag other (ap (λ p. p.0) tags)

  pub no_operator : (x : Element) (a : Attributes) → token_of_element x ≡ Some (token_of tag, a) → Makes.fixed_base Meaning.Stacked x ≡ x
  no_operator (token Mo b text) a h = absurd (is_operator a b cc)
  no_operator x a h = refl

  pub no_operator_spaced : (class own : Class) (x : Element) (a : Attributes) → token_of_element x ≡ Some (token_of tag, a) → Makes.spaced_as class own x ≡ x
  no_operator_spaced class own (token Mo b text) a h = absurd (is_operator a b cc)
  no_operator_spaced class own x a h = refl

  pub no_operator_alone : (style : Style) (class : Class) (x : Element) (a : Attributes) → token_of_element x ≡ Some (token_of tag, a) → Atoms.lone_sign style class x ≡ x
  no_operator_alone style class (token Mo b text) a h = absurd (is_operator a b cc)
  no_operator_alone style class x a h = refl

-- a sign that keeps its space everywhere
pub spaced_sign : (style : Style) (first : Bool) (before : Before) (class : CodeClass) → (class ≡ code_class.Binary → ⊥) → (class ≡ code_class.Relation → ⊥) → (class ≡ code_class.Punctuation → ⊥) → (class ≡ code_class.Operator → ⊥) → (x : Element) → Atoms.element_there style first before (Atoms.SignOf (class_of class)) x ≡ x
spaced_sign style first before code_class.Binary b r p o x = absurd (b refl)
spaced_sign style first before code_class.Relation b r p o x = absurd (r refl)
spaced_sign style first before code_class.Punctuation b r p o x = absurd (p refl)
spaced_sign style first before code_class.Operator b r p o x = absurd (o refl)
spaced_sign style first before class b r p o x = refl

-- an element that is neither a binary sign nor a relation
pub no_base_changed : (style : Style) (class : Class) (own : CodeClass) → (own ≡ code_class.Binary → ⊥) → (own ≡ code_class.Relation → ⊥) → (x : Element) → Atoms.element_as style class (class_of own) x ≡ x
no_base_changed style class code_class.Binary b r x = absurd (b refl)
no_base_changed style class code_class.Relation b r x = absurd (r refl)
no_base_changed style class own b r x = refl

-- an element that is neither a sign of its own nor an operator
pub no_operator_there : (style : Style) (first : Bool) (before : Before) (class : CodeClass) → (class ≡ code_class.Operator → ⊥) → (x : Element) → Atoms.element_there style first before (Atoms.Plain (class_of class)) x ≡ x
no_operator_there style first before code_class.Operator o x = absurd (o refl)
no_operator_there style first before class o x = refl

-- an element that is no sign
pub no_sign : (style : Style) (first : Bool) (before : Before) (kind : CodeKind) → ((class : CodeClass) → kind ≡ code_kind.SignOf class → ⊥) → (kind ≡ code_kind.PlusOrMinus → ⊥) → ((class : CodeClass) → kind ≡ code_kind.Plain class → ⊥) → (x : Element) → Atoms.element_there style first before (kind_of kind) x ≡ x
no_sign style first before (code_kind.SignOf class) s p o x = absurd (s class refl)
no_sign style first before code_kind.PlusOrMinus s p o x = absurd (p refl)
no_sign style first before (code_kind.Plain class) s p o x = absurd (o class refl)
no_sign style first before kind s p o x = refl

-- the space before an atom that is no space itself
pub gap_there : (style : Style) (before : Before) (kind : CodeKind) → (kind ≡ code_kind.Blank → ⊥) → Atoms.missing (Atoms.table_space style (Atoms.class_before before) (Atoms.class_before (Atoms.past before (kind_of kind)))) (Atoms.own_after style before + Atoms.own_before style before (kind_of kind)) ≡ Atoms.gap style before (kind_of kind)
gap_there style before code_kind.Blank h = absurd (h refl)
gap_there style before kind h = refl

-- The first elements changed, one after the other

pub mapped_none : (f : Element → Element) (xs : List Element) → xs ≡ mapped_first f 0 xs
mapped_none f [] = refl
mapped_none f (x ∷ xs) = refl

pub mapped_more : (f : Element → Element) (n : ℕ) (xs : List Element) → changed_at f n (mapped_first f n xs) ≡ mapped_first f (suc n) xs
mapped_more f n [] = refl
mapped_more f zero (x ∷ xs) = ap (λ ys. f x ∷ ys) (mapped_none f xs)
mapped_more f (suc n) (x ∷ xs) = ap (λ ys. f x ∷ ys) (mapped_more f n xs)

-- A text that joins the one before it

module _ (change : Attributes → Attributes) where
  lone : (x : Element) → x ∷ [] ≡ Rows.join change x []
  lone (token t a text) = refl
  lone x = refl

  pub text_begun : (xs : List Element) → 1 ≤ length xs → take 1 xs ≡ Rows.join change (top xs) []
  text_begun [] h = absurd (omega arith)
  text_begun (x ∷ xs) h = lone x

  pub text_apart : (n : ℕ) (xs : List Element) → suc n ≤ length xs → are_tokens xs ≡ false → take (suc n) xs ≡ Rows.join change (top xs) (take n (drop 1 xs))
  text_apart n [] enough apart = absurd (omega arith)
  text_apart zero (x ∷ xs) enough apart = lone x
  text_apart (suc n) (x ∷ []) enough apart = absurd (omega arith)
  text_apart (suc n) (token t a letter ∷ token u b word ∷ xs) enough apart = cc
  text_apart (suc n) (x ∷ y ∷ xs) enough apart = refl

pub word_joined : (n : ℕ) (xs : List Element) → 0 < n → are_tokens xs ≡ true → take n (joined xs) ≡ Rows.join (λ a. plain) (top xs) (take n (drop 1 xs))
word_joined zero xs some both = absurd (omega arith)
word_joined (suc n) (token t a letter ∷ token u b word ∷ xs) some both = refl
word_joined n xs some both = cc

pub not_joined : (xs : List Element) → are_tokens xs ≡ false → joined xs ≡ xs
not_joined (token t a letter ∷ token u b word ∷ xs) apart = cc
not_joined xs apart = refl

-- A row followed by an atom

pub length_parted : (x : Element) (xs : List Element) → length (take 1 xs ++ (x ∷ drop 1 xs)) ≡ suc (length xs)
length_parted x [] = refl
length_parted x (y ∷ xs) = refl

-- it does not matter how high the atom is
pub put_at_any_height : (joining : Rows.Joining) (style : Style) (before : Before) (kind : Kind) (height : Height) (x : Element) (xs : List Element) → Rows.put joining style before (Atoms.atom kind Low x) xs ≡ Rows.put joining style before (Atoms.atom kind height x) xs
put_at_any_height Rows.ToWord style before kind height x xs = refl
put_at_any_height Rows.ToRelations style before kind height x xs = refl
put_at_any_height Rows.Separated style before kind height x xs = refl
put_at_any_height Rows.Apart style before kind height x xs = refl

-- an atom is the first of a row that has none
pub begins_row : (n : ℕ) (xs : List Element) → suc n ≤ length xs → Rows.is_empty (take n (drop 1 xs)) ≡ (n == 0)
begins_row n [] enough = absurd (omega arith)
begins_row zero (x ∷ xs) enough = refl
begins_row (suc n) (x ∷ []) enough = absurd (omega arith)
begins_row (suc n) (x ∷ y ∷ xs) enough = sym (eqb-suc-zero n)

-- an atom that no space separates from the row
pub put_adapted : (n : ℕ) (style : Style) (before : Before) (kind : Kind) (xs : List Element) → suc n ≤ length xs → Atoms.gap style before kind ≡ pos 0 → take (suc n) (changed_at (Atoms.element_there style (n == 0) before kind) 0 xs) ≡ Rows.put Rows.Apart style before (Atoms.atom kind Low (top xs)) (take n (drop 1 xs))
put_adapted n style before kind [] enough none = absurd (omega arith)
put_adapted n style before kind (x ∷ xs) enough none = rw (begins_row n (x ∷ xs) enough, none)

-- a space that has a width
some_parted : (width : ℤ) (xs : List Element) → (width ≡ pos 0 → ⊥) → space width ∷ xs ≡ Rows.parted width xs
some_parted (pos zero) xs some = absurd (some refl)
some_parted (pos (suc n)) xs some = refl
some_parted (negsuc n) xs some = refl

-- an atom that a space of this width separates from the row
pub put_parted : (n : ℕ) (style : Style) (before : Before) (kind : Kind) (width : ℤ) (xs ys : List Element) → suc n ≤ length xs → (width ≡ pos 0 → ⊥) → width ≡ Atoms.gap style before kind → ys ≡ changed_at (Atoms.element_there style (n == 0) before kind) 0 xs → take (suc (suc n)) (take 1 ys ++ (space width ∷ drop 1 ys)) ≡ Rows.put Rows.Apart style before (Atoms.atom kind Low (top xs)) (take n (drop 1 xs))
put_parted n style before kind width [] ys enough some gap is = absurd (omega arith)
put_parted n style before kind width (x ∷ xs) ys enough some gap is =
    rw (is, begins_row n (x ∷ xs) enough, sym gap) (ap (λ zs. Atoms.element_there style (n == 0) before kind x ∷ zs) (some_parted width (take n xs) some))

-- an atom that stays as it is, with no space before it
pub put_as_it_is : (joining : Rows.Joining) (n : ℕ) (style : Style) (before : Before) (kind : Kind) (xs : List Element) → suc n ≤ length xs → joining ≡ Rows.Apart → Atoms.gap style before kind ≡ pos 0 → ((x : Element) → Atoms.element_there style (n == 0) before kind x ≡ x) → take (suc n) xs ≡ Rows.put joining style before (Atoms.atom kind Low (top xs)) (take n (drop 1 xs))
put_as_it_is joining n style before kind [] enough apart none stays = absurd (omega arith)
put_as_it_is joining n style before kind (x ∷ xs) enough apart none stays = rw (apart, begins_row n (x ∷ xs) enough, none) (ap (λ y. y ∷ take n xs) (sym (stays x)))

pub same_row : (xs ys : List Element) (b c : Before) (v w : Kind) (h i : Height) (k l : Class) (e f : Option Rows.Restyled) (r u : Option Rows.Upper) → xs ≡ ys → b ≡ c → v ≡ w → h ≡ i → k ≡ l → e ≡ f → r ≡ u → ◌≡◌ {A = Rows.Row} (record { elements = xs; before = b; last = v; height = h; class = k; restyled = e; under = r }) (record { elements = ys; before = c; last = w; height = i; class = l; restyled = f; under = u })
same_row xs ys b c v w h i k l e f r u p q s t m n o = cc

-- what is below the atoms of a row stays where it is
module _ (n k : ℕ) (xs ys : List Element) (below : drop k ys ≡ drop (n + 1) xs) where
  pub same_below : drop k ys ≡ drop n (drop 1 xs)
  same_below = let swap : n + 1 ≡ 1 + n = omega arith in below ∙ ap (λ m. drop m xs) swap ∙ sym (drop-drop n 1 xs)

  pub same_far_below : (m : ℕ) → drop (k + m) ys ≡ drop (n + m) (drop 1 xs)
  same_far_below m = sym (drop-drop m k ys) ∙ ap (drop m) same_below ∙ drop-drop m n (drop 1 xs)
