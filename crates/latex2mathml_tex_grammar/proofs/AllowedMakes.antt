-- Atoms whose parts hold no character that XML forbids hold none.
use Rattle.std.proofs.Common.{◌≡◌, ℕ, zero, suc, ℤ, pos, negsuc, Bool, true, false, ◌==◌, List, [], ◌∷◌, ◌++◌, map, reverse, Option, Some, None, refl, sym, subst, codes}
use Rattle.std.proofs.{lemmas.Bool.and_parts, lemmas.Grind.reverse_onto}
use Rattle.std.specs.{List.list_all, Str.NonePass, Str.byte}
use Rattle.latex2mathml_elements.specs.Attributes.{Attributes, Side, Above, Below, Stretch}
use Rattle.latex2mathml_elements.specs.Characters.{is_forbidden, IsAllowed, HasAllowedTexts, EachTextOf}
use Rattle.latex2mathml_elements.specs.Element.{Mi, Mn, Mo, Mtext, Element, token, space, rectangle, container, pair, triple, table, children}
use Rattle.latex2mathml_elements.proofs.{Characters.allowed_both, Characters.allowed_char, Characters.allowed_plain, Characters.plain_is_allowed, Plain.IsPlain, Plain.is_plain}
use Rattle.latex2mathml_tex_grammar.specs.Alphabets.{in_alphabet}
use Rattle.latex2mathml_tex_grammar.specs.Atoms.{without_space_after, Atom, Kind, SignOf, PlusOrMinus, Plain, UprightLetters, UprightIdentifier, Unspaced, Blank, Divider, Before, begins_operand, is_ordinary, as_prefix, as_infix, without_space, without_space_before, led, leads_operator, leads_relation, tight, element_there, gap, lone_sign, element_as}
use Rattle.latex2mathml_tex_grammar.specs.Fences.{delimited_fraction, fenced}
use Rattle.latex2mathml_tex_grammar.specs.Heights.{Height, Low}
use Rattle.latex2mathml_tex_grammar.specs.Makes.{text, letter, upright_letter, number, sign_in, symbol, struck, classed, on_side, accent, brace, stack, in_style, unfenced, quotient, fraction_element, fraction, lowered_divider, lowered, between_delimiters, spaced_as, Scripts, primes_text, prime_mark, behind_primes, superscript, are_stacked, fixed_base, with_scripts, before_base, base_there, scripted_atom, scripted}
use Rattle.latex2mathml_tex_grammar.specs.Meaning.{FractionRule, Bar, NoBar, Braced, Bracketed, Bare, LimitPlace, Beside, ByStyle, Movable, Stacked}
use Rattle.latex2mathml_tex_grammar.specs.Rows.{Row, Operand, are_like_sign, ended, leaves_space, without_last_space, row_before, Joining, ToWord, ToRelations, Separated, Apart, as_base, is_spaced, isolated, lone, is_empty, join, parted, put, row_element, row_elements, single, with_atom, empty_row}
use Rattle.latex2mathml_tex_grammar.specs.Symbols.{Class, Ordinary, Operator, Binary, Relation, Opening, Closing, Punctuation, Inner, Style, InDisplay, InText, InScript, Alphabet, Upright, Named, Italic, Bold, BoldItalic, DoubleStruck, Fraktur, Calligraphic, SansSerif, Monospace, Symbol, Letter, UprightLetter, Sign, BigOperator, Integral}
use Rattle.latex2mathml_tex_grammar.proofs.Allowed.{AreAllowedElements, IsAllowedElement, IsAllowedCore, IsAllowedAtom, IsAllowedOperand, IsAllowedRow, AreAllowedScripts}
use Rattle.latex2mathml_tex_grammar.proofs.AllowedTables.{in_alphabet_allowed, is_allowed_symbol, not_forbidden}
use Rattle.latex2mathml_tex_grammar.proofs.Choices.{of_either}

-- Letters, signs and digits

pub letter_allowed : (alphabet : Option Alphabet) (c : ℕ) → is_forbidden c ≡ false → IsAllowedAtom (letter alphabet c)
letter_allowed None c h = allowed_char c h
letter_allowed (Some Upright) c h = allowed_char c h
letter_allowed (Some Named) c h = allowed_char c h
letter_allowed (Some Italic) c h = allowed_char _ (in_alphabet_allowed Italic c h)
letter_allowed (Some Bold) c h = allowed_char _ (in_alphabet_allowed Bold c h)
letter_allowed (Some BoldItalic) c h = allowed_char _ (in_alphabet_allowed BoldItalic c h)
letter_allowed (Some DoubleStruck) c h = allowed_char _ (in_alphabet_allowed DoubleStruck c h)
letter_allowed (Some Fraktur) c h = allowed_char _ (in_alphabet_allowed Fraktur c h)
letter_allowed (Some Calligraphic) c h = allowed_char _ (in_alphabet_allowed Calligraphic c h)
letter_allowed (Some SansSerif) c h = allowed_char _ (in_alphabet_allowed SansSerif c h)
letter_allowed (Some Monospace) c h = allowed_char _ (in_alphabet_allowed Monospace c h)

pub upright_letter_allowed : (alphabet : Option Alphabet) (c : ℕ) → is_forbidden c ≡ false → IsAllowedAtom (upright_letter alphabet c)
upright_letter_allowed None c h = allowed_char c h
upright_letter_allowed (Some alphabet) c h = letter_allowed (Some alphabet) c h

sign_in_allowed : (alphabet : Option Alphabet) (class : Class) (c : ℕ) → is_forbidden c ≡ false → IsAllowedAtom (sign_in alphabet class c)
sign_in_allowed (Some Named) class c h =
    of_either IsAllowedAtom (c == 0x2212) (allowed_char (byte "-") refl)
    (of_either IsAllowedAtom (c == 0x2217) (allowed_char (byte "*") refl) (allowed_char c h))
sign_in_allowed alphabet class c h = allowed_char c h

pub symbol_allowed : (style : Style) (alphabet : Option Alphabet) (s : Symbol) → is_allowed_symbol s ≡ true → IsAllowedCore (symbol style alphabet s)
symbol_allowed style alphabet (Letter c) h = letter_allowed alphabet c (not_forbidden c h)
symbol_allowed style alphabet (UprightLetter c) h = upright_letter_allowed alphabet c (not_forbidden c h)
symbol_allowed style alphabet (Sign class c) h = sign_in_allowed alphabet class c (not_forbidden c h)
symbol_allowed style alphabet (BigOperator c) h = allowed_char c (not_forbidden c h)
symbol_allowed style alphabet (Integral c) h = allowed_char c (not_forbidden c h)

digits_pass : (alphabet : Alphabet) (digits : List ℕ) → IsPlain digits → NonePass is_forbidden (map (in_alphabet alphabet) digits)
digits_pass alphabet [] h = tt
digits_pass alphabet (c ∷ digits) h =
    let parts = and_parts (is_plain c) (list_all is_plain digits) h in
    (in_alphabet_allowed alphabet c (plain_is_allowed c parts.0), digits_pass alphabet digits parts.1)

pub number_allowed : (alphabet : Option Alphabet) (digits : List ℕ) → IsPlain digits → IsAllowedAtom (number alphabet digits)
number_allowed None digits h = allowed_plain digits h
number_allowed (Some alphabet) digits h = (map (in_alphabet alphabet) digits, refl, digits_pass alphabet digits h)

-- Elements next to each other

children_allowed : (xs : List Element) → AreAllowedElements xs → EachTextOf IsAllowed (children xs)
children_allowed [] h = tt
children_allowed (x ∷ xs) h = (h.0, children_allowed xs h.1)

behind : (xs ys : List Element) → AreAllowedElements xs → AreAllowedElements ys → AreAllowedElements (xs ++ ys)
behind [] ys h k = k
behind (x ∷ xs) ys h k = (h.0, behind xs ys h.1 k)

reversed : (xs : List Element) → AreAllowedElements xs → AreAllowedElements (reverse xs)
reversed [] h = tt
reversed (x ∷ xs) h = subst AreAllowedElements (sym (reverse_onto xs x [])) (behind (reverse xs) (x ∷ []) (reversed xs h.1) (h.0, tt))

pub row_children_allowed : (xs : List Element) → AreAllowedElements xs → EachTextOf IsAllowed (children (reverse xs))
row_children_allowed xs h = children_allowed (reverse xs) (reversed xs h)

pub row_element_allowed : (xs : List Element) → AreAllowedElements xs → HasAllowedTexts (row_element xs)
row_element_allowed [] h = tt
row_element_allowed (x ∷ []) h = h.0
row_element_allowed (x ∷ y ∷ xs) h = row_children_allowed (row_elements (x ∷ y ∷ xs)) (of_either AreAllowedElements (are_like_sign (x ∷ y ∷ xs)) (([], refl, tt), h) h)

-- A row with an atom after it

prefix_allowed : (x : Element) → HasAllowedTexts x → HasAllowedTexts (as_prefix x)
prefix_allowed (token t a text) h = h
prefix_allowed (space width) h = h
prefix_allowed (rectangle e) h = h
prefix_allowed (container c a xs) h = h
prefix_allowed (pair p a x y) h = h
prefix_allowed (triple t a x y z) h = h
prefix_allowed (table a rows) h = h

infix_allowed : (first : Bool) (x : Element) → HasAllowedTexts x → HasAllowedTexts (as_infix first x)
infix_allowed true (token t a text) h = h
infix_allowed true (space width) h = h
infix_allowed true (rectangle e) h = h
infix_allowed true (container c a xs) h = h
infix_allowed true (pair p a x y) h = h
infix_allowed true (triple t a x y z) h = h
infix_allowed true (table a rows) h = h
infix_allowed false x h = h

without_space_allowed : (x : Element) → HasAllowedTexts x → HasAllowedTexts (without_space x)
without_space_allowed (token t a text) h = h
without_space_allowed (space width) h = h
without_space_allowed (rectangle e) h = h
without_space_allowed (container c a xs) h = h
without_space_allowed (pair p a x y) h = h
without_space_allowed (triple t a x y z) h = h
without_space_allowed (table a rows) h = h

without_space_after_allowed : (x : Element) → HasAllowedTexts x → HasAllowedTexts (without_space_after x)
without_space_after_allowed (token t a text) h = h
without_space_after_allowed (space width) h = h
without_space_after_allowed (rectangle e) h = h
without_space_after_allowed (container c a xs) h = h
without_space_after_allowed (pair p a x y) h = h
without_space_after_allowed (triple t a x y z) h = h
without_space_after_allowed (table a rows) h = h

tight_allowed : (style : Style) (x : Element) → HasAllowedTexts x → HasAllowedTexts (tight style x)
tight_allowed InDisplay x h = h
tight_allowed InText x h = h
tight_allowed InScript x h = without_space_allowed x h

without_space_before_allowed : (x : Element) → HasAllowedTexts x → HasAllowedTexts (without_space_before x)
without_space_before_allowed (token t a sign_text) h = h
without_space_before_allowed (space width) h = h
without_space_before_allowed (rectangle e) h = h
without_space_before_allowed (container c a xs) h = h
without_space_before_allowed (pair p a x y) h = h
without_space_before_allowed (triple t a x y z) h = h
without_space_before_allowed (table a rows) h = h

led_allowed : (leads : Bool) (x : Element) → HasAllowedTexts x → HasAllowedTexts (led leads x)
led_allowed true x h = without_space_before_allowed x h
led_allowed false x h = h

element_there_allowed : (style : Style) (first : Bool) (before : Before) (kind : Kind) (x : Element) → HasAllowedTexts x → HasAllowedTexts (element_there style first before kind x)
element_there_allowed style first before (SignOf Binary) x h =
    of_either HasAllowedTexts (is_ordinary first before) (without_space_allowed x h) (tight_allowed style x h)
element_there_allowed style first before (SignOf Relation) x h =
    let leads = leads_relation before in tight_allowed style (led leads x) (led_allowed leads x h)
element_there_allowed style first before (SignOf Punctuation) x h = tight_allowed style x h
element_there_allowed style first before (SignOf Ordinary) x h = h
element_there_allowed style first before (SignOf Operator) x h = led_allowed (leads_operator before) x h
element_there_allowed style first before (SignOf Opening) x h = h
element_there_allowed style first before (SignOf Closing) x h = h
element_there_allowed style first before (SignOf Inner) x h = h
element_there_allowed style first before PlusOrMinus x h =
    of_either HasAllowedTexts (begins_operand before) (prefix_allowed x h) (tight_allowed style (as_infix first x) (infix_allowed first x h))
element_there_allowed style first before (Plain Operator) x h = led_allowed (leads_operator before) x h
element_there_allowed style first before (Plain class) x h = h
element_there_allowed style first before UprightLetters x h = h
element_there_allowed style first before UprightIdentifier x h = h
element_there_allowed style first before (Unspaced class) x h = h
element_there_allowed style first before Divider x h = h
element_there_allowed style first before Blank x h = h

parted_allowed : (width : ℤ) (xs : List Element) → AreAllowedElements xs → AreAllowedElements (parted width xs)
parted_allowed (pos zero) xs h = h
parted_allowed (pos (suc n)) xs h = (tt, h)
parted_allowed (negsuc n) xs h = (tt, h)

join_allowed : (change : Attributes → Attributes) (x : Element) (xs : List Element) → HasAllowedTexts x → AreAllowedElements xs → AreAllowedElements (join change x xs)
join_allowed change (token t a letter) [] h k = (h, k)
join_allowed change (token t a letter) (token u b word ∷ xs) h k = (allowed_both word letter k.0 h, k.1)
join_allowed change (token t a letter) (space width ∷ xs) h k = (h, k)
join_allowed change (token t a letter) (rectangle e ∷ xs) h k = (h, k)
join_allowed change (token t a letter) (container c b ys ∷ xs) h k = (h, k)
join_allowed change (token t a letter) (pair p b y z ∷ xs) h k = (h, k)
join_allowed change (token t a letter) (triple u b x y z ∷ xs) h k = (h, k)
join_allowed change (token t a letter) (table b rows ∷ xs) h k = (h, k)
join_allowed change (space width) xs h k = (h, k)
join_allowed change (rectangle e) xs h k = (h, k)
join_allowed change (container c a ys) xs h k = (h, k)
join_allowed change (pair p a y z) xs h k = (h, k)
join_allowed change (triple t a x y z) xs h k = (h, k)
join_allowed change (table a rows) xs h k = (h, k)

put_allowed : (joining : Joining) (style : Style) (before : Before) (x : Atom) (xs : List Element) → IsAllowedAtom x → AreAllowedElements xs → AreAllowedElements (put joining style before x xs)
put_allowed ToWord style before x xs h k = join_allowed _ x.element xs h k
put_allowed ToRelations style before x xs h k = join_allowed _ x.element xs h k
put_allowed Separated style before x xs h k = (h, (tt, k))
put_allowed Apart style before x xs h k =
    (element_there_allowed style (is_empty xs) before x.kind x.element h, parted_allowed (gap style before x.kind) xs k)

pub last_allowed : (loses : Bool) (xs : List Element) → AreAllowedElements xs → AreAllowedElements (without_last_space loses xs)
last_allowed true [] h = tt
last_allowed true (x ∷ xs) h = (without_space_allowed x h.0, h.1)
last_allowed false xs h = h

pub with_atom_allowed : (style : Style) (row : Row) (x : Atom) → IsAllowedRow row → IsAllowedAtom x → IsAllowedRow (with_atom style row x)
with_atom_allowed style row x h k =
    let before = row_before x.kind row in
    put_allowed _ style before.before x before.elements k (last_allowed _ row.elements h)

pub single_allowed : (style : Style) (x : Atom) → IsAllowedAtom x → IsAllowedOperand (single style x)
single_allowed style x h =
    row_element_allowed (with_atom style empty_row x).elements (with_atom_allowed style empty_row x tt h)

isolated_allowed : (spaced : Bool) (x : Element) → HasAllowedTexts x → HasAllowedTexts (isolated spaced x)
isolated_allowed true x h = without_space_allowed x h
isolated_allowed false x h = h

ended_allowed : (is_last : Bool) (x : Element) → HasAllowedTexts x → HasAllowedTexts (ended is_last x)
ended_allowed true x h = without_space_after_allowed x h
ended_allowed false x h = h

pub lone_allowed : (last : Kind) (xs : List Element) → AreAllowedElements xs → AreAllowedElements (lone last xs)
lone_allowed last [] h = tt
lone_allowed last (x ∷ []) h = (isolated_allowed (is_spaced last) x h.0, tt)
lone_allowed last (x ∷ y ∷ xs) h = (ended_allowed (leaves_space last) x h.0, h.1)

-- Strokes, classes, marks

pub struck_allowed : (x : Element) → HasAllowedTexts x → IsAllowedElement (struck x)
struck_allowed (token t a sign_text) h = allowed_both sign_text (text 0x0338) h (allowed_char 0x0338 refl)
struck_allowed (space width) h = tt
struck_allowed (rectangle e) h = tt
struck_allowed (container c a xs) h = tt
struck_allowed (pair p a x y) h = tt
struck_allowed (triple t a x y z) h = tt
struck_allowed (table a rows) h = tt

lone_sign_allowed : (style : Style) (class : Class) (x : Element) → HasAllowedTexts x → HasAllowedTexts (lone_sign style class x)
lone_sign_allowed style class (token Mo a text) h = h
lone_sign_allowed style class (token Mi a text) h = h
lone_sign_allowed style class (token Mn a text) h = h
lone_sign_allowed style class (token Mtext a text) h = h
lone_sign_allowed style class (space width) h = h
lone_sign_allowed style class (rectangle e) h = h
lone_sign_allowed style class (container c a xs) h = h
lone_sign_allowed style class (pair p a x y) h = h
lone_sign_allowed style class (triple t a x y z) h = h
lone_sign_allowed style class (table a rows) h = h

element_as_allowed : (style : Style) (class own : Class) (x : Element) → HasAllowedTexts x → HasAllowedTexts (element_as style class own x)
element_as_allowed style class Ordinary x h = h
element_as_allowed style class Operator x h = h
element_as_allowed style class Binary x h = lone_sign_allowed style class x h
element_as_allowed style class Relation x h = lone_sign_allowed style class x h
element_as_allowed style class Opening x h = h
element_as_allowed style class Closing x h = h
element_as_allowed style class Punctuation x h = h
element_as_allowed style class Inner x h = h

pub as_base_allowed : (style : Style) (class : Class) (x : Operand) → IsAllowedOperand x → IsAllowedOperand (as_base style class x)
as_base_allowed style class x h = element_as_allowed style class x.class x.element h

spaced_as_allowed : (class own : Class) (x : Element) → HasAllowedTexts x → HasAllowedTexts (spaced_as class own x)
spaced_as_allowed class own (token Mo a sign_text) h = h
spaced_as_allowed class own (token Mi a text) h = h
spaced_as_allowed class own (token Mn a text) h = h
spaced_as_allowed class own (token Mtext a text) h = h
spaced_as_allowed class own (space width) h = h
spaced_as_allowed class own (rectangle e) h = h
spaced_as_allowed class own (container c a xs) h = h
spaced_as_allowed class own (pair p a x y) h = h
spaced_as_allowed class own (triple t a x y z) h = h
spaced_as_allowed class own (table a rows) h = h

pub classed_allowed : (class : Class) (x : Operand) → IsAllowedOperand x → IsAllowedCore (classed class x)
classed_allowed class x h = spaced_as_allowed class x.class x.element h

on_side_allowed : (side : Side) (a : Attributes) (base mark : Element) → HasAllowedTexts base → HasAllowedTexts mark → HasAllowedTexts (on_side side a base mark)
on_side_allowed Above a base mark h k = (h, k)
on_side_allowed Below a base mark h k = (h, k)

pub accent_allowed : (side : Side) (mark : ℕ) (width : Stretch) (x : Operand) → is_forbidden mark ≡ false → HasAllowedTexts x.element → IsAllowedCore (accent side mark width x)
accent_allowed side mark width x h k = on_side_allowed side _ x.element _ k (allowed_char mark h)

pub brace_allowed : (side : Side) (mark : ℕ) (x : Element) → is_forbidden mark ≡ false → HasAllowedTexts x → IsAllowedCore (brace side mark x)
brace_allowed side mark x h k = on_side_allowed side _ x _ k (allowed_char mark h)

pub stack_allowed : (side : Side) (kind : Kind) (mark base : Element) → HasAllowedTexts mark → HasAllowedTexts base → IsAllowedCore (stack side kind mark base)
stack_allowed side kind mark base h k = on_side_allowed side _ base mark k h

-- Fractions and delimiters

pub in_style_allowed : (style : Option Style) (x : Element) → HasAllowedTexts x → HasAllowedTexts (in_style style x)
in_style_allowed None x h = h
in_style_allowed (Some style) x h = (h, tt)

pub fenced_allowed : (height : Height) (opening closing : List ℕ) (inside : Element) → IsAllowed opening → IsAllowed closing → HasAllowedTexts inside → HasAllowedTexts (fenced height opening closing inside)
fenced_allowed height opening closing inside h k i = (h, (i, (k, tt)))

pub unfenced_allowed : (x : Element) → HasAllowedTexts x → HasAllowedTexts (unfenced x)
unfenced_allowed x h = (h, (([], refl, tt), tt))

pub delimited_allowed : (style : Style) (opening closing : List ℕ) (x : Element) → IsAllowed opening → IsAllowed closing → HasAllowedTexts x → HasAllowedTexts (delimited_fraction style opening closing x)
delimited_allowed style opening closing x h k i = (h, (i, (k, tt)))

fraction_element_allowed : (rule : FractionRule) (style : Style) (above below : Element) → HasAllowedTexts above → HasAllowedTexts below → HasAllowedTexts (fraction_element rule style above below)
fraction_element_allowed Bar style above below h k = unfenced_allowed (quotient true above below) (h, k)
fraction_element_allowed Bare style above below h k = unfenced_allowed (quotient false above below) (h, k)
fraction_element_allowed NoBar style above below h k =
    delimited_allowed style _ _ (quotient false above below) (allowed_plain (codes "(") refl) (allowed_plain (codes ")") refl) (h, k)
fraction_element_allowed Braced style above below h k =
    delimited_allowed style _ _ (quotient false above below) (allowed_plain (codes "{") refl) (allowed_plain (codes "}") refl) (h, k)
fraction_element_allowed Bracketed style above below h k =
    delimited_allowed style _ _ (quotient false above below) (allowed_plain (codes "[") refl) (allowed_plain (codes "]") refl) (h, k)

pub fraction_allowed : (rule : FractionRule) (own : Option Style) (style : Style) (above below : Element) → HasAllowedTexts above → HasAllowedTexts below → IsAllowedCore (fraction rule own style above below)
fraction_allowed rule own style above below h k = in_style_allowed own _ (fraction_element_allowed rule style above below h k)

lowered_divider_allowed : (x : Element) → HasAllowedTexts x → HasAllowedTexts (lowered_divider x)
lowered_divider_allowed (token t a sign_text) h = h
lowered_divider_allowed (space width) h = h
lowered_divider_allowed (rectangle e) h = h
lowered_divider_allowed (container c a xs) h = h
lowered_divider_allowed (pair p a x y) h = h
lowered_divider_allowed (triple t a x y z) h = h
lowered_divider_allowed (table a rows) h = h

each_lowered : (xs : List Element) → AreAllowedElements xs → AreAllowedElements (map lowered_divider xs)
each_lowered [] h = tt
each_lowered (x ∷ xs) h = (lowered_divider_allowed x h.0, each_lowered xs h.1)

lowered_allowed : (height : Height) (xs : List Element) → AreAllowedElements xs → AreAllowedElements (lowered height xs)
lowered_allowed Low xs h = each_lowered xs h
lowered_allowed height xs h = h

pub between_allowed : (opening closing : List ℕ) (row : Row) → IsAllowed opening → IsAllowed closing → IsAllowedRow row → IsAllowedCore (between_delimiters opening closing row)
between_allowed opening closing row h k i =
    fenced_allowed row.height opening closing _ h k (row_element_allowed (lowered row.height row.elements) (lowered_allowed row.height row.elements i))

-- Scripts

primes_text_allowed : (n : ℕ) → IsAllowed (primes_text n)
primes_text_allowed zero = allowed_plain [] refl
primes_text_allowed (suc n) = allowed_both (primes_text n) (text 0x2032) (primes_text_allowed n) (allowed_char 0x2032 refl)

prime_mark_allowed : (n : ℕ) → HasAllowedTexts (prime_mark n)
prime_mark_allowed n =
    of_either IsAllowed (n == 2) (allowed_char 0x2033 refl)
    (of_either IsAllowed (n == 3) (allowed_char 0x2034 refl)
    (of_either IsAllowed (n == 4) (allowed_char 0x2057 refl) (primes_text_allowed n)))

pub behind_primes_allowed : (n : ℕ) (x : Element) → HasAllowedTexts x → HasAllowedTexts (behind_primes n x)
behind_primes_allowed zero x h = h
behind_primes_allowed (suc n) x h = row_element_allowed (x ∷ prime_mark (suc n) ∷ []) (h, (prime_mark_allowed (suc n), tt))

superscript_allowed : (n : ℕ) (above : Option Element) → IsAllowedElement above → IsAllowedElement (superscript n above)
superscript_allowed zero None h = tt
superscript_allowed (suc n) None h = prime_mark_allowed (suc n)
superscript_allowed zero (Some x) h = h
superscript_allowed (suc n) (Some x) h = h

fixed_base_allowed : (limits : LimitPlace) (x : Element) → HasAllowedTexts x → HasAllowedTexts (fixed_base limits x)
fixed_base_allowed Beside x h = h
fixed_base_allowed ByStyle x h = h
fixed_base_allowed Movable x h = h
fixed_base_allowed Stacked (token Mi a sign_text) h = h
fixed_base_allowed Stacked (token Mn a sign_text) h = h
fixed_base_allowed Stacked (token Mo a sign_text) h = h
fixed_base_allowed Stacked (token Mtext a sign_text) h = h
fixed_base_allowed Stacked (space width) h = h
fixed_base_allowed Stacked (rectangle e) h = h
fixed_base_allowed Stacked (container c a xs) h = h
fixed_base_allowed Stacked (pair p a x y) h = h
fixed_base_allowed Stacked (triple t a x y z) h = h
fixed_base_allowed Stacked (table a rows) h = h

with_scripts_allowed : (stacked : Bool) (base : Element) (below above : Option Element) → HasAllowedTexts base → IsAllowedElement below → IsAllowedElement above → HasAllowedTexts (with_scripts stacked base below above)
with_scripts_allowed true base None None h k i = h
with_scripts_allowed false base None None h k i = h
with_scripts_allowed true base (Some below) None h k i = (h, k)
with_scripts_allowed true base None (Some above) h k i = (h, i)
with_scripts_allowed true base (Some below) (Some above) h k i = (h, k, i)
with_scripts_allowed false base (Some below) None h k i = (h, k)
with_scripts_allowed false base None (Some above) h k i = (h, i)
with_scripts_allowed false base (Some below) (Some above) h k i = (h, k, i)

scripted_atom_allowed : (style : Style) (before : Before) (base : Atom) (scripts : Scripts) (below above : Option Element) → IsAllowedAtom base → IsAllowedElement below → IsAllowedElement above → IsAllowedAtom (scripted_atom style before base scripts below above)
scripted_atom_allowed style before base scripts None None h k i = h
scripted_atom_allowed style before base scripts (Some below) None h k i =
    with_scripts_allowed (are_stacked style scripts.limits) _ (Some below) None (fixed_base_allowed scripts.limits (base_there style before base) (element_there_allowed style true (before_base base.kind before) base.kind base.element h)) k i
scripted_atom_allowed style before base scripts None (Some above) h k i =
    with_scripts_allowed (are_stacked style scripts.limits) _ None (Some above) (fixed_base_allowed scripts.limits (base_there style before base) (element_there_allowed style true (before_base base.kind before) base.kind base.element h)) k i
scripted_atom_allowed style before base scripts (Some below) (Some above) h k i =
    with_scripts_allowed (are_stacked style scripts.limits) _ (Some below) (Some above) (fixed_base_allowed scripts.limits (base_there style before base) (element_there_allowed style true (before_base base.kind before) base.kind base.element h)) k i

pub scripted_allowed : (style : Style) (before : Before) (base : Atom) (scripts : Scripts) → IsAllowedAtom base → AreAllowedScripts scripts → IsAllowedAtom (scripted style before base scripts)
scripted_allowed style before base scripts h k =
    scripted_atom_allowed style before base scripts scripts.below (superscript scripts.primes scripts.above) h k.0 (superscript_allowed scripts.primes scripts.above k.1)
