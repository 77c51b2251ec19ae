-- The parts of bodies, one after another.
use Rattle.std.proofs.Common.{◌≡◌, ℕ, ◌+◌, ◌<◌, Bool, true, false, List, [], ◌∷◌, ◌++◌, map, drop, get_or, length, Option, Some, None, refl, sym, ap, ◌∙◌, append_assoc}
use Rattle.std.proofs.lemmas.List.{drop_more, map-append}
use Rattle.std.specs.Str.{byte}
use Rattle.latex2mathml_tex_grammar.specs.Definitions.{is_character, parameter_part, part_before, parts_behind}
use Rattle.latex2mathml_tex_grammar.specs.Macros as macros
use Rattle.latex2mathml_tex_units.specs.{Bodies.part_of, Taking.piece_of, Taking.unit_of, declared.macros.part.Part.Part, declared.unit.Unit.Unit}
use Rattle.latex2mathml_tex_units.specs.declared.macros.part.Part.TheVariants as part

-- what is found, preceded by these parts
abbrev pub with_parts : List macros.Part → Option (List macros.Part) → Option (List macros.Part)
with_parts xs (Some ys) = Some (xs ++ ys)
with_parts xs None = None

with_parts-push : (xs : List macros.Part) (x : macros.Part) (o : Option (List macros.Part)) → with_parts (xs ++ x ∷ []) o ≡ with_parts xs (part_before (Some x) o)
with_parts-push xs x (Some ys) = ap Some (append_assoc xs (x ∷ []) ys)
with_parts-push xs x None = refl

-- a part is put after those that were found
pushed : (xs xs' : List Part) (x : Part) (o : Option (List macros.Part)) → xs' ≡ xs ++ x ∷ [] → with_parts (map part_of xs) (part_before (Some (part_of x)) o) ≡ with_parts (map part_of xs') o
pushed xs xs' x o e = sym (ap (λ ys. with_parts ys o) (ap (map part_of) e ∙ map-append part_of xs (x ∷ [])) ∙ with_parts-push (map part_of xs) (part_of x) o)

-- what is left is one unit and the rest
pub at_unit : (n : ℕ) (us : List Unit) (i : ℕ) (d : Unit) (b : Bool) (xs : List Part) (start : Option (List macros.Part))
    → start ≡ with_parts (map part_of xs) (parts_behind b n (map unit_of (drop i us)))
    → i < length us
    → start ≡ with_parts (map part_of xs) (parts_behind b n (unit_of (get_or us i d) ∷ map unit_of (drop (i + 1) us)))
at_unit n us i d b xs start h within = h ∙ ap (λ l. with_parts (map part_of xs) (parts_behind b n (map unit_of l))) (drop_more us i d within)

pub argument_found : (n : ℕ) (us : List Unit) (i : ℕ) (d : Unit) (b b' : Bool) (xs xs' : List Part) (x : Part) (start : Option (List macros.Part))
    → start ≡ with_parts (map part_of xs) (parts_behind b n (map unit_of (drop i us)))
    → i < length us
    → b ≡ true
    → parameter_part n (piece_of (get_or us i d).piece) ≡ Some (part_of x)
    → xs' ≡ xs ++ x ∷ []
    → b' ≡ false
    → start ≡ with_parts (map part_of xs') (parts_behind b' n (map unit_of (drop (i + 1) us)))
argument_found n us i d b b' xs xs' x start h within behind p e after =
    let more = parts_behind false n (map unit_of (drop (i + 1) us)) in
    let step : parts_behind b n (unit_of (get_or us i d) ∷ map unit_of (drop (i + 1) us)) ≡ part_before (Some (part_of x)) more = rw (behind, p) refl in
    at_unit n us i d b xs start h within ∙ ap (with_parts (map part_of xs)) step ∙ pushed xs xs' x more e ∙ ap (λ c. with_parts (map part_of xs') (parts_behind c n (map unit_of (drop (i + 1) us)))) (sym after)

pub no_argument : (n : ℕ) (us : List Unit) (i : ℕ) (d : Unit) (b : Bool) (xs : List Part) (start : Option (List macros.Part))
    → start ≡ with_parts (map part_of xs) (parts_behind b n (map unit_of (drop i us)))
    → i < length us
    → b ≡ true
    → parameter_part n (piece_of (get_or us i d).piece) ≡ None
    → None ≡ start
no_argument n us i d b xs start h within behind p =
    let step : parts_behind b n (unit_of (get_or us i d) ∷ map unit_of (drop (i + 1) us)) ≡ part_before None (parts_behind false n (map unit_of (drop (i + 1) us))) = rw (behind, p) refl in
    sym (at_unit n us i d b xs start h within ∙ ap (with_parts (map part_of xs)) (step ∙ none_before (parts_behind false n (map unit_of (drop (i + 1) us)))))
  where
    none_before : (o : Option (List macros.Part)) → part_before None o ≡ None
    none_before o = refl

pub sign_found : (n : ℕ) (us : List Unit) (i : ℕ) (d : Unit) (b b' : Bool) (xs xs' : List Part) (start : Option (List macros.Part))
    → start ≡ with_parts (map part_of xs) (parts_behind b n (map unit_of (drop i us)))
    → i < length us
    → b ≡ false
    → is_character (byte "#") (piece_of (get_or us i d).piece) ≡ true
    → xs' ≡ xs
    → b' ≡ true
    → start ≡ with_parts (map part_of xs') (parts_behind b' n (map unit_of (drop (i + 1) us)))
sign_found n us i d b b' xs xs' start h within behind p e after =
    let step : parts_behind b n (unit_of (get_or us i d) ∷ map unit_of (drop (i + 1) us)) ≡ parts_behind true n (map unit_of (drop (i + 1) us)) = rw (behind, p) refl in
    at_unit n us i d b xs start h within ∙ ap (with_parts (map part_of xs)) step ∙ rw (e, after) refl

pub piece_found : (n : ℕ) (us : List Unit) (i : ℕ) (d : Unit) (b b' : Bool) (xs xs' : List Part) (start : Option (List macros.Part))
    → start ≡ with_parts (map part_of xs) (parts_behind b n (map unit_of (drop i us)))
    → i < length us
    → b ≡ false
    → is_character (byte "#") (piece_of (get_or us i d).piece) ≡ false
    → xs' ≡ xs ++ part.Fixed (get_or us i d).piece ∷ []
    → b' ≡ b
    → start ≡ with_parts (map part_of xs') (parts_behind b' n (map unit_of (drop (i + 1) us)))
piece_found n us i d b b' xs xs' start h within behind p e after =
    let more = parts_behind false n (map unit_of (drop (i + 1) us)) in
    let step : parts_behind b n (unit_of (get_or us i d) ∷ map unit_of (drop (i + 1) us)) ≡ part_before (Some (macros.Fixed (piece_of (get_or us i d).piece))) more = rw (behind, p) refl in
    at_unit n us i d b xs start h within ∙ ap (with_parts (map part_of xs)) step ∙ pushed xs xs' (part.Fixed (get_or us i d).piece) more e
    ∙ ap (λ c. with_parts (map part_of xs') (parts_behind c n (map unit_of (drop (i + 1) us)))) (sym (after ∙ behind))
