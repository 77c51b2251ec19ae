-- How rows end.
use Rattle.std.proofs.Common.{◌≡◌, ◌∙◌, ℕ, zero, suc, ◌+◌, true, false, List, [], ◌∷◌, Option, Some, None, drop, length, map, take, refl, sym, ap, arith, reverse}
use Rattle.std.proofs.lemmas.List.{length-drop}
use Rattle.latex2mathml_elements.specs.Element.{Element}
use Rattle.latex2mathml_builder.specs.Built.{Built, elements_in}
use Rattle.latex2mathml_tex_grammar.specs.{Atoms.Plain, Atoms.atom, Delimiters.delimiter_of, Next.next_are, Next.past_space, Next.refusal_here, Symbols.Inner}
use Rattle.latex2mathml_tex_grammar.specs.{Fences.fenced, Heights.Height, Heights.Low}
use Rattle.latex2mathml_tex_grammar.specs.Makes.{between_delimiters, core, lowered, lowered_divider}
use Rattle.latex2mathml_tex_grammar.specs.Refusal.{MissingDelimiter}
use Rattle.latex2mathml_tex_grammar.specs.Rows.{row_element}
use Rattle.latex2mathml_tex_grammar.specs.Rules.{gives}
use Rattle.latex2mathml_tex_commands.specs.{Delimiters.delimiter_text, Meanings.style_of}
use Rattle.latex2mathml_tex_units.specs.{Errors.refusal_of, Left.units_at}
use Rattle.latex2mathml_tex_atoms.specs.{Models.core_with, Models.height_of, Models.is_low, Models.row_with, Models.top, Shapes.mapped_first}
use Rattle.latex2mathml_tex.specs.Frames.{Start}
use Rattle.latex2mathml_tex.specs.Steps.{CanMake, ClosesRow, Follows, Holds, core_made, elements_of, left_of, level, to_do}
use Rattle.latex2mathml_tex_units.specs.declared.input.Input.{Input}
use Rattle.latex2mathml_tex_atoms.specs.declared.{atoms.Core.Core as CodeCore, atoms.Row.Row as CodeRow}
use Rattle.latex2mathml_tex.specs.declared.parse.Parser.{Parser}
use Rattle.latex2mathml_tex.specs.declared.parse.State.TheVariants as state
use Rattle.latex2mathml_tex.specs.declared.parse.endings.Ending.TheVariants as ending
use Rattle.latex2mathml_tex.proofs.Leading.{delimited, given, undelimited}
use Rattle.latex2mathml_tex_grammar.proofs.Shrinking.{no_more_past_space}
use Rattle.latex2mathml_tex_units.proofs.Nexts.{no_more_taken}
use Rattle.latex2mathml_tex.proofs.Marks.{all_refuse, core_refuses}

-- The first elements changed

pub first_mapped : (f : Element → Element) (n : ℕ) (xs : List Element) → take n (mapped_first f n xs) ≡ map f (take n xs)
first_mapped f zero [] = refl
first_mapped f zero (x ∷ xs) = refl
first_mapped f (suc n) [] = refl
first_mapped f (suc n) (x ∷ xs) = ap (λ ys. f x ∷ ys) (first_mapped f n xs)

pub below_mapped : (f : Element → Element) (n : ℕ) (xs : List Element) → drop n (mapped_first f n xs) ≡ drop n xs
below_mapped f zero [] = refl
below_mapped f zero (x ∷ xs) = refl
below_mapped f (suc n) [] = refl
below_mapped f (suc n) (x ∷ xs) = below_mapped f n xs

pub length_mapped : (f : Element → Element) (n : ℕ) (xs : List Element) → length (mapped_first f n xs) ≡ length xs
length_mapped f zero [] = refl
length_mapped f zero (x ∷ xs) = refl
length_mapped f (suc n) [] = refl
length_mapped f (suc n) (x ∷ xs) = ap suc (length_mapped f n xs)

-- Rows between delimiters

pub lowest : (height : Height) → is_low height ≡ true → height ≡ Low
lowest Low e = refl
lowest height e = cc

stays : (height : Height) (xs : List Element) → is_low height ≡ false → xs ≡ lowered height xs
stays Low xs e = cc
stays height xs e = refl

-- the dividers among the first n are no higher than a letter, unless the row is
pub record Lowered (height : Height) (n : ℕ) (xs ys : List Element) : Type 0 where
  pub first : take n ys ≡ lowered height (take n xs)
  pub below : drop n ys ≡ drop n xs
  pub count : length ys ≡ length xs

pub all_lowered : (height : Height) (n : ℕ) (xs ys : List Element) → height ≡ Low → ys ≡ mapped_first lowered_divider n xs → Lowered height n xs ys
all_lowered height n xs ys e f = record {
  first = rw (e, f) (first_mapped lowered_divider n xs);
  below = rw f (below_mapped lowered_divider n xs);
  count = rw f (length_mapped lowered_divider n xs);
}

pub none_lowered : (height : Height) (n : ℕ) (xs : List Element) → is_low height ≡ false → Lowered height n xs xs
none_lowered height n xs e = record { first = stays height (take n xs) e; below = refl; count = refl }

module _ (s : Start) (p : Parser) (opening : Option ℕ) (row : CodeRow) where
  abbrev pub Closes : Type 0
  Closes = ClosesRow (ending.Delimiters opening) 0 row s p

  pub not_closed : (q : Parser) → next_are (delimiter_of ∷ []) (left_of p) ≡ None → q.style ≡ p.style → refusal_of q.refusal ≡ Some (refusal_here MissingDelimiter (past_space (left_of p))) → Closes → Holds s q state.Refused
  not_closed q e f h g = record {
    style = g.style ∙ ap style_of (sym f);
    claims = rw h (all_refuse (refusal_here MissingDelimiter (past_space (left_of p))) s (reverse p.frames.stack.items) (drop (row.count + 0) (elements_of p)) (core_refuses (refusal_here MissingDelimiter (past_space (left_of p))) (level (row.count + 0) s p) (undelimited e g.leads)));
  }

  pub enclosed : (i : Input) (b : Built) (c : CodeCore) (text : List ℕ) (ys zs : List Element) → next_are (delimiter_of ∷ []) (left_of p) ≡ Some (text, units_at i) → Lowered (height_of row.height) row.count (elements_of p) ys → zs ≡ row_element (take row.count ys) ∷ drop row.count ys → elements_in b ≡ fenced (height_of row.height) (delimiter_text opening) text (top zs) ∷ drop 1 zs → ((x : Element) → core_with c x ≡ core (atom (Plain Inner) (height_of row.height) x)) → Closes → Holds s (record p { input = i; builder = b }) (state.Core c)
  enclosed i b c text ys zs e low put around is g =
      let x = fenced (height_of row.height) (delimiter_text opening) text (row_element (lowered (height_of row.height) (take row.count (elements_of p)))) in
      let all : elements_in b ≡ x ∷ drop row.count (elements_of p) = rw (around, put, low.first, low.below) refl in
      let count : row.count + 0 ≡ row.count = omega arith in
      record { style = g.style; claims = rw (all, is x) (rw count at (given (delimited (λ closing. gives (between_delimiters (delimiter_text opening) closing (row_with row (elements_of p)))) e g.leads))) }

-- what is left to do

pub refused_step : (p q : Parser) (n : ℕ) → CanMake core_made n p → q.frames ≡ p.frames → q.builder ≡ p.builder → left_of q ≡ past_space (left_of p) → Follows (to_do p + 13) q state.Refused
refused_step p q n can f b e =
    let less = no_more_past_space (left_of p) in
    record { ready = record { elements = rw (f, b) (omega (arith, can.elements)); may_come = record {} }; falls = rw (f, e) (omega (arith, less)) }

pub enclosed_step : (p : Parser) (i : Input) (b : Built) (c : CodeCore) (text : List ℕ) (n : ℕ) (x : Element) (ys zs : List Element) → CanMake core_made n p → next_are (delimiter_of ∷ []) (left_of p) ≡ Some (text, units_at i) → length (drop n ys) ≡ length (drop n (elements_of p)) → zs ≡ row_element (take n ys) ∷ drop n ys → elements_in b ≡ x ∷ drop 1 zs → Follows (to_do p + 13) (record p { input = i; builder = b }) (state.Core c)
enclosed_step p i b c text n x ys zs can e same put around =
    let some = same ∙ length-drop n (elements_of p) in
    let less = no_more_taken (delimiter_of ∷ []) (left_of p) (units_at i) text e in
    record { ready = record { elements = rw (around, put) (omega (arith, can.elements, some)); may_come = record { accepted = can.awaits.accepted; nested = can.awaits.nested } }; falls = omega (arith, less) }
