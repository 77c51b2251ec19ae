-- Markup on top of other markup: what runs alone runs wherever it is placed, so balanced markup stays balanced.
use Rattle.std.proofs.Common.{◌≡◌, ℕ, Bool, true, false, not, ◌&&◌, ◌||◌, cond, IsTrue, List, [], ◌∷◌, ◌++◌, Option, Some, None, option_and_then, refl, ap, ◌∙◌, arith, codes}
use Rattle.std.specs.{List.list_all, Option.option_or}
use Rattle.std.proofs.{lemmas.Grind.common_steps, lemmas.Option.option_and_then_some}
use Rattle.latex2mathml_trees.specs.Markup.{Name, Attribute, Event, open_tag, close_tag, OpenElements, lowest, above, at_start, add, mark, name_of, Schema, any_element, step, run, Runs, spell_event, is_attribute, is_name}
use Rattle.latex2mathml_trees.specs.MathSchema.{IsMathElement, child_table, holding, holding_table, holds, is_outermost, may_be_in}
use Rattle.latex2mathml_trees.specs.Pages.{JoinsMarkup, is_in_table, page_schema, takes_math}
use Rattle.latex2mathml_trees.proofs.Runs.{ending_as, joined, more, obeying, single, staying}

-- levels on top of others: the lowest level becomes part of the highest of the others
abbrev onto : OpenElements → OpenElements → OpenElements
onto base (lowest children met) = mark met (more children base)
onto base (above own children met below) = above own children met (onto base below)

add_marked : (name : Name) (met : Bool) (base : OpenElements) → mark met (add name base) ≡ add name (mark met base)
add_marked name met base = grind arith

unmarked : (s : OpenElements) → mark false (more [] s) ≡ s
unmarked s = grind (arith, common_steps)

name_with : (children : List Name) (met : Bool) (base : OpenElements) → name_of (mark met (more children base)) ≡ name_of base
name_with children met base = grind arith

-- what obeys one schema obeys the other on top of levels of this name
abbrev Fits : Schema → Schema → Option Name → Type 0
Fits own other base = (parent : Option Name) (name : Name) (children : List Name) (met : Bool) → IsTrue (own parent name children met) → IsTrue (other (option_or parent base) name children met)

module _ (schema other : Schema) (base : OpenElements) (fits : Fits schema other (name_of base)) where
  step_onto : (p : Event) (s t : OpenElements) → step schema p s ≡ Some t → step other p (onto base s) ≡ Some (onto base t)
  step_onto p s t e = grind (arith, common_steps, add_marked, name_with, fits)

  -- what runs by one schema runs by the other on top of the levels
  run_onto : (ps : List Event) (s t : OpenElements) → run schema ps s ≡ Some t → run other ps (onto base s) ≡ Some (onto base t)
  run_onto [] s t e = cc
  run_onto (p ∷ ps) s t e = option_and_then_some (run schema ps) (step schema p s) t e (λ u h k. ap (option_and_then (run other ps)) (step_onto p s u h) ∙ run_onto ps u t k)

  -- what a schema balances, on top of levels that it fits
  adds_to : (bytes : List ℕ) (children : List Name) (met : Bool) → Runs schema bytes at_start (lowest children met) → Runs other bytes base (mark met (more children base))
  adds_to bytes children met m = record { events = m.events; are_events = m.are_events; spelled = m.spelled; runs = rw unmarked at (run_onto m.events at_start (lowest children met) m.runs) }

-- each element is closed, and obeys the schema
abbrev IsClosed : Schema → List ℕ → Type 0
IsClosed schema bytes = (children : List Name) × ((has_text : Bool) × Runs schema bytes at_start (lowest children has_text))

one_after_other : (schema : Schema) (markup other : List ℕ) → Fits schema schema None → IsClosed schema markup → IsClosed schema other → IsClosed schema (markup ++ other)
one_after_other schema markup other fits (names, (has_text, m)) (children, (met, n)) =
    (children ++ names, (has_text || met, joined m (adds_to schema schema (lowest names has_text) fits other children met n)))

within_element : (schema : Schema) (name : Name) (attributes : List Attribute) (markup : List ℕ) → Fits schema schema (Some name) → ((children : List Name) (met : Bool) → IsTrue (schema None name children met)) → IsTrue (is_name name) → IsTrue (list_all is_attribute attributes) → IsClosed schema markup → IsClosed schema (spell_event (open_tag name attributes) ++ (markup ++ spell_event (close_tag name)))
within_element schema name attributes markup fits free valid valids (children, (met, m)) =
    let below : OpenElements = lowest (name ∷ []) false in
    let on = adds_to schema schema (above name [] false below) fits markup children met m in
    let opens = single schema (open_tag name attributes) at_start (above name [] false below) (ap (λ b. b && list_all is_attribute attributes) valid ∙ valids) refl in
    let closes = obeying schema name (children ++ []) met below valid (free (children ++ []) met) in
    (name ∷ [], (false, joined opens (joined on closes)))

-- The child table in a page. What the table says of an element that it names, a page says too.
in_page : (named may may' fit : Bool) → (IsTrue may → IsTrue may') → IsTrue (may && fit) → IsTrue (cond named (may' && fit) true)
in_page named may may' fit h k = grind (arith, common_steps)

place_fits : (base : Option Name) → IsTrue (takes_math base) → (parent : Option Name) (name : Name) → IsTrue (may_be_in is_outermost parent name) → IsTrue (may_be_in takes_math (option_or parent base) name)
place_fits base takes parent name h = grind (arith, common_steps)

table_fits : (base : Option Name) → IsTrue (takes_math base) → Fits child_table page_schema base
table_fits base takes parent name children met h =
    in_page (is_in_table name) _ _ (holds (holding holding_table name) children met) (place_fits base takes parent name) h

-- a `math` element on top of any levels
math_onto : (other : Schema) (base : OpenElements) (markup : List ℕ) → Fits child_table other (name_of base) → IsMathElement markup → Runs other markup base (add (codes "math") base)
unfolding IsMathElement
math_onto other base markup fits m = ending_as (grind (arith, common_steps)) (adds_to child_table other base fits markup (codes "math" ∷ []) false m)

-- a page fits itself where `math` may be
page_fits : (base : Option Name) → IsTrue (takes_math base) → Fits page_schema page_schema base
page_fits base takes parent name children met h = grind (arith, common_steps)

-- an element that the table does not name may hold anything
holds_any : (named b : Bool) → IsTrue (not named) → IsTrue (cond named b true)
holds_any named b free = grind (arith, common_steps)

-- the laws
pub joins_markup : JoinsMarkup
joins_markup = record {
  nowhere = λ schema levels. staying;
  onwards = λ schema markup other start middle end m n. joined m n;
  balanced = record {
    nothing = ([], (false, staying));
    joined = λ markup other m n. one_after_other any_element markup other (λ parent child names met h. refl) m n;
    wrapped = λ name attributes markup valid valids m. within_element any_element name attributes markup (λ parent child names met h. refl) (λ children met. refl) valid valids m;
    page = λ markup m. (m.0 ++ [], (m.1.0, adds_to page_schema any_element at_start (λ parent child names met h. refl) markup m.0 m.1.0 m.1.1));
    inserted = λ markup levels m. math_onto any_element levels markup (λ parent child names met h. refl) m;
  };
  pages = record {
    nothing = ([], (false, staying));
    joined = λ page other m n. one_after_other page_schema page other (page_fits None refl) m n;
    wrapped = λ name attributes page valid valids free m. within_element page_schema name attributes page (page_fits (Some name) free) (λ children met. holds_any _ _ free) valid valids m;
    element = λ markup m. (codes "math" ∷ [], (false, math_onto page_schema at_start markup (table_fits None refl) m));
    inserted = λ markup levels takes m. math_onto page_schema levels markup (table_fits (name_of levels) takes) m;
  };
}
