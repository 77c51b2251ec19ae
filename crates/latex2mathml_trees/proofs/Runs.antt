-- Runs through markup: one after the other, of single events and of texts. Each starts from any levels, so what surrounds
-- the bytes does not matter.
use Rattle.std.proofs.Common.{◌≡◌, ℕ, Bool, true, false, ◌&&◌, ◌||◌, ◌==◌, IsTrue, List, [], ◌∷◌, ◌++◌, Some, None, option_and_then, refl, ap, ◌∙◌, append_assoc, append-nil, arith, map, codes, cond}
use Rattle.std.specs.{Cmp.Lexicographic.bytes_decides, List.flat_map}
use Rattle.std.proofs.{lemmas.Grind.common_steps, lemmas.Grind.flat_map-append, lemmas.List.Folds.list_all-append}
use Rattle.latex2mathml_tokens.specs.Escape.{content}
use Rattle.latex2mathml_trees.specs.Markup.{Name, named, numbered, plain, Event, open_tag, close_tag, reference, data_byte, OpenElements, lowest, above, add, mark, name_of, Schema, step, run, Runs, spell_part, spell_event, is_name, is_event}

-- the run of some events and then of others
run-append : (schema : Schema) (ps qs : List Event) (s : OpenElements) → run schema (ps ++ qs) s ≡ option_and_then (run schema qs) (run schema ps s)
run-append schema [] qs s = refl
run-append schema (p ∷ ps) qs s = grind (arith, common_steps, run-append schema ps qs)

-- one run after the other
pub joined : {schema : Schema} {a b : List ℕ} {s t u : OpenElements} → Runs schema a s t → Runs schema b t u → Runs schema (a ++ b) s u
joined {schema = schema} {s = s} m n = record {
  events = m.events ++ n.events;
  are_events = grind (arith, list_all-append {X = Event}, m.are_events, n.are_events);
  spelled = rw (flat_map-append spell_event, m.spelled, n.spelled) refl;
  runs = grind (arith, run-append schema m.events n.events s, m.runs, n.runs);
}

pub spelled_as : {schema : Schema} {a b : List ℕ} {s t : OpenElements} → a ≡ b → Runs schema a s t → Runs schema b s t
spelled_as e m = record { events = m.events; are_events = m.are_events; spelled = m.spelled ∙ e; runs = m.runs }

pub ending_as : {schema : Schema} {a : List ℕ} {s t u : OpenElements} → t ≡ u → Runs schema a s t → Runs schema a s u
ending_as e m = record { events = m.events; are_events = m.are_events; spelled = m.spelled; runs = m.runs ∙ ap Some e }

-- the empty text leaves the levels as they are
pub staying : {schema : Schema} {s : OpenElements} → Runs schema [] s s
staying = record { events = []; are_events = refl; spelled = refl; runs = refl }

-- one event
pub single : (schema : Schema) (p : Event) (s t : OpenElements) → IsTrue (is_event p) → step schema p s ≡ Some t → Runs schema (spell_event p) s t
single schema p s t valid fit = record {
  events = p ∷ [];
  are_events = ap (λ b. b && true) valid;
  spelled = append-nil (spell_event p);
  runs = ap (option_and_then (run schema [])) fit;
}

-- an open tag without attributes
pub opened : (schema : Schema) (n : Name) (s : OpenElements) → IsTrue (is_event (open_tag n [])) → Runs schema (spell_event (open_tag n [])) s (above n [] false (add n s))
opened schema n s valid = single schema (open_tag n []) s (above n [] false (add n s)) valid refl

-- the close tag of an element that obeys the schema
pub obeying : (schema : Schema) (n : Name) (ks : List Name) (d : Bool) (s : OpenElements) → IsTrue (is_name n) → IsTrue (schema (name_of s) n ks d) → Runs schema (spell_event (close_tag n)) (above n ks d s) s
obeying schema n ks d s valid fit =
    single schema (close_tag n) (above n ks d s) s valid (ap (λ b. cond (b && schema (name_of s) n ks d) (Some s) None) ((bytes_decides n n).1 refl) ∙ ap (λ b. cond b (Some s) None) fit)

-- more children of the highest level, the last one first
abbrev pub more : List Name → OpenElements → OpenElements
more ns (lowest ks d) = lowest (ns ++ ks) d
more ns (above n ks d s) = above n (ns ++ ks) d s

pub one_more : (n : Name) (s : OpenElements) → add n s ≡ more (n ∷ []) s
one_more n s = grind arith

pub none_more : (s : OpenElements) → s ≡ more [] s
none_more s = grind arith

pub more-append : (ms ns : List Name) (s : OpenElements) → more (ms ++ ns) s ≡ more ms (more ns s)
more-append ms ns s = grind (arith, append_assoc)

-- Contents. The tests of a byte are variables, so that each case computes.
tested_leads : (schema : Schema) (p q r d : Bool) (b : ℕ) (s : OpenElements) → p ≡ (b == 38) → q ≡ (b == 60) → r ≡ (b == 62) → Runs schema (cond p (codes "&amp;") (cond q (codes "&lt;") (cond r (codes "&gt;") (cond d (codes "&#x24;") (b ∷ []))))) s (mark true s)
tested_leads schema true q r d b s h i j = single schema (reference (named (codes "amp"))) s _ refl refl
tested_leads schema false true r d b s h i j = single schema (reference (named (codes "lt"))) s _ refl refl
tested_leads schema false false true d b s h i j = single schema (reference (named (codes "gt"))) s _ refl refl
tested_leads schema false false false true b s h i j = single schema (reference (numbered (codes "24"))) s _ refl refl
tested_leads schema false false false false b s h i j = single schema (data_byte b) s _ (rw (← i, ← j, ← h) refl) refl

-- a text as contents is data of the element that it is in, or nothing
pub content_leads : (schema : Schema) (n : Name) (ks : List Name) (d : Bool) (s : OpenElements) (bs : List ℕ) → (has_text : Bool) × Runs schema (content bs) (above n ks d s) (above n ks has_text s)
content_leads schema n ks d s [] = (d, staying)
content_leads schema n ks d s (b ∷ bs) =
    let rest = content_leads schema n ks (d || true) s bs in
    (rest.0, joined (tested_leads schema (b == 38) (b == 60) (b == 62) (b == 36) b (above n ks d s) refl refl refl) rest.1)

-- plain bytes spell themselves
pub plain-spells : (bs : List ℕ) → flat_map spell_part (map plain bs) ≡ bs
plain-spells [] = refl
plain-spells (b ∷ bs) = ap (λ l. b ∷ l) (plain-spells bs)
