-- The columns that the code finds are those of the definitions.
use Rattle.std.proofs.Common.{◌≡◌, ℕ, zero, suc, ◌%◌, ◌<◌, ◌≤◌, Bool, false, ◌||◌, List, [], ◌∷◌, drop, length, take, refl, sym, ap, ◌∙◌, arith}
use Rattle.std.proofs.Math.ListN.{get_or}
use Rattle.latex2mathml_elements.specs.Columns.{Centered, Column, RightAligned, Continued, Opened, Unspaced, SpaceBefore, SpaceAround, InDiagram, InPairs, Listed, any_lined, column_at, spaced, unlined}
use Rattle.latex2mathml_elements.specs.Lines.{Line, NoLine, is_drawn}
use Rattle.latex2mathml_attributes.specs.{Columns.behind_line, Columns.line_before}

-- Pairs

pub later_pair : (k : ℕ) → 0 < k → k % 2 ≡ 0 → column_at InPairs k ≡ spaced Opened SpaceBefore RightAligned
later_pair zero i h = absurd (omega arith)
later_pair (suc zero) i h = absurd (omega arith)
later_pair (suc (suc zero)) i h = refl
later_pair (suc (suc (suc k))) i h = later_pair (suc k) (omega arith) (omega arith)

pub second_of_pair : (k : ℕ) → k % 2 ≡ 1 → column_at InPairs k ≡ spaced Opened Unspaced Continued
second_of_pair zero h = absurd (omega arith)
second_of_pair (suc zero) h = refl
second_of_pair (suc (suc zero)) h = absurd (omega arith)
second_of_pair (suc (suc (suc k))) h = second_of_pair (suc k) (omega arith)

-- Diagrams

pub objects_at : (k : ℕ) → k % 2 ≡ 0 → column_at InDiagram k ≡ spaced Opened SpaceAround Centered
objects_at zero h = refl
objects_at (suc zero) h = absurd (omega arith)
objects_at (suc (suc k)) h = objects_at k (omega arith)

pub arrows_at : (k : ℕ) → k % 2 ≡ 1 → column_at InDiagram k ≡ spaced Opened Unspaced Centered
arrows_at zero h = absurd (omega arith)
arrows_at (suc zero) h = refl
arrows_at (suc (suc k)) h = arrows_at k (omega arith)

-- Columns that are listed

-- no later column has a line before it
none_before : (k : ℕ) → line_before NoLine k ≡ NoLine
none_before zero = refl
none_before (suc k) = refl

pub listed_there : (line : Line) (cs : List Column) (len k : ℕ) (d : Column) → k < len → k < length cs → behind_line (line_before line k) (get_or cs k d) ≡ column_at (Listed line (take len cs)) k
listed_there line [] len k d h i = absurd (omega arith)
listed_there line (c ∷ cs) zero k d h i = absurd (omega arith)
listed_there line (c ∷ cs) (suc len) zero d h i = refl
listed_there line (c ∷ cs) (suc len) (suc k) d h i =
    ap (λ l. behind_line l (get_or cs k d)) (sym (none_before k)) ∙ listed_there NoLine cs len k d (omega arith) (omega arith)

-- a place after the listed columns
pub none_behind : (line : Line) (cs : List Column) (len k : ℕ) → len ≤ k → column_at (Listed line (take len cs)) k ≡ unlined Centered
none_behind line [] zero k h = refl
none_behind line [] (suc len) k h = refl
none_behind line (c ∷ cs) zero k h = refl
none_behind line (c ∷ cs) (suc len) zero h = absurd (omega arith)
none_behind line (c ∷ cs) (suc len) (suc k) h = none_behind NoLine cs len k (omega arith)

-- a place beyond the room for listed columns
pub none_beyond : (line : Line) (cs : List Column) (len k : ℕ) → length cs ≤ k → column_at (Listed line (take len cs)) k ≡ unlined Centered
none_beyond line [] zero k h = refl
none_beyond line [] (suc len) k h = refl
none_beyond line (c ∷ cs) zero k h = refl
none_beyond line (c ∷ cs) (suc len) zero h = absurd (omega arith)
none_beyond line (c ∷ cs) (suc len) (suc k) h = none_beyond NoLine cs len k (omega arith)

-- Lines next to columns

pub line_among : (cs : List Column) (len k : ℕ) (d : Column) (b : Bool) → k < len → is_drawn d.after ≡ false → is_drawn (get_or cs k d).after ≡ b → any_lined (drop k (take len cs)) ≡ (b || any_lined (drop (suc k) (take len cs)))
line_among [] zero k d b h none e = absurd (omega arith)
line_among [] (suc len) zero d b h none e = (let is : b ≡ false = sym e ∙ none in rw is refl)
line_among [] (suc len) (suc k) d b h none e = (let is : b ≡ false = sym e ∙ none in rw is refl)
line_among (c ∷ cs) zero k d b h none e = absurd (omega arith)
line_among (c ∷ cs) (suc len) zero d b h none e = ap (λ k. k || any_lined (take len cs)) e
line_among (c ∷ cs) (suc len) (suc k) d b h none e = line_among cs len k d b (omega arith) none e

-- after all columns there is none
pub none_lined : (cs : List Column) (len k : ℕ) → len ≤ k → any_lined (drop k (take len cs)) ≡ false
none_lined [] zero zero h = refl
none_lined [] zero (suc k) h = refl
none_lined [] (suc len) zero h = absurd (omega arith)
none_lined [] (suc len) (suc k) h = refl
none_lined (c ∷ cs) zero zero h = refl
none_lined (c ∷ cs) zero (suc k) h = refl
none_lined (c ∷ cs) (suc len) zero h = absurd (omega arith)
none_lined (c ∷ cs) (suc len) (suc k) h = none_lined cs len k (omega arith)

pub none_lined_beyond : (cs : List Column) (len k : ℕ) → length cs ≤ k → any_lined (drop k (take len cs)) ≡ false
none_lined_beyond [] zero zero h = refl
none_lined_beyond [] zero (suc k) h = refl
none_lined_beyond [] (suc len) zero h = refl
none_lined_beyond [] (suc len) (suc k) h = refl
none_lined_beyond (c ∷ cs) len zero h = absurd (omega arith)
none_lined_beyond (c ∷ cs) zero (suc k) h = refl
none_lined_beyond (c ∷ cs) (suc len) (suc k) h = none_lined_beyond cs len k (omega arith)
