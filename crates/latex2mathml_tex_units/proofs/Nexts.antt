-- Units that come next, ignoring white space.
use Rattle.std.proofs.Common.{◌≡◌, ℕ, ◌<◌, ◌≤◌, List, [], ◌∷◌, ◌++◌, Option, Some, None, arith, refl, ap, sym, ◌∙◌}
use Rattle.latex2mathml_tex_grammar.specs.Next.{first_is, first_passes, next_are, past_space}
use Rattle.latex2mathml_tex_grammar.specs.Units.{Piece, Units, Next, End, Stop}
use Rattle.latex2mathml_tex_grammar.proofs.Shrinking.{no_more_past_space}
use Rattle.latex2mathml_tex_units.specs.Left.{put_back, unit_count, units_at, units_behind}
use Rattle.latex2mathml_tex_units.specs.declared.{input.Input.Input, unit.Next.Next as CodeNext}

-- the units of an input where what comes next was skipped
pub passed : (n : CodeNext) (i j : Input) → units_at i ≡ put_back n (units_behind i) → units_at j ≡ units_behind i → units_at i ≡ put_back n (units_at j)
passed n i j is behind = is ∙ ap (put_back n) (sym behind)

-- How many units are left

-- the number of units left does not grow when units that pass tests are taken
no_more_passed : (found : Option (List ℕ)) (others : Option (List ℕ × Units)) (n : ℕ) → ((texts : List ℕ) (m : Units) → others ≡ Some (texts, m) → unit_count m ≤ n) → (texts : List ℕ) (m : Units) → first_passes found others ≡ Some (texts, m) → unit_count m ≤ n
no_more_passed (Some first) (Some (behind, k)) n h texts m e =
    let here : List ℕ × Units = (first ++ behind, k) in
    let there : List ℕ × Units = (texts, m) in
    let both : here ≡ there = cc in
    let rest : k ≡ m = ap (λ t. t.1) both in
    let less : unit_count k ≤ n = h behind k refl in
    rw (sym rest) less
no_more_passed (Some first) None n h texts m e = cc
no_more_passed None others n h texts m e = cc

module _ (test : Piece → Option (List ℕ)) (others : Units → Option (List ℕ × Units)) (h : (l m : Units) (texts : List ℕ) → others l ≡ Some (texts, m) → unit_count m ≤ unit_count l) where
  fewer_seen : (w m : Units) (texts : List ℕ) → first_is test others w ≡ Some (texts, m) → unit_count m < unit_count w
  fewer_seen (Next u us) m texts e =
      let less = no_more_passed (test u.piece) (others us) (unit_count us) (λ t n. h us n t) texts m e in omega arith
  fewer_seen (End place) m texts e = cc
  fewer_seen (Stop r) m texts e = cc

  fewer_behind : (l m : Units) (texts : List ℕ) → first_is test others (past_space l) ≡ Some (texts, m) → unit_count m < unit_count l
  fewer_behind l m texts e = let less = fewer_seen (past_space l) m texts e in let more = no_more_past_space l in omega arith

pub no_more_taken : (tests : List (Piece → Option (List ℕ))) (l m : Units) (texts : List ℕ) → next_are tests l ≡ Some (texts, m) → unit_count m ≤ unit_count l
no_more_taken [] l m texts e =
    let here : List ℕ × Units = ([], l) in
    let there : List ℕ × Units = (texts, m) in
    let both : here ≡ there = cc in
    let rest : l ≡ m = ap (λ t. t.1) both in
    rw rest (omega arith)
no_more_taken (test ∷ tests) l m texts e = let less = fewer_behind test (next_are tests) (no_more_taken tests) l m texts e in omega arith

pub fewer_taken : (test : Piece → Option (List ℕ)) (tests : List (Piece → Option (List ℕ))) (l m : Units) (texts : List ℕ) → next_are (test ∷ tests) l ≡ Some (texts, m) → unit_count m < unit_count l
fewer_taken test tests = fewer_behind test (next_are tests) (no_more_taken tests)
