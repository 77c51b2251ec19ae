-- Delimiters that come next, in braces or without.
use Rattle.std.proofs.Common.{◌≡◌, ◌≤◌, ℕ, List, [], ◌∷◌, ◌++◌, ◌∙◌, MatchOption, None, Some, Option, append-nil, subst, sym}
use Rattle.latex2mathml_tex_grammar.specs.{Delimiters.delimiter_of, Next.next_are, Next.past_space, Next.refusal_here, Units.Units}
use Rattle.latex2mathml_tex_grammar.specs.Reading.{ReadsRule, delimiter_missing, delimiter_taken, rule_refuses, units_missing, units_taken}
use Rattle.latex2mathml_tex_grammar.specs.Refusal.{MissingDelimiter, refusal_at}
use Rattle.latex2mathml_tex_grammar.specs.Rules.{a_left_brace, a_right_brace, a_sized_delimiter, an_outer_delimiter, empty_braces}
use Rattle.latex2mathml_tex_commands.specs.Delimiters.{delimiter_text}
use Rattle.latex2mathml_tex_units.specs.{HandedOn.HandsOn, HandedOn.Stops, Left.unit_count}
use Rattle.latex2mathml_tex_units.proofs.Nexts.{no_more_taken}

-- A delimiter in braces

abbrev pub braced : Units → Option (List ℕ × Units)
braced = next_are (a_left_brace ∷ delimiter_of ∷ a_right_brace ∷ [])

-- What each of the three cases hands on

pub bare_hands : (l m : Units) (text : List ℕ) → next_are (delimiter_of ∷ []) l ≡ Some (text, m) → (place : ℕ) → HandsOn (an_outer_delimiter place) l text m
bare_hands l m text e place more o d = units_taken e d

module _ (l a : Units) (none : next_are (delimiter_of ∷ []) l ≡ None) (kept : a ≡ l) where
  pub braced_hands : (m : Units) (text : List ℕ) → braced a ≡ Some (text ++ [], m) → (place : ℕ) → HandsOn (an_outer_delimiter place) l text m
  braced_hands m text e place more o d =
      units_missing none (units_taken (rw kept at e) (subst (λ t. ReadsRule (more t) m o) (sym (append-nil text)) d))

  pub braced_fewer : (m : Units) (text : List ℕ) → braced a ≡ Some (text ++ [], m) → unit_count m ≤ unit_count l
  braced_fewer m text e = no_more_taken (a_left_brace ∷ delimiter_of ∷ a_right_brace ∷ []) l m (text ++ []) (rw kept at e)

  module _ (b : Units) (unbraced : braced a ≡ None) (same : b ≡ a) where
    pub empty_hands : (m : Units) → next_are empty_braces b ≡ Some ([], m) → (place : ℕ) → HandsOn (an_outer_delimiter place) l [] m
    empty_hands m e place more o d = units_missing none (units_missing (rw kept at unbraced) (units_taken (rw (same, kept) at e) d))

    pub empty_fewer : (m : Units) → next_are empty_braces b ≡ Some ([], m) → unit_count m ≤ unit_count l
    empty_fewer m e = no_more_taken empty_braces l m [] (rw (same, kept) at e)

    pub no_delimiter_hands : next_are empty_braces b ≡ None → (place : ℕ) → Stops (an_outer_delimiter place) l (refusal_at MissingDelimiter place)
    no_delimiter_hands e place more = units_missing none (units_missing (rw kept at unbraced) (units_missing (rw (same, kept) at e) rule_refuses))

-- A delimiter with a size

pub sized_in_braces : (l m : Units) (text : List ℕ) → braced l ≡ Some (text ++ [], m) → HandsOn a_sized_delimiter l text m
sized_in_braces l m text e more o d = units_taken e (subst (λ t. ReadsRule (more t) m o) (sym (append-nil text)) d)

module _ (l a : Units) (unbraced : braced l ≡ None) (kept : a ≡ l) where
  pub sized_bare : (m : Units) (text : List ℕ) → next_are (delimiter_of ∷ []) a ≡ Some (text, m) → HandsOn a_sized_delimiter l text m
  sized_bare m text e more o d = units_missing unbraced (delimiter_taken (rw kept at e) d)

  pub no_sized : next_are (delimiter_of ∷ []) a ≡ None → Stops a_sized_delimiter l (refusal_here MissingDelimiter (past_space l))
  no_sized e more = units_missing unbraced (delimiter_missing (rw kept at e))

  pub bare_or_none : (m : Units) (d : Option (Option ℕ)) → MatchOption d ((next_are (delimiter_of ∷ []) a ≡ None) × (m ≡ a)) (λ x. next_are (delimiter_of ∷ []) a ≡ Some (delimiter_text x, m)) → MatchOption d ((m ≡ l) × Stops a_sized_delimiter l (refusal_here MissingDelimiter (past_space l))) (λ x. (unit_count m ≤ unit_count l) × HandsOn a_sized_delimiter l (delimiter_text x) m)
  bare_or_none m None h = (h.1 ∙ kept, no_sized h.0)
  bare_or_none m (Some x) h = (no_more_taken (delimiter_of ∷ []) l m (delimiter_text x) (rw kept at h), sized_bare m (delimiter_text x) h)
