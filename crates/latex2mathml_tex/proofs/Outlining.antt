-- What says how a fraction is drawn, part by part.
use Rattle.std.proofs.Common.{◌≡◌, ◌≤◌, Bool, List, None, Option, Some, subst, ℕ, ℤ}
use Rattle.latex2mathml_tex_grammar.specs.{Lengths.width_of, Makes.Outline, Next.next_are, Symbols.Style}
use Rattle.latex2mathml_tex_grammar.specs.Refusal.{LengthTooLarge, MissingArgument, refusal_at}
use Rattle.latex2mathml_tex_grammar.specs.Reading.{Refused, ReadsRule, units_missing}
use Rattle.latex2mathml_tex_grammar.specs.Rules.{Rule, a_length, a_line, a_style, an_outer_delimiter, an_outline, empty_braces, has_width, numbered_style}
use Rattle.latex2mathml_tex_grammar.specs.Scanning.{BeforeArgument, BeforeLengthInBraces, Number}
use Rattle.latex2mathml_tex_units.specs.Left.{unit_count, units_at}
use Rattle.latex2mathml_tex.specs.{TakenBy.TookBy, Steps.TookValue, Steps.left_of}
use Rattle.latex2mathml_tex_units.specs.declared.input.Input.{Input}
use Rattle.latex2mathml_tex.specs.declared.parse.Parser.{Parser}
use Rattle.latex2mathml_tex.proofs.HandingOn.{both_taken, by_no_value, by_value, first_stops, mapped_stops, mapped_taken, second_stops}

module _ (place : ℕ) where
  abbrev outlined : List ℕ → List ℕ → Bool → Option Style → Outline
  outlined opening closing has_line own = record { opening = opening; closing = closing; has_line = has_line; own = own }

  -- what follows each part
  abbrev behind_line : List ℕ → List ℕ → Bool → (Outline → Rule) → Rule
  behind_line opening closing has_line more = a_style place (λ own. more (outlined opening closing has_line own))

  abbrev behind_closing : List ℕ → List ℕ → (Outline → Rule) → Rule
  behind_closing opening closing more = a_line place (λ has_line. behind_line opening closing has_line more)

  abbrev behind_opening : List ℕ → (Outline → Rule) → Rule
  behind_opening opening more = an_outer_delimiter place (λ closing. behind_closing opening closing more)

  -- the style of this number is taken
  abbrev pub TookStyle : Parser → Parser → Option (Option Style) → Type 0
  TookStyle p q own = TookValue place (BeforeArgument Number) numbered_style (λ text. refusal_at MissingArgument place) p q own

  module _ (p q : Parser) where
    pub opening_stops : TookBy (an_outer_delimiter place) p q None → TookBy (an_outline place) p q None
    opening_stops e = first_stops (an_outer_delimiter place) behind_opening p q q e

  module _ (p a q : Parser) (opening : List ℕ) (first : TookBy (an_outer_delimiter place) p a (Some opening)) where
    pub closing_stops : TookBy (an_outer_delimiter place) a q None → TookBy (an_outline place) p q None
    closing_stops e =
        second_stops (an_outer_delimiter place) behind_opening p a q opening first (first_stops (an_outer_delimiter place) (behind_closing opening) a q q e)

    module _ (b : Parser) (closing : List ℕ) (second : TookBy (an_outer_delimiter place) a b (Some closing)) where
      pub line_stops : TookBy (a_line place) b q None → TookBy (an_outline place) p q None
      line_stops e =
          second_stops (an_outer_delimiter place) behind_opening p a q opening first
          (second_stops (an_outer_delimiter place) (behind_closing opening) a b q closing second (first_stops (a_line place) (behind_line opening closing) b q q e))

      module _ (d : Parser) (has_line : Bool) (third : TookBy (a_line place) b d (Some has_line)) where
        pub style_stops : TookStyle d q None → TookBy (an_outline place) p q None
        style_stops e =
            second_stops (an_outer_delimiter place) behind_opening p a q opening first
            (second_stops (an_outer_delimiter place) (behind_closing opening) a b q closing second
            (second_stops (a_line place) (behind_line opening closing) b d q has_line third
            (mapped_stops (a_style place) (outlined opening closing has_line) d q
            (by_no_value numbered_style (λ text. refusal_at MissingArgument place) place (BeforeArgument Number) d q e))))

        pub outline_taken : (own : Option Style) → TookStyle d q (Some own) → TookBy (an_outline place) p q (Some (outlined opening closing has_line own))
        outline_taken own e =
            both_taken (an_outer_delimiter place) behind_opening p a q opening (outlined opening closing has_line own) first
            (both_taken (an_outer_delimiter place) (behind_closing opening) a b q closing (outlined opening closing has_line own) second
            (both_taken (a_line place) (behind_line opening closing) b d q has_line (outlined opening closing has_line own) third
            (mapped_taken (a_style place) (outlined opening closing has_line) d q own
            (by_value numbered_style (λ text. refusal_at MissingArgument place) place (BeforeArgument Number) d q own e))))

-- a line, if empty braces do not come next
module _ (place : ℕ) (p q : Parser) (i : Input) (none : next_are empty_braces (left_of p) ≡ None) (kept : units_at i ≡ left_of p) where
  abbrev pub TookWidth : Option ℤ → Type 0
  TookWidth width = TookValue place BeforeLengthInBraces width_of (λ text. refusal_at LengthTooLarge place) (record p { input = i }) q width

  abbrev then_line : (Bool → Rule) → ℤ → Rule
  then_line more width = more (has_width width)

  pub line_refused : TookWidth None → TookBy (a_line place) p q None
  line_refused took =
      let refused = by_no_value width_of (λ text. refusal_at LengthTooLarge place) place BeforeLengthInBraces (record p { input = i }) q took in (
        refused.0,
        (
          refused.1.0,
          (
            refused.1.1.0,
            (
              subst (λ l. unit_count (left_of q) ≤ unit_count l) kept refused.1.1.1.0,
              λ more. units_missing none (subst (λ l. ReadsRule (a_length place BeforeLengthInBraces (then_line more)) l (Refused refused.0)) kept (refused.1.1.1.1 (then_line more))),
            ),
          ),
        ),
      )

  pub line_taken : (width : ℤ) → TookWidth (Some width) → TookBy (a_line place) p q (Some (has_width width))
  line_taken width took =
      let taken = by_value width_of (λ text. refusal_at LengthTooLarge place) place BeforeLengthInBraces (record p { input = i }) q width took in (
        taken.0,
        (
          subst (λ l. unit_count (left_of q) ≤ unit_count l) kept taken.1.0,
          λ more o d. units_missing none (subst (λ l. ReadsRule (a_length place BeforeLengthInBraces (then_line more)) l o) kept (taken.1.1 (then_line more) o d)),
        ),
      )
