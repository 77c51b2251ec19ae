-- What holds of the parser where the rule of a unit begins.
use Rattle.std.proofs.Common.{◌≡◌, ℕ, ◌+◌, ◌≤◌, List, [], ◌∷◌, Option, Some, None, option_map, refl, ap, ◌∙◌}
use Rattle.std.specs.Option.{unwrap_or}
use Rattle.latex2mathml_tex_grammar.specs.{Delimiters.delimiter_of, Next.next_are, Next.past_space, Next.refusal_here}
use Rattle.latex2mathml_tex_grammar.specs.Refusal.{MissingDelimiter, Refusal}
use Rattle.latex2mathml_tex_grammar.specs.Reading.{delimiter_missing}
use Rattle.latex2mathml_tex_grammar.specs.Rules.{Rule, own_style, refuses, takes_delimiter}
use Rattle.latex2mathml_tex_units.specs.{Errors.refusal_of, HandedOn.HandsOn, HandedOn.Stops, Left.unit_count, Left.units_at}
use Rattle.latex2mathml_tex_commands.specs.Meanings.{style_of}
use Rattle.latex2mathml_tex.specs.Frames.{Start}
use Rattle.latex2mathml_tex.specs.Steps.{Begins, BeginsIn, CanBegin, Follows, Holds, left_of, level, to_do}
use Rattle.latex2mathml_tex_units.specs.declared.{error.TexError.TexError, input.Input.Input}
use Rattle.latex2mathml_tex_commands.specs.declared.meaning.Style.{Style}
use Rattle.latex2mathml_tex_atoms.specs.declared.atoms.Context.{Context}
use Rattle.latex2mathml_tex.specs.declared.{parse.Parser.Parser, parse.State.State}
use Rattle.latex2mathml_tex.specs.declared.parse.State.TheVariants as state
use Rattle.latex2mathml_tex_grammar.proofs.Shrinking.{no_more_past_space}
use Rattle.latex2mathml_tex.proofs.{Leading.delimited, Leading.refused, Marks.core_refuses, Rows.refused_here, Rows.refused_step}

-- the context no longer matters
pub begun : {c : Context} {r : Rule} {n : ℕ} {s : Start} {p : Parser} → BeginsIn c r n s p → Begins r n s p
begun g = record { style = g.style; leads = g.leads }

-- a rule that refuses
pub rule_refuses : (s : Start) (p q : Parser) (st : State) (error : TexError) (r : Refusal) → q ≡ record p { refusal = error } → st ≡ state.Refused → refusal_of error ≡ Some r → Begins (refuses r) 0 s p → Holds s q st
rule_refuses s p q st error r same is e g = refused_here p q p.input error st same is s r e g.style (core_refuses r (level 0 s p) (refused g.leads))

-- Delimiters, where one must come next

pub past_delimiter : (s : Start) (p : Parser) (i : Input) (then : List ℕ → Rule) (text : List ℕ) → next_are (delimiter_of ∷ []) (left_of p) ≡ Some (text, units_at i) → Begins (takes_delimiter then) 0 s p → Begins (then text) 0 s (record p { input = i })
past_delimiter s p i then text e g = record { style = g.style; leads = delimited then e g.leads }

-- a part of a rule that takes a text
pub past_part : (s : Start) (p : Parser) (i : Input) (part : (List ℕ → Rule) → Rule) (then : List ℕ → Rule) (text : List ℕ) → HandsOn part (left_of p) text (units_at i) → Begins (part then) 0 s p → Begins (then text) 0 s (record p { input = i })
past_part s p i part then text hands g = record { style = g.style; leads = record { to = λ o d. g.leads.to o (hands then o d) } }

-- delimiters, where none comes next; i is the input where one was looked for
module _ (p q : Parser) (i : Input) (st : State) (kept : units_at i ≡ left_of p) (same : q ≡ record p { input = q.input; refusal = q.refusal }) (is : st ≡ state.Refused) where
  -- a part of a rule that needs one
  pub part_stops : (s : Start) (part : (List ℕ → Rule) → Rule) (then : List ℕ → Rule) → Stops part (left_of p) (refusal_here MissingDelimiter (past_space (left_of p))) → refusal_of q.refusal ≡ Some (refusal_here MissingDelimiter (past_space (units_at i))) → Begins (part then) 0 s p → Holds s q st
  part_stops s part then stops e g =
      let r = refusal_here MissingDelimiter (past_space (left_of p)) in
      let reported : refusal_of q.refusal ≡ Some r = e ∙ ap (λ l. Some (refusal_here MissingDelimiter (past_space l))) kept in
      refused_here p q q.input q.refusal st same is s r reported g.style (core_refuses r (level 0 s p) (g.leads.to _ (stops then)))

  pub no_delimiter : (s : Start) (then : List ℕ → Rule) → next_are (delimiter_of ∷ []) (left_of p) ≡ None → refusal_of q.refusal ≡ Some (refusal_here MissingDelimiter (past_space (units_at i))) → Begins (takes_delimiter then) 0 s p → Holds s q st
  no_delimiter s then none e g = part_stops s takes_delimiter then (λ more. delimiter_missing none) e g

  pub no_delimiter_step : units_at q.input ≡ past_space (units_at i) → CanBegin 0 p → Follows (to_do p + 13) q st
  no_delimiter_step left can =
      let passed : units_at q.input ≡ past_space (left_of p) = left ∙ ap past_space kept in
      let less : unit_count (units_at q.input) ≤ unit_count (left_of p) = rw passed (no_more_past_space (left_of p)) in
      refused_step p q q.input q.refusal st same is less can.elements

-- the style of the parts of a fraction, which may have a style of its own
pub own_style_is : (own : Option Style) (style : Style) → style_of (unwrap_or own style) ≡ own_style (option_map style_of own) (style_of style)
own_style_is None style = refl
own_style_is (Some x) style = refl
