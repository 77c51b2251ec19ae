-- The next operand is due after one that others follow.
use Rattle.std.proofs.Common.{◌≡◌, ℕ, ◌+◌, List, Option, drop, ap, ◌∙◌}
use Rattle.latex2mathml_elements.specs.Element.{Element}
use Rattle.latex2mathml_attributes.specs.declared.attributes.Side.{Side}
use Rattle.latex2mathml_tex_grammar.specs.{Makes.Core, Makes.choice, Units.Units}
use Rattle.latex2mathml_tex_grammar.specs.Reading.{Outcome, Read}
use Rattle.latex2mathml_tex_grammar.specs.Rules.{Context as RuleContext, of_one, of_two}
use Rattle.latex2mathml_tex.specs.Choices.{in_line, in_scripts}
use Rattle.latex2mathml_tex.specs.Frames.{Start, after_first, context_at, first_count, operand_in}
use Rattle.latex2mathml_tex.specs.Levels.{CoreMade, Leads, RuleLeads, Then}
use Rattle.latex2mathml_tex_atoms.specs.Models.{context_of, operand_with, top}
use Rattle.latex2mathml_tex.specs.Steps.{FirstRead, InnermostIs, elements_of, left_of, level, level_within}
use Rattle.latex2mathml_tex.specs.Innermost.{frame_context}
use Rattle.latex2mathml_tex_commands.specs.Meanings.{style_of}
use Rattle.latex2mathml_tex_commands.specs.declared.meaning.{FractionRule.FractionRule, Style.Style}
use Rattle.latex2mathml_tex_commands.specs.declared.meaning.Style.TheVariants as style
use Rattle.latex2mathml_tex_atoms.specs.declared.{atoms.Context.Context, atoms.Operand.Operand, outlines.Outline.Outline}
use Rattle.latex2mathml_tex.specs.declared.parse.Parser.{Parser}
use Rattle.latex2mathml_tex.specs.declared.parse.frames.{First.First, Frame.Frame, Last.Last}
use Rattle.latex2mathml_tex.specs.declared.parse.frames.First.TheVariants as first
use Rattle.latex2mathml_tex.specs.declared.parse.frames.Frame.TheVariants as frame
use Rattle.latex2mathml_tex.specs.declared.parse.frames.Last.TheVariants as last
use Rattle.latex2mathml_tex.proofs.Leading.{operand_due}
use Rattle.latex2mathml_tex.proofs.Opening.{context_is}

-- the same is shown of what was read, where it is known which operand that is

line_kept : {K : Outcome Core → Type 0} {l : Units} (st : Style) (before operand : Operand) (place : ℕ) (c : RuleContext) (xs : List Element) → RuleLeads (of_two place c c (λ z w. choice (style_of st) (operand_in before (drop 1 xs)) (operand_in operand xs) z)) K l → RuleLeads (of_two place c c (λ z w. choice (style_of st) (operand_in (in_line st before operand) (drop 1 xs)) (operand_in (in_line st before operand) xs) z)) K l
line_kept style.InDisplay before operand place c xs k = k
line_kept style.InText before operand place c xs k = k
line_kept style.InScript before operand place c xs k = k

scripts_kept : {K : Outcome Core → Type 0} {l : Units} (st : Style) (before operand : Operand) (place : ℕ) (c : RuleContext) (xs : List Element) → RuleLeads (of_one place c (λ w. choice (style_of st) (operand_in before (drop 1 (drop 1 xs))) (operand_in before (drop 1 xs)) (operand_in operand xs))) K l → RuleLeads (of_one place c (λ w. choice (style_of st) (operand_in (in_scripts st before operand) (drop 1 (drop 1 xs))) (operand_in (in_scripts st before operand) (drop 1 xs)) (operand_in (in_scripts st before operand) xs))) K l
scripts_kept style.InDisplay before operand place c xs k = k
scripts_kept style.InText before operand place c xs k = k
scripts_kept style.InScript before operand place c xs k = k

module _ (s : Start) (p : Parser) (one : First) (place : ℕ) (c : Context) (operand : Operand) where
  abbrev pub WasRead : Type 0
  WasRead = FirstRead one place c operand s p

  -- the last one is due in this context
  abbrev pub IsDue : Last → Context → Type 0
  IsDue made d = Leads (level_within (frame.Last made place d) 0 s p) (left_of p)

  pub denominator_due : (rule : FractionRule) (own : Option Style) (style : Style) → one ≡ first.Fraction rule own style → WasRead → IsDue (last.Fraction rule own style) c
  denominator_due rule own style e g = operand_due _ (rw e at g.leads)

  pub outlined_due : (outline : Outline) (style : Style) → one ≡ first.Outlined outline style → WasRead → IsDue (last.Outlined outline style) c
  outlined_due outline style e g = operand_due _ (rw e at g.leads)

  -- another one that others follow is due in this context
  abbrev pub IsNext : First → Context → Type 0
  IsNext more d = Leads (level_within (frame.First more place d) 0 s p) (left_of p)

  pub line_due : one ≡ first.InBlock → WasRead → IsNext (first.InLine operand) c
  line_due e g = operand_due _ (rw e at g.leads)

  pub scripts_due : (before : Operand) → one ≡ first.InLine before → WasRead → IsNext (first.InScripts (in_line c.style before operand)) c
  scripts_due before e g = operand_due _ (line_kept c.style before operand place (context_of c) (elements_of p) (rw e at g.leads))

  pub smallest_due : (before : Operand) → one ≡ first.InScripts before → WasRead → IsDue (last.Choice c.style (in_scripts c.style before operand)) c
  smallest_due before e g = operand_due _ (scripts_kept c.style before operand place (context_of c) (elements_of p) (rw e at g.leads))

  -- the context around both
  abbrev pub IsOuter : Context → Type 0
  IsOuter d = (f : Frame) × (d ≡ frame_context f) × InnermostIs f p

  outer_is : (d : Context) → IsOuter d → WasRead → context_of d ≡ context_at (level (first_count one + 1) s p)
  outer_is d (f, is, inner) g = ap context_of is ∙ context_is s p.style p.frames.stack.items f (drop (first_count one + 1) (elements_of p)) g.style inner

  -- what follows the first one, in that context
  outer_due : (d : Context) → IsOuter d → WasRead → Then (after_first one place (context_of c) (context_of d) (drop 1 (elements_of p))) (CoreMade (level (first_count one + 1) s p)) (Read (operand_with operand (top (elements_of p))) (left_of p))
  outer_due d outer g = rw (outer_is d outer g) g.leads

  pub base_due : (side : Side) (d : Context) → one ≡ first.Stack side → IsOuter d → WasRead → IsDue (last.Stack side d.style) d
  base_due side d e outer g = let due = outer_due d outer g in operand_due _ (rw e at due)

  pub relation_due : (d : Context) → one ≡ first.StackedRelation → IsOuter d → WasRead → IsDue (last.StackedRelation d.style) d
  relation_due d e outer g = let due = outer_due d outer g in operand_due _ (rw e at due)
