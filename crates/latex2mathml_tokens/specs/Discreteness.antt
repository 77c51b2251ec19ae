-- Equality of attributes, tokens and refusals is decidable.
use Rattle.std.specs.Prelude.{Bool, Option, refl}
use mathlib.Core.HLevel.{Discrete, ×_discrete}
use mathlib.Core.List.{List-discrete}
use mathlib.Core.Sum as Sum
use native.Mathlib.Decide.{ℕ_discrete}
use lib.IntN.{ℤ_discrete}
use Rattle.latex2mathml_tokens.specs.{Refusal.Refusal, Refusal.Refusal-discrete, Same.bare, Same.optional, Same.same, Same.told_apart_by}
use Rattle.latex2mathml_tokens.specs.{Tok.Tok, Tok.Tok-discrete, declared.DisplayStyle.DisplayStyle}
use Rattle.latex2mathml_tokens.specs.{declared.attribute.Variant.Variant, declared.attribute.Accent.Accent}
use Rattle.latex2mathml_tokens.specs.{declared.attribute.LineThickness.LineThickness, declared.attribute.ColumnAlign.ColumnAlign}
use Rattle.latex2mathml_tokens.specs.contracts.DisplayStyle as display
use Rattle.latex2mathml_tokens.specs.contracts.attribute.Accent as accent
use Rattle.latex2mathml_tokens.specs.contracts.attribute.ColumnAlign as align
use Rattle.latex2mathml_tokens.specs.contracts.attribute.LineThickness as thickness
use Rattle.latex2mathml_tokens.specs.contracts.attribute.Variant as variant

pub variant-discrete : Discrete Variant
variant-discrete = bare variant.the_type tt

pub accent-discrete : Discrete Accent
accent-discrete = bare accent.the_type tt

no_field : Discrete (Unit {0})
no_field x y = yes refl

-- a thickness is one of three without a field, or it is a length
pub thickness-discrete : Discrete LineThickness
thickness-discrete =
    let lengths = Sum.discrete (×_discrete ℕ_discrete no_field) (λ x. absurd x) in
    let thicknesses = Sum.discrete no_field (Sum.discrete no_field (Sum.discrete no_field lengths)) in
    told_apart_by thickness.the_type.to thickness.the_type.to_one thicknesses

pub align-discrete : Discrete ColumnAlign
align-discrete = bare align.the_type tt

pub display-discrete : Discrete DisplayStyle
display-discrete = bare display.the_type tt

pub tok-discrete : Discrete Tok
tok-discrete = Tok-discrete ℕ_discrete (List-discrete ℕ_discrete) (optional display-discrete) ℤ_discrete variant-discrete accent-discrete

refusal-discrete : Discrete Refusal
refusal-discrete = Refusal-discrete tok-discrete (List-discrete ℕ_discrete)

pub optional_refusal-discrete : Discrete (Option Refusal)
optional_refusal-discrete = optional refusal-discrete

-- whether two tokens are equal, and whether two refusals are
abbrev pub same_tok : Tok → Tok → Bool
same_tok = same tok-discrete

abbrev pub same_refusal : Option Refusal → Option Refusal → Bool
same_refusal = same optional_refusal-discrete
