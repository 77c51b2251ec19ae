-- Each formula has exactly one rendering or exactly one refusal.
use Rattle.std.proofs.Common.{◌≡◌, ℕ, List, None, ⊎_elim, inl, inr, refl, subst}
use Rattle.std.specs.Str.{chars}
use Rattle.latex2mathml_grammar.specs.Grammar.{Outcome, ReadsAll, ReadsFormula, Refuses}
use Rattle.latex2mathml_grammar.specs.Rendering.{IsRendering, IsFormulaRefusal, math_print}
use Rattle.latex2mathml_grammar.specs.{RenderingLaws.HasOneRendering, RenderingLaws.RenderingsHold, Spelling.HasTokens}
use Rattle.latex2mathml_tokens.specs.{Tok.Tok, declared.DisplayStyle.DisplayStyle}
use Rattle.latex2mathml_trees.specs.Tree.{Tree}
use Rattle.latex2mathml_grammar.proofs.{Kept.dollar_free, Kept.never_dollars, Kept.no_argument, MathElements.rendering_is_math}
use Rattle.latex2mathml_grammar.proofs.{OneList.at_most_one, OneList.some_list, Total.has_one_reading, Total.one_all}

-- two token lists of a text have one outcome
one_outcome : {text : List ℕ} {ts us : List Tok} {o p : Outcome (List Tree)} → HasTokens None text ts → ReadsAll None ts o → HasTokens None text us → ReadsAll None us p → o ≡ p
one_outcome {text} {ts} {us} {o} h d k e = one_all (subst (λ l. ReadsAll None l o) (at_most_one None text ts us h k) d) _ e

pub has_one_rendering : (text : List ℕ) (display : DisplayStyle) → HasOneRendering text display
unfolding IsRendering IsFormulaRefusal ReadsFormula Refuses
has_one_rendering text display =
    let tokens = some_list None (chars text) in
    record {
      some = ⊎_elim (λ read. inl (math_print display read.0, (tokens.0, tokens.1, (read.0, read.1, refl))))
          (λ refused. inr (refused.0, (tokens.0, tokens.1, refused.1))) ((has_one_reading tokens.0).some);
      one_rendering = λ markup other d e. (let same = one_outcome d.1 d.2.1 e.1 e.2.1 in cc (same, d.2.2, e.2.2));
      one_refusal = λ refusal other d e. (let same = one_outcome d.1 d.2 e.1 e.2 in cc same);
      never_both = λ markup refusal d e. (let same = one_outcome d.1 d.2.1 e.1 e.2 in cc same);
    }

-- the laws of all formulas
pub renderings_hold : RenderingsHold
renderings_hold = record {
  elements = rendering_is_math;
  dollar_free = dollar_free;
  one_rendering = has_one_rendering;
  no_argument = no_argument;
  never_for_dollars = never_dollars;
}
