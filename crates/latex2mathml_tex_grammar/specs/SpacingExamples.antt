-- Some texts that are alike but for white space and some that are not, to check the definitions against.
use Rattle.std.specs.Prelude.{codes}
use Rattle.latex2mathml_tex_grammar.specs.Spacing.{HaveAlikeUnits}

-- where white space changes nothing, and where it does
pub record AreSpacingExamples : Type 0 where
  pub around_signs : HaveAlikeUnits (codes "a+b^2") (codes " a + b ^\n2 ")
  -- a comment is not a unit
  pub comments : HaveAlikeUnits (codes "12") (codes "1 % one\n2")
  -- nothing takes the place of white space
  pub signs : HaveAlikeUnits (codes "ab") (codes "a~b") → ⊥
  -- before words and after them
  pub around_words : HaveAlikeUnits (codes "\\mbox{a}b") (codes "\\mbox% box\n {a} b")
  -- in words it counts, also in braces within them
  pub in_words : HaveAlikeUnits (codes "\\mbox{a b}") (codes "\\mbox{ab}") → ⊥
  pub in_braces : HaveAlikeUnits (codes "\\mbox{{}a b}") (codes "\\mbox{{}ab}") → ⊥
  pub behind_dollars : HaveAlikeUnits (codes "\\mbox{$a$ b}") (codes "\\mbox{$a$b}") → ⊥
  -- in a formula within words it does not
  pub in_dollars : HaveAlikeUnits (codes "\\mbox{a $b c$}") (codes "\\mbox{a $bc $}")
  -- nor does it in other braces
  pub in_groups : HaveAlikeUnits (codes "\\sqrt{a b}") (codes "\\sqrt{ab}")
