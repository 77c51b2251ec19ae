use Rattle.latex2mathml.proofs.{Cuts.one_cut_lem, Joining.joined, MathPieces.elements, Outcomes.for_dollars, Outcomes.one_outcome}
use Rattle.latex2mathml.proofs.{Repeating.repeated, Surrounding.balanced_answer, Surrounding.page_answer}
use Rattle.latex2mathml.proofs.laws.answers.Goals as goal

pub returns : goal.returns
returns c = record {
  one_cut = λ document pieces others. one_cut_lem pieces others document;
  for_dollars = for_dollars c.renderings.ensures;
  one_outcome = one_outcome c.renderings.ensures;
  repeated = repeated c.renderings.ensures;
  joined = joined;
  elements = elements c.renderings.ensures;
  balanced = balanced_answer c.renderings.ensures c.joined_markup.ensures;
  page = page_answer c.renderings.ensures c.joined_markup.ensures;
}
