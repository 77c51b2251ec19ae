use Rattle.std.proofs.Common.{sym, ◌∙◌, arith}
use Rattle.std.proofs.lemmas.List.Sums.{AllPass-from_list_all}
use Rattle.latex2mathml_tokens.proofs.Halves.{both_ascend, first_is_small, in_first, in_last, last_is_small}
use Rattle.latex2mathml_tokens.proofs.token.search.half.Goals as goal

pub bounds-last-0 : goal.bounds-last-0
bounds-last-0 c = omega (arith, (last_is_small _ _ c.entries-first.ensures.part c.entries-last.ensures.part).1)

pub compare-requires-clause-keyed : goal.compare-requires-clause-keyed
compare-requires-clause-keyed c = AllPass-from_list_all _ _ c.entries-last.ensures.keyed 0 _ (last_is_small _ _ c.entries-first.ensures.part c.entries-last.ensures.part).1

pub returns-in-Less : goal.returns-in-Less
returns-in-Less c = record {
  same = in_first _ _ c.entries-first.ensures.part c.entries-last.ensures.part _ _ (sym c.compare.ensures.order ∙ c.in-Less.is);
  ordered = (both_ascend _ _ c.entries-first.ensures.part c.entries-last.ensures.part).0;
  few = first_is_small _ _ c.entries-first.ensures.part c.entries-last.ensures.part;
  keyed = AllPass-from_list_all _ _ c.entries-first.ensures.keyed;
  counts = c.compare.ensures.counts;
}

pub returns-in_default : goal.returns-in_default
returns-in_default c = record {
  same = in_last _ _ c.entries-first.ensures.part c.entries-last.ensures.part _ _ (λ less. c.in_default.not-Less (c.compare.ensures.order ∙ less));
  ordered = (both_ascend _ _ c.entries-first.ensures.part c.entries-last.ensures.part).1;
  few = (last_is_small _ _ c.entries-first.ensures.part c.entries-last.ensures.part).0;
  keyed = AllPass-from_list_all _ _ c.entries-last.ensures.keyed;
  counts = c.compare.ensures.counts;
}
