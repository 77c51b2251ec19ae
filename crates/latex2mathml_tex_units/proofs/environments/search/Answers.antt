use Rattle.std.proofs.Common.{sym, ◌∙◌}
use Rattle.std.proofs.lemmas.Slice.Eq.{bytes_eq-Decides}
use Rattle.latex2mathml_tex_units.proofs.Listings.{entry_found}
use Rattle.latex2mathml_tex_units.proofs.environments.search.Goals as goal

pub returns-then-are_same : goal.returns-then-are_same
returns-then-are_same c =
    let same = sym c.are_same.ensures ∙ c.if-are_same.true in
    (sym c.entries.invariant ∙ entry_found _ _ _ (sym c.is_empty.ensures ∙ c.entries-test.true) same, (bytes_eq-Decides _ _).0 same)
