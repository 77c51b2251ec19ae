use Rattle.latex2mathml_tex_commands.proofs.SignTables.{ordered, few, found_ascii, found_entry}
use Rattle.latex2mathml_tex_commands.proofs.signs.symbol_of.Goals as goal

pub search-requires-clause-ordered : goal.search-requires-clause-ordered
search-requires-clause-ordered c = ordered _ c.entries.ensures

pub search-requires-clause-few : goal.search-requires-clause-few
search-requires-clause-few c = few _ c.entries.ensures

pub returns-in-Some : goal.returns-in-Some
returns-in-Some c = found_ascii _ _ _ c.symbols.ensures c.in-Some.ensures.lookup.3.0 c.in-Some.ensures.lookup.1

pub returns-in-None : goal.returns-in-None
returns-in-None c = found_entry _ _ _ c.entries.ensures c.search.ensures
