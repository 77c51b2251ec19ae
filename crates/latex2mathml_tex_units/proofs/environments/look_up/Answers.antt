use Rattle.std.proofs.Common.{◌≡◌, None, Some, subst, MatchOption}
use Rattle.latex2mathml_tex_grammar.specs.Environments as grammar
use Rattle.latex2mathml_tex_units.specs.Environments.{environment_of}
use Rattle.latex2mathml_tex_units.proofs.environments.look_up.Goals as goal

pub returns : goal.returns
unfolding grammar.environment_of
returns c =
    let name = c.args.name.now in
    subst (λ es. MatchOption c.search.result (grammar.entry_environment es name ≡ None) (λ e. (grammar.entry_environment es name ≡ Some (environment_of e.now)) × (e.now.name.now ≡ name))) c.environments.ensures c.search.ensures
