use Rattle.std.proofs.Common.{◌≡◌, false, [], ◌∷◌}
use Rattle.latex2mathml_tex_grammar.specs.Units.{is_space}
use Rattle.latex2mathml_tex_units.proofs.lexer.slices.symbol_name.Goals as goal

pub before-requires : goal.before-requires
before-requires c = (c.args.c ∷ [], c.requires)

pub returns : goal.returns
returns c = (let dark : is_space c.args.c ≡ false = cc in rw dark (c.before-2.ensures (c.args.c ∷ []) c.requires))
