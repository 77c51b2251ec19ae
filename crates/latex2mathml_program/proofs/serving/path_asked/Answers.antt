use Rattle.std.proofs.Common.{◌≡◌, ◌∷◌, [], rules, arith}
use Rattle.latex2mathml_program.proofs.Lines.{two}
use Rattle.latex2mathml_program.proofs.serving.path_asked.Goals as goal

pub returns-in-len2-clause-asked : goal.returns-in-len2-clause-asked
returns-in-len2-clause-asked c =
    let both : c.args.words.now ≡ c.word-item.result ∷ c.path-item.result ∷ [] = two c.args.words.now c.word-item.result c.path-item.result (omega arith) (omega arith) c.word-item.is c.path-item.is in
    rw both (search rules)
