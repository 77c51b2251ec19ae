use Rattle.latex2mathml_tex.proofs.Wording.{size_held}
use Rattle.latex2mathml_tex.proofs.parse.Parser.words_in_size.Goals as goal

pub returns-clause-holds : goal.returns-clause-holds
returns-clause-holds c = λ s g.
    c.words_in_braces.ensures.holds s (rw c.of.ensures (size_held s c.args.self.now c.args.words c.args.place c.end_accent.new.builder c.push.new.self c.in_ok-words.words c.args.size c.args.context c.sized.result c.in_ok-words.ensures c.in_ok-push.ensures c.sized.ensures g))
