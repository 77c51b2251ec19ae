use Rattle.latex2mathml_tex_grammar.specs.WordBoxes.{box_rule}
use Rattle.latex2mathml_tex_atoms.specs.Models.{context_of}
use Rattle.latex2mathml_tex.specs.WordCommands.{word_box_of}
use Rattle.latex2mathml_tex.proofs.Wording.{atom_held}
use Rattle.latex2mathml_tex.proofs.parse.Parser.begin_box.Goals as goal

pub returns-clause-holds : goal.returns-clause-holds
returns-clause-holds c = λ s g.
    let r = box_rule c.args.place (context_of c.args.context) (word_box_of c.args.word_box) in
    c.box_of_words.ensures.holds s (atom_held s c.args.self.now c.end_accent.new.builder c.push.new.self c.args.words c.in_ok-words.words c.args.place c.args.context r c.in_ok-words.ensures c.in_ok-push.ensures g)
