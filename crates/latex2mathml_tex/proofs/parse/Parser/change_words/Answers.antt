use Rattle.latex2mathml_tex_atoms.specs.Models.{context_of}
use Rattle.latex2mathml_tex.proofs.Wording.{alphabet_changed, size_changed}
use Rattle.latex2mathml_tex.proofs.parse.Parser.change_words.Goals as goal

pub returns-in-ToAlphabet-clause-holds : goal.returns-in-ToAlphabet-clause-holds
returns-in-ToAlphabet-clause-holds c = λ s g.
    c.words_in_braces.ensures.holds s (alphabet_changed s c.args.self.now c.args.words c.args.place (context_of c.args.context) (rw c.in-ToAlphabet.is at g))

pub returns-in-ToSize-clause-holds : goal.returns-in-ToSize-clause-holds
returns-in-ToSize-clause-holds c = λ s g.
    c.words_in_size.ensures.holds s (size_changed s c.args.self.now c.args.words c.args.place (context_of c.args.context) (rw c.in-ToSize.is at g))
