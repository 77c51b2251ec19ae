use Rattle.latex2mathml_tex_units.specs.{Defined.definition_in, Defined.word_of, Pending.pending_units, Taking.piece_of}
use Rattle.latex2mathml_tex_units.proofs.Turning.{word_turn}
use Rattle.latex2mathml_tex_units.proofs.macros.expander.Expander.define.Goals as goal

pub returns-clause-turned : goal.returns-clause-turned
returns-clause-turned c = λ written.
    word_turn c.args.self.now.macros c.define.new.self (piece_of c.args.piece) written c.args.place c.args.self.now.uses c.args.self.now.room (pending_units c.args.self.now.pending) (pending_units c.take_definition.new.self) (word_of c.in-Some.word) (definition_in c.in_ok-definition.definition) c.in-Some.ensures c.in_ok-definition.ensures c.in_ok-define.ensures.same
