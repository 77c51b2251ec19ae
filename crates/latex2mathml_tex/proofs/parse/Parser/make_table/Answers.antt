use Rattle.std.proofs.Common.{refl, arith}
use Rattle.latex2mathml_tex.proofs.TableRules.{table_made}
use Rattle.std.proofs.lemmas.List.{length-drop}
use Rattle.latex2mathml_tex.specs.Steps.{elements_of}
use Rattle.latex2mathml_tex.proofs.parse.Parser.make_table.Goals as goal

pub returns-clause-holds : goal.returns-clause-holds
returns-clause-holds c = λ s g.
    table_made s c.args.self.now c.put_table.new.builder c.args.delimiters c.args.columns c.args.style c.args.rows c.innermost.result c.context-around.result c.said_style-said.result c.new.result c.context-around.ensures c.innermost.ensures c.said_style-said.ensures c.in_ok-put_table.ensures (λ x. rw (c.new.ensures, c.table_class-class.ensures, c.table_height.ensures (elements_of c.args.self.now) c.requires.some (omega (arith, c.requires.can.elements))) refl) g

pub returns-clause-step : goal.returns-clause-step
returns-clause-step c =
    let can = c.requires.can in
    record {
      ready = record {
        elements = rw c.in_ok-put_table.ensures (omega (arith, can.elements, length-drop c.args.rows (elements_of c.args.self.now)));
        may_come = record { accepted = can.awaits.accepted; nested = can.awaits.nested };
      };
      falls = omega arith;
    }
