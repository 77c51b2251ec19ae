use Rattle.std.proofs.Common.{Some, ap, refl}
use Rattle.latex2mathml_tex_grammar.specs.Refusal.{CommandInWords, refusal_at}
use Rattle.latex2mathml_tex.proofs.parse.Parser.refuse_command.Goals as goal

pub returns-clause-refusal : goal.returns-clause-refusal
returns-clause-refusal c = rw c.refuse.ensures.parser (ap (λ t. Some (refusal_at (CommandInWords t) c.args.place)) c.in_ok-name.ensures.ok)

pub returns-clause-parser : goal.returns-clause-parser
returns-clause-parser c = rw c.refuse.ensures.parser refl
