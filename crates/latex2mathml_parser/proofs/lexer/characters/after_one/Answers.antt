use Rattle.std.proofs.Common.{◌≡◌}
use Rattle.latex2mathml_parser.proofs.Fronts.{none_of_class}
use Rattle.latex2mathml_parser.proofs.lexer.characters.after_one.Goals as goal

pub returns-in_default : goal.returns-in_default
returns-in_default c = none_of_class c.args.class _ c.utf8.text (λ b e. absurd (cc (c.in_default.ensures.value, c.as_bytes.ensures.value, e)))

pub returns-then-not-contains : goal.returns-then-not-contains
returns-then-not-contains c = none_of_class c.args.class _ c.utf8.text (λ b e. let same : b ≡ c.in-Some.byte = cc (c.in-Some.ensures.value, c.as_bytes.ensures.value, e) in rw same (cc))
