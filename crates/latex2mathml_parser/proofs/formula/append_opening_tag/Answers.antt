use Rattle.latex2mathml_parser.proofs.formula.append_opening_tag.Goals as goal

pub returns-in_ok-push_str-in-Block : goal.returns-in_ok-push_str-in-Block
returns-in_ok-push_str-in-Block c = rw c.in-Block.is c.in_ok-push_str-in-Block.ensures.bytes

pub returns-in_ok-push_str-in-Inline : goal.returns-in_ok-push_str-in-Inline
returns-in_ok-push_str-in-Inline c = rw c.in-Inline.is c.in_ok-push_str-in-Inline.ensures.bytes
