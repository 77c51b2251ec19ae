use Rattle.std.proofs.Common.{append-nil, arith, refl, sym, ap, ◌∙◌}
use Rattle.latex2mathml_parser.specs.Marks.{rest_of}
use Rattle.latex2mathml_grammar.specs.Counts.{none_read}
use Rattle.latex2mathml_tokens.specs.Lexemes.{lexeme_tok}
use Rattle.latex2mathml_parser.proofs.Appending.{finished, formula_refused, one_node, within_node}
use Rattle.latex2mathml_parser.proofs.{Beginning.stood, Stepping.counted_none, Stepping.counted_on, Stepping.counted_taken, Stepping.stacks_within}
use Rattle.latex2mathml_parser.proofs.formula.append_math.Goals as goal

pub nodes-init : goal.nodes-init
nodes-init c = record {
  closed = c.requires;
  nodes = record { are = none_read; text = sym (append-nil _) };
  counted = counted_none _;
}

pub nodes-preserved : goal.nodes-preserved
nodes-preserved c =
    let found = stood c.take_into.new.lexeme c.nodes.parser.lexer.list c.take_into.new.self.list c.in_default.not-EOF c.take_into.ensures.token c.take_into.ensures.list in
    let read = rw c.if-not-is_read.false at (c.in_ok-is_read.ensures.node _ found) in
    record {
      closed = read.0;
      nodes = one_node found read.1.1 read.1.2 c.nodes.invariant.nodes;
      counted = counted_on _ _ _ c.nodes.invariant.counted (counted_taken _ c.nodes.parser _ _ found c.take_into.ensures.counts refl c.in_ok-is_read.ensures.counted);
    }

pub returns-in_err-is_read-clause-counted : goal.returns-in_err-is_read-clause-counted
returns-in_err-is_read-clause-counted c =
    let found = stood _ _ _ c.in_default.not-EOF c.take_into.ensures.token c.take_into.ensures.list in
    counted_on _ _ _ c.nodes.invariant.counted (counted_taken _ _ _ _ found c.take_into.ensures.counts refl c.in_err-is_read.ensures.counted)

pub returns-then-not-is_read : goal.returns-then-not-is_read
returns-then-not-is_read c =
    let found = stood c.take_into.new.lexeme c.nodes.parser.lexer.list c.take_into.new.self.list c.in_default.not-EOF c.take_into.ensures.token c.take_into.ensures.list in
    let refused = rw c.if-not-is_read.true at (c.in_ok-is_read.ensures.node _ found) in
    let counted = counted_on _ _ _ c.nodes.invariant.counted (counted_taken _ c.nodes.parser _ _ found c.take_into.ensures.counts refl c.in_ok-is_read.ensures.counted) in
    record {
      formula = (
        formula_refused _ found refused c.nodes.invariant.nodes,
        within_node c.args.parser.now.lexer c.append_node.new.parser.lexer _ refused c.nodes.invariant.nodes (grind (arith, found)),
      );
      counted = counted;
      stack = stacks_within _ _ counted;
    }

pub returns-clause-formula : goal.returns-clause-formula
returns-clause-formula c =
    let none = c.take_into.ensures.ended (ap lexeme_tok c.in-EOF.is) in (
      finished c.args.display _ c.in_ok-append_opening_tag.ensures none c.nodes.invariant.nodes c.in_ok-push_str.ensures.bytes,
      c.take_into.ensures.list ∙ ap rest_of none,
    )
