use Rattle.std.proofs.Common.{rules, length, refl, ap, subst, ◌∷◌, ◌∙◌}
use Rattle.latex2mathml_parser.specs.{Levels.Leads, Steps.level}
use Rattle.latex2mathml_parts.specs.Forests.{trees_in}
use Rattle.latex2mathml_parser.proofs.{Beginning.stood, Stacks.token_begun, Stepping.counted_taken}
use Rattle.latex2mathml_parser.proofs.parse.Parser.next_lexeme.Goals as goal

pub returns-then-end_at-clause-holds : goal.returns-then-end_at-clause-holds
returns-then-end_at-clause-holds c = λ input k.
    let p = c.args.self.now in
    let found = stood c.take_other.new.lexeme p.lexer.list c.take_other.new.self.list c.in_default.not-EOF c.take_other.ensures.token c.take_other.ensures.list in
    let (end, is_due, is_end) = c.if-end_at.ensures in
    c.close.ensures.holds input end is_due (subst (Leads (level 0 input p)) (found ∙ ap (λ t. t ∷ c.take_other.new.self.list) is_end) k)

pub returns : goal.returns
returns c =
    let p = c.args.self.now in
    let found = stood c.take_other.new.lexeme p.lexer.list c.take_other.new.self.list c.in_default.not-EOF c.take_other.ensures.token c.take_other.ensures.list in
    let shorter = ap length found in
    record {
      holds = λ input k. c.begin_any.ensures.holds input (token_begun input p.frames.stack.items (trees_in p.parts) p.lexer.list _ _ (rw found (c.if-end_at.ensures _)) found k);
      step = record { counted = counted_taken _ p _ _ found c.take_other.ensures.counts refl c.begin_any.ensures.step.counted; follows = search rules };
    }
