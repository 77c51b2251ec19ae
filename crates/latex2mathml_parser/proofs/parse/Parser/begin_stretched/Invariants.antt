-- What begins now leads to what the first lexeme leads to.
use Rattle.std.proofs.Common.{◌≤◌, ◌+◌, List, length}
use Rattle.latex2mathml_grammar.specs.{Grammar.rule, Openers.opens}
use Rattle.latex2mathml_parser.specs.Steps.{GoesOnBy, HasTrees, to_do}
use Rattle.latex2mathml_parser.specs.Unread.{GoesOn, OpensFor}
use Rattle.latex2mathml_tokens.specs.{Lexemes.lexeme_tok, Tok.Middle, Tok.Tok}
use Rattle.latex2mathml_parser.proofs.parse.Parser.begin_stretched.Given as goal

abbrev pub invariant-middles : goal.invariant-middles
invariant-middles l = record {
  trees : HasTrees 0 l.self;
  holds : (input : List Tok) → GoesOnBy (rule Middle) 0 input l.fn.self → GoesOnBy (rule (lexeme_tok l.begun)) 0 input l.self;
  counts : GoesOn l.fn.self.lexer l.self.lexer;
  frames : OpensFor l.fn.self.lexer l.self.lexer (l.fn.self.frames.greatest + opens Middle) (l.self.frames.greatest + opens (lexeme_tok l.begun));
  falls : to_do l.self ≤ to_do l.fn.self;
}

abbrev pub decreases-middles : goal.decreases-middles
decreases-middles l = length l.self.lexer.list
