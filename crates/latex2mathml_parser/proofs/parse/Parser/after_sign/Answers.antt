use Rattle.std.proofs.Common.{◌≡◌, true, drop}
use Rattle.latex2mathml_parser.specs.{Frames.takes_script, Levels.due_of, Steps.level}
use Rattle.latex2mathml_parts.specs.Forests.{trees_in}
use Rattle.latex2mathml_parser.proofs.{Levels.passed, Levels.sign_taken, Stacks.due_of_inside}
use Rattle.latex2mathml_parser.proofs.parse.Parser.after_sign.Goals as goal

pub returns-clause-holds : goal.returns-clause-holds
returns-clause-holds c = λ input k.
    let p = c.args.self.now in
    let l = level 1 input p in
    let more : takes_script (due_of l) ≡ true = cc (due_of_inside input p.frames.stack.items (drop 1 (trees_in p.parts))) in
    c.open.ensures.holds input (sign_taken l c.args.sign _ p.lexer.list _ more (passed _ _ _ c.requires.sign c.skip.ensures.list) k)
