use Rattle.std.proofs.Common.{arith, drop}
use Rattle.latex2mathml_parts.specs.Forests.{trees_in}
use Rattle.latex2mathml_parser.specs.Steps.{last_tree_read}
use Rattle.latex2mathml_parser.specs.declared.parse.frames.Frame.TheVariants as frame
use Rattle.latex2mathml_parser.proofs.{Combining.member_read, Stacks.put_on, Stacks.taken_off}
use Rattle.latex2mathml_parser.proofs.parse.Parser.after_part.Goals as goal

pub returns-in-Members-clause-holds : goal.returns-in-Members-clause-holds
returns-in-Members-clause-holds c = λ input k.
    let p = c.args.self.now in
    let (fs, on) = rw c.in-Members.is at c.in-Some.ensures.stack in
    let member = frame.Members c.in-Members.group c.in-Members.count in
    let ts = trees_in p.parts in
    put_on input fs _ _ ts p.lexer.list (c.replace.ensures.stack fs member on)
    (member_read input fs c.in-Members.group c.in-Members.count ts (omega arith) (taken_off input fs member (drop 1 ts) (last_tree_read p) (rw on at k)))
