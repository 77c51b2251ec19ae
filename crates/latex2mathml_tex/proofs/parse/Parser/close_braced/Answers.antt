use Rattle.std.proofs.Common.{refl}
use Rattle.latex2mathml_tex.proofs.Closing.{group_closed}
use Rattle.latex2mathml_tex.proofs.parse.Parser.close_braced.Goals as goal

pub returns-in_ok-put_braced-in-Group-clause-holds : goal.returns-in_ok-put_braced-in-Group-clause-holds
returns-in_ok-put_braced-in-Group-clause-holds c = λ s place g.
    group_closed s c.args.self.now c.put_braced.new.builder place c.args.row c.in_ok-put_braced-in-Group.ensures c.new.result (rw (c.new.ensures, c.ordinary_kind.ensures, c.in_ok-put_braced-in-Group.ensures) refl) (rw c.in-Group.is at g)
