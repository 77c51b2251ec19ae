use Rattle.std.specs.{Arc.arc_value, Str.bytes_eq}
use Rattle.std.proofs.lemmas.Map.Text.{btree_map_updates_str}
use Rattle.latex2mathml_tex_units.specs.Bodies.{macro_of}
use Rattle.latex2mathml_tex_units.proofs.Tables.{put_there}
use Rattle.latex2mathml_tex_units.proofs.macros.scope.Scope.insert.Goals as goal

pub returns-clause-same : goal.returns-clause-same
returns-clause-same c = λ name. put_there (λ shared. macro_of (arc_value shared)) (bytes_eq c.args.name.now name) c.args.means _ _ _ name
    (btree_map_updates_str c.args.name.now c.args.self.now.inner c.insert.new.self _ c.in_ok-insert.ensures.updates name)
