use Rattle.latex2mathml_attributes.specs.Names.{size_of}
use Rattle.latex2mathml_tex_atoms.proofs.Rooms.{no_room}
use Rattle.latex2mathml_tex_atoms.proofs.widths.room.Goals as goal

pub returns-in-None : goal.returns-in-None
returns-in-None c = rw c.in-None.is (no_room (size_of c.args.size))
