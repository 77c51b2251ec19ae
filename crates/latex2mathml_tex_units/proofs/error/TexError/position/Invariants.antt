use Rattle.std.proofs.Common.{◌≡◌}
use Rattle.latex2mathml_tex_units.specs.Positions.{column_of, line_of}
use Rattle.latex2mathml_tex_units.proofs.error.TexError.position.Given as goal

-- the position is that of the place `byte-index`
abbrev pub invariant-loop-byte : goal.invariant-loop-byte
invariant-loop-byte l = (l.position.line ≡ line_of l.byte-index l.before)
    × (l.position.column ≡ column_of l.byte-index l.before)
