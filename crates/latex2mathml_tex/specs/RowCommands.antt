-- The commands that begin atoms in each row.
use Rattle.std.specs.Prelude.{Bool, true, false}
use Rattle.latex2mathml_tex_grammar.specs.Meaning.{Meaning, Changes, EndTable, Limits, LineBreak, Middle, NoLimits, Right}

-- whether a command of this meaning begins an atom in each row, and does nothing else
abbrev pub begins_atoms : Meaning → Bool
begins_atoms (Changes change) = false
begins_atoms Limits = false
begins_atoms NoLimits = false
begins_atoms Middle = false
begins_atoms Right = false
begins_atoms EndTable = false
begins_atoms LineBreak = false
begins_atoms meaning = true
