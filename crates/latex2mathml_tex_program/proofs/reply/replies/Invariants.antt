use Rattle.std.proofs.Common.{length, string_bytes}
use denote.Text.{Utf8}
use denote.Shadow.{shadow}
use Rattle.latex2mathml_tex_units.specs.MacroTables.{Holding}
use Rattle.latex2mathml_tex_program.proofs.Formulas.{AreRepliedSoFar}
use Rattle.latex2mathml_tex_program.proofs.reply.replies.Given as goal

abbrev pub invariant-formulas : goal.invariant-formulas
invariant-formulas l = record { utf8 : shadow (Utf8 l.rest); so_far : Holding l.macros (λ table. AreRepliedSoFar table l.texts l.format (string_bytes l.replies) l.rest) }

abbrev pub decreases-formulas : goal.decreases-formulas
decreases-formulas l = length l.rest
