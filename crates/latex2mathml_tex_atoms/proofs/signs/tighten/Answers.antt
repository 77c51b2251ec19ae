use Rattle.std.proofs.Common.{⊎_elim, sym}
use Rattle.latex2mathml_builder.specs.Built.{elements_in}
use Rattle.latex2mathml_tex_grammar.specs.Atoms
use Rattle.latex2mathml_tex_commands.specs.Meanings.{style_of}
use Rattle.latex2mathml_tex_atoms.proofs.Shaping.{unchanged}
use Rattle.latex2mathml_tex_atoms.proofs.signs.tighten.Goals as goal

pub returns-in-InDisplay : goal.returns-in-InDisplay
returns-in-InDisplay c =
    sym (unchanged (Atoms.tight (style_of c.args.style)) c.args.depth (elements_in c.args.builder.now) (λ x. ⊎_elim (λ is. rw is) (λ is. rw is) c.in-InDisplay.is))
