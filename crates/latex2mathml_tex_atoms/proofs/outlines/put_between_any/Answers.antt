use Rattle.std.proofs.Common.{◌≡◌}
use Rattle.latex2mathml_tex_grammar.specs.Fences
use Rattle.latex2mathml_tex_grammar.specs.Makes
use Rattle.latex2mathml_builder.specs.Built.{elements_in}
use Rattle.latex2mathml_tex_commands.specs.{Delimiters.delimiter_text, Meanings.style_of}
use Rattle.latex2mathml_tex_atoms.specs.Models.{top}
use Rattle.latex2mathml_tex_atoms.proofs.Outlined.{between_second, between_first}
use Rattle.latex2mathml_tex_atoms.proofs.outlines.put_between_any.Goals as goal
use Rattle.latex2mathml_tex_atoms.proofs.outlines.put_between_any.Goals.{else-is_none-via-then-is_none+else-is_none-2, else-is_none-via-else-is_none}

pub returns : goal.returns
returns c =
    let opening = c.args.opening in
    let closing = c.args.closing in
    let x = top (elements_in c.args.builder.now) in
    let style = style_of c.args.style in
    let is : Makes.between_any style (delimiter_text opening) (delimiter_text closing) x ≡ Fences.delimited_fraction style (delimiter_text opening) (delimiter_text closing) x = elim c.else-is_none.branch [
      | else-is_none-via-then-is_none+else-is_none-2 w ↦ between_second style opening closing x (λ e. cc (rw (w.if-is_none-2.false, e) at w.is_none-then-is_none.ensures))
      | else-is_none-via-else-is_none w ↦ between_first style opening closing x (λ e. cc (rw (w.if-is_none.false, e) at c.is_none.ensures))
    ] in
    rw is c.delimit.ensures
