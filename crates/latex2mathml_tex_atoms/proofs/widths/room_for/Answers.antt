use Rattle.std.proofs.Common.{◌∙◌, Some, ap, option_map, sym}
use Rattle.latex2mathml_elements.specs.Attributes.{AtMost}
use Rattle.latex2mathml_attributes.specs.Names.{size_of}
use Rattle.latex2mathml_tex_grammar.specs.Widths.{width_in}
use Rattle.latex2mathml_tex_atoms.proofs.Rooms.{room_is}
use Rattle.latex2mathml_tex_atoms.proofs.widths.room_for.Goals as goal

pub returns-in_err-widths_of : goal.returns-in_err-widths_of
returns-in_err-widths_of c =
    let size = size_of c.args.size in
    ap (option_map AtMost) c.from_residual.ensures
    ∙ ap (option_map (λ w. AtMost (width_in size w))) c.in_err-widths_of.ensures
    ∙ sym (room_is size c.args.c c.ranges.c.0)

pub returns : goal.returns
returns c =
    let size = size_of c.args.size in
    ap (λ n. Some (AtMost n)) c.in_size.ensures
    ∙ ap (option_map (λ w. AtMost (width_in size w))) c.in_ok-widths_of.ensures
    ∙ sym (room_is size c.args.c c.ranges.c.0)
