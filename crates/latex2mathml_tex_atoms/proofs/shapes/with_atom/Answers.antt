use Rattle.std.proofs.Common.{◌≡◌, ◌∙◌, ◌+◌, ◌≤◌, ap, drop, length, refl, take}
use Rattle.latex2mathml_builder.specs.Built.{elements_in}
use Rattle.latex2mathml_tex_grammar.specs.Atoms
use Rattle.latex2mathml_tex_grammar.specs.Heights.{Low}
use Rattle.latex2mathml_tex_grammar.specs.Rows
use Rattle.latex2mathml_tex_commands.specs.Meanings.{class_of, style_of}
use Rattle.latex2mathml_tex_atoms.specs.Models.{before_of, core_with, height_of, kind_of, restyled_with, row_with, settled_count, top, under_with}
use Rattle.latex2mathml_tex_atoms.proofs.Shaping.{put_at_any_height, same_below, same_far_below, same_row}
use Rattle.latex2mathml_tex_atoms.proofs.shapes.with_atom.Goals as goal

pub returns-clause-row : goal.returns-clause-row
returns-clause-row c =
    let xs = elements_in c.before_atom-row.new.builder in
    let row = c.before_atom-row.result in
    let style = style_of c.args.style in
    let before = before_of row.before in
    let kind = kind_of c.args.core.kind in
    let below = take row.count (drop 1 xs) in
    let joining = Rows.joining (kind_of row.last) kind in
    let ready = c.before_atom-row.ensures in
    let count : row.count ≡ c.args.row.count = ready.count in
    let enough : row.count + 1 ≤ length xs = rw (count, ready.length) c.requires in
    same_row _ _ _ _ _ _ _ _ _ _ _ _ _ _
    (c.in_ok-count.ensures.elements ∙ ap (λ b. Rows.put b style before (Atoms.atom kind Low (top xs)) below) c.joining-joining.ensures ∙ put_at_any_height joining style before kind (height_of c.args.core.height) (top xs) below)
    c.past.ensures
    refl
    c.larger.ensures
    (c.class_with.ensures xs enough ∙ ap (λ b. Rows.class_with b (class_of row.class) below kind) c.joining-joining.ensures)
    (ap (restyled_with row.restyled row.settled) (same_below row.count c.in_ok-count.count xs (elements_in c.put_adapted.new.builder) c.in_ok-count.ensures.below))
    (ap (under_with row.under) (same_far_below row.count c.in_ok-count.count xs (elements_in c.put_adapted.new.builder) c.in_ok-count.ensures.below (settled_count row.restyled row.settled)))
    ∙ ap (λ r. Rows.appended style r (core_with c.args.core (top xs)).atom) ready.row
    ∙ ap (λ x. Rows.with_atom style (row_with c.args.row (drop 1 (elements_in c.args.builder.now))) (core_with c.args.core x).atom) ready.top
