use Rattle.std.proofs.Common.{◌≡◌, ◌-◌, ◌∙◌, ◌++◌, ◌∷◌, [], ap, length, slice_index_or, slice_set, subst}
use Rattle.latex2mathml_tex.specs.declared.parse.frames.Frame.TheVariants as frame
use Rattle.latex2mathml_tex.proofs.Replacing.{innermost_at, replaced}
use Rattle.latex2mathml_tex.proofs.parse.frames.Frames.set_row.Goals as goal

pub returns-in-Row : goal.returns-in-Row
returns-in-Row c = λ e place k old others i.
    let fs = c.args.self.now.stack.items in
    let put = frame.Row c.in-Row.field-0 c.in-Row.field-1 c.in-Row.field-2 c.args.row in
    let some = subst (λ l. length l ≡ 0 → ⊥) c.as_slice-len.ensures.value c.if-len-eq0.false in
    let is : c.index_mut.result.now ≡ frame.Row e place k old =
    c.index_mut.ensures.value
    ∙ ap (λ l. slice_index_or fs (length l - 1) c.index_mut.result.now) c.as_slice-len.ensures.value
    ∙ innermost_at c.args.style fs others (frame.Row e place k old) c.index_mut.result.now some i in
    let same : put ≡ frame.Row e place k c.args.row = cc (is, c.in-Row.is) in
    ap (λ l. slice_set fs (length l - 1) put) c.as_slice-len.ensures.value
    ∙ replaced c.args.style fs others (frame.Row e place k old) put some i
    ∙ ap (λ f. others ++ f ∷ []) same
