use Rattle.std.proofs.Common.{◌≡◌, ◌-◌, ◌∙◌, ap, length, slice_index_or, slice_set, subst, sym}
use Rattle.latex2mathml_tex_atoms.specs.Adding.{IsAdded}
use Rattle.latex2mathml_tex_atoms.specs.declared.atoms.Context.{Context}
use Rattle.latex2mathml_tex.specs.Innermost.{IsLonger}
use Rattle.latex2mathml_tex.specs.declared.parse.frames.Frame.TheVariants as frame
use Rattle.latex2mathml_tex.proofs.Replacing.{longer, same_found, same_last}
use Rattle.latex2mathml_tex.proofs.parse.frames.Frames.add.Goals as goal

pub returns-in-Row-index_mut-clause-added : goal.returns-in-Row-index_mut-clause-added
returns-in-Row-index_mut-clause-added c = λ t.
    let fs = c.args.self.now.stack.items in
    let w = c.in-Row-index_mut in
    let some = subst (λ l. length l ≡ 0 → ⊥) c.as_slice-len.ensures.value c.if-len-eq0.false in
    let found : slice_index_or fs (length fs - 1) c.index_mut.result.now ≡ frame.Row w.field-0 w.field-1 w.field-2 w.row =
    sym (c.index_mut.ensures.value ∙ ap (λ l. slice_index_or fs (length l - 1) c.index_mut.result.now) c.as_slice-len.ensures.value) ∙ w.is in
    let seen : slice_index_or fs (length fs - 1) c.index.result.now ≡ frame.Row c.in-Row.field-0 c.in-Row.field-1 c.in-Row.context c.in-Row.field-3 =
    sym (c.index.ensures ∙ ap (λ l. slice_index_or fs (length l - 1) c.index.result.now) c.as_slice-len.ensures.value) ∙ c.in-Row.is in
    let alike : frame.Row c.in-Row.field-0 c.in-Row.field-1 c.in-Row.context c.in-Row.field-3 ≡ frame.Row w.field-0 w.field-1 w.field-2 w.row =
    sym seen ∙ same_found fs some c.index_mut.result.now c.index.result.now ∙ found in
    let same : c.in-Row.context ≡ w.field-2 = cc (alike) in
    subst (λ l. IsLonger c.args.core fs (slice_set fs (length l - 1) (frame.Row w.field-0 w.field-1 w.field-2 c.add.new.self))) (sym c.as_slice-len.ensures.value)
    (longer fs some c.index_mut.result.now c.args.core w.field-0 w.field-1 w.field-2 w.row c.add.new.self found (subst (λ (k : Context). IsAdded k.style c.args.core w.row c.add.new.self) same (c.add.ensures.added t)))

pub returns-in-Row-index_mut-clause-unchanged : goal.returns-in-Row-index_mut-clause-unchanged
returns-in-Row-index_mut-clause-unchanged c = λ f.
    let fs = c.args.self.now.stack.items in
    let w = c.in-Row-index_mut in
    let some = subst (λ l. length l ≡ 0 → ⊥) c.as_slice-len.ensures.value c.if-len-eq0.false in
    let found : slice_index_or fs (length fs - 1) c.index_mut.result.now ≡ frame.Row w.field-0 w.field-1 w.field-2 w.row =
    sym (c.index_mut.ensures.value ∙ ap (λ l. slice_index_or fs (length l - 1) c.index_mut.result.now) c.as_slice-len.ensures.value) ∙ w.is in
    ap (λ l. slice_set fs (length l - 1) (frame.Row w.field-0 w.field-1 w.field-2 c.add.new.self)) c.as_slice-len.ensures.value
    ∙ same_last fs some c.index_mut.result.now _ (ap (frame.Row w.field-0 w.field-1 w.field-2) (c.add.ensures.unchanged f) ∙ sym found)
