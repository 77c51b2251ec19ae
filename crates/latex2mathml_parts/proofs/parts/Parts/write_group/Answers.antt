use Rattle.std.proofs.Common.{◌≡◌, ◌+◌, ◌-◌, ◌∙◌, ap, append_assoc, arith, drop, sym}
use Rattle.latex2mathml_parts.specs.{Forests.trees_at, Groups.names_of, declared.form.Form.TheVariants.Slashed}
use Rattle.latex2mathml_parts.proofs.{Groups.group_print, Leaves.all_leaves}
use Rattle.latex2mathml_parts.proofs.parts.Parts.write_group.Goals as goal

pub write_leaves-requires-clause-leaves : goal.write_leaves-requires-clause-leaves
write_leaves-requires-clause-leaves c = λ k h i.
    let f = c.args.self.now in
    let ts = trees_at f c.args.end in
    let n : c.args.end - c.args.start ≡ c.args.count + names_of c.args.group = omega (arith, c.if-end-start.true, c.names.ensures) in
    let below = c.requires.start ∙ ap (λ m. drop m ts) (sym n) in
    all_leaves f (record { form = Slashed; size = 0 }) c.args.start c.args.end c.requires.order c.requires.within (omega (arith, n, c.requires.all)) below k (omega (arith, n, h, c.requires.order)) i

pub returns-clause-print : goal.returns-clause-print
returns-clause-print c =
    let members = group_print c.args.group c.args.style c.args.count (trees_at c.args.self.now c.args.end) in
    rw (c.in_ok-open.ensures, c.tag-tag.ensures.opening, c.in_ok-push_members.ensures.print, c.in_ok-push_work.ensures.print, c.tag-tag.ensures.ending, ← members) (simp append_assoc)
