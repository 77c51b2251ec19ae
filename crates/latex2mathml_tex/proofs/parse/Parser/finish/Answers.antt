use Rattle.std.proofs.Common.{subst, sym}
use Rattle.latex2mathml_tex.specs.Steps.{Holds, Ready, start_of}
use Rattle.latex2mathml_tex.specs.declared.parse.Form.TheVariants as form
use Rattle.latex2mathml_tex.specs.declared.parse.State.TheVariants as state
use Rattle.latex2mathml_tex.proofs.Answering.{begins, begins_rows}
use Rattle.latex2mathml_tex.proofs.parse.Parser.finish.Goals as goal
use Rattle.latex2mathml_tex.proofs.parse.Parser.finish.Goals.{in-Atoms+in_ok-begin_atoms-in-Atoms, in-Rows+in_ok-begin_text-in-Rows}

pub steps-init : goal.steps-init
steps-init c =
    let p = c.args.self.now in
    elim c.match-form.branch [
      | in-Atoms+in_ok-begin_atoms-in-Atoms w ↦ (
          let q = w.begin_atoms.new.self in
          let given = w.in_ok-begin_atoms-in-Atoms.ensures in
          let first : Holds (start_of c.args.form p) q state.Next = rw w.in-Atoms.is (given.holds (start_of form.Atoms p) (begins p c.requires)) in
          record {
            ready = subst (λ q. Ready q c.match-form.state) (sym w.self-is) (subst (Ready q) (sym w.state-is) given.ready);
            holds = subst (λ q. Holds (start_of c.args.form p) q c.match-form.state) (sym w.self-is) (subst (Holds (start_of c.args.form p) q) (sym w.state-is) first);
          })
      | in-Rows+in_ok-begin_text-in-Rows w ↦ (
          let q = w.begin_text.new.self in
          let next = w.begin_text.new.next in
          let given = w.in_ok-begin_text-in-Rows.ensures in
          let first : Holds (start_of c.args.form p) q next = rw w.in-Rows.is (given.holds (start_of form.Rows p) (begins_rows p c.requires)) in
          record {
            ready = subst (λ q. Ready q c.match-form.state) (sym w.self-is) (subst (Ready q) (sym w.state-is) given.step.ready);
            holds = subst (λ q. Holds (start_of c.args.form p) q c.match-form.state) (sym w.self-is) (subst (Holds (start_of c.args.form p) q) (sym w.state-is) first);
          })
    ]

pub steps-preserved : goal.steps-preserved
steps-preserved c = record {
  ready = c.in_ok-step-in_default.ensures.step.ready;
  holds = c.in_ok-step-in_default.ensures.holds _ c.steps.invariant.holds;
}
