use Rattle.std.proofs.Common.{◌≡◌, refl, subst, map, arith, false, true}
use Rattle.std.proofs.lemmas.List.{take_all}
use Rattle.latex2mathml_program.specs.Serving.{JoinsSomeOf, AllPut, unconverted_line}
use Rattle.latex2mathml_program.proofs.Lines.{put_last, put_next}
use Rattle.latex2mathml_program.proofs.serving.put_all_unconverted.Goals as goal

pub returns-then-not-put_unconverted : goal.returns-then-not-put_unconverted
returns-then-not-put_unconverted g c =
    let so_far = c.loop-unconverted.invariant.1 in
    record {
      put = put_last _ _ _ c.args.all.now c.loop-unconverted.unconverted-index c.unconverted-item.result so_far.0 (omega arith) c.unconverted-item.is so_far.1 so_far.2 c.put_unconverted.ensures.put (λ can. let k : false ≡ true = c.if-not-put_unconverted.ensures.ready.1 can in cc);
    }

pub loop-unconverted-preserved : goal.loop-unconverted-preserved
loop-unconverted-preserved g c =
    let so_far = c.loop-unconverted.invariant.1 in
    let can = c.if-not-put_unconverted.ensures.ready.0 refl in
    (can, put_next (g.E.Sink.state c.args.errors.now) (g.E.Sink.state c.loop-unconverted.errors) (g.E.Sink.state c.put_unconverted.new.errors) c.args.all.now c.loop-unconverted.unconverted-index c.unconverted-item.result so_far.0 (omega arith) c.unconverted-item.is so_far.1 so_far.2 c.put_unconverted.ensures.put can)

pub returns : goal.returns
returns g c =
    let so_far = c.loop-unconverted.invariant in
    record {
      put = AllPut so_far.0 so_far.1.0 (subst (λ l. JoinsSomeOf (map unconverted_line l) so_far.1.0) (take_all c.loop-unconverted.unconverted-index c.args.all.now (omega arith)) so_far.1.1) so_far.1.2;
    }
