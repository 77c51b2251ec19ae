use Rattle.std.proofs.Common.{◌≡◌, None, [], ap, arith, string_bytes, subst, sym, ◌∙◌}
use Rattle.latex2mathml_tex_grammar.specs.{Refusal.refusal_at, Scanning.Given, Scanning.done, Scanning.scan}
use Rattle.latex2mathml_tex_grammar.specs.Units.{Next, End, Stop}
use Rattle.latex2mathml_tex_units.specs.{Left.put_back, Left.unit_count, Left.units_at, Left.units_behind, Taking.kind_of, Taking.unit_of}
use Rattle.latex2mathml_tex_units.specs.Scans.{IsFound, behind_text, deed_of, spot_of}
use Rattle.latex2mathml_tex_units.proofs.Scanned.{adds_more, found_nothing}
use Rattle.latex2mathml_tex_units.proofs.input.Input.scan.Goals as goal

pub returns-in-Fault-clause-found : goal.returns-in-Fault-clause-found
returns-in-Fault-clause-found c =
    let i = c.take_name_characters.new.self in
    let l = units_at i in
    let text = string_bytes c.take_name_characters.new.text in
    let spot = spot_of c.units.spot in
    let stop : l ≡ Stop (refusal_at (kind_of c.in-Fault.fault) c.in-Fault.at) = c.peek.ensures ∙ ap (λ n. put_back n (units_behind i)) c.in-Fault.is in
    let here = subst (λ m. IsFound c.fault.result [] m (scan c.args.place m spot)) (sym stop) (c.fault.ensures c.args.place) in
    subst (IsFound c.fault.result text l) (c.in_ok-take_name_characters.ensures.found c.args.place ∙ c.units.invariant.found) (found_nothing c.fault.result text l (scan c.args.place l spot) here)

pub returns-in-End-clause-found : goal.returns-in-End-clause-found
returns-in-End-clause-found c =
    let i = c.take_name_characters.new.self in
    let l = units_at i in
    let text = string_bytes c.take_name_characters.new.text in
    let spot = spot_of c.units.spot in
    let end : l ≡ End c.in-End.field-0 = c.peek.ensures ∙ ap (λ n. put_back n (units_behind i)) c.in-End.is in
    let here = subst (λ m. IsFound c.end.result [] m (scan c.args.place m spot)) (sym end) (c.end.ensures c.in-End.field-0) in
    subst (IsFound c.end.result text l) (c.in_ok-take_name_characters.ensures.found c.args.place ∙ c.units.invariant.found) (found_nothing c.end.result text l (scan c.args.place l spot) here)

pub returns-in-Ends-clause-found : goal.returns-in-Ends-clause-found
returns-in-Ends-clause-found c =
    let i = c.take_name_characters.new.self in
    let l = units_at i in
    let m = units_at c.advance-in-Ends.new.self in
    let spot = spot_of c.units.spot in
    let next : l ≡ Next (unit_of c.in-Unit.unit) m = c.peek.ensures ∙ ap (λ n. put_back n (units_behind i)) c.in-Unit.is ∙ ap (Next (unit_of c.in-Unit.unit)) (sym c.advance-in-Ends.ensures.left) in
    let here : scan c.args.place l spot ≡ Given [] m = ap (λ k. scan c.args.place k spot) next ∙ ap (λ d. done c.args.place spot d (unit_of c.in-Unit.unit) m (scan c.args.place m)) (sym c.deed.ensures ∙ ap deed_of c.in-Ends.is) in
    sym (c.in_ok-take_name_characters.ensures.found c.args.place ∙ c.units.invariant.found)
    ∙ found_nothing None (string_bytes c.take_name_characters.new.text) m (scan c.args.place l spot) here

pub returns-in-Leaves-clause-found : goal.returns-in-Leaves-clause-found
returns-in-Leaves-clause-found c =
    let i = c.take_name_characters.new.self in
    let l = units_at i in
    let m = units_behind i in
    let spot = spot_of c.units.spot in
    let next : l ≡ Next (unit_of c.in-Unit.unit) m = c.peek.ensures ∙ ap (λ n. put_back n m) c.in-Unit.is in
    let here : scan c.args.place l spot ≡ Given [] l = ap (λ k. scan c.args.place k spot) next ∙ ap (λ d. done c.args.place spot d (unit_of c.in-Unit.unit) m (scan c.args.place m)) (sym c.deed.ensures ∙ ap deed_of c.in-Leaves.is) ∙ ap (Given []) (sym next) in
    sym (c.in_ok-take_name_characters.ensures.found c.args.place ∙ c.units.invariant.found)
    ∙ found_nothing None (string_bytes c.take_name_characters.new.text) l (scan c.args.place l spot) here

pub units-preserved : goal.units-preserved
units-preserved c =
    let i = c.take_name_characters.new.self in
    let l = units_at i in
    let m = units_at c.advance-in-Adds.new.self in
    let next : l ≡ Next (unit_of c.in-Unit.unit) m = c.peek.ensures ∙ ap (λ n. put_back n (units_behind i)) c.in-Unit.is ∙ ap (Next (unit_of c.in-Unit.unit)) (sym c.advance-in-Adds.ensures.left) in
    record {
      found = ap (λ t. behind_text t (scan c.args.place m (spot_of c.in-Adds.next))) c.in_ok-push-in-Adds.ensures.bytes
          ∙ adds_more c.args.place l m c.in-Unit.unit c.units.spot c.deed.result c.in-Adds.c c.in-Adds.next (string_bytes c.take_name_characters.new.text) next c.deed.ensures c.in-Adds.is
          ∙ c.in_ok-take_name_characters.ensures.found c.args.place
          ∙ c.units.invariant.found;
      fewer = omega (arith, ap unit_count next);
      same = (cc, cc);
    }
