use Rattle.std.proofs.Common.{◌≡◌, ◌++◌, ℕ, List, ap, append-nil, rules}
use Rattle.std.proofs.lemmas.{Grind.flat_map-append, Grind.put_two, Str.encodes-append}
use Rattle.std.proofs.{Output.has_written_of_eq, lemmas.Iterator.YieldsList-from_chars, lemmas.Iterator.Consumers.YieldsList-end}
use Rattle.latex2mathml_tokens.proofs.Escapes.{all_yielded}
use Rattle.latex2mathml_trees.specs.{Texts.escaped, declared.text.Place.Place}
use Rattle.latex2mathml_trees.specs.declared.text.Place.TheVariants as place
use Rattle.latex2mathml_trees.proofs.text.write_escaped.Goals as goal

escaped-append : (p : Place) (a b : List ℕ) → escaped p (a ++ b) ≡ escaped p a ++ escaped p b
escaped-append place.Content a b = simp flat_map-append
escaped-append place.Value a b = simp flat_map-append
escaped-append place.Quoted a b = simp flat_map-append

pub returns : goal.returns
returns g c = λ plain _.
    let t = YieldsList-end (YieldsList-from_chars c.args.text.now c.utf8.text cc) c.loop-c.yielded _ c.loop-c.yielded_by _ _ c.in-None.is c.next.ensures.steps in
    has_written_of_eq _ _ _ _ _ (ap (escaped c.args.place) (all_yielded c.loop-c.yielded c.args.text.now c.utf8.text t.0)) (c.loop-c.invariant plain)

pub loop-c-preserved : goal.loop-c-preserved
loop-c-preserved g c = λ plain.
    let before = c.loop-c.invariant plain in
    put_two _ _ _ _ _ _ _ before (c.write_char.ensures before.plain (search (rules, c.in_ok-write_char.was))) (simp (encodes-append, escaped-append, append-nil))
