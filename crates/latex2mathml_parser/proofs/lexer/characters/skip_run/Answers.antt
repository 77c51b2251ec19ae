use Rattle.std.proofs.Common.{◌≡◌, true, [], ◌∷◌, ◌++◌, sym, ap, ◌∙◌, append_assoc, rules}
use Rattle.std.proofs.lemmas.List.Elements.{All-push}
use Rattle.latex2mathml_parser.specs.Lexing.{in_class}
use Rattle.latex2mathml_parser.proofs.lexer.characters.skip_run.Goals as goal

pub loop-after-preserved : goal.loop-after-preserved
loop-after-preserved c =
    let (front, e, pass) = c.loop-after.invariant.front in
    let (x, found, is) = c.in-Some.ensures in
    let more = e ∙ ap (λ k. front ++ k) found ∙ sym (append_assoc front (x ∷ []) _) in
    record { utf8 = search rules; front = (front ++ x ∷ [], more, All-push (λ y. in_class c.args.class y ≡ true) front x pass is) }
