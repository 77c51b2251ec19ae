use Rattle.std.proofs.Common.{◌≡◌, ◌∙◌, ◌++◌, ap, rules, string_bytes, subst, sym, arith}
use Rattle.std.specs.Prelude.{Some, None}
use Rattle.std.proofs.lemmas.Str.Pattern.{split_once_first}
use Rattle.latex2mathml_tex_grammar.specs.Environments.{repeated, written_out}
use Rattle.latex2mathml_tex_units.proofs.WrittenOut.{all_written, one_written, unstarred}
use Rattle.latex2mathml_tex_units.proofs.repetitions.written_out.Goals as goal

pub loop-before-preserved : goal.loop-before-preserved
loop-before-preserved c =
    let found = split_once_first 42 c.loop-before.rest.now (Some (c.in-Some.before, c.in-Some.starred)) c.in-Some.ensures.cases (omega arith) in
    let more = c.in_ok-append_repeated.ensures ∙ ap (λ l. l ++ repeated c.around.result.0.now) c.in_ok-push_str.ensures.bytes in
    (search rules, one_written (string_bytes c.args.signs) (string_bytes c.loop-before.out) c.loop-before.rest.now c.in-Some.before.now c.in-Some.starred.now c.around.result.0.now c.around.result.1.now _ c.loop-before.invariant.1 found.1 found.2 c.around.ensures.before c.around.ensures.behind more)

pub returns : goal.returns
returns c =
    let none = split_once_first 42 c.loop-before.rest.now None c.in_default.ensures.cases (omega arith) in
    all_written (string_bytes c.args.signs) (string_bytes c.loop-before.out) c.loop-before.rest.now _ c.loop-before.invariant.1 none c.in_ok-push_str-2.ensures.bytes

pub returns-then-not-contains : goal.returns-then-not-contains
returns-then-not-contains c =
    let none = split_once_first 42 c.deref.result.now None c.if-not-contains.ensures.cases (omega arith) in
    subst (λ l. l ≡ written_out l) c.deref.ensures (sym (unstarred c.deref.result.now none))
