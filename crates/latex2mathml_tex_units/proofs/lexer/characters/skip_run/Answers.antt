use Rattle.std.proofs.Common.{[], ◌∷◌, ◌++◌, rules}
use Rattle.latex2mathml_tex_units.specs.Runs.{in_class}
use Rattle.latex2mathml_tex_units.proofs.Runs.{passes_push, whole_push}
use Rattle.latex2mathml_tex_units.proofs.lexer.characters.skip_run.Goals as goal

pub loop-c-preserved : goal.loop-c-preserved
loop-c-preserved c =
    let (w, e, passes) = c.loop-c.invariant.skipped in
    record {
      utf8 = search rules;
      skipped = (w ++ c.in-Some.c ∷ [], whole_push _ w _ _ c.in-Some.c e c.in-Some.ensures, passes_push (in_class c.args.class) w c.in-Some.c passes (cc));
    }
