use Rattle.std.proofs.Common.{rules, ◌≡◌, ◌+◌, ◌∙◌, false, ap, arith, drop, length}
use Rattle.latex2mathml_builder.specs.Built.{elements_in}
use Rattle.latex2mathml_tex_grammar.specs.Atoms
use Rattle.latex2mathml_tex_grammar.specs.{Heights.scripted_height, Makes.are_drawn_stacked}
use Rattle.latex2mathml_tex_commands.specs.Meanings.{limit_place_of, style_of}
use Rattle.latex2mathml_tex_atoms.specs.Models.{before_of, height_of, kind_of, script_count, top}
use Rattle.latex2mathml_tex.proofs.Scripting.{left_below, made, room_fixed}
use Rattle.latex2mathml_tex.proofs.parse.scripts.scripted.Goals as goal
use Rattle.latex2mathml_tex.proofs.parse.scripts.scripted.Goals.{else-not-scripts-via-then-not-scripts+else-not-scripts-2, else-not-scripts-via-else-not-scripts}

pub put_scripts-requires : goal.put_scripts-requires
put_scripts-requires c =
    let room = room_fixed c.args.scripts c.in_ok-scripts.scripts (elements_in c.args.builder.now) (elements_in c.with_primes.new.builder) c.in_ok-scripts.ensures.scripts c.in_ok-scripts.ensures.below c.requires (style_of c.args.style) (before_of c.args.before) (kind_of c.args.core.kind) in
    omega (arith, room, ap length c.adapt_base.ensures)

pub returns-clause-atom : goal.returns-clause-atom
returns-clause-atom c =
    let scripts = c.in_ok-scripts.scripts in
    let some : scripts.below ≡ false → scripts.above ≡ false → ⊥ =
    elim c.else-not-scripts.branch [ else-not-scripts-via-then-not-scripts+else-not-scripts-2 w ↦ search rules | else-not-scripts-via-else-not-scripts w ↦ search rules ] in
    let base = height_of c.args.core.height in
    let height = scripted_height (style_of c.args.style) (are_drawn_stacked (style_of c.args.style) (limit_place_of scripts.limits)) base (height_of scripts.height) scripts.above in
    ap (λ b. Atoms.atom (kind_of c.with_scripts.result) b (top (elements_in c.put_scripts.new.builder))) c.scripted_height.ensures
    ∙ ap (λ xs. Atoms.atom (kind_of c.with_scripts.result) height (top xs)) c.in_ok-put_scripts.ensures
    ∙ made c.args.scripts scripts (elements_in c.args.builder.now) (elements_in c.with_primes.new.builder) c.in_ok-scripts.ensures.scripts c.in_ok-scripts.ensures.below c.requires (style_of c.args.style) (before_of c.args.before) (kind_of c.args.core.kind) _ base _ _ c.with_scripts.ensures c.stacks.ensures c.adapt_base.ensures some

pub returns-clause-below : goal.returns-clause-below
returns-clause-below c =
    let scripts = c.in_ok-scripts.scripts in
    ap (drop 1) c.in_ok-put_scripts.ensures
    ∙ ap (drop (script_count scripts + 1)) c.adapt_base.ensures
    ∙ left_below c.args.scripts scripts (elements_in c.args.builder.now) (elements_in c.with_primes.new.builder) c.in_ok-scripts.ensures.scripts c.in_ok-scripts.ensures.below c.requires (style_of c.args.style) (before_of c.args.before) (kind_of c.args.core.kind)
