use Rattle.std.proofs.Common.{◌∙◌, ap, refl, sym, true}
use Rattle.latex2mathml_builder.specs.Built.{elements_in}
use Rattle.latex2mathml_tex_grammar.specs.Atoms.{element_there}
use Rattle.latex2mathml_tex_grammar.specs.Makes.{before_base, fixed_base}
use Rattle.latex2mathml_tex_grammar.specs.Meaning.{Stacked}
use Rattle.latex2mathml_tex_commands.specs.Meanings.{limit_place_of, style_of}
use Rattle.latex2mathml_tex_atoms.specs.Models.{before_of, kind_of}
use Rattle.latex2mathml_tex_atoms.specs.Shapes.{changed_at}
use Rattle.latex2mathml_tex.proofs.Scripting.{not_fixed}
use Rattle.latex2mathml_tex_atoms.proofs.Shaping.{changed_alike, changed_twice}
use Rattle.latex2mathml_tex.proofs.parse.scripts.adapt_base.Goals as goal

pub returns-in-Stacked : goal.returns-in-Stacked
returns-in-Stacked c =
    let there = element_there (style_of c.args.style) true (before_base (kind_of c.args.kind) (before_of c.args.before)) (kind_of c.args.kind) in
    let adapted = c.adapt.ensures ∙ ap (λ b. changed_at (element_there (style_of c.args.style) true b (kind_of c.args.kind)) c.count-depth.result (elements_in c.args.builder.now)) c.before_base.ensures in
    c.fix_limits.ensures
    ∙ ap (changed_at (fixed_base Stacked) c.count-depth.result) adapted
    ∙ changed_twice there (fixed_base Stacked) c.count-depth.result (elements_in c.args.builder.now)
    ∙ rw (c.in-Stacked.is, c.count-depth.ensures) refl

pub returns-in_default : goal.returns-in_default
returns-in_default c =
    let there = element_there (style_of c.args.style) true (before_base (kind_of c.args.kind) (before_of c.args.before)) (kind_of c.args.kind) in
    let limits = c.args.scripts.limits in
    let adapted = c.adapt.ensures ∙ ap (λ b. changed_at (element_there (style_of c.args.style) true b (kind_of c.args.kind)) c.count-depth.result (elements_in c.args.builder.now)) c.before_base.ensures in
    adapted
    ∙ ap (λ n. changed_at there n (elements_in c.args.builder.now)) c.count-depth.ensures
    ∙ changed_alike there (λ x. fixed_base (limit_place_of limits) (there x)) _ (elements_in c.args.builder.now) (λ x. sym (not_fixed limits c.in_default.not-Stacked (there x)))
