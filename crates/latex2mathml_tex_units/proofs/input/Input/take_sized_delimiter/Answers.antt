use Rattle.std.proofs.Common.{[], ◌∷◌, ◌++◌}
use Rattle.latex2mathml_tex_grammar.specs.Delimiters.{delimiter_of}
use Rattle.latex2mathml_tex_grammar.specs.Rules.{a_left_brace, a_right_brace}
use Rattle.latex2mathml_tex_commands.specs.Delimiters.{delimiter_text}
use Rattle.latex2mathml_tex_units.specs.Left.{units_at}
use Rattle.latex2mathml_tex_units.proofs.Bracing.{bare_or_none, sized_in_braces}
use Rattle.latex2mathml_tex_units.proofs.Nexts.{no_more_taken}
use Rattle.latex2mathml_tex_units.proofs.input.Input.take_sized_delimiter.Goals as goal

pub returns-in-Some : goal.returns-in-Some
returns-in-Some c =
    let l = units_at c.args.self.now in
    let m = units_at c.take_braced_delimiter.new.self in
    let text = delimiter_text c.in-Some.delimiter in
    let taken = c.in-Some.ensures in
    (no_more_taken (a_left_brace ∷ delimiter_of ∷ a_right_brace ∷ []) l m (text ++ []) taken, sized_in_braces l m text taken)

pub returns : goal.returns
returns c =
    let unbraced = c.in_default.ensures in
    bare_or_none (units_at c.args.self.now) (units_at c.take_braced_delimiter.new.self) unbraced.0 unbraced.1 (units_at c.take_delimiter.new.self) c.take_delimiter.result c.take_delimiter.ensures.next
