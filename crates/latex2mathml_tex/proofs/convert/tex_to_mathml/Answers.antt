use Rattle.std.proofs.Common.{refl}
use Rattle.latex2mathml_tex_units.specs.MacroTables.{macros_in}
use Rattle.latex2mathml_tex.specs.Answers.{IsAnswer, style_in}
use Rattle.latex2mathml_tex.proofs.Answering.{appended, no_dollar, one_element, sound_text}
use Rattle.latex2mathml_tex.proofs.convert.tex_to_mathml.Goals as goal

pub returns-clause-answer : goal.returns-clause-answer
returns-clause-answer c = λ table same.
    appended (IsAnswer table c.args.tex.now (style_in c.args.display)) _ _ c.new-markup.ensures.bytes (c.in_ok-append.ensures.answer table same)

pub returns-clause-element : goal.returns-clause-element
returns-clause-element c =
    let table = macros_in c.args.macros.now in
    let style = style_in c.args.display in
    one_element table c.args.tex.now style _ (appended (IsAnswer table c.args.tex.now style) _ _ c.new-markup.ensures.bytes (c.in_ok-append.ensures.answer table (λ name. refl)))

pub returns-clause-characters : goal.returns-clause-characters
returns-clause-characters c = λ (definitions, table, defines, same).
    let style = style_in c.args.display in
    sound_text definitions table c.args.tex.now style _ defines (appended (IsAnswer table c.args.tex.now style) _ _ c.new-markup.ensures.bytes (c.in_ok-append.ensures.answer table same))

pub returns-clause-dollars : goal.returns-clause-dollars
returns-clause-dollars c =
    let table = macros_in c.args.macros.now in
    let style = style_in c.args.display in
    no_dollar table c.args.tex.now style _ (appended (IsAnswer table c.args.tex.now style) _ _ c.new-markup.ensures.bytes (c.in_ok-append.ensures.answer table (λ name. refl)))
