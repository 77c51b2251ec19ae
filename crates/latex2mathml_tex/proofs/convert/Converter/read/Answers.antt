use Rattle.std.proofs.Common.{refl}
use Rattle.std.specs.Str.{chars}
use Rattle.latex2mathml_tex_grammar.specs.Units.{Units}
use Rattle.latex2mathml_tex_commands.specs.Meanings.{style_of}
use Rattle.latex2mathml_tex_units.specs.Expanded.{expanded_text}
use Rattle.latex2mathml_tex.proofs.Answering.{come_at_last, expands_so, read_text, rows_next}
use Rattle.latex2mathml_tex.proofs.convert.Converter.read.Goals as goal

pub forms-preserved : goal.forms-preserved
forms-preserved c =
    rows_next c.forms.form (style_of c.style_for-style.result) (expanded_text c.args.macros.now (chars c.args.tex.now)) c.in_ok-read.read
    c.read_as.new.self.parser.refusal _ (c.is_to_be_rows.ensures.yes c.if-not-is_to_be_rows.false) c.in_ok-read.ensures

pub returns-then-not-is_to_be_rows : goal.returns-then-not-is_to_be_rows
returns-then-not-is_to_be_rows c = λ table same.
    let l : Units = expanded_text c.args.macros.now (chars c.args.tex.now) in
    let style = style_of c.style_for-style.result in
    read_text c.in_ok-read.read c.read_as.new.self.parser.refusal table c.args.tex.now l style _ _ (expands_so c.args.macros.now table (chars c.args.tex.now) l refl same) c.style_for-style.ensures
    (come_at_last c.forms.form style l c.in_ok-read.read c.read_as.new.self.parser.refusal _ c.forms.invariant (c.is_to_be_rows.ensures.no c.if-not-is_to_be_rows.true) c.in_ok-read.ensures)
