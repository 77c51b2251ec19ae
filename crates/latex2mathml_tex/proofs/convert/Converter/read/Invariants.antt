use Rattle.std.proofs.Common.{ℕ}
use Rattle.std.specs.Str.{chars}
use Rattle.latex2mathml_tex_commands.specs.Meanings.{style_of}
use Rattle.latex2mathml_tex_units.specs.Expanded.{expanded_text}
use Rattle.latex2mathml_tex.specs.declared.parse.Form.{Form}
use Rattle.latex2mathml_tex.specs.declared.parse.Form.TheVariants as form
use Rattle.latex2mathml_tex.proofs.Answering.{MayBeRead}
use Rattle.latex2mathml_tex.proofs.convert.Converter.read.Given as goal

-- how many more times the formula may be read
abbrev forms_left : Form → ℕ
forms_left form.Atoms = 1
forms_left form.Rows = 0

abbrev pub invariant-forms : goal.invariant-forms
invariant-forms l = MayBeRead l.form (style_of l.style) (expanded_text l.macros (chars l.tex))

abbrev pub decreases-forms : goal.decreases-forms
decreases-forms l = forms_left l.form
