use Rattle.std.proofs.Common.{◌≡◌, ◌+◌, None, ap, drop, refl}
use Rattle.latex2mathml_builder.specs.Built.{elements_in}
use Rattle.latex2mathml_tex_grammar.specs.{Rows.single, Symbols.InText, Words.with_accent_ended}
use Rattle.latex2mathml_tex_grammar.specs.Makes
use Rattle.latex2mathml_tex_grammar.specs.Rows
use Rattle.latex2mathml_tex_commands.specs.Meanings.{symbol_of}
use Rattle.latex2mathml_tex_atoms.specs.Models.{row_with}
use Rattle.latex2mathml_tex_atoms.specs.declared.atoms.Row.{Row}
use Rattle.latex2mathml_tex.proofs.Wording.{formula_put, replaced_can, symbol_row, word_step}
use Rattle.latex2mathml_tex.proofs.parse.Parser.show_symbol.Goals as goal

pub returns : goal.returns
returns c =
    let p = c.args.self.now in
    let after = c.in_ok-words.words in
    let ended = c.end_accent.new.builder in
    let r = c.in_ok-words.ensures in
    let k = Makes.symbol InText None (symbol_of c.args.symbol) in
    let put = elements_in c.put_symbol.new.builder in
    let made = elements_in c.with_atom.new.builder in
    let whole = elements_in c.put_row.new.builder in
    let zero_count = ap (λ (r : Row). r.count) c.empty.ensures in
    let empty : row_with c.empty.result (drop 1 put) ≡ Rows.empty_row = rw c.empty.ensures refl in
    let e = symbol_row c.in_ok-core.core k (elements_in ended) put made whole c.empty.result c.in_ok-row.row (rw c.new.ensures at c.in_ok-core.ensures) zero_count empty c.in_ok-row.ensures.row c.in_ok-row.ensures.below c.in_ok-put_row.ensures in
    let n = after.count in
    let x = (single InText k.atom).element in
    let can = replaced_can with_accent_ended p ended c.args.words after r c.requires in
    record {
      holds = λ s g. rw c.of.ensures (formula_put s p ended c.put_row.new.builder c.args.words after x r e g);
      step = rw c.of.ensures (word_step (record p { builder = ended }) c.put_row.new.builder n (record { count = n + 1; last = None; accent = None }) x can refl e);
    }
