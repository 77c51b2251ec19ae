use Rattle.std.proofs.Common.{ℕ, List, arith, string_bytes}
use Rattle.latex2mathml_elements.specs.Columns.{Alike, Centered, Dense}
use Rattle.latex2mathml_tex_grammar.specs.Rules.{ByBrace, Rule, gives, reads_rows, styled}
use Rattle.latex2mathml_tex_grammar.specs.Scanning.{BeforeBrace}
use Rattle.latex2mathml_tex_grammar.specs.Symbols.{InScript}
use Rattle.latex2mathml_tex_grammar.specs.Tables.{a_table}
use Rattle.latex2mathml_tex_atoms.specs.Models.{context_of}
use Rattle.latex2mathml_tex.proofs.TableRules.{substack_begins, text_refused, text_step, text_taken, took_none, took_some}
use Rattle.std.proofs.Common.{None}
use Rattle.latex2mathml_tex.proofs.parse.Parser.begin_substack.Goals as goal

pub returns-in_default-clause-holds : goal.returns-in_default-clause-holds
returns-in_default-clause-holds c = λ s g.
    let p = c.args.self.now in
    let q = c.take_text.new.self in
    let context = context_of c.args.context in
    let none = took_none string_bytes c.args.place BeforeBrace p q _ c.in_default.is c.in_ok-_brace.ensures in
    text_refused p q c.args.place BeforeBrace s 0 (λ brace. reads_rows ByBrace c.args.place (Alike Dense Centered) (styled context InScript) (λ lines end. gives (a_table None (Alike Dense Centered) InScript context.style lines))) none g.style g.leads

pub returns-clause-holds : goal.returns-clause-holds
returns-clause-holds c = λ s g.
    let p = c.args.self.now in
    let q = c.take_text.new.self in
    let place = c.args.place in
    let context = context_of c.args.context in
    let took = took_some string_bytes place BeforeBrace p q _ c.in-Some._brace c.in-Some.is c.in_ok-_brace.ensures in
    let rule : List ℕ → Rule = λ brace. reads_rows ByBrace place (Alike Dense Centered) (styled context InScript) (λ lines end. gives (a_table None (Alike Dense Centered) InScript context.style lines)) in
    let begins = text_taken p q place BeforeBrace (string_bytes c.in-Some._brace) took s c.args.context rule g in
    c.begin_first_cell.ensures.holds s (substack_begins s q place c.args.context begins)

pub returns-clause-step : goal.returns-clause-step
returns-clause-step c =
    let p = c.args.self.now in
    let q = c.take_text.new.self in
    let took = took_some string_bytes c.args.place BeforeBrace p q _ c.in-Some._brace c.in-Some.is c.in_ok-_brace.ensures in
    text_step p q c.args.place BeforeBrace (string_bytes c.in-Some._brace) took 12 c.begin_first_cell.new.self c.begin_first_cell.new.next c.begin_first_cell.result (omega arith) c.begin_first_cell.ensures.step
