use Rattle.std.proofs.Common.{ℕ, List, arith, string_bytes, subst, sym}
use Rattle.latex2mathml_tex_grammar.specs.Rules.{Rule, rows_rule}
use Rattle.latex2mathml_tex_grammar.specs.Scanning.{BeforeArgument, Number}
use Rattle.latex2mathml_tex_units.specs.Environments.{environment_of}
use Rattle.latex2mathml_tex_atoms.specs.Models.{context_of}
use Rattle.latex2mathml_tex.specs.Steps.{BeginsIn}
use Rattle.latex2mathml_tex.proofs.TableRules.{text_refused, text_step, text_taken, took_none, took_some}
use Rattle.latex2mathml_tex.proofs.parse.Parser.begin_numbered.Goals as goal

pub returns-in_default-clause-holds : goal.returns-in_default-clause-holds
returns-in_default-clause-holds c = λ s g.
    let p = c.args.self.now in
    let q = c.take_text.new.self in
    let e = c.args.environment.now in
    let none = took_none string_bytes c.args.place (BeforeArgument Number) p q _ c.in_default.is c.in_ok-_number.ensures in
    text_refused p q c.args.place (BeforeArgument Number) s 0 (λ number. rows_rule c.args.place (context_of c.args.context) e.name.now (environment_of e) (environment_of e).columns) none g.style g.leads

pub returns-clause-holds : goal.returns-clause-holds
returns-clause-holds c = λ s g.
    let p = c.args.self.now in
    let q = c.take_text.new.self in
    let e = c.args.environment.now in
    let place = c.args.place in
    let took = took_some string_bytes place (BeforeArgument Number) p q _ c.in-Some._number c.in-Some.is c.in_ok-_number.ensures in
    let rule : List ℕ → Rule = λ number. rows_rule place (context_of c.args.context) e.name.now (environment_of e) (environment_of e).columns in
    let begins = text_taken p q place (BeforeArgument Number) (string_bytes c.in-Some._number) took s c.args.context rule g in
    c.begin_rows.ensures.holds s (subst (λ k. BeginsIn c.args.context (rows_rule place (context_of c.args.context) e.name.now (environment_of e) k) 0 s q) (sym c.columns.ensures) begins)

pub returns-clause-step : goal.returns-clause-step
returns-clause-step c =
    let p = c.args.self.now in
    let q = c.take_text.new.self in
    let took = took_some string_bytes c.args.place (BeforeArgument Number) p q _ c.in-Some._number c.in-Some.is c.in_ok-_number.ensures in
    text_step p q c.args.place (BeforeArgument Number) (string_bytes c.in-Some._number) took 12 c.begin_rows.new.self c.begin_rows.new.next c.begin_rows.result (omega arith) c.begin_rows.ensures.step
