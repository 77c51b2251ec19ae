use Rattle.std.proofs.Common.{◌≡◌, ℕ, List, ap, arith, refl, length, nat_le, string_bytes, subst, sym, ◌∙◌, if◌then◌else◌}
use Rattle.latex2mathml_elements.specs.Columns.{density_in}
use Rattle.latex2mathml_tex_grammar.specs.Environments as grammar
use Rattle.latex2mathml_tex_grammar.specs.Refusal.{TooManyColumns, refusal_at}
use Rattle.latex2mathml_tex_grammar.specs.Rules.{Rule, listed_rule, most_columns, refuses, rows_rule}
use Rattle.latex2mathml_tex_grammar.specs.Scanning.{BeforeArgument, ColumnList}
use Rattle.latex2mathml_attributes.specs.Columns.{columns_of}
use Rattle.latex2mathml_tex_units.specs.Environments.{environment_of}
use Rattle.latex2mathml_tex.specs.{Levels.CoreMade, Levels.RuleLeads, Steps.BeginsIn, Steps.left_of, Steps.level}
use Rattle.latex2mathml_tex_atoms.specs.Models.{context_of}
use Rattle.latex2mathml_tex.proofs.{Leading.found, Leading.refused, Marks.core_refuses}
use Rattle.latex2mathml_tex.proofs.TableRules.{refused_behind, refused_behind_step, text_refused, text_step, text_taken, took_none, took_some}
use Rattle.latex2mathml_tex.proofs.parse.Parser.begin_listed.Goals as goal

pub returns-in_default-clause-holds : goal.returns-in_default-clause-holds
returns-in_default-clause-holds c = λ s g.
    let p = c.args.self.now in
    let q = c.take_text.new.self in
    let e = c.args.environment.now in
    let none = took_none string_bytes c.args.place (BeforeArgument ColumnList) p q _ c.in_default.is c.in_ok-text.ensures in
    text_refused p q c.args.place (BeforeArgument ColumnList) s 0 (λ text. listed_rule c.args.place (context_of c.args.context) e.name.now (environment_of e) (grammar.written_out text)) none g.style g.leads

pub returns-in_default-listed-clause-holds : goal.returns-in_default-listed-clause-holds
returns-in_default-listed-clause-holds c = λ s g.
    let p = c.args.self.now in
    let q = c.take_text.new.self in
    let e = c.args.environment.now in
    let place = c.args.place in
    let text = string_bytes c.in-Some.text in
    let signs = grammar.written_out text in
    let took = took_some string_bytes place (BeforeArgument ColumnList) p q _ c.in-Some.text c.in-Some.is c.in_ok-text.ensures in
    let rule : List ℕ → Rule = λ text. listed_rule place (context_of c.args.context) e.name.now (environment_of e) (grammar.written_out text) in
    let written : c.as_str.result.now ≡ signs = c.as_str.ensures.value ∙ c.in_ok-signs.ensures in
    let many = ap (λ k. nat_le (length (grammar.columns_of k)) most_columns) (sym written) ∙ c.in_default-listed.ensures in
    let r = refusal_at TooManyColumns place in
    let k = subst (λ b. RuleLeads (if b then rows_rule place (context_of c.args.context) e.name.now (environment_of e) (grammar.fitted (density_in (environment_of e).columns) (grammar.listed signs)) else refuses r) (CoreMade (level 0 s p)) (left_of q)) many (found rule took.1 g.leads) in
    refused_behind p q place (BeforeArgument ColumnList) text took c.refuse.new.self c.refuse.result _ c.refuse.ensures.parser c.refuse.ensures.state s 0 r refl g.style (core_refuses r (level 0 s p) (refused k))

pub returns-in_default-listed-clause-step : goal.returns-in_default-listed-clause-step
returns-in_default-listed-clause-step c =
    let p = c.args.self.now in
    let q = c.take_text.new.self in
    let took = took_some string_bytes c.args.place (BeforeArgument ColumnList) p q _ c.in-Some.text c.in-Some.is c.in_ok-text.ensures in
    refused_behind_step p q c.args.place (BeforeArgument ColumnList) (string_bytes c.in-Some.text) took c.refuse.new.self c.refuse.result _ c.refuse.ensures.parser c.refuse.ensures.state c.requires.begin.elements

pub returns-clause-holds : goal.returns-clause-holds
returns-clause-holds c = λ s g.
    let p = c.args.self.now in
    let q = c.take_text.new.self in
    let e = c.args.environment.now in
    let place = c.args.place in
    let text = string_bytes c.in-Some.text in
    let signs = grammar.written_out text in
    let took = took_some string_bytes place (BeforeArgument ColumnList) p q _ c.in-Some.text c.in-Some.is c.in_ok-text.ensures in
    let rule : List ℕ → Rule = λ text. listed_rule place (context_of c.args.context) e.name.now (environment_of e) (grammar.written_out text) in
    let written : c.as_str.result.now ≡ signs = c.as_str.ensures.value ∙ c.in_ok-signs.ensures in
    let few = ap (λ k. nat_le (length (grammar.columns_of k)) most_columns) (sym written) ∙ c.in-Some-listed.ensures.0 in
    let density = density_in (environment_of e).columns in
    let own : columns_of c.fitted-columns.result ≡ grammar.fitted density (grammar.listed signs) = c.fitted-columns.ensures ∙ ap (grammar.fitted density) (c.in-Some-listed.ensures.1 ∙ ap grammar.listed written) in
    let begins = text_taken p q place (BeforeArgument ColumnList) text took s c.args.context rule g in
    let rows = subst (λ b. BeginsIn c.args.context (if b then rows_rule place (context_of c.args.context) e.name.now (environment_of e) (grammar.fitted (density_in (environment_of e).columns) (grammar.listed signs)) else refuses (refusal_at TooManyColumns place)) 0 s q) few begins in
    c.begin_rows.ensures.holds s (subst (λ k. BeginsIn c.args.context (rows_rule place (context_of c.args.context) e.name.now (environment_of e) k) 0 s q) (sym own) rows)

pub returns-clause-step : goal.returns-clause-step
returns-clause-step c =
    let p = c.args.self.now in
    let q = c.take_text.new.self in
    let took = took_some string_bytes c.args.place (BeforeArgument ColumnList) p q _ c.in-Some.text c.in-Some.is c.in_ok-text.ensures in
    text_step p q c.args.place (BeforeArgument ColumnList) (string_bytes c.in-Some.text) took 12 c.begin_rows.new.self c.begin_rows.new.next c.begin_rows.result (omega arith) c.begin_rows.ensures.step
