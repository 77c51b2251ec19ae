use Rattle.std.proofs.Common.{ℕ, List, ap, arith, refl, string_bytes, subst, sym, ◌∙◌}
use Rattle.std.specs.Str.{bytes_eq}
use Rattle.latex2mathml_tex_grammar.specs.Refusal.{OtherName, refusal_at}
use Rattle.latex2mathml_tex_grammar.specs.Rules.{Rule, ended_table}
use Rattle.latex2mathml_tex_grammar.specs.Scanning.{BeforeArgument, Name}
use Rattle.latex2mathml_attributes.specs.Columns.{columns_of}
use Rattle.latex2mathml_tex_units.specs.Environments.{environment_of}
use Rattle.latex2mathml_tex.specs.{Frames.context_at, Levels.CoreMade, Levels.RuleLeads, Steps.left_of, Steps.level}
use Rattle.latex2mathml_tex.proofs.{Leading.found, Leading.refused, Marks.core_refuses}
use Rattle.latex2mathml_tex.proofs.TableRules.{ended_well, refused_behind, refused_behind_within, text_refused, text_within, took_none, took_some}
use Rattle.latex2mathml_tex.proofs.parse.Parser.end_environment.Goals as goal

pub returns-in_default-clause-holds : goal.returns-in_default-clause-holds
returns-in_default-clause-holds c = λ s g.
    let p = c.args.self.now in
    let q = c.take_text.new.self in
    let e = c.args.environment.now in
    let around = context_at (level c.args.rows s p) in
    let none = took_none string_bytes c.args.at (BeforeArgument Name) p q _ c.in_default.is c.in_ok-name.ensures in
    text_refused p q c.args.at (BeforeArgument Name) s c.args.rows (λ other. ended_table c.args.at around (environment_of e) (columns_of c.args.columns) g.lines (bytes_eq other e.name.now)) none g.style g.leads

pub returns-then-eq-clause-holds : goal.returns-then-eq-clause-holds
returns-then-eq-clause-holds c = λ s g.
    let p = c.args.self.now in
    let q = c.take_text.new.self in
    let e = c.args.environment.now in
    let took = took_some string_bytes c.args.at (BeforeArgument Name) p q _ c.in-Some.name c.in-Some.is c.in_ok-name.ensures in
    let same = ap (λ n. bytes_eq n e.name.now) (sym c.as_str.ensures.value) ∙ sym c.eq.ensures ∙ c.if-eq.true in
    c.make_table.ensures.holds s (ended_well p q c.args.environment c.args.columns c.args.rows c.args.at (string_bytes c.in-Some.name) took s same g)

pub returns-then-eq-clause-step : goal.returns-then-eq-clause-step
returns-then-eq-clause-step c =
    let p = c.args.self.now in
    let q = c.take_text.new.self in
    let took = took_some string_bytes c.args.at (BeforeArgument Name) p q _ c.in-Some.name c.in-Some.is c.in_ok-name.ensures in
    text_within p q c.args.at (BeforeArgument Name) (string_bytes c.in-Some.name) took 5 5 c.make_table.new.self c.make_table.new.next c.make_table.result (omega arith) c.make_table.ensures.step

pub returns-clause-holds : goal.returns-clause-holds
returns-clause-holds c = λ s g.
    let p = c.args.self.now in
    let q = c.take_text.new.self in
    let e = c.args.environment.now in
    let around = context_at (level c.args.rows s p) in
    let name = string_bytes c.in-Some.name in
    let took = took_some string_bytes c.args.at (BeforeArgument Name) p q _ c.in-Some.name c.in-Some.is c.in_ok-name.ensures in
    let other = ap (λ n. bytes_eq n e.name.now) (sym c.as_str.ensures.value) ∙ sym c.eq.ensures ∙ c.if-eq.false in
    let rule : List ℕ → Rule = λ other. ended_table c.args.at around (environment_of e) (columns_of c.args.columns) g.lines (bytes_eq other e.name.now) in
    let r = refusal_at OtherName c.args.at in
    let k = subst (λ b. RuleLeads (ended_table c.args.at around (environment_of e) (columns_of c.args.columns) g.lines b) (CoreMade (level c.args.rows s p)) (left_of q)) other (found rule took.1 g.leads) in
    refused_behind p q c.args.at (BeforeArgument Name) name took c.refuse.new.self c.refuse.result _ c.refuse.ensures.parser c.refuse.ensures.state s c.args.rows r refl g.style (core_refuses r (level c.args.rows s p) (refused k))

pub returns-clause-step : goal.returns-clause-step
returns-clause-step c =
    let p = c.args.self.now in
    let q = c.take_text.new.self in
    let took = took_some string_bytes c.args.at (BeforeArgument Name) p q _ c.in-Some.name c.in-Some.is c.in_ok-name.ensures in
    refused_behind_within p q c.args.at (BeforeArgument Name) (string_bytes c.in-Some.name) took c.refuse.new.self c.refuse.result _ c.refuse.ensures.parser c.refuse.ensures.state 5 (omega arith) (omega (arith, c.requires.can.elements))
