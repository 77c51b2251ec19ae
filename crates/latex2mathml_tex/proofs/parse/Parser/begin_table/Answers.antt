use Rattle.std.proofs.Common.{◌≡◌, ℕ, List, Some, ap, arith, refl, string_bytes, subst, sym, ◌∙◌}
use Rattle.latex2mathml_tex_grammar.specs.Environments as grammar
use Rattle.latex2mathml_tex_grammar.specs.Refusal.{UnknownEnvironment, refusal_at}
use Rattle.latex2mathml_tex_grammar.specs.Rules.{Rule, environment_rule}
use Rattle.latex2mathml_tex_grammar.specs.Scanning.{BeforeArgument, Name}
use Rattle.latex2mathml_tex_units.specs.Environments.{environment_of}
use Rattle.latex2mathml_tex.specs.{Levels.CoreMade, Levels.RuleLeads, Steps.BeginsIn, Steps.left_of, Steps.level}
use Rattle.latex2mathml_tex_atoms.specs.Models.{context_of}
use Rattle.latex2mathml_tex.proofs.{Leading.found, Leading.refused, Marks.core_refuses}
use Rattle.latex2mathml_tex.proofs.TableRules.{refused_behind, refused_behind_step, text_refused, text_step, text_taken, took_none, took_some}
use Rattle.latex2mathml_tex.proofs.parse.Parser.begin_table.Goals as goal

pub returns-in_default-clause-holds : goal.returns-in_default-clause-holds
returns-in_default-clause-holds c = λ s g.
    let p = c.args.self.now in
    let q = c.take_text.new.self in
    let none = took_none string_bytes c.args.place (BeforeArgument Name) p q _ c.in_default.is c.in_ok-name.ensures in
    text_refused p q c.args.place (BeforeArgument Name) s 0 (λ name. environment_rule c.args.place (context_of c.args.context) name (grammar.environment_of name)) none g.style g.leads

pub returns-in_default-look_up-clause-holds : goal.returns-in_default-look_up-clause-holds
returns-in_default-look_up-clause-holds c = λ s g.
    let p = c.args.self.now in
    let q = c.take_text.new.self in
    let place = c.args.place in
    let name = string_bytes c.in-Some.name in
    let took = took_some string_bytes place (BeforeArgument Name) p q _ c.in-Some.name c.in-Some.is c.in_ok-name.ensures in
    let rule : List ℕ → Rule = λ name. environment_rule place (context_of c.args.context) name (grammar.environment_of name) in
    let unknown = ap grammar.environment_of (sym c.as_str.ensures.value) ∙ c.in_default-look_up.ensures in
    let r = refusal_at (UnknownEnvironment name) place in
    let k = subst (λ e. RuleLeads (environment_rule place (context_of c.args.context) name e) (CoreMade (level 0 s p)) (left_of q)) unknown (found rule took.1 g.leads) in
    refused_behind p q place (BeforeArgument Name) name took c.refuse.new.self c.refuse.result _ c.refuse.ensures.parser c.refuse.ensures.state s 0 r refl g.style (core_refuses r (level 0 s p) (refused k))

pub returns-in_default-look_up-clause-step : goal.returns-in_default-look_up-clause-step
returns-in_default-look_up-clause-step c =
    let p = c.args.self.now in
    let q = c.take_text.new.self in
    let took = took_some string_bytes c.args.place (BeforeArgument Name) p q _ c.in-Some.name c.in-Some.is c.in_ok-name.ensures in
    refused_behind_step p q c.args.place (BeforeArgument Name) (string_bytes c.in-Some.name) took c.refuse.new.self c.refuse.result _ c.refuse.ensures.parser c.refuse.ensures.state c.requires.begin.elements

pub returns-clause-holds : goal.returns-clause-holds
returns-clause-holds c = λ s g.
    let p = c.args.self.now in
    let q = c.take_text.new.self in
    let place = c.args.place in
    let context = context_of c.args.context in
    let name = string_bytes c.in-Some.name in
    let e = c.in-Some-look_up.environment.now in
    let took = took_some string_bytes place (BeforeArgument Name) p q _ c.in-Some.name c.in-Some.is c.in_ok-name.ensures in
    let rule : List ℕ → Rule = λ name. environment_rule place context name (grammar.environment_of name) in
    let own : name ≡ e.name.now = sym (c.in-Some-look_up.ensures.1 ∙ c.as_str.ensures.value) in
    let known : grammar.environment_of name ≡ Some (environment_of e) = ap grammar.environment_of (sym c.as_str.ensures.value) ∙ c.in-Some-look_up.ensures.0 in
    let begins = text_taken p q place (BeforeArgument Name) name took s c.args.context rule g in
    let named = subst (λ k. BeginsIn c.args.context (environment_rule place context name k) 0 s q) known begins in
    c.begin_placed.ensures.holds s (subst (λ n. BeginsIn c.args.context (environment_rule place context n (Some (environment_of e))) 0 s q) own named)

pub returns-clause-step : goal.returns-clause-step
returns-clause-step c =
    let p = c.args.self.now in
    let q = c.take_text.new.self in
    let took = took_some string_bytes c.args.place (BeforeArgument Name) p q _ c.in-Some.name c.in-Some.is c.in_ok-name.ensures in
    text_step p q c.args.place (BeforeArgument Name) (string_bytes c.in-Some.name) took 13 c.begin_placed.new.self c.begin_placed.new.next c.begin_placed.result (omega arith) c.begin_placed.ensures.step
