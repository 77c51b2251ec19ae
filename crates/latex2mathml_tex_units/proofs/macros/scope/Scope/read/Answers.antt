use Rattle.std.proofs.Common.{◌∙◌}
use Rattle.std.proofs.lemmas.Result.{err_from_is_err_and}
use Rattle.latex2mathml_tex_units.specs.{Defined.definition_in, Defined.word_of, Pending.pending_units, Taking.unit_of}
use Rattle.latex2mathml_tex_units.proofs.DefinitionTexts.{all_defined, leads_first, not_defined, text_defines, text_halted, text_smaller, text_stopped}
use Rattle.latex2mathml_tex_units.proofs.macros.scope.Scope.read.Goals as goal

pub definitions-init : goal.definitions-init
definitions-init c = leads_first _ (pending_units c.new-pending.result) c.new-scope.result c.new-scope.ensures.same c.new-scope.ensures.alone (c.new-pending.ensures ∙ c.new.ensures)

pub returns-in-End : goal.returns-in-End
returns-in-End c = all_defined _ (pending_units c.definitions.pending) (pending_units c.skip_prefixes.new.self) c.definitions.scope c.in-End.field-0 c.definitions.invariant c.skip_prefixes.ensures c.in-End.ensures.0

pub returns-in-Fault : goal.returns-in-Fault
returns-in-Fault c = text_stopped _ (pending_units c.definitions.pending) (pending_units c.skip_prefixes.new.self) c.definitions.scope _ c.definitions.invariant c.skip_prefixes.ensures c.in-Fault.ensures.0

pub returns-in_default : goal.returns-in_default
returns-in_default c = not_defined _ (pending_units c.definitions.pending) (pending_units c.skip_prefixes.new.self) (pending_units c.take.new.self) c.definitions.scope (unit_of c.in-Unit.unit) c.definitions.invariant c.skip_prefixes.ensures c.in-Unit.ensures c.in_default.ensures

pub returns-in_err-definition-in-Unit : goal.returns-in_err-definition-in-Unit
returns-in_err-definition-in-Unit c =
    let p = err_from_is_err_and c.from_residual.result c.from_residual.ensures.1 in
    rw (p.1, p.2) (text_halted c.in_err-definition-in-Unit.field-0.0 _ (pending_units c.definitions.pending) (pending_units c.skip_prefixes.new.self) (pending_units c.take.new.self) (pending_units c.take_definition.new.self) c.definitions.scope (unit_of c.in-Unit.unit) (word_of c.in-Some.word) c.definitions.invariant c.skip_prefixes.ensures c.in-Unit.ensures c.in-Some.ensures c.in_err-definition-in-Unit.ensures)

pub definitions-smaller : goal.definitions-smaller
definitions-smaller c = text_smaller (pending_units c.definitions.pending) (pending_units c.skip_prefixes.new.self) (pending_units c.take.new.self) (pending_units c.take_definition.new.self) (unit_of c.in-Unit.unit) (word_of c.in-Some.word) (definition_in c.in_ok-definition-in-Unit.definition) c.skip_prefixes.ensures c.in-Unit.ensures c.in_ok-definition-in-Unit.ensures

pub definitions-preserved : goal.definitions-preserved
definitions-preserved c = text_defines _ (pending_units c.definitions.pending) (pending_units c.skip_prefixes.new.self) (pending_units c.take.new.self) (pending_units c.take_definition.new.self) c.definitions.scope c.define.new.self (unit_of c.in-Unit.unit) (word_of c.in-Some.word) (definition_in c.in_ok-definition-in-Unit.definition) c.definitions.invariant c.skip_prefixes.ensures c.in-Unit.ensures c.in-Some.ensures c.in_ok-definition-in-Unit.ensures c.in_ok-define-in-Unit.ensures.same c.in_ok-define-in-Unit.ensures.outer
