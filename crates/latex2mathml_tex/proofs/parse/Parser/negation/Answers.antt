use Rattle.std.proofs.Common.{◌≡◌, ◌∙◌, [], ◌∷◌, Some, ap, append-nil, refl, sym}
use Rattle.std.specs.Char.{encode_utf8}
use Rattle.latex2mathml_builder.specs.Built.{elements_in}
use Rattle.latex2mathml_tex_grammar.specs.{Delimiters.negated_of, Makes.core, Makes.relation, Makes.struck}
use Rattle.latex2mathml_tex_grammar.specs.Rules.{gives, reads_core, struck_atom}
use Rattle.latex2mathml_tex_commands.specs.Delimiters.{delimiter_text}
use Rattle.latex2mathml_tex_units.specs.Left.{units_at}
use Rattle.latex2mathml_tex_atoms.specs.Models.{context_of}
use Rattle.latex2mathml_tex.specs.Steps.{elements_of, left_of}
use Rattle.latex2mathml_tex_units.proofs.Nexts.{no_more_taken}
use Rattle.latex2mathml_tex.proofs.{RuleSteps.begun, Leading.core_due, Putting.core_put, Putting.core_step, Putting.past_none, Putting.past_units}
use Rattle.latex2mathml_tex.proofs.parse.Parser.negation.Goals as goal

pub returns-in-Some-clause-holds : goal.returns-in-Some-clause-holds
returns-in-Some-clause-holds c = λ s g.
    let p = c.args.self.now in
    let i = c.take_negated.new.self in
    let text = delimiter_text (Some c.in-Some.sign) in
    let k = core (relation text) in
    let put = rw c.plain.ensures at c.in_ok-character.ensures.elements in
    let elements : elements_in c.character.new.self ≡ k.atom.element ∷ elements_of p = put ∙ ap (λ t. (relation t).element ∷ elements_of p) (sym (append-nil (encode_utf8 c.in-Some.sign))) in
    core_put s (record p { input = i }) c.character.new.self c.new.result k.atom.element k elements (rw c.new.ensures refl) (past_units s p i (λ sign_text. gives (core (relation sign_text))) text c.in-Some.ensures (begun g))

pub returns-in-Some-clause-step : goal.returns-in-Some-clause-step
returns-in-Some-clause-step c =
    let p = c.args.self.now in
    let i = c.take_negated.new.self in
    core_step p i c.character.new.self c.new.result _ c.requires.begin c.in_ok-character.ensures.elements (no_more_taken (negated_of ∷ []) (left_of p) (units_at i) (delimiter_text (Some c.in-Some.sign)) c.in-Some.ensures)

pub returns-clause-holds : goal.returns-clause-holds
returns-clause-holds c = λ s g.
    let stroke = past_none s c.args.self.now c.take_negated.new.self (reads_core c.args.place (context_of c.args.context) (λ x. struck_atom c.args.place x (struck x.atom.element))) c.in_default.ensures.0 c.in_default.ensures.1 (begun g) in
    c.open.ensures.holds s g.style (core_due (λ x. struck_atom c.args.place x (struck x.atom.element)) stroke.leads)
