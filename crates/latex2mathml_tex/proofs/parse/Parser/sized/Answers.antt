use Rattle.std.proofs.Common.{refl}
use Rattle.latex2mathml_attributes.specs.Names.{size_of}
use Rattle.latex2mathml_tex_grammar.specs.Rules.{a_sized_delimiter, gives}
use Rattle.latex2mathml_tex_grammar.specs.Makes
use Rattle.latex2mathml_tex_commands.specs.{Delimiters.delimiter_text, Meanings.class_of, Meanings.style_of}
use Rattle.latex2mathml_tex.proofs.{RuleSteps.no_delimiter_step, RuleSteps.part_stops, RuleSteps.past_part, Putting.core_put, Putting.core_step}
use Rattle.latex2mathml_tex.proofs.parse.Parser.sized.Goals as goal

pub returns-in_default-clause-holds : goal.returns-in_default-clause-holds
returns-in_default-clause-holds c = λ s g.
    let refusal = c.refuse_delimiter in
    part_stops c.args.self.now refusal.new.self c.take_sized_delimiter.new.self refusal.result c.in_default.ensures.0 refusal.ensures.parser refusal.ensures.state s a_sized_delimiter
    (λ text. gives (Makes.sized (style_of c.args.style) (size_of c.args.size) (class_of c.args.class) text)) c.in_default.ensures.1 refusal.ensures.refusal g

pub returns-in_default-clause-step : goal.returns-in_default-clause-step
returns-in_default-clause-step c =
    let refusal = c.refuse_delimiter in
    no_delimiter_step c.args.self.now refusal.new.self c.take_sized_delimiter.new.self refusal.result c.in_default.ensures.0 refusal.ensures.parser refusal.ensures.state refusal.ensures.units c.requires.begin

pub returns-clause-holds : goal.returns-clause-holds
returns-clause-holds c = λ s g.
    let p = c.args.self.now in
    let i = c.take_sized_delimiter.new.self in
    let text = delimiter_text c.in-Some.delimiter in
    let k = Makes.sized (style_of c.args.style) (size_of c.args.size) (class_of c.args.class) text in
    core_put s (record p { input = i }) c.put_big.new.builder c.new.result k.atom.element k c.in_ok-put_big.ensures (rw (c.new.ensures, c.of_size.ensures) refl) (past_part s p i a_sized_delimiter (λ text. gives (Makes.sized (style_of c.args.style) (size_of c.args.size) (class_of c.args.class) text)) text c.in-Some.ensures.1 g)

pub returns-clause-step : goal.returns-clause-step
returns-clause-step c =
    let p = c.args.self.now in
    let i = c.take_sized_delimiter.new.self in
    let text = delimiter_text c.in-Some.delimiter in
    let k = Makes.sized (style_of c.args.style) (size_of c.args.size) (class_of c.args.class) text in
    core_step p i c.put_big.new.builder c.new.result k.atom.element c.requires.begin c.in_ok-put_big.ensures c.in-Some.ensures.0
