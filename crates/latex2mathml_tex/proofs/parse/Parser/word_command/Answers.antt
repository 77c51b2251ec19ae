use Rattle.std.proofs.Common.{subst, ◌≡◌, ◌≤◌, ◌∙◌, None, Some, ap, arith, refl}
use Rattle.latex2mathml_tex_grammar.specs.Makes
use Rattle.latex2mathml_tex_grammar.specs.Rules.{command_rule}
use Rattle.latex2mathml_tex_grammar.specs.Refusal.{UnknownCommand, refusal_at}
use Rattle.latex2mathml_tex_grammar.specs.{Rows.single, Symbols.InText, Units.Command}
use Rattle.latex2mathml_tex_grammar.specs.Words.{Accented, Formula, Shown, font_in, with_accent_ended, word_space}
use Rattle.latex2mathml_tex_units.specs.{Errors.refusal_of, Left.unit_count, Left.units_at}
use Rattle.latex2mathml_tex.specs.{Steps.ShowsAtomOf, Steps.left_of, WordCommands.rule_of, WordCommands.word_of}
use Rattle.latex2mathml_tex_commands.specs.Meanings.{symbol_of}
use Rattle.latex2mathml_tex_grammar.proofs.Shrinking.{no_more_past_space}
use Rattle.latex2mathml_tex_atoms.specs.Models.{context_of}
use Rattle.latex2mathml_tex.proofs.Rows.{refused_step}
use Rattle.latex2mathml_tex.proofs.WordRules.{command_refused, command_step, forbidden_rule}
use Rattle.latex2mathml_tex.proofs.Wording.{accent_begun, atom_shown, in_alphabet_due, no_part, stands, words_stay, words_step}
use Rattle.latex2mathml_tex.proofs.parse.Parser.word_command.Goals as goal

pub returns-in-Character-clause-holds : goal.returns-in-Character-clause-holds
returns-in-Character-clause-holds c = λ s g.
    let k = context_of c.args.context in
    let name = c.args.name.now in
    let rule = c.of.ensures.rule k.alphabet ∙ ap (rule_of (font_in k.alphabet) name) c.in-Character.is in
    c.show.ensures.holds s (stands s c.args.self.now c.args.words (Command name) c.args.place k (Shown (font_in k.alphabet) (Makes.text c.in-Character.c)) rule g)

pub returns-in_ok-words-in-Accent : goal.returns-in_ok-words-in-Accent
returns-in_ok-words-in-Accent c =
    let p = c.args.self.now in
    let b = c.end_accent.new.builder in
    let k = context_of c.args.context in
    let name = c.args.name.now in
    let accent = c.in-Accent.accent in
    let after = c.in_ok-words-in-Accent.words in
    let r = c.in_ok-words-in-Accent.ensures in
    let rule = c.of.ensures.rule k.alphabet ∙ ap (rule_of (font_in k.alphabet) name) c.in-Accent.is in
    record {
      holds = λ s g. accent_begun s p b c.args.words after accent r (stands s p c.args.words (Command name) c.args.place k (Accented accent) rule g);
      step = words_step 13 with_accent_ended p b c.args.words after (record after { accent = Some accent }) (omega arith) refl r c.requires;
    }

pub returns-in-Space-clause-holds : goal.returns-in-Space-clause-holds
returns-in-Space-clause-holds c = λ s g.
    let k = context_of c.args.context in
    let name = c.args.name.now in
    let rule = c.of.ensures.rule k.alphabet ∙ ap (rule_of (font_in k.alphabet) name) c.in-Space.is in
    c.show-in-Space.ensures.holds s (stands s c.args.self.now c.args.words (Command name) c.args.place k (word_space (font_in k.alphabet)) rule g)

pub returns-in-Sign-clause-holds : goal.returns-in-Sign-clause-holds
returns-in-Sign-clause-holds c = λ s g.
    let k = context_of c.args.context in
    let name = c.args.name.now in
    let rule = c.of.ensures.rule k.alphabet ∙ ap (rule_of (font_in k.alphabet) name) c.in-Sign.is in
    let x = (single InText (Makes.symbol InText None (symbol_of c.in-Sign.symbol)).atom).element in
    c.show_symbol.ensures.holds s (stands s c.args.self.now c.args.words (Command name) c.args.place k (Formula x) rule g)

pub returns-in-Words-clause-holds : goal.returns-in-Words-clause-holds
returns-in-Words-clause-holds c = λ s g.
    let k = context_of c.args.context in
    let name = c.args.name.now in
    let rule = c.of.ensures.rule k.alphabet ∙ ap (rule_of (font_in k.alphabet) name) c.in-Words.is in
    in_alphabet_due s c.args.self.now c.args.words (Command name) c.args.place k c.skip_space.new.self (record c.args.context { alphabet = c.in-Words.alphabet }) c.skip_space.ensures.left refl rule g

pub returns-in-Words-clause-step : goal.returns-in-Words-clause-step
returns-in-Words-clause-step c =
    let p = c.args.self.now in
    let less : unit_count (units_at c.skip_space.new.self) ≤ unit_count (left_of p) = rw c.skip_space.ensures.left (no_more_past_space (left_of p)) in
    record {
      ready = record { elements = omega (arith, c.requires.elements); may_come = record { accepted = c.requires.awaits.accepted; nested = c.requires.awaits.nested } };
      falls = omega (arith, less);
    }

pub returns-in-Change-clause-holds : goal.returns-in-Change-clause-holds
returns-in-Change-clause-holds c = λ s g.
    let k = context_of c.args.context in
    let name = c.args.name.now in
    let rule = c.of.ensures.rule k.alphabet ∙ ap (rule_of (font_in k.alphabet) name) c.in-Change.is in
    words_stay s c.args.self.now c.args.words c.in-Change.field-0 (stands s c.args.self.now c.args.words (Command name) c.args.place k (word_of c.in-Change.field-0) rule g)

pub returns-in-Change-clause-step : goal.returns-in-Change-clause-step
returns-in-Change-clause-step c = record { ready = record { elements = c.requires.elements; may_come = c.requires.awaits }; falls = omega arith }

pub returns-in-Box : goal.returns-in-Box
returns-in-Box c =
    let p = c.args.self.now in
    let q = c.refuse_command.new.self in
    let k = context_of c.args.context in
    let name = c.args.name.now in
    let says = c.refuse_command.ensures in
    let rule = c.of.ensures.rule k.alphabet ∙ forbidden_rule (font_in k.alphabet) name c.of.result c.in-Box.is in
    record {
      holds = λ s g. command_refused p q says.parser s c.args.words name c.args.place k c.refuse_command.new.next c.refuse_command.result says.state says.refusal rule g;
      step = command_step p q says.parser c.args.words.count c.refuse_command.new.next c.refuse_command.result says.state c.requires.elements;
    }

pub returns-in_ok-name-in-Unknown-clause-holds : goal.returns-in_ok-name-in-Unknown-clause-holds
returns-in_ok-name-in-Unknown-clause-holds c = λ s g.
    let p = c.args.self.now in
    let q = c.refuse.new.self in
    let k = context_of c.args.context in
    let name = c.args.name.now in
    let reason : refusal_of q.refusal ≡ Some (refusal_at (UnknownCommand name) c.args.place) =
    rw c.refuse.ensures.parser (ap (λ t. Some (refusal_at (UnknownCommand t) c.args.place)) c.in_ok-name-in-Unknown.ensures.ok) in
    let rule = c.of.ensures.rule k.alphabet ∙ ap (rule_of (font_in k.alphabet) name) c.in-Unknown.is in
    rw c.refuse.ensures.state (no_part s p c.args.words (Command name) c.args.place k q (UnknownCommand name) (rw c.refuse.ensures.parser refl) reason rule g)

pub returns-in_ok-name-in-Unknown-clause-step : goal.returns-in_ok-name-in-Unknown-clause-step
returns-in_ok-name-in-Unknown-clause-step c =
    refused_step c.args.self.now c.refuse.new.self c.args.self.now.input _ c.refuse.result c.refuse.ensures.parser c.refuse.ensures.state (omega arith) (omega (arith, c.requires.elements))

pub returns-in-Atom-clause-holds : goal.returns-in-Atom-clause-holds
returns-in-Atom-clause-holds c = λ s g.
    let k = context_of c.args.context in
    let name = c.args.name.now in
    let rule = c.of.ensures.rule k.alphabet ∙ ap (rule_of (font_in k.alphabet) name) c.in-Atom.is in
    let means = c.of.ensures.atom c.in-Atom.meaning c.in-Atom.is in
    c.atom_in_words.ensures.holds s (subst (λ m. ShowsAtomOf c.args.words (command_rule c.args.place k name m) s c.args.self.now) means (atom_shown s c.args.self.now c.args.words name c.args.place k rule g))
