use Rattle.std.proofs.Common.{◌≡◌, ◌∙◌, Some, refl, sym, arith}
use Rattle.latex2mathml_tex_grammar.specs.Makes
use Rattle.latex2mathml_tex_grammar.specs.{Refusal.CharacterInWords, Refusal.refusal_at, Units.Character}
use Rattle.latex2mathml_tex_grammar.specs.Words.{Shown, font_in, word_character, word_space}
use Rattle.latex2mathml_tex_units.specs.Errors.{refusal_of}
use Rattle.latex2mathml_tex_atoms.specs.Models.{context_of}
use Rattle.latex2mathml_tex.proofs.WordRules.{character_rule, dollar_rule, formula_begun, no_word_rule, tilde_rule}
use Rattle.latex2mathml_tex.proofs.Wording.{no_part, stands}
use Rattle.latex2mathml_tex.proofs.Rows.{refused_step, step_within}
use Rattle.latex2mathml_tex.proofs.parse.Parser.character_in_words.Goals as goal

pub returns-then-c-eq36-clause-holds : goal.returns-then-c-eq36-clause-holds
returns-then-c-eq36-clause-holds c = λ s g.
    let k = context_of c.args.context in
    let piece = Character c.args.c in
    c.open.ensures.holds s g.style (formula_begun s c.args.self.now c.args.words c.args.place c.end_accent.new.builder c.in_ok-words.words piece k c.formula_context.result c.begun.result c.formula_context.ensures c.in_ok-words.ensures c.begun.ensures (dollar_rule k.alphabet c.args.c c.if-c-eq36.true) g)

pub returns-then-c-eq126-clause-holds : goal.returns-then-c-eq126-clause-holds
returns-then-c-eq126-clause-holds c = λ s g.
    let k = context_of c.args.context in
    c.show.ensures.holds s (stands s c.args.self.now c.args.words (Character c.args.c) c.args.place k (word_space (font_in k.alphabet)) (tilde_rule k.alphabet c.args.c c.if-c-eq126.true) g)

pub returns-then-is_no_word-clause-holds : goal.returns-then-is_no_word-clause-holds
returns-then-is_no_word-clause-holds c = λ s g.
    let p = c.args.self.now in
    let q = c.refuse.new.self in
    let k = context_of c.args.context in
    let rule = no_word_rule k.alphabet c.args.c c.if-c-eq36.false c.if-c-eq126.false (sym c.is_no_word.ensures ∙ c.if-is_no_word.true) in
    let reason : refusal_of q.refusal ≡ Some (refusal_at (CharacterInWords c.args.c) c.args.place) = rw c.refuse.ensures.parser refl in
    rw c.refuse.ensures.state (no_part s p c.args.words (Character c.args.c) c.args.place k q (CharacterInWords c.args.c) (rw c.refuse.ensures.parser refl) reason rule g)

pub returns-clause-holds : goal.returns-clause-holds
returns-clause-holds c = λ s g.
    let k = context_of c.args.context in
    let word = Shown (font_in k.alphabet) (Makes.text (word_character k.alphabet c.args.c)) in
    let rule = character_rule k.alphabet c.args.c c.if-c-eq36.false c.if-c-eq126.false (sym c.is_no_word.ensures ∙ c.if-is_no_word.false) in
    c.show-2.ensures.holds s (rw c.word_character.ensures (stands s c.args.self.now c.args.words (Character c.args.c) c.args.place k word rule g))

pub returns-then-c-eq36-clause-step : goal.returns-then-c-eq36-clause-step
returns-then-c-eq36-clause-step c = step_within c.args.self.now (record c.args.self.now { builder = c.end_accent.new.builder }) c.open.new.self c.open.new.next c.open.result 6 13 (omega arith) c.open.ensures.step

pub returns-then-is_no_word-clause-step : goal.returns-then-is_no_word-clause-step
returns-then-is_no_word-clause-step c =
    refused_step c.args.self.now c.refuse.new.self c.args.self.now.input _ c.refuse.result c.refuse.ensures.parser c.refuse.ensures.state (omega arith) (omega (arith, c.requires.elements))
