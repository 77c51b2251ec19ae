use Rattle.std.proofs.Common.{◌≡◌, ◌∙◌, ◌∷◌, [], arith, false, option_map, refl, subst, sym, true}
use Rattle.std.specs.Char.{is_ascii_alphabetic, is_ascii_digit}
use Rattle.latex2mathml_tex_grammar.specs.Makes
use Rattle.latex2mathml_tex_grammar.specs.Makes.{core}
use Rattle.latex2mathml_tex_commands.specs.Meanings.{alphabet_of, style_of, symbol_of}
use Rattle.latex2mathml_tex_atoms.specs.Models.{context_of}
use Rattle.latex2mathml_tex.specs.{RowSymbols.lone_scripts, RowCharacters.is_symbol, Steps.Begins}
use Rattle.latex2mathml_tex.specs.declared.parse.Parser.{Parser}
use Rattle.latex2mathml_tex.proofs.RowCharacters.{digit_is_plain, digit_rule, lone_digit_begins, letter_is_plain, letter_rule, one_less, scripts_due, scripts_follow, still_innermost, symbol_begins, symbol_is_plain, symbol_put, symbol_rule}
use Rattle.latex2mathml_tex.proofs.RuleSteps.{begun}
use Rattle.latex2mathml_tex.proofs.parse.Parser.character_in_row.Goals as goal

pub returns-then-may_continue_number : goal.returns-then-may_continue_number
returns-then-may_continue_number c =
    let p = c.args.self.now in
    let k = c.args.context in
    let i = c.advance.new.self in
    let q : Parser = record p { input = i } in
    let new = c.number.new.self in
    let number = c.in_ok-number.number in
    let (u, there, is) = c.requires.next in
    let digit : is_ascii_digit c.args.c ≡ true = sym c.is_ascii_digit.ensures.value ∙ c.if-is_ascii_digit.true in
    let row = still_innermost q new k c.in_ok-number.ensures.frames c.requires.row in
    let due = scripts_due new k row number _ c.in_ok-number.ensures.step in
    record {
      holds = λ s h.
          let begins = symbol_begins p i u c.args.c there is c.advance.ensures.left s k c.requires.row (digit_is_plain c.args.c digit) h in
          let held = c.in_ok-number.ensures.holds s (k, refl, subst (λ r. Begins r 0 s q) (digit_rule (context_of k) c.args.c u.place digit) (begun begins)) in
          scripts_follow new k row number (lone_scripts number) refl s held;
      step = record { ready = due.ready; falls = omega (arith, due.falls, one_less p i u there c.advance.ensures.left) };
    }

pub returns-then-is_ascii_digit : goal.returns-then-is_ascii_digit
returns-then-is_ascii_digit c =
    let p = c.args.self.now in
    let k = c.args.context in
    let i = c.advance.new.self in
    let q : Parser = record p { input = i } in
    let (u, there, is) = c.requires.next in
    let digit : is_ascii_digit c.args.c ≡ true = sym c.is_ascii_digit.ensures.value ∙ c.if-is_ascii_digit.true in
    let made = core (Makes.number (option_map alphabet_of k.alphabet) (c.args.c ∷ [])) in
    symbol_put p i c.begin_number.new.builder k c.requires.row (one_less p i u there c.advance.ensures.left) c.number-then-is_ascii_digit.result made
    (record { element = c.in_ok-begin_number.ensures; is = c.number-then-is_ascii_digit.ensures _ })
    (λ s h. lone_digit_begins s q (context_of k) c.args.c (c.may_continue_number.ensures c.if-may_continue_number.false) (subst (λ r. Begins r 0 s q) (digit_rule (context_of k) c.args.c u.place digit) (begun (symbol_begins p i u c.args.c there is c.advance.ensures.left s k c.requires.row (digit_is_plain c.args.c digit) h))))
    c.requires.ready

pub returns-then-is_ascii_alphabetic : goal.returns-then-is_ascii_alphabetic
returns-then-is_ascii_alphabetic c =
    let p = c.args.self.now in
    let k = c.args.context in
    let i = c.advance-then-is_ascii_alphabetic.new.self in
    let (u, there, is) = c.requires.next in
    let no_digit : is_ascii_digit c.args.c ≡ false = sym c.is_ascii_digit.ensures.value ∙ c.if-is_ascii_digit.false in
    let alphabetic : is_ascii_alphabetic c.args.c ≡ true = sym c.is_ascii_alphabetic.ensures.value ∙ c.if-is_ascii_alphabetic.true in
    let drawn = core (Makes.letter (option_map alphabet_of k.alphabet) c.args.c) in
    symbol_put p i c.put_letter.new.builder k c.requires.row (one_less p i u there c.advance-then-is_ascii_alphabetic.ensures.left) c.in_ok-letter.letter drawn c.in_ok-letter.ensures
    (λ s h. subst (λ r. Begins r 0 s (record p { input = i })) (letter_rule (context_of k) c.args.c u.place no_digit alphabetic) (begun (symbol_begins p i u c.args.c there is c.advance-then-is_ascii_alphabetic.ensures.left s k c.requires.row (letter_is_plain c.args.c alphabetic) h)))
    c.requires.ready

pub returns : goal.returns
returns c =
    let p = c.args.self.now in
    let k = c.args.context in
    let i = c.advance-2.new.self in
    let (u, there, is) = c.requires.next in
    let no_digit : is_ascii_digit c.args.c ≡ false = sym c.is_ascii_digit.ensures.value ∙ c.if-is_ascii_digit.false in
    let no_letter : is_ascii_alphabetic c.args.c ≡ false = sym c.is_ascii_alphabetic.ensures.value ∙ c.if-is_ascii_alphabetic.false in
    let plain : is_symbol c.args.c ≡ true = sym c.is_symbol.ensures ∙ c.if-is_symbol.true in
    let symbol = symbol_of c.in-Some.symbol in
    let drawn = Makes.symbol (style_of k.style) (option_map alphabet_of k.alphabet) symbol in
    symbol_put p i c.put_symbol.new.builder k c.requires.row (one_less p i u there c.advance-2.ensures.left) c.in_ok-sign.sign drawn c.in_ok-sign.ensures
    (λ s h. subst (λ r. Begins r 0 s (record p { input = i })) (symbol_rule (context_of k) c.args.c u.place no_digit symbol no_letter plain c.in-Some.ensures) (begun (symbol_begins p i u c.args.c there is c.advance-2.ensures.left s k c.requires.row (symbol_is_plain c.args.c plain) h)))
    c.requires.ready
