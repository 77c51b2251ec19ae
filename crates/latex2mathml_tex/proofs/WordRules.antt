-- What characters and commands are in words, and what holds of the parser after them.
use Rattle.std.proofs.Common.{◌⊎◌, inl, inr, ◌≡◌, ◌==◌, ◌+◌, ◌||◌, ◌++◌, ◌∷◌, [], Bool, ℕ, true, false, drop, Err, List, Ok, Option, Result, Some, refl, subst, sym, take, ap, arith}
use Rattle.std.proofs.lemmas.Bool.Decides.{nat_tests}
use Rattle.std.specs.Prelude.{OnOk, ⊤}
use Rattle.std.specs.Str.{byte}
use Rattle.std.specs.declared.alloc.AllocError.{AllocError}
use Rattle.latex2mathml_tex_grammar.specs.{Makes.text, Reading.Read, Symbols.Alphabet}
use Rattle.latex2mathml_tex_grammar.specs.Refusal.{CharacterInWords, CommandInWords, refusal_at}
use Rattle.latex2mathml_tex_grammar.specs.Units as grammar
use Rattle.latex2mathml_tex_grammar.specs.Units.{Character, Command, Open, Piece}
use Rattle.latex2mathml_builder.specs.Built.{Built, elements_in}
use Rattle.latex2mathml_tex_atoms.specs.Wording.{Replaced}
use Rattle.latex2mathml_tex_grammar.specs.Words as words
use Rattle.latex2mathml_tex_grammar.specs.Words.{Font, with_accent_ended, BeginsFormula, IsWord, NoWord, Shown, font_in, word_character, word_rule, word_space}
use Rattle.latex2mathml_tex_units.specs.Errors.{refusal_of}
use Rattle.latex2mathml_tex_grammar.specs.Rules.{Context, formula_in_words}
use Rattle.latex2mathml_tex.specs.{Frames.Start, Levels.Leads, Levels.PartMade}
use Rattle.latex2mathml_tex_atoms.specs.Models.{begun, context_of, words_with}
use Rattle.latex2mathml_tex.specs.Steps.{BeginsWordOf, GoesOnInBraces, HasElements, Holds, Advances, elements_of, left_of, level, level_within}
use Rattle.latex2mathml_tex_atoms.specs.declared.{atoms.Context.Context as CodeContext, atoms.Row.Row as CodeRow, atoms.Words.Words as CodeWords}
use Rattle.latex2mathml_tex.specs.declared.{parse.Parser.Parser, parse.State.State, parse.frames.Frames.Frames}
use Rattle.latex2mathml_tex.specs.WordCommands.{rule_of}
use Rattle.latex2mathml_tex.specs.declared.parse.word_commands.{WordBox.WordBox, WordCommand.WordCommand}
use Rattle.latex2mathml_tex.specs.declared.parse.word_commands.WordCommand.TheVariants as word_commands
use Rattle.latex2mathml_tex.specs.declared.parse.State.TheVariants as state
use Rattle.latex2mathml_tex.specs.declared.parse.endings.Ending.TheVariants as ending
use Rattle.latex2mathml_tex.specs.declared.parse.frames.Frame.TheVariants as frame
use Rattle.latex2mathml_tex.proofs.Leading.{formula_due, group_of_words_due}
use Rattle.latex2mathml_tex.proofs.{Opening.pushed, Rows.refused_step, Wording.no_part}

-- Commands

-- a command that cannot appear in words is refused, if there is memory for its name
module _ (p q : Parser) (same : q ≡ record p { refusal = q.refusal }) where
  abbrev pub IsRefused : State → Result ⊤ AllocError → Type 0
  IsRefused st answer = OnOk answer (st ≡ state.Refused)

  pub command_refused : (s : Start) (ws : CodeWords) (name : List ℕ) (place : ℕ) (c : Context) (st : State) (answer : Result ⊤ AllocError) → IsRefused st answer
      → OnOk answer (refusal_of q.refusal ≡ Some (refusal_at (CommandInWords name) place))
      → word_rule c.alphabet (Command name) ≡ NoWord (CommandInWords name) → BeginsWordOf ws (Command name) place c s p → OnOk answer (Holds s q st)
  command_refused s ws name place c st (Ok u) is reason rule g =
      let style = ap {A = Parser} (λ q. q.style) same in
      rw is (no_part s p ws (Command name) place c q (CommandInWords name) style reason rule g)
  command_refused s ws name place c st (Err e) is reason rule g = is

  pub command_step : (n : ℕ) (st : State) (answer : Result ⊤ AllocError) → IsRefused st answer → HasElements n p → Advances 13 p q st answer
  command_step n st (Ok u) is enough = refused_step p q p.input q.refusal st same is (omega arith) (omega (arith, enough))
  command_step n st (Err e) is enough = is

-- Characters

unequal : (m n : ℕ) → (m ≡ n → ⊥) → m == n ≡ false
unequal m n h = grind (arith, nat_tests)

-- the characters that cannot appear in words
abbrev pub no_word : ℕ → Bool
no_word c = c == byte "^" || c == byte "&" || c == byte "#"

module _ (a : Option Alphabet) (c : ℕ) where
  pub dollar_rule : c ≡ byte "$" → word_rule a (Character c) ≡ BeginsFormula
  dollar_rule e = rw e refl

  pub tilde_rule : c ≡ byte "~" → word_rule a (Character c) ≡ IsWord (word_space (font_in a))
  tilde_rule e = rw e refl

  module _ (dollar : c ≡ byte "$" → ⊥) (tilde : c ≡ byte "~" → ⊥) where
    pub no_word_rule : no_word c ≡ true → word_rule a (Character c) ≡ NoWord (CharacterInWords c)
    no_word_rule e = rw (unequal c (byte "$") dollar, unequal c (byte "~") tilde, e) refl

    pub character_rule : no_word c ≡ false → word_rule a (Character c) ≡ IsWord (Shown (font_in a) (text (word_character a c)))
    character_rule e = rw (unequal c (byte "$") dollar, unequal c (byte "~") tilde, e) refl

-- What begins after words

module _ (s : Start) (p : Parser) (ws : CodeWords) (place : ℕ) where
  -- words in braces
  pub group_begun : {c : Context} → BeginsWordOf ws Open place c s p → GoesOnInBraces ws place c s p
  group_begun g = record { style = g.style; leads = group_of_words_due (level ws.count s p) {u = grammar.unit Open place} refl g.leads }

  -- their frame
  pub braces_held : (c : CodeContext) (fr : Frames) → fr.stack.items ≡ p.frames.stack.items ++ frame.Words place c ∷ [] → GoesOnInBraces ws place (context_of c) s p → Holds s (record p { frames = fr }) (state.Words ws)
  braces_held c fr e g =
      let xs = drop ws.count (elements_of p) in
      record {
        style = g.style;
        claims = rw e (subst (λ l. PartMade l (Read (words_with ws (elements_of p)) (left_of p))) (sym (pushed s p.frames.stack.items (frame.Words place c) xs)) g.leads);
      }

  -- a formula, after words whose accent has ended
  pub formula_begun : (b : Built) (after : CodeWords) (piece : Piece) (c : Context) (context : CodeContext) (row : CodeRow) → context_of context ≡ formula_in_words c → Replaced with_accent_ended ws (elements_of p) after (elements_in b) → row ≡ begun → word_rule c.alphabet piece ≡ BeginsFormula → BeginsWordOf ws piece place c s p
      → Leads (level_within (frame.Row (ending.Formula after.count) place context row) 0 s (record p { builder = b })) (left_of p)
  formula_begun b after piece c context row is r empty rule g =
      let due = formula_due (level ws.count s p) {u = grammar.unit piece place} rule g.leads in
      let count : 0 + after.count ≡ after.count = omega arith in
      let elements : take after.count (elements_in b) ≡ (with_accent_ended (words_with ws (elements_of p))).elements = ap (λ (w : words.Words). w.elements) r.words in
      rw (is, empty) (rw count (rw (elements, r.below) due))

-- what makes something of words in braces is refused elsewhere, as is what is never in words
pub forbidden_rule : (font : Font) (name : List ℕ) (found : WordCommand) → ((box : WordBox) × (found ≡ word_commands.Box box)) ⊎ (found ≡ word_commands.Forbidden) → rule_of font name found ≡ NoWord (CommandInWords name)
forbidden_rule font name found (inl (box, e)) = ap (rule_of font name) e
forbidden_rule font name found (inr e) = ap (rule_of font name) e
