-- Characters that begin atoms in every row.
use Rattle.std.proofs.Common.{◌≡◌, ◌∙◌, ◌∷◌, ◌==◌, ◌||◌, [], ℕ, Bool, true, false, Some, ap, arith, refl, subst, suc, sym}
use Rattle.std.proofs.lemmas.Bool.Decides.{nat_tests}
use Rattle.latex2mathml_builder.specs.Built.{Built, elements_in}
use Rattle.std.specs.Prelude.{not}
use Rattle.std.specs.Char.{is_ascii_alphabetic, is_ascii_digit}
use Rattle.std.specs.Str.{byte}
use Rattle.latex2mathml_tex_grammar.specs.{Next.digits_next, Next.past_space, Rules.a_number, Rules.character_rule}
use Rattle.latex2mathml_tex_grammar.specs.Rules as rules
use Rattle.latex2mathml_tex_grammar.specs.Rules.{WholeText, InBraces, InBrackets, InDollars, InDelimiters, InCell, InLabel, ByName, OfDiagram, ByBrace, ByText}
use Rattle.latex2mathml_tex_grammar.specs.Starts.{RuleStart, atom_start, ends}
use Rattle.latex2mathml_tex_grammar.specs.Units.{Character, Next, Open}
use Rattle.latex2mathml_tex_atoms.specs.declared.heights.Height.TheVariants as code_height
use Rattle.latex2mathml_tex_atoms.specs.Models.{context_of, empty_row}
use Rattle.latex2mathml_tex_units.specs.{Left.EndsNumber, Left.unit_count, Left.units_at, Left.units_behind, Taking.unit_of}
use Rattle.latex2mathml_tex_units.specs.declared.{input.Input.Input, unit.Unit.Unit}
use Rattle.latex2mathml_tex_units.specs.declared.unit.Piece.TheVariants as piece
use Rattle.latex2mathml_tex_grammar.specs.{Commands.symbol_of, Makes.core, Makes.takes_limits, Rules.gives, Symbols.Symbol}
use Rattle.latex2mathml_tex_grammar.specs.Makes
use Rattle.latex2mathml_tex_atoms.specs.{Models.kind_of, Shapes.IsPut}
use Rattle.latex2mathml_tex_atoms.specs.declared.{atoms.Context.Context, atoms.Core.Core, atoms.Row.Row, atoms.Scripts.Scripts}
use Rattle.latex2mathml_tex.specs.Frames.{Start, ending_of}
use Rattle.latex2mathml_tex.specs.RowCharacters.{IsRowInnermost, ends_or_marks, is_label, is_symbol}
use Rattle.latex2mathml_tex.specs.RowSymbols.{ReadSymbol, lone_scripts}
use Rattle.latex2mathml_tex.specs.Steps.{Begins, BeginsIn, CanBegin, Follows, Holds, Ready, Took, elements_of, left_of, level_within}
use Rattle.latex2mathml_tex.specs.declared.parse.Parser.{Parser}
use Rattle.latex2mathml_tex.specs.declared.parse.State.TheVariants as state
use Rattle.latex2mathml_tex.specs.Levels.{Leads}
use Rattle.latex2mathml_tex.specs.declared.parse.endings.Ending.TheVariants as ending
use Rattle.latex2mathml_tex.specs.declared.parse.frames.Frame.TheVariants as frame
use Rattle.latex2mathml_tex.proofs.{Beginning.group_begins, Beginning.unit_begins, Beginnings.rule_begun, Operands.core_in_row, Putting.past_digits, Putting.past_none, Putting.put_held, RowAwaits.row_awaits}

-- none of seven tests
record None7 (a b c d e f g : Bool) : Type 0 where
  first : a ≡ false
  second : b ≡ false
  third : c ≡ false
  fourth : d ≡ false
  fifth : e ≡ false
  sixth : f ≡ false
  seventh : g ≡ false

none_of : (a b c d e f g : Bool) → (a || b || c || d || e || f || g) ≡ false → None7 a b c d e f g
none_of false false false false false false false h = record { first = refl; second = refl; third = refl; fourth = refl; fifth = refl; sixth = refl; seventh = refl }
none_of true b c d e f g h = absurd (cc)
none_of false true c d e f g h = absurd (cc)
none_of false false true d e f g h = absurd (cc)
none_of false false false true e f g h = absurd (cc)
none_of false false false false true f g h = absurd (cc)
none_of false false false false false true g h = absurd (cc)
none_of false false false false false false true h = absurd (cc)

turned : (a b : ℕ) → (a == b) ≡ false → (b == a) ≡ false
turned a b h = grind (arith, nat_tests)

module _ (c : ℕ) (none : ends_or_marks c ≡ false) where
  each : None7 (c == byte "&") (c == byte "_") (c == byte "^") (c == byte "'") (c == byte "]") (c == byte "$") (c == byte "@")
  each = none_of (c == byte "&") (c == byte "_") (c == byte "^") (c == byte "'") (c == byte "]") (c == byte "$") (c == byte "@") none

  -- the character ends no row
  pub ends_none : (e : rules.Ending) → is_label e ≡ false → ends e (Character c) ≡ false
  ends_none WholeText h = refl
  ends_none (InBraces place) h = refl
  ends_none (InBrackets place) h = turned c (byte "]") each.fifth
  ends_none (InDollars place) h = turned c (byte "$") each.sixth
  ends_none (InDelimiters place) h = refl
  ends_none (InCell ByName place) h = rw (turned c (byte "&") each.first) refl
  ends_none (InCell OfDiagram place) h = rw (turned c (byte "&") each.first, turned c (byte "@") each.seventh) refl
  ends_none (InCell ByBrace place) h = refl
  ends_none (InCell ByText place) h = rw (turned c (byte "&") each.first) refl
  ends_none (InLabel direction place) h = absurd (cc)

  -- the character begins an atom by its rule
  pub begins_by_rule : (e : rules.Ending) → atom_start e (Character c) ≡ RuleStart
  begins_by_rule WholeText = rw (each.fourth, each.second, each.third) refl
  begins_by_rule (InBraces place) = rw (each.fourth, each.second, each.third) refl
  begins_by_rule (InBrackets place) = rw (each.fourth, each.second, each.third) refl
  begins_by_rule (InDollars place) = rw (each.fourth, each.second, each.third) refl
  begins_by_rule (InDelimiters place) = rw (each.fourth, each.second, each.third) refl
  begins_by_rule (InCell end place) = rw (each.fourth, each.second, each.third) refl
  begins_by_rule (InLabel direction place) = rw (each.fourth, each.second, each.third) refl

module _ (p : Parser) (i : Input) (u : Unit) (c : ℕ) (is : u.piece ≡ piece.Character c) where
  -- no white space precedes the character
  pub character_next : left_of p ≡ Next (unit_of u) (units_at i) → past_space (left_of p) ≡ Next (unit_of u) (units_at i)
  character_next next = ap past_space next ∙ rw is refl

  -- the rule of the character begins in the innermost row
  pub character_begins : (s : Start) (k : Context) → IsRowInnermost p.style p.frames.stack.items k → ends_or_marks c ≡ false → past_space (left_of p) ≡ Next (unit_of u) (units_at i) → Holds s p state.Next → BeginsIn k (character_rule (context_of k) c u.place) 0 s (record p { input = i })
  character_begins s k (e, (place, (row, (others, (inner, plain))))) none next h =
      let took : Took u s (record p { input = i }) = record { style = h.style; before = left_of p; next = next; leads = h.claims } in
      let q = record p { input = i } in
      let begun = rule_begun s q u e (place, (row, (k, (others, inner)))) (λ at. rw is (ends_none c none (ending_of e at) (plain at))) took (λ at. rw is (begins_by_rule c none (ending_of e at))) in
      unit_begins s q (frame.Row e place k row) k u (piece.Character c) refl is (others, inner) begun

-- an opening brace ends no row, and begins a group in each
open_ends_none : (e : rules.Ending) → ends e Open ≡ false
open_ends_none (InCell ByName place) = refl
open_ends_none (InCell OfDiagram place) = refl
open_ends_none (InCell ByBrace place) = refl
open_ends_none (InCell ByText place) = refl
open_ends_none e = refl

open_begins_by_rule : (e : rules.Ending) → atom_start e Open ≡ RuleStart
open_begins_by_rule (InDelimiters place) = refl
open_begins_by_rule e = refl

-- a group begins in the innermost row
pub group_begins_there : (p : Parser) (i : Input) (u : Unit) → u.piece ≡ piece.Open → left_of p ≡ Next (unit_of u) (units_at i) → (s : Start) (k : Context) → IsRowInnermost p.style p.frames.stack.items k → Holds s p state.Next → (row : Row) → row ≡ empty_row → Leads (level_within (frame.Row ending.Group u.place k row) 0 s (record p { input = i })) (units_at i)
group_begins_there p i u is next s k (e, (place, (own, (others, (inner, plain))))) h row none =
    let q = record p { input = i } in
    let past : past_space (left_of p) ≡ Next (unit_of u) (units_at i) = ap past_space next ∙ rw is refl in
    let took : Took u s q = record { style = h.style; before = left_of p; next = past; leads = h.claims } in
    let begun = rule_begun s q u e (place, (own, (k, (others, inner)))) (λ at. rw is (open_ends_none (ending_of e at))) took (λ at. rw is (open_begins_by_rule (ending_of e at))) in
    group_begins s q k row u.place none (unit_begins s q (frame.Row e place k own) k u piece.Open refl is (others, inner) begun)

-- the rule of a symbol begins in the innermost row, where it comes next
pub symbol_begins : (p : Parser) (i : Input) (u : Unit) (c : ℕ) → left_of p ≡ Next (unit_of u) (units_behind p.input) → u.piece ≡ piece.Character c → units_at i ≡ units_behind p.input → (s : Start) (k : Context) → IsRowInnermost p.style p.frames.stack.items k → ends_or_marks c ≡ false → Holds s p state.Next → BeginsIn k (character_rule (context_of k) c u.place) 0 s (record p { input = i })
symbol_begins p i u c there is taken s k row none h =
    let next : left_of p ≡ Next (unit_of u) (units_at i) = there ∙ ap (Next (unit_of u)) (sym taken) in
    character_begins p i u c is s k row none (character_next p i u c is next) h

-- what follows an atom that was put in the innermost row
pub scripts_follow : (p : Parser) (k : Context) → IsRowInnermost p.style p.frames.stack.items k → (c : Core) (scripts : Scripts) → scripts ≡ record { primes = 0; below = false; above = false; is_exchanged = false; limits = c.limits; takes_limits = takes_limits (kind_of c.kind); height = code_height.Low } → (s : Start) → Holds s p (state.Core c) → Holds s p (state.Atom c scripts)
scripts_follow p k (e, (place, (row, (others, (inner, plain))))) c scripts none s g = core_in_row s p c scripts (frame.Row e place k row) e place k row (others, inner) refl none g

-- the innermost row waits for an atom that was put
pub scripts_ready : (p : Parser) (b : Built) (k : Context) → IsRowInnermost p.style p.frames.stack.items k → (c : Core) (scripts : Scripts) (made : Makes.Core) → scripts ≡ record { primes = 0; below = false; above = false; is_exchanged = false; limits = c.limits; takes_limits = takes_limits (kind_of c.kind); height = code_height.Low } → IsPut c made (elements_of p) (elements_in b) → CanBegin 0 p → Ready (record p { builder = b }) (state.Atom c scripts)
scripts_ready p b k (e, (place, (row, (others, (inner, plain))))) c scripts made none put can = record {
  elements = rw (none, put.element) (omega (arith, can.elements));
  may_come = let waits = row_awaits p e place row k others inner can in record { accepted = waits.accepted; nested = waits.nested };
}

-- the innermost row is still there
pub still_innermost : (p q : Parser) (k : Context) → (q.frames ≡ p.frames) × (q.style ≡ p.style) → IsRowInnermost p.style p.frames.stack.items k → IsRowInnermost q.style q.frames.stack.items k
still_innermost p q k (frames, style) row = rw (frames, style) row

-- the innermost row waits for what follows an atom that was read
pub scripts_due : (p : Parser) (k : Context) → IsRowInnermost p.style p.frames.stack.items k → (c : Core) (n : ℕ) → Follows n p (state.Core c) → Follows n p (state.Atom c (lone_scripts c))
scripts_due p k (e, (place, (row, (others, (inner, plain))))) c n follows =
    let can : CanBegin 0 p = record { elements = omega (arith, follows.ready.elements); awaits = follows.ready.may_come } in
    let waits = row_awaits p e place row k others inner can in
    record {
      ready = record { elements = follows.ready.elements; may_come = record { accepted = waits.accepted; nested = waits.nested } };
      falls = omega (arith, follows.falls);
    }

-- how many units are left after one was taken
pub one_less : (p : Parser) (i : Input) (u : Unit) → left_of p ≡ Next (unit_of u) (units_behind p.input) → units_at i ≡ units_behind p.input → unit_count (left_of p) ≡ suc (unit_count (units_at i))
one_less p i u there taken = ap unit_count (there ∙ ap (Next (unit_of u)) (sym taken))

-- a symbol was taken, and its element was put
pub symbol_put : (p : Parser) (i : Input) (b : Built) (k : Context) → IsRowInnermost p.style p.frames.stack.items k → unit_count (left_of p) ≡ suc (unit_count (units_at i)) → (c : Core) (made : Makes.Core) → IsPut c made (elements_of p) (elements_in b) → ((s : Start) → Holds s p state.Next → Begins (gives made) 0 s (record p { input = i })) → Ready p state.Next → ReadSymbol c p (record p { input = i; builder = b })
symbol_put p i b k row less c made put begins ready =
    let can : CanBegin 0 (record p { input = i }) = record { elements = ready.elements; awaits = record { accepted = ready.may_come.accepted; nested = ready.may_come.nested } } in
    record {
      holds = λ s h. scripts_follow (record p { input = i; builder = b }) k row c (lone_scripts c) refl s (put_held s (record p { input = i }) b c made put (begins s h));
      step = record {
        ready = scripts_ready (record p { input = i }) b k row c (lone_scripts c) made refl put can;
        falls = omega (arith, less);
      };
    }

-- The rules of digits, letters and signs

pub digit_rule : (k : rules.Context) (c place : ℕ) → is_ascii_digit c ≡ true → character_rule k c place ≡ a_number k c
digit_rule k c place digit = rw digit refl

-- none of ten tests
record None10 (a b c d e f g h i j : Bool) : Type 0 where
  first : a ≡ false
  second : b ≡ false
  third : c ≡ false
  fourth : d ≡ false
  fifth : e ≡ false
  sixth : f ≡ false
  seventh : g ≡ false
  eighth : h ≡ false
  ninth : i ≡ false
  tenth : j ≡ false

none_of_10 : (a b c d e f g h i j : Bool) → not (a || b || c || d || e || f || g || h || i || j) ≡ true → None10 a b c d e f g h i j
none_of_10 false false false false false false false false false false t = record { first = refl; second = refl; third = refl; fourth = refl; fifth = refl; sixth = refl; seventh = refl; eighth = refl; ninth = refl; tenth = refl }
none_of_10 true b c d e f g h i j t = absurd (cc)
none_of_10 false true c d e f g h i j t = absurd (cc)
none_of_10 false false true d e f g h i j t = absurd (cc)
none_of_10 false false false true e f g h i j t = absurd (cc)
none_of_10 false false false false true f g h i j t = absurd (cc)
none_of_10 false false false false false true g h i j t = absurd (cc)
none_of_10 false false false false false false true h i j t = absurd (cc)
none_of_10 false false false false false false false true i j t = absurd (cc)
none_of_10 false false false false false false false false true j t = absurd (cc)
none_of_10 false false false false false false false false false true t = absurd (cc)

symbol_tests : (c : ℕ) → is_symbol c ≡ true → None10 (c == byte ".") (c == byte "~") (c == byte "&") (c == byte "#") (c == byte "$") (c == byte "_") (c == byte "^") (c == byte "'") (c == byte "]") (c == byte "@")
symbol_tests c plain = none_of_10 (c == byte ".") (c == byte "~") (c == byte "&") (c == byte "#") (c == byte "$") (c == byte "_") (c == byte "^") (c == byte "'") (c == byte "]") (c == byte "@") plain

-- digits, letters and symbols end no row, and continue no atom

pub digit_is_plain : (c : ℕ) → is_ascii_digit c ≡ true → ends_or_marks c ≡ false
digit_is_plain c h = grind (arith, nat_tests)

pub letter_is_plain : (c : ℕ) → is_ascii_alphabetic c ≡ true → ends_or_marks c ≡ false
letter_is_plain c h = grind (arith, nat_tests)

pub symbol_is_plain : (c : ℕ) → is_symbol c ≡ true → ends_or_marks c ≡ false
symbol_is_plain c plain = let each = symbol_tests c plain in rw (each.third, each.sixth, each.seventh, each.eighth, each.ninth, each.fifth, each.tenth) refl

module _ (k : rules.Context) (c place : ℕ) (no_digit : is_ascii_digit c ≡ false) where
  pub letter_rule : is_ascii_alphabetic c ≡ true → character_rule k c place ≡ gives (core (Makes.letter k.alphabet c))
  letter_rule alphabetic = rw (no_digit, alphabetic) refl

  pub symbol_rule : (symbol : Symbol) → is_ascii_alphabetic c ≡ false → is_symbol c ≡ true → symbol_of c ≡ Some symbol → character_rule k c place ≡ gives (Makes.symbol k.style k.alphabet symbol)
  symbol_rule symbol no_letter plain is =
      let each = symbol_tests c plain in
      rw (no_digit, no_letter, each.first, each.second, each.third, each.fourth, each.fifth, each.sixth, each.seventh, each.eighth, is) refl

-- a number of one digit begins, where no digit and no point come next
pub lone_digit_begins : (s : Start) (p : Parser) (k : rules.Context) (digit : ℕ) → EndsNumber (left_of p) → Begins (a_number k digit) 0 s p → Begins (gives (core (Makes.number k.alphabet (digit ∷ [])))) 0 s p
lone_digit_begins s p k digit (none, no_point) g =
    let one : Begins (rules.after_digits k (digit ∷ (digits_next (left_of p)).0)) 0 s p = past_digits s p p.input (λ more. rules.after_digits k (digit ∷ more)) (rw none refl) g in
    let whole : Begins (rules.after_digits k (digit ∷ [])) 0 s p = subst (λ d. Begins (rules.after_digits k (digit ∷ d.0)) 0 s p) none one in
    past_none s p p.input (gives (core (Makes.number k.alphabet (digit ∷ [])))) no_point refl whole
