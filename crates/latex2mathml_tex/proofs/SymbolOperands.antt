-- A letter or a digit as an operand, by itself or in braces.
use Rattle.std.proofs.Common.{◌≡◌, ◌∙◌, ℕ, ◌+◌, ◌≤◌, ◌<◌, true, false, suc, List, [], ◌∷◌, None, Some, drop, length, option_map, ap, arith, refl, subst, sym}
use Rattle.std.proofs.lemmas.Bool.Decides.{nat_tests}
use Rattle.std.specs.Char.{is_ascii_alphabetic, is_ascii_alphanumeric, is_ascii_digit}
use Rattle.latex2mathml_elements.specs.Element.{Element}
use Rattle.latex2mathml_builder.specs.Built.{Built, elements_in}
use Rattle.latex2mathml_tex_grammar.specs.Heights.{Low}
use Rattle.latex2mathml_tex_grammar.specs.Atoms.{Atom, Kind, Nothing, Plain, SignOf, atom, awaits_second, past}
use Rattle.latex2mathml_tex_grammar.specs.Makes.{core, letter, no_scripts, number}
use Rattle.latex2mathml_tex_grammar.specs.{Next.digits_next, Next.past_space, Rests.finished}
use Rattle.latex2mathml_tex_grammar.specs.Symbols.{Ordinary, Operator, Binary, Relation, Opening, Closing, Punctuation, Inner}
use Rattle.latex2mathml_tex_grammar.specs.Reading.{Read, ReadsAtom, ReadsOperand, ReadsRule, atom_read, atoms_end, base_read, digit_operand, digits_taken, group_operand, other_operand, rule_gives, scripts_end, units_missing}
use Rattle.latex2mathml_tex_grammar.specs.Makes as makes
use Rattle.latex2mathml_tex_grammar.specs.Rows.{empty_row, operand_of, single, with_atom}
use Rattle.latex2mathml_tex_grammar.specs.Rows as rows
use Rattle.latex2mathml_tex_grammar.specs.Rules as rules
use Rattle.latex2mathml_tex_grammar.specs.Rules.{Context as RuleContext, InBraces, gives, rule}
use Rattle.latex2mathml_tex_grammar.specs.Starts.{DigitStart, OtherStart, RuleStart, atom_start, ends, is_no_operand, operand_start, step_next}
use Rattle.latex2mathml_tex_grammar.specs.Units.{Character, Close, Next, Open, Unit, Units}
use Rattle.latex2mathml_tex_commands.specs.Meanings.{alphabet_of, style_of}
use Rattle.latex2mathml_tex_units.specs.{Left.TakesLone, Left.by_itself, Left.in_braces, Left.unit_count, Left.units_at}
use Rattle.latex2mathml_tex_units.specs.declared.input.Input.{Input}
use Rattle.latex2mathml_tex_atoms.specs.{Models.context_of, Models.core_with, Models.height_of, Models.row_with, Models.script_count, Models.top, Shapes.IsPut}
use Rattle.latex2mathml_tex_atoms.specs.declared.atoms.{Context.Context, Core.Core, Operand.Operand, Row.Row, Scripts.Scripts}
use Rattle.latex2mathml_tex.specs.RowCharacters.{ends_or_marks}
use Rattle.latex2mathml_tex.specs.SymbolOperands.{TookOperand}
use Rattle.latex2mathml_tex.specs.Frames.{ScriptMade, Start, context_at, inside, primes_put}
use Rattle.latex2mathml_tex.specs.{Innermost.frame_context, Levels.Leads, Levels.OperandMade}
use Rattle.latex2mathml_tex.specs.Steps.{AwaitsOperand, Follows, Holds, InnermostIs, Ready, TookScript, elements_of, left_of, level, level_within, operand_place, to_do}
use Rattle.latex2mathml_tex.specs.declared.parse.Parser.{Parser}
use Rattle.latex2mathml_tex.specs.declared.parse.State.TheVariants as state
use Rattle.latex2mathml_tex.specs.declared.parse.frames.Frame.{Frame}
use Rattle.latex2mathml_tex.specs.declared.parse.frames.Frame.TheVariants as frame
use Rattle.latex2mathml_attributes.specs.declared.attributes.Side.{Side}
use Rattle.latex2mathml_tex.proofs.Beginning.{at_operand}
use Rattle.latex2mathml_tex.proofs.Opening.{context_is}
use Rattle.latex2mathml_tex.proofs.Operands.{WaitsIn, innermost_takes, is_single, some_there, under_one}
use Rattle.latex2mathml_tex.proofs.RowCharacters.{begins_by_rule, digit_is_plain, digit_rule, letter_is_plain, letter_rule}

-- a letter or a digit is an operand
digit_may_be : (c : ℕ) → is_ascii_digit c ≡ true → is_no_operand (Character c) ≡ false
digit_may_be c h = grind (arith, nat_tests)

letter_may_be : (c : ℕ) → is_ascii_alphabetic c ≡ true → is_no_operand (Character c) ≡ false
letter_may_be c h = grind (arith, nat_tests)

pub is_letter : (c : ℕ) → is_ascii_alphanumeric c ≡ true → is_ascii_digit c ≡ false → is_ascii_alphabetic c ≡ true
is_letter c h none = grind (arith, nat_tests)

-- the elements where an atom was put in a row of its own
module _ (k : Context) (a : Atom) (row : Row) (old xs ys : List Element) (is : xs ≡ a.element ∷ old) (longer : row_with row ys ≡ with_atom (style_of k.style) empty_row a) (under : drop row.count ys ≡ drop 1 xs) (there : row.count ≤ length ys) where
  whole : (ys : List Element) → 1 ≤ length ys → ys ≡ top ys ∷ drop 1 ys
  whole [] h = absurd (omega arith)
  whole (y ∷ ys) h = refl

  put_alone : ys ≡ (single (style_of k.style) a).element ∷ old
  put_alone =
      let first = ap (λ x. x.element) (is_single (style_of k.style) a row xs ys longer under there) in
      let others : drop 1 ys ≡ old = under_one (style_of k.style) a row xs ys longer under there ∙ ap (drop 1) is in
      whole ys (some_there (style_of k.style) a row xs ys longer under there) ∙ ap (λ y. y ∷ drop 1 ys) first ∙ ap (λ zs. (single (style_of k.style) a).element ∷ zs) others

-- no second operand is to come after the only atom of a group
nothing_awaited : (kind : Kind) → awaits_second kind (past Nothing kind) ≡ false
nothing_awaited (SignOf Ordinary) = refl
nothing_awaited (SignOf Operator) = refl
nothing_awaited (SignOf Binary) = refl
nothing_awaited (SignOf Relation) = refl
nothing_awaited (SignOf Opening) = refl
nothing_awaited (SignOf Closing) = refl
nothing_awaited (SignOf Punctuation) = refl
nothing_awaited (SignOf Inner) = refl
nothing_awaited kind = refl

-- an atom of one character in braces is the operand that it is without them
in_braces_read : (k : RuleContext) (c place : ℕ) (x : makes.Core) (u v w : Unit) (l : Units) → u.piece ≡ Open → v.piece ≡ Character c → w.piece ≡ Close → ends_or_marks c ≡ false → ReadsRule (rule v.place k v.piece) (Next w l) (Read x (Next w l)) → ReadsOperand place k (Next u (Next v (Next w l))) (Read (single k.style x.atom) l)
in_braces_read k c place x u v w l opens is closes plain read =
    let opening : past_space (Next u (Next v (Next w l))) ≡ Next u (Next v (Next w l)) = rw opens refl in
    let begins : past_space (Next v (Next w l)) ≡ Next v (Next w l) = rw is refl in
    let closing : past_space (Next w l) ≡ Next w l = rw closes refl in
    let goes_on : ends (InBraces u.place) v.piece ≡ false = rw is refl in
    let ended : ends (InBraces u.place) w.piece ≡ true = rw closes refl in
    let by : atom_start (InBraces u.place) v.piece ≡ RuleStart = rw is (begins_by_rule c plain (InBraces u.place)) in
    let none : step_next (no_scripts x.atom.kind x.limits) (past_space (Next w l)) ≡ None = rw closes refl in
    let one : ReadsAtom (InBraces u.place) k Nothing v (Next w l) (Read x.atom (Next w l)) = base_read by read (scripts_end none) in
    let row = with_atom k.style empty_row x.atom in
    let whole : finished k.style row ≡ row = rw (nothing_awaited x.atom.kind) refl in
    subst (λ r. ReadsOperand place k (Next u (Next v (Next w l))) (Read (operand_of r) l)) whole
    (group_operand opening (rw opens refl) (atom_read begins goes_on one (atoms_end closing ended)))

-- there are fewer units after a lone character
fewer : (c : ℕ) (l m : Units) → TakesLone c l m → unit_count m < unit_count l
fewer c l m (by_itself is) = omega arith
fewer c l m (in_braces opens is closes) = omega arith

module _ (k : RuleContext) (c place : ℕ) where
  letter_read : is_ascii_digit c ≡ false → is_ascii_alphabetic c ≡ true → (l m : Units) → TakesLone c l m → ReadsOperand place k l (Read (single k.style (letter k.alphabet c)) m)
  letter_read none alphabetic l m (by_itself {u = u} is) =
      let past : past_space l ≡ Next u m = rw is refl in
      let starts : operand_start u.piece ≡ OtherStart = rw (is, letter_may_be c alphabetic, none) refl in
      let by : rule u.place k u.piece ≡ gives (core (letter k.alphabet c)) = rw is (letter_rule k c u.place none alphabetic) in
      other_operand past starts (subst (λ r. ReadsRule r m (Read (core (letter k.alphabet c)) m)) (sym by) rule_gives)
  letter_read none alphabetic l m (in_braces {u = u} {v = v} {w = w} opens is closes) =
      let by : rule v.place k v.piece ≡ gives (core (letter k.alphabet c)) = rw is (letter_rule k c v.place none alphabetic) in
      in_braces_read k c place (core (letter k.alphabet c)) u v w m opens is closes (letter_is_plain c alphabetic) (subst (λ r. ReadsRule r (Next w m) (Read (core (letter k.alphabet c)) (Next w m))) (sym by) rule_gives)

  digit_read : is_ascii_digit c ≡ true → (l m : Units) → TakesLone c l m → ReadsOperand place k l (Read (single k.style (number k.alphabet (c ∷ []))) m)
  digit_read one l m (by_itself {u = u} is) =
      let past : past_space l ≡ Next u m = rw is refl in
      let starts : operand_start u.piece ≡ DigitStart (c ∷ []) = rw (is, digit_may_be c one, one) refl in
      digit_operand past starts
  digit_read one l m (in_braces {u = u} {v = v} {w = w} opens is closes) =
      let whole = core (number k.alphabet (c ∷ [])) in
      let alone : ReadsRule (rules.after_digits k (c ∷ [])) (Next w m) (Read whole (Next w m)) = units_missing (rw closes refl) rule_gives in
      let none : digits_next (Next w m) ≡ ([], Next w m) = rw closes refl in
      let read : ReadsRule (rules.a_number k c) (Next w m) (Read whole (Next w m)) = digits_taken (subst (λ d. ReadsRule (rules.after_digits k (c ∷ d.0)) d.1 (Read whole (Next w m))) (sym none) alone) in
      let by : rule v.place k v.piece ≡ rules.a_number k c = rw is (digit_rule k c v.place one) in
      in_braces_read k c place whole u v w m opens is closes (digit_is_plain c one) (subst (λ r. ReadsRule r (Next w m) (Read whole (Next w m))) (sym by) read)

module _ (k : Context) (i j : Input) (c : ℕ) (lone : TakesLone c (units_at i) (units_at j)) (old middle new : Built) (row : Row) (put : Core) (below : drop row.count (elements_in new) ≡ drop 1 (elements_in middle)) (there : row.count ≤ length (elements_in new)) where
  abbrev Longer : Type 0
  Longer = row_with row (elements_in new) ≡ with_atom (style_of k.style) empty_row (core_with put (top (elements_in middle))).atom

  -- an atom that was put is the operand
  took : (a : Atom) → ((place : ℕ) → ReadsOperand place (context_of k) (units_at i) (Read (single (style_of k.style) a) (units_at j))) → elements_in middle ≡ a.element ∷ elements_in old → row_with row (elements_in new) ≡ with_atom (style_of k.style) empty_row a → TookOperand (record { class = row.class; height = row.height }) k i j old new
  took a reads is longer = record {
    operand = single (style_of k.style) a;
    is = ap (λ (r : rows.Row). record { element = (single (style_of k.style) a).element; class = r.class; height = r.height }) longer;
    reads = reads;
    put = put_alone k a row (elements_in old) (elements_in middle) (elements_in new) is longer below there;
    fewer = fewer c (units_at i) (units_at j) lone;
  }

  pub took_letter : is_ascii_digit c ≡ false → is_ascii_alphabetic c ≡ true → IsPut put (core (letter (option_map alphabet_of k.alphabet) c)) (elements_in old) (elements_in middle) → Longer → TookOperand (record { class = row.class; height = row.height }) k i j old new
  took_letter none alphabetic is_put longer =
      let a = letter (option_map alphabet_of k.alphabet) c in
      let made : (core_with put (top (elements_in middle))).atom ≡ a = rw is_put.element (ap (λ (x : makes.Core). x.atom) is_put.is) in
      took a (λ place. letter_read (context_of k) c place none alphabetic (units_at i) (units_at j) lone) is_put.element (longer ∙ ap (with_atom (style_of k.style) empty_row) made)

  pub took_digit : is_ascii_digit c ≡ true → elements_in middle ≡ (number (option_map alphabet_of k.alphabet) (c ∷ [])).element ∷ elements_in old → ((x : Element) → core_with put x ≡ core (atom (Plain Ordinary) Low x)) → Longer → TookOperand (record { class = row.class; height = row.height }) k i j old new
  took_digit one is_put number_is longer =
      let a = number (option_map alphabet_of k.alphabet) (c ∷ []) in
      let made : (core_with put (top (elements_in middle))).atom ≡ a = rw is_put (ap (λ (x : makes.Core). x.atom) (number_is a.element)) in
      took a (λ place. digit_read (context_of k) c place one (units_at i) (units_at j) lone) is_put (longer ∙ ap (with_atom (style_of k.style) empty_row) made)

-- an operand that was read without a frame of its own is the one that is due
pub operand_held : (s : Start) (p : Parser) (place : ℕ) (x : Operand) (k : Context) (f : Frame) (i : Input) (b : Built) → AwaitsOperand place p → k ≡ frame_context f → InnermostIs f p → TookOperand x k p.input i p.builder b → Holds s p state.Next → Holds s (record p { input = i; builder = b }) (state.Operand x)
operand_held s p place x k f i b due e inner read g =
    let same = ap context_of e ∙ context_is s p.style p.frames.stack.items f (elements_of p) g.style inner in
    let made : OperandMade (level 0 s p) (Read read.operand (units_at i)) =
    at_operand (λ l. context_of k ≡ context_at l → Leads l (left_of p) → OperandMade l (Read read.operand (units_at i))) s p place g.style due (λ c K at leads. leads (Read read.operand (units_at i)) (rw at at (read.reads place))) same g.claims in
    record { style = g.style; claims = rw (read.put, read.is) made }

place_waits : (f : Frame) (place : ℕ) → operand_place f ≡ Some place → WaitsIn (frame_context f) f
place_waits (frame.Last made at c) place e = refl
place_waits (frame.First one at c) place e = refl
place_waits (frame.Script base scripts on at c) place e = refl
place_waits f place e = absurd (cc)

pub operand_follows : (p : Parser) (place : ℕ) (x : Operand) (k : Context) (i : Input) (b : Built) → AwaitsOperand place p → TookOperand x k p.input i p.builder b → Ready p state.Next → Follows (to_do p + 1) (record p { input = i; builder = b }) (state.Operand x)
operand_follows p place x k i b (f, (others, inner), is) read ready =
    record {
      ready = record { elements = rw read.put (omega (arith, ready.elements)); may_come = record { accepted = innermost_takes p.style p.frames.stack.items others f (frame_context f) inner (place_waits f place is); nested = ready.may_come.nested } };
      falls = omega (arith, read.fewer);
    }

-- the operand of a script was read without a frame
pub script_read : (s : Start) (p : Parser) (i : Input) (b : Built) (base : Core) (scripts : Scripts) (on : Side) (place : ℕ) (k : Context) (put : Operand) → s.style ≡ style_of p.style → TookOperand put k p.input i p.builder b → Leads (level_within (frame.Script base scripts on place k) 0 s p) (left_of p) → TookScript base scripts on put.height s (record p { input = i; builder = b })
script_read s p i b base scripts on place k put style took leads =
    let xs = elements_of p in
    let x = took.operand in
    let own = primes_put on scripts.primes + (script_count scripts + 1) in
    let all = primes_put on scripts.primes + (script_count scripts + 2) in
    let count : all ≡ suc own = omega arith in
    let made : ScriptMade (inside s p.frames.stack.items (drop own xs)) base scripts on xs (Read x (units_at i)) = leads (Read x (units_at i)) (took.reads place) in
    let there : ScriptMade (inside s p.frames.stack.items (drop all (x.element ∷ xs))) base scripts on xs (Read x (units_at i)) = rw count made in
    let height : height_of put.height ≡ x.height = ap (λ o. o.height) took.is in
    record {
      style = style;
      leads = λ class. subst (λ ys. ScriptMade (inside s p.frames.stack.items (drop all ys)) base scripts on (drop 1 ys) (Read (record { element = top ys; class = class; height = height_of put.height }) (units_at i))) (sym took.put) (rw height there);
    }
