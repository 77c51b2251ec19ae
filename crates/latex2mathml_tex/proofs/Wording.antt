-- Words: what is put after them, and where what is in them leads.
use Rattle.std.proofs.Common.{◌≡◌, ℕ, ◌+◌, ◌<◌, ◌≤◌, None, zero, suc, IsTrue, IsFalse, List, [], ◌∷◌, ◌++◌, Option, Some, length, take, drop, reverse, refl, sym, ap, ◌∙◌, arith, subst}
use Rattle.latex2mathml_elements.specs.{Element.Element}
use Rattle.latex2mathml_builder.specs.Built.{Built, elements_in}
use Rattle.latex2mathml_tex_grammar.specs.{Makes.Core, Rows.empty_row, Rows.row_element, Rows.single, Rows.with_atom, Symbols.Alphabet, Symbols.InText, Symbols.TextSize}
use Rattle.latex2mathml_tex_grammar.specs.Reading.{Outcome, Read, Refused, word_stopped}
use Rattle.latex2mathml_tex_grammar.specs.Refusal.{Kind, Refusal, UnclosedBrace, refusal_at}
use Rattle.latex2mathml_tex_grammar.specs.Rules.{Context, Rule, gives, in_size, in_words, rule}
use Rattle.latex2mathml_tex_grammar.specs.Next.{past_space}
use Rattle.latex2mathml_tex_grammar.specs.Units as grammar
use Rattle.latex2mathml_tex_grammar.specs.Units.{Piece}
use Rattle.latex2mathml_tex_grammar.specs.Ligatures.{joined, ligature_start}
use Rattle.latex2mathml_tex_grammar.specs.WordBoxes.{WordBox, box_rule, word_box}
use Rattle.latex2mathml_tex_grammar.specs.Words.{Accented, Resized, ShowsAtom, Word, Words, size_after, Changed, Formula, IsWord, NoWord, TakesWords, alphabet_behind, shown_character, with_accent_ended, with_word, word_rule, words_element}
use Rattle.latex2mathml_tex_units.specs.{Errors.refusal_of, Left.units_at}
use Rattle.latex2mathml_tex.specs.Frames.{Start, Whole, inside}
use Rattle.latex2mathml_tex.specs.Levels.{Level, PartMade, RuleLeads, WordLeads, as_atom_in_words, words}
use Rattle.latex2mathml_tex_commands.specs.Meanings.{style_of, text_size_of}
use Rattle.latex2mathml_tex_atoms.specs.{Models.context_of, Models.core_with, Models.row_with, Models.top, Models.words_with, Shapes.IsPut}
use Rattle.latex2mathml_tex.specs.Steps.{Begins, BeginsIn, ShowsAtomOf, BeginsWordOf, CanMake, ChangesWords, EndsGroupOf, Follows, GoesOnInBraces, GoesOnInSize, IsChange, Holds, JoinsWords, WordGiven, core_made, elements_of, left_of, level, to_do, words_made}
use Rattle.latex2mathml_tex_units.specs.declared.input.Input.{Input}
use Rattle.latex2mathml_tex_commands.specs.declared.meaning.TextSize.{TextSize as CodeSize}
use Rattle.latex2mathml_tex_atoms.specs.declared.{atoms.Context.Context as CodeContext, atoms.Core.Core as CodeCore, atoms.Row.Row as CodeRow, atoms.Words.Words as CodeWords}
use Rattle.latex2mathml_tex.specs.declared.parse.Parser.{Parser}
use Rattle.latex2mathml_tex.specs.WordCommands.{word_of}
use Rattle.latex2mathml_tex.specs.declared.parse.word_commands.WordChange.{WordChange}
use Rattle.latex2mathml_tex.specs.declared.parse.word_commands.WordChange.TheVariants as word_change
use Rattle.latex2mathml_tex.specs.declared.parse.State.TheVariants as state
use Rattle.latex2mathml_tex.specs.declared.parse.frames.Frame.{Frame}
use Rattle.latex2mathml_tex.specs.declared.parse.frames.Frame.TheVariants as frame
use Rattle.std.proofs.lemmas.List.{length-drop, reverse-append}
use Rattle.latex2mathml_tex.specs.Innermost.{IsInnermost, none_begun, on_top}
use Rattle.latex2mathml_tex_commands.specs.declared.meaning.Style.{Style as CodeStyle}
use Rattle.latex2mathml_tex.specs.declared.parse.frames.Frames.{Frames}
use Rattle.latex2mathml_tex_grammar.specs.Starts.{is_close}
use Rattle.latex2mathml_tex.proofs.Leading.{box_due, changed_due, given, joined_due, word_given, word_refused_at, words_ended, words_halted, words_in_alphabet_due, words_unended, word_due, resized_due, atom_in_words_due}
use Rattle.latex2mathml_tex_atoms.specs.Wording.{Replaced}
use Rattle.latex2mathml_tex_atoms.proofs.Wording.{drop_more, take_more}
use Rattle.latex2mathml_tex.proofs.Marks as marks
use Rattle.latex2mathml_tex.proofs.{Marks.all_refuse, Opening.into_frame, Opening.out_of_frame, Opening.pushed}

pub words_made_of : (n : ℕ) (xs : List Element) → 0 < n → n ≤ length xs → row_element (take n xs) ≡ words_element (take n xs)
words_made_of zero xs some enough = absurd (omega arith)
words_made_of (suc n) [] some enough = absurd (omega arith)
words_made_of (suc n) (x ∷ xs) some enough = refl

-- What holds of the parser

-- a change of words replaces them
pub words_replaced : (change : Words → Words) (s : Start) (p : Parser) (b : Built) (ws after : CodeWords) → Replaced change ws (elements_of p) after (elements_in b) → s.style ≡ style_of p.style → PartMade (level ws.count s p) (Read (change (words_with ws (elements_of p))) (left_of p)) → Holds s (record p { builder = b }) (state.Words after)
words_replaced change s p b ws after r style k = record { style = style; claims = rw (r.words, r.below) k }

-- the accent of the words has ended, and the next one has begun
pub accent_begun : (s : Start) (p : Parser) (b : Built) (ws after : CodeWords) (accent : ℕ) → Replaced with_accent_ended ws (elements_of p) after (elements_in b) → WordGiven ws (Accented accent) s p → Holds s (record p { builder = b }) (state.Words (record after { accent = Some accent }))
accent_begun s p b ws after accent r g =
    let same : words_with (record after { accent = Some accent }) (elements_in b) ≡ record (with_accent_ended (words_with ws (elements_of p))) { accent = Some accent } = ap (λ (w : Words). record w { accent = Some accent }) r.words in
    record { style = g.style; claims = rw (same, r.below) g.leads }

-- there are elements for these words in place of others
pub replaced_can : (change : Words → Words) (p : Parser) (b : Built) (ws after : CodeWords) → Replaced change ws (elements_of p) after (elements_in b) → CanMake words_made ws.count p → CanMake words_made after.count (record p { builder = b })
replaced_can change p b ws after r can = record {
  elements = omega (arith, can.elements, r.grown);
  awaits = record { accepted = can.awaits.accepted; nested = can.awaits.nested };
}

pub words_step : (n : ℕ) (change : Words → Words) (p : Parser) (b : Built) (ws after new : CodeWords) → 6 ≤ n → new.count ≡ after.count → Replaced change ws (elements_of p) after (elements_in b) → CanMake words_made ws.count p → Follows (to_do p + n) (record p { builder = b }) (state.Words new)
words_step n change p b ws after new more same r can =
    let made = replaced_can change p b ws after r can in
    record { ready = record { elements = omega (arith, made.elements, same); may_come = made.awaits }; falls = omega (arith, more) }

pub core_of_words : (s : Start) (p : Parser) (b : Built) (n : ℕ) (c : CodeCore) (x : Element) (k : Core) → elements_in b ≡ x ∷ drop n (elements_of p) → core_with c x ≡ k → Begins (gives k) n s p → Holds s (record p { builder = b }) (state.Core c)
core_of_words s p b n c x k e f g = record { style = g.style; claims = rw (e, f) (given g.leads) }

pub core_of_words_step : (p : Parser) (b : Built) (n : ℕ) (c : CodeCore) (x : Element) → elements_in b ≡ x ∷ drop n (elements_of p) → CanMake core_made n p → Follows (to_do p + 6) (record p { builder = b }) (state.Core c)
core_of_words_step p b n c x e can = record {
  ready = record {
    elements = rw e (omega (arith, can.elements, length-drop n (elements_of p)));
    may_come = record { accepted = can.awaits.accepted; nested = can.awaits.nested };
  };
  falls = omega arith;
}

pub word_step : (p : Parser) (b : Built) (n : ℕ) (new : CodeWords) (x : Element) → CanMake words_made n p → new.count ≡ n + 1 → elements_in b ≡ x ∷ elements_of p → Follows (to_do p + 13) (record p { builder = b }) (state.Words new)
word_step p b n new x can one e = record {
  ready = record { elements = rw e (omega (arith, can.elements, one)); may_come = record { accepted = can.awaits.accepted; nested = can.awaits.nested } };
  falls = omega arith;
}

-- The row of one symbol

pub symbol_row : (c : CodeCore) (k : Core) (old put made whole : List Element) (none one : CodeRow) → IsPut c k old put → none.count ≡ 0 → row_with none (drop 1 put) ≡ empty_row → row_with one made ≡ with_atom InText (row_with none (drop 1 put)) (core_with c (top put)).atom → drop one.count made ≡ drop (none.count + 1) put → whole ≡ row_element (take one.count made) ∷ drop one.count made → whole ≡ (single InText k.atom).element ∷ old
symbol_row c k old put made whole none one is zero_count empty longer below e =
    let x = (core_with c (top put)).atom in
    let is_atom : x ≡ k.atom = ap (λ xs. (core_with c (top xs)).atom) is.element ∙ ap (λ (j : Core). j.atom) is.is in
    let is_row : row_with one made ≡ with_atom InText empty_row k.atom = longer ∙ ap (λ r. with_atom InText r x) empty ∙ ap (with_atom InText empty_row) is_atom in
    let elements : take one.count made ≡ (with_atom InText empty_row k.atom).elements = ap (λ r. r.elements) is_row in
    let others : drop one.count made ≡ old = below ∙ ap (λ n. drop (n + 1) put) zero_count ∙ ap (drop 1) is.element in
    e ∙ ap (λ xs. row_element xs ∷ drop one.count made) elements ∙ ap (λ xs. (single InText k.atom).element ∷ xs) others

-- the elements of the words, whose accent has ended, and that of a formula
pub formula_put : (s : Start) (p : Parser) (b c : Built) (ws after : CodeWords) (x : Element) → Replaced with_accent_ended ws (elements_of p) after (elements_in b) → elements_in c ≡ x ∷ elements_in b → WordGiven ws (Formula x) s p
    → Holds s (record p { builder = c }) (state.Words (record { count = after.count + 1; last = None; accent = None }))
formula_put s p b c ws after x r e g =
    let elements : take after.count (elements_in b) ≡ (with_accent_ended (words_with ws (elements_of p))).elements = ap (λ (w : Words). w.elements) r.words in
    let first : take (after.count + 1) (elements_in c) ≡ x ∷ (with_accent_ended (words_with ws (elements_of p))).elements = ap (take (after.count + 1)) e ∙ take_more after.count x (elements_in b) ∙ ap (λ xs. x ∷ xs) elements in
    let below : drop (after.count + 1) (elements_in c) ≡ drop ws.count (elements_of p) = ap (drop (after.count + 1)) e ∙ drop_more after.count x (elements_in b) ∙ r.below in
    record { style = g.style; claims = rw (first, below) g.leads }

-- Refusals

-- a part of words that is refused
pub part_refuses : (s : Start) (p : Parser) (n : ℕ) (r : Refusal) → PartMade (level n s p) (Refused r) → Whole s (Refused r)
part_refuses s p n r k = all_refuse r s (reverse p.frames.stack.items) (drop n (elements_of p)) (marks.part_refuses r (level n s p) k)

pub words_refused : (s : Start) (p q : Parser) (n : ℕ) (r : Refusal) → s.style ≡ style_of p.style → q.style ≡ p.style → refusal_of q.refusal ≡ Some r → PartMade (level n s p) (Refused r) → Holds s q state.Refused
words_refused s p q n r e f h k = record { style = e ∙ ap style_of (sym f); claims = rw h (part_refuses s p n r k) }

-- nothing is put after words at a change
pub words_stay : (s : Start) (p : Parser) (ws : CodeWords) (change : WordChange) → WordGiven ws (word_of change) s p → Holds s p (state.Words ws)
words_stay s p ws (word_change.ToAlphabet a) g = record { style = g.style; claims = g.leads }
words_stay s p ws (word_change.ToSize size) g = record { style = g.style; claims = g.leads }

-- What a unit is in words

module _ (s : Start) (p : Parser) (ws : CodeWords) (piece : Piece) (place : ℕ) (c : Context) where
  pub stands : (w : Word) → word_rule c.alphabet piece ≡ IsWord w → BeginsWordOf ws piece place c s p → WordGiven ws w s p
  stands w e g = record { style = g.style; leads = word_given (level ws.count s p) {u = grammar.unit piece place} e g.leads }

  pub no_part : (q : Parser) (kind : Kind) → q.style ≡ p.style → refusal_of q.refusal ≡ Some (refusal_at kind place) → word_rule c.alphabet piece ≡ NoWord kind → BeginsWordOf ws piece place c s p → Holds s q state.Refused
  no_part q kind f h e g = words_refused s p q ws.count (refusal_at kind place) g.style f h (word_refused_at (level ws.count s p) {u = grammar.unit piece place} e g.leads)

  pub in_alphabet_due : (i : Input) (d : CodeContext) {a : Option Alphabet} → units_at i ≡ past_space (left_of p) → context_of d ≡ in_words c a → word_rule c.alphabet piece ≡ TakesWords a → BeginsWordOf ws piece place c s p → Holds s (record p { input = i }) (state.Word ws place d)
  in_alphabet_due i d h is e g = record { style = g.style; claims = rw (h, is) (words_in_alphabet_due (level ws.count s p) {u = grammar.unit piece place} e g.leads) }

-- Atoms in words

-- a command takes a length, and its atom is due
pub atom_shown : (s : Start) (p : Parser) (ws : CodeWords) (name : List ℕ) (place : ℕ) (c : Context) → word_rule c.alphabet (grammar.Command name) ≡ ShowsAtom → BeginsWordOf ws (grammar.Command name) place c s p → ShowsAtomOf ws (rule place c (grammar.Command name)) s p
atom_shown s p ws name place c e g = record { style = g.style; leads = atom_in_words_due (level ws.count s p) {u = grammar.unit (grammar.Command name) place} e g.leads }

-- its frame holds the words before it
pub atom_held : (s : Start) (p : Parser) (b : Built) (fr : Frames) (ws after : CodeWords) (place : ℕ) (c : CodeContext) (r : Rule) → Replaced with_accent_ended ws (elements_of p) after (elements_in b) → fr.stack.items ≡ p.frames.stack.items ++ frame.AtomInWords after.count place c ∷ [] → ShowsAtomOf ws r s p → BeginsIn c r 0 s (record p { builder = b; frames = fr })
atom_held s p b fr ws after place c r ended same g =
    let elements : take after.count (elements_in b) ≡ (with_accent_ended (words_with ws (elements_of p))).elements = ap (λ (w : Words). w.elements) ended.words in
    let around = pushed s p.frames.stack.items (frame.AtomInWords after.count place c) (elements_in b) in
    record {
      style = g.style;
      context = rw (same, around) refl;
      leads = rw (same, around, elements, ended.below) g.leads;
    }

-- Words in braces

halted : {place : ℕ} {c : Context} {K : Outcome Words → Type 0} {ws : Words} {r : Refusal} → PartMade (words place c K) (Read ws (grammar.Stop r)) → WordLeads (words place c K) place c ws (grammar.Stop r)
halted k o word_stopped = words_halted k

-- there is one innermost frame
pub one_innermost : (style : CodeStyle) (fs a b : List Frame) (f g : Frame) → IsInnermost style fs f a → IsInnermost style fs g b → f ≡ g
one_innermost style fs a b f g (none_begun h k i) (none_begun h' k' i') = i ∙ sym i'
one_innermost style fs a b f g (none_begun h k i) (on_top h') = let no : [] ≡ g ∷ reverse b = ap reverse (sym h ∙ h') ∙ reverse-append b (g ∷ []) in cc
one_innermost style fs a b f g (on_top h) (none_begun h' k' i') = let no : [] ≡ f ∷ reverse a = ap reverse (sym h' ∙ h) ∙ reverse-append a (f ∷ []) in cc
one_innermost style fs a b f g (on_top h) (on_top h') = let same : f ∷ reverse a ≡ g ∷ reverse b = sym (reverse-append a (f ∷ [])) ∙ ap reverse (sym h ∙ h') ∙ reverse-append b (g ∷ []) in cc

module _ (s : Start) (p : Parser) (ws : CodeWords) (place : ℕ) (c : CodeContext) (others : List Frame) (inner : IsInnermost p.style p.frames.stack.items (frame.Words place c) others) (h : Holds s p (state.Words ws)) where
  abbrev around : Level
  around = inside s others (drop ws.count (elements_of p))

  within_braces : PartMade (words place (context_of c) (PartMade around)) (Read (words_with ws (elements_of p)) (left_of p))
  within_braces = into_frame (λ l. PartMade l (Read (words_with ws (elements_of p)) (left_of p))) s p.style h.style p.frames.stack.items others (frame.Words place c) (drop ws.count (elements_of p)) inner h.claims

  pub braces_closed : (i : Input) (fr : Frames) (u : grammar.Unit) → fr.stack.items ≡ others → left_of p ≡ grammar.Next u (units_at i) → IsTrue (is_close u.piece) → EndsGroupOf ws s (record p { input = i; frames = fr })
  braces_closed i fr u same e close = record { style = h.style; leads = rw same (words_ended {K = PartMade around} close (rw e at within_braces)) }

  pub braces_unended : (q : Parser) (at : ℕ) → left_of p ≡ grammar.End at → q.style ≡ p.style → refusal_of q.refusal ≡ Some (refusal_at UnclosedBrace place) → Holds s q state.Refused
  braces_unended q at e f g = record {
    style = h.style ∙ ap style_of (sym f);
    claims = rw g (all_refuse (refusal_at UnclosedBrace place) s (reverse others) (drop ws.count (elements_of p)) (marks.part_refuses (refusal_at UnclosedBrace place) around (words_unended {K = PartMade around} (rw e at within_braces))));
  }

  pub change_taken : (i : Input) (fr : Frames) (u : grammar.Unit) (w : Word) → fr.stack.items ≡ others → left_of p ≡ grammar.Next u (units_at i) → IsFalse (is_close u.piece) → IsChange (context_of c).alphabet u.piece w → ChangesWords ws place (context_of c) w s (record p { input = i; frames = fr })
  change_taken i fr u w same e other change = record { style = h.style; taken = u; other = other; change = change; leads = rw same (rw e at within_braces) }

  pub word_behind : (u : grammar.Unit) (l : grammar.Units) → left_of p ≡ grammar.Next u l → IsFalse (is_close u.piece) → size_after (word_rule (context_of c).alphabet u.piece) ≡ None → ligature_start ws.accent (context_of c).alphabet u.piece ≡ None → word_box u.piece ≡ None → alphabet_behind (context_of c).alphabet u.piece ≡ (context_of c).alphabet → Holds s p (state.Word ws place c)
  word_behind u l e other no_size none no_box kept = record {
    style = h.style;
    claims = out_of_frame (λ m. WordLeads m place (context_of c) (words_with ws (elements_of p)) (left_of p)) s p.style h.style p.frames.stack.items others (frame.Words place c) (drop ws.count (elements_of p)) inner (rw e (word_due {K = PartMade around} other no_size none no_box kept (rw e at within_braces)));
  }

  pub box_behind : (i : Input) (u : grammar.Unit) (box : WordBox) → left_of p ≡ grammar.Next u (units_at i) → IsFalse (is_close u.piece) → size_after (word_rule (context_of c).alphabet u.piece) ≡ None → ligature_start ws.accent (context_of c).alphabet u.piece ≡ None → word_box u.piece ≡ Some box → alphabet_behind (context_of c).alphabet u.piece ≡ (context_of c).alphabet
      → ShowsAtomOf ws (box_rule u.place (context_of c) box) s (record p { input = i })
  box_behind i u box e other no_size none is kept = record {
    style = h.style;
    leads = out_of_frame (λ m. RuleLeads (box_rule u.place (context_of c) box) (λ o. PartMade m (as_atom_in_words (with_accent_ended (words_with ws (elements_of p))).elements o)) (units_at i)) s p.style h.style p.frames.stack.items others (frame.Words place c) (drop ws.count (elements_of p)) inner (box_due {K = PartMade around} other no_size none is kept (rw e at within_braces));
  }

  pub joined_behind : (i : Input) (u : grammar.Unit) (first : ℕ) → left_of p ≡ grammar.Next u (units_at i) → ligature_start ws.accent (context_of c).alphabet u.piece ≡ Some first → JoinsWords ws first (context_of c).alphabet s (record p { input = i })
  joined_behind i u first e start = record {
    style = h.style;
    leads = out_of_frame (λ m. PartMade m (Read (with_word (words_with ws (elements_of p)) (shown_character (context_of c).alphabet (joined first (units_at i)).0)) (joined first (units_at i)).1)) s p.style h.style p.frames.stack.items others (frame.Words place c) (drop ws.count (elements_of p)) inner (joined_due {K = PartMade around} start (rw e at within_braces));
  }

  pub word_stops : (r : Refusal) → left_of p ≡ grammar.Stop r → Holds s p (state.Word ws place c)
  word_stops r e = record {
    style = h.style;
    claims = out_of_frame (λ m. WordLeads m place (context_of c) (words_with ws (elements_of p)) (left_of p)) s p.style h.style p.frames.stack.items others (frame.Words place c) (drop ws.count (elements_of p)) inner (rw e (halted {K = PartMade around} (rw e at within_braces)));
  }

-- Characters of words that are set as one

pub joined_given : (s : Start) (p : Parser) (i : Input) (ws : CodeWords) (first whole : ℕ) (a : Option Alphabet) → joined first (left_of p) ≡ (whole, units_at i) → JoinsWords ws first a s p → WordGiven ws (shown_character a whole) s (record p { input = i })
joined_given s p i ws first whole a same g = record {
  style = g.style;
  leads = subst (λ (found : ℕ × grammar.Units). PartMade (level ws.count s p) (Read (with_word (words_with ws (elements_of p)) (shown_character a found.0)) found.1)) same g.leads;
}

-- Changes of words in braces

module _ (s : Start) (p : Parser) (ws : CodeWords) (place : ℕ) where
  pub alphabet_changed : (c : Context) {a : Alphabet} → ChangesWords ws place c (Changed a) s p → GoesOnInBraces ws place (in_words c (Some a)) s p
  alphabet_changed c g = record { style = g.style; leads = changed_due {K = PartMade (level ws.count s p)} g.other g.change.rule g.change.behind g.leads }

  pub size_changed : (c : Context) {size : TextSize} → ChangesWords ws place c (Resized size) s p → GoesOnInSize ws place size c s p
  size_changed c g = record { style = g.style; leads = resized_due {K = PartMade (level ws.count s p)} g.change.rule g.leads }

  -- the words in the other size are those of a frame
  pub size_held : (b : Built) (fr : Frames) (after : CodeWords) (size : CodeSize) (c d : CodeContext) → Replaced with_accent_ended ws (elements_of p) after (elements_in b) → fr.stack.items ≡ p.frames.stack.items ++ frame.Resized after.count size c ∷ [] → context_of d ≡ in_size (context_of c) (text_size_of size) → GoesOnInSize ws place (text_size_of size) (context_of c) s p
      → GoesOnInBraces (record { count = 0; last = None; accent = None }) place (context_of d) s (record p { builder = b; frames = fr })
  size_held b fr after size c d r same is g =
      let elements : take after.count (elements_in b) ≡ (with_accent_ended (words_with ws (elements_of p))).elements = ap (λ (w : Words). w.elements) r.words in
      record {
        style = g.style;
        leads = rw (is, same, pushed s p.frames.stack.items (frame.Resized after.count size c) (elements_in b), elements, r.below) g.leads;
      }
