-- How rules, operands and words begin with the unit that was taken.
use Rattle.std.proofs.Common.{inl, inr, ◌≡◌, ℕ, ◌+◌, ◌≤◌, suc, false, true, List, [], ◌∷◌, ◌++◌, None, Some, option_map, refl, sym, ap, ◌∙◌, subst, arith}
use Rattle.std.specs.Char.{is_ascii_digit}
use Rattle.latex2mathml_elements.specs.Element.{Element}
use Rattle.latex2mathml_builder.specs.Built.{Built, elements_in}
use Rattle.latex2mathml_tex_grammar.specs.Heights.{Low}
use Rattle.latex2mathml_tex_grammar.specs.{Makes.Core, Makes.braced, Makes.core, Makes.number, Next.past_space, Rows.empty_row, Words.words_atom}
use Rattle.latex2mathml_tex_grammar.specs.Atoms.{Plain, atom}
use Rattle.latex2mathml_tex_grammar.specs.Symbols.{Ordinary}
use Rattle.latex2mathml_tex_grammar.specs.Reading.{Outcome, Read}
use Rattle.latex2mathml_tex_grammar.specs.Refusal.{MissingArgument, Refusal, refusal_at}
use Rattle.latex2mathml_tex_grammar.specs.Rules.{Context as RuleContext, InBraces, gives, reads_words, refuses, rule}
use Rattle.latex2mathml_tex_grammar.specs.Starts.{DigitStart, GroupStart, OtherStart, is_no_operand, operand_start}
use Rattle.latex2mathml_tex_grammar.specs.Rows.{Operand}
use Rattle.latex2mathml_tex_grammar.specs.Units as grammar
use Rattle.latex2mathml_tex_grammar.specs.Units.{Units, Next, End, Stop}
use Rattle.latex2mathml_tex.specs.Frames.{Start, context_at, enter}
use Rattle.latex2mathml_tex_atoms.specs.Models as code
use Rattle.latex2mathml_tex_units.specs.Left.{put_back, unit_count, units_at, units_behind}
use Rattle.latex2mathml_tex.specs.Innermost.{frame_context}
use Rattle.latex2mathml_tex.specs.Levels.{CoreMade, Leads, Level, OperandMade, Refuses, RuleLeads, as_operand}
use Rattle.latex2mathml_tex.specs.Levels as levels
use Rattle.latex2mathml_tex_commands.specs.Meanings.{alphabet_of, style_of}
use Rattle.latex2mathml_tex_atoms.specs.Models.{context_of, core_with}
use Rattle.latex2mathml_tex.specs.Steps.{AwaitsCore, AwaitsOperand, Begins, BeginsIn, BeginsUnit, CanBegin, Follows, HasElements, Holds, InnermostIs, Took, elements_of, left_of, level, level_within, operand_place, to_do, words_made}
use Rattle.latex2mathml_tex_units.specs.Taking.{kind_of, piece_of, unit_of}
use Rattle.latex2mathml_tex_units.specs.declared.{error.TexError.TexError, input.Input.Input, unit.Fault.Fault, unit.Next.Next as CodeNext, unit.Piece.Piece, unit.Unit.Unit}
use Rattle.latex2mathml_tex_atoms.specs.declared.{atoms.Context.Context, atoms.Core.Core as CodeCore, atoms.Row.Row as CodeRow}
use Rattle.latex2mathml_tex.specs.declared.{parse.Parser.Parser, parse.State.State, parse.frames.Frames.Frames}
use Rattle.latex2mathml_tex.specs.declared.parse.State.TheVariants as state
use Rattle.latex2mathml_tex.specs.declared.parse.frames.Frame.{Frame}
use Rattle.latex2mathml_tex.specs.declared.parse.endings.Ending.TheVariants as ending
use Rattle.latex2mathml_tex.specs.declared.parse.frames.Frame.TheVariants as frame
use Rattle.latex2mathml_tex_units.specs.declared.unit.Next.TheVariants as next
use Rattle.latex2mathml_tex_units.specs.declared.unit.Piece.TheVariants as piece
use Rattle.latex2mathml_tex.proofs.Leading.{core_ended, core_halted, digit_due, group_due, negated_due, none_due, operand_ended, operand_halted, other_due, refused, row_due, words_due}
use Rattle.latex2mathml_tex.proofs.Marks.{core_refuses}
use Rattle.latex2mathml_tex_grammar.proofs.Shrinking.{no_more_past_space}
use Rattle.latex2mathml_tex.proofs.Opening.{begins_in, context_is, out_of_frame, pushed}
use Rattle.latex2mathml_tex.proofs.Taken.{pushed_can, pushed_weight}

-- What comes next after white space

module _ (l : Units) (i : Input) (past : units_at i ≡ past_space l) where
  -- there are no more units than before
  pub no_more_next : unit_count (units_at i) ≤ unit_count l
  no_more_next = rw past (no_more_past_space l)

  module _ (n : CodeNext) (peeked : units_at i ≡ put_back n (units_behind i)) where
    pub ends_next : (at : ℕ) → n ≡ next.End at → past_space l ≡ End at
    ends_next at is = sym past ∙ peeked ∙ ap (λ n. put_back n (units_behind i)) is

    pub stops_next : (fault : Fault) (at : ℕ) → n ≡ next.Fault fault at → past_space l ≡ Stop (refusal_at (kind_of fault) at)
    stops_next fault at is = sym past ∙ peeked ∙ ap (λ n. put_back n (units_behind i)) is

    pub stands_next : (u : Unit) → n ≡ next.Unit u → past_space l ≡ Next (unit_of u) (units_behind i)
    stands_next u is = sym past ∙ peeked ∙ ap (λ n. put_back n (units_behind i)) is

    pub taken_next : (u : Unit) (j : Input) → n ≡ next.Unit u → units_at j ≡ units_behind i → past_space l ≡ Next (unit_of u) (units_at j)
    taken_next u j is behind = stands_next u is ∙ ap (Next (unit_of u)) (sym behind)

    -- there is at least one unit less than before, if one was taken
    pub one_less_next : (u : Unit) (j : Input) → n ≡ next.Unit u → units_at j ≡ units_behind i → suc (unit_count (units_at j)) ≤ unit_count l
    one_less_next u j is behind =
        let one : unit_count (past_space l) ≡ suc (unit_count (units_at j)) = ap unit_count (taken_next u j is behind) in
        let less = no_more_past_space l in
        omega (arith, one, less)

-- what is refused before it begins
pub refused_next : (p q : Parser) (i : Input) (error : TexError) (st : State) → q ≡ record p { input = i; refusal = error } → st ≡ state.Refused → unit_count (units_at i) ≤ unit_count (left_of p) → HasElements 0 p → Follows (to_do p + 1) q st
refused_next p q i error st same is less enough =
    subst (λ q. Follows (to_do p + 1) q st) (sym same) (subst (λ t. Follows (to_do p + 1) (record p { input = i; refusal = error }) t) (sym is)
    (record { ready = record { elements = enough; may_come = search }; falls = omega (arith, less) }))

-- Words

module _ (p : Parser) (i : Input) (fr : Frames) (place : ℕ) (c : Context) (opened : fr.stack.items ≡ p.frames.stack.items ++ frame.Text ∷ []) (past : units_at i ≡ past_space (left_of p)) where
  pub words_begin : (s : Start) → Begins (reads_words place (context_of c) (λ ws. gives (core (words_atom ws)))) 0 s p → Holds s (record p { input = i; frames = fr }) (state.Word (record { count = 0; last = None; accent = None }) place c)
  words_begin s g = record {
    style = g.style;
    claims = rw (opened, past, pushed s p.frames.stack.items frame.Text (elements_of p)) (words_due (λ ws. gives (core (words_atom ws))) g.leads);
  }

  pub words_begin_step : CanBegin 0 p → Follows (to_do p + 6) (record p { input = i; frames = fr }) (state.Word (record { count = 0; last = None; accent = None }) place c)
  words_begin_step can =
      let made = pushed_can p fr frame.Text opened words_made 0 0 (omega arith) can search in
      let weight = pushed_weight p fr frame.Text opened in
      let less = no_more_past_space (left_of p) in
      record { ready = record { elements = made.elements; may_come = record { accepted = made.awaits.accepted; nested = made.awaits.nested } }; falls = rw past (omega (arith, weight, less)) }

-- Rules

-- the rule of this piece begins in the context of the innermost frame
pub unit_begins : (s : Start) (p : Parser) (f : Frame) (k : Context) (u : Unit) (is : Piece) → k ≡ frame_context f → u.piece ≡ is → InnermostIs f p → BeginsUnit u s p → BeginsIn k (rule u.place (context_of k) (piece_of is)) 0 s p
unit_begins s p f k u is e h i g = rw e (begins_in s p f (λ c. rule u.place c (piece_of is)) i (rw h at g))

-- a group is due within its frame
pub group_begins : (s : Start) (p : Parser) (k : Context) (row : CodeRow) (place : ℕ) → row ≡ code.empty_row → BeginsIn k (rule place (context_of k) grammar.Open) 0 s p → Leads (level_within (frame.Row ending.Group place k row) 0 s p) (left_of p)
group_begins s p k row place e g = rw e (row_due (λ xs. gives (core (braced xs))) g.leads)

-- what the rule of the unit refuses is refused at the level
pub rule_refused : (s : Start) (p : Parser) (r : Refusal) → Begins (refuses r) 0 s p → Refuses (level 0 s p) r
rule_refused s p r g = core_refuses r (level 0 s p) (refused g.leads)

-- Atoms without scripts

module _ (s : Start) (p : Parser) (place : ℕ) (due : AwaitsCore place p) (g : Holds s p state.Next) where
  -- what holds at any level where an atom without scripts is due holds at this one
  at_core : (P : Level → Type 0) → ((c : RuleContext) (K : Outcome Core → Type 0) → P (levels.core place c K)) → P (level 0 s p)
  at_core P on = elim due.1 [
    | inl i ↦ out_of_frame P s p.style g.style p.frames.stack.items i.0 (frame.Negation place due.0) (elements_of p) i.1 (on _ _)
    | inr (n, i) ↦ out_of_frame P s p.style g.style p.frames.stack.items i.0 (frame.AtomInWords n place due.0) (elements_of p) i.1 (on _ _)
  ]

  pub core_begins : (i : Input) (u : Unit) → past_space (left_of p) ≡ Next (unit_of u) (units_at i) → BeginsUnit u s (record p { input = i })
  core_begins i u e = record {
    style = g.style;
    leads = at_core (λ l. Leads l (left_of p) → RuleLeads (rule u.place (context_at l) (piece_of u.piece)) (CoreMade l) (units_at i)) (λ c K k. negated_due e k) g.claims;
  }

  pub no_core_at_end : (at : ℕ) → past_space (left_of p) ≡ End at → Refuses (level 0 s p) (refusal_at MissingArgument place)
  no_core_at_end at e = at_core (λ l. Leads l (left_of p) → Refuses l (refusal_at MissingArgument place)) (λ c K k. core_ended e k) g.claims

  pub no_core_there : (r : Refusal) → past_space (left_of p) ≡ Stop r → Refuses (level 0 s p) r
  no_core_there r e = at_core (λ l. Leads l (left_of p) → Refuses l r) (λ c K k. core_halted e k) g.claims

-- Operands

module _ (P : Level → Type 0) (s : Start) (place : ℕ) (on : (c : RuleContext) (K : Outcome Operand → Type 0) → P (levels.operand place c K)) where
  -- the frames that wait for an operand
  in_operand : (f : Frame) (xs : List Element) (l : Level) → operand_place f ≡ Some place → P (enter s f xs l)
  in_operand (frame.Last made at c) xs l e = let same : at ≡ place = cc in rw same (on _ _)
  in_operand (frame.First one at c) xs l e = let same : at ≡ place = cc in rw same (on _ _)
  in_operand (frame.Script base scripts side at c) xs l e = let same : at ≡ place = cc in rw same (on _ _)
  in_operand f xs l e = absurd (cc)

-- what holds at any level where an operand is due holds at this one
pub at_operand : (P : Level → Type 0) (s : Start) (p : Parser) (place : ℕ) → s.style ≡ style_of p.style → AwaitsOperand place p → ((c : RuleContext) (K : Outcome Operand → Type 0) → P (levels.operand place c K)) → P (level 0 s p)
at_operand P s p place style due on = out_of_frame P s p.style style p.frames.stack.items due.1.0 due.0 (elements_of p) due.1.1 (in_operand P s place on due.0 (elements_of p) _ due.2)

module _ (s : Start) (p : Parser) (place : ℕ) (due : AwaitsOperand place p) (g : Holds s p state.Next) where
  pub no_operand_begins : (u : Unit) (m : Units) → past_space (left_of p) ≡ Next (unit_of u) m → is_no_operand (piece_of u.piece) ≡ true → Refuses (level 0 s p) (refusal_at MissingArgument place)
  no_operand_begins u m e none = at_operand (λ l. Leads l (left_of p) → Refuses l (refusal_at MissingArgument place)) s p place g.style due (λ c K k. none_due e (rw none refl) k) g.claims

  pub no_operand_at_end : (at : ℕ) → past_space (left_of p) ≡ End at → Refuses (level 0 s p) (refusal_at MissingArgument place)
  no_operand_at_end at e = at_operand (λ l. Leads l (left_of p) → Refuses l (refusal_at MissingArgument place)) s p place g.style due (λ c K k. operand_ended e k) g.claims

  pub no_operand_there : (r : Refusal) → past_space (left_of p) ≡ Stop r → Refuses (level 0 s p) r
  no_operand_there r e = at_operand (λ l. Leads l (left_of p) → Refuses l r) s p place g.style due (λ c K k. operand_halted e k) g.claims

module _ (s : Start) (p : Parser) (u : Unit) (due : (place : ℕ) × AwaitsOperand place p) (some : is_no_operand (piece_of u.piece) ≡ false) (g : Took u s p) where
  -- what holds at any level where the operand is due that begins with the unit
  taken_at : (P : Level → Type 0) → ((c : RuleContext) (K : Outcome Operand → Type 0) → Leads (levels.operand due.0 c K) g.before → P (levels.operand due.0 c K)) → P (level 0 s p)
  taken_at P on = at_operand (λ l. Leads l g.before → P l) s p due.0 g.style due.1 on g.leads

  -- a group is due within its frame
  pub group_taken : (k : Context) (f : Frame) (row : CodeRow) → k ≡ frame_context f → InnermostIs f p → row ≡ code.empty_row → u.piece ≡ piece.Open → Leads (level_within (frame.Row ending.Operand u.place k row) 0 s p) (left_of p)
  group_taken k f row e i none is =
      let starts : operand_start (piece_of u.piece) ≡ GroupStart = rw some (rw is refl) in
      let led : Leads (levels.row (InBraces u.place) (context_at (level 0 s p)) empty_row (λ o. OperandMade (level 0 s p) (as_operand o))) (left_of p) =
      taken_at (λ l. Leads (levels.row (InBraces u.place) (context_at l) empty_row (λ o. OperandMade l (as_operand o))) (left_of p)) (λ c K k. group_due g.next starts k) in
      let same = ap context_of e ∙ context_is s p.style p.frames.stack.items f (elements_of p) g.style i in
      rw (none, same) led

  -- a digit is the whole operand
  pub digit_taken : (b : Built) (k : Context) (f : Frame) (c : CodeCore) (digit : ℕ) → k ≡ frame_context f → InnermostIs f p → u.piece ≡ piece.Character digit → is_ascii_digit digit ≡ true → elements_in b ≡ (number (option_map alphabet_of k.alphabet) (digit ∷ [])).element ∷ elements_of p → ((x : Element) → core_with c x ≡ core (atom (Plain Ordinary) Low x)) → Holds s (record p { builder = b }) (state.Core c)
  digit_taken b k f c digit e i is one put made =
      let starts : operand_start (piece_of u.piece) ≡ DigitStart (digit ∷ []) = rw some (rw is (rw one refl)) in
      let led : CoreMade (level 0 s p) (Read (core (number (context_at (level 0 s p)).alphabet (digit ∷ []))) (left_of p)) =
      taken_at (λ l. CoreMade l (Read (core (number (context_at l).alphabet (digit ∷ []))) (left_of p))) (λ c K k. digit_due g.next starts k) in
      let same = ap context_of e ∙ context_is s p.style p.frames.stack.items f (elements_of p) g.style i in
      record { style = g.style; claims = rw (put, made (number (option_map alphabet_of k.alphabet) (digit ∷ [])).element) (rw (sym same) at led) }

  -- an atom without scripts begins
  pub other_taken : operand_start (piece_of u.piece) ≡ OtherStart → BeginsUnit u s p
  other_taken starts = record {
    style = g.style;
    leads = taken_at (λ l. RuleLeads (rule u.place (context_at l) (piece_of u.piece)) (CoreMade l) (left_of p)) (λ c K k. other_due g.next starts k);
  }

-- an operand that is neither a group nor a digit
pub not_digit_starts : (is : Piece) (c : ℕ) → is ≡ piece.Character c → is_ascii_digit c ≡ false → is_no_operand (piece_of is) ≡ false → operand_start (piece_of is) ≡ OtherStart
not_digit_starts is c e none some = rw some (rw e (rw none refl))

pub other_starts : (is : Piece) → (is ≡ piece.Open → ⊥) → ((c : ℕ) → is ≡ piece.Character c → ⊥) → is_no_operand (piece_of is) ≡ false → operand_start (piece_of is) ≡ OtherStart
other_starts piece.Space no_group no_character some = refl
other_starts piece.Open no_group no_character some = absurd (no_group refl)
other_starts piece.Close no_group no_character some = absurd (cc)
other_starts (piece.Command name) no_group no_character some = rw some refl
other_starts (piece.Character c) no_group no_character some = absurd (no_character c refl)
