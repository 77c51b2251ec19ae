-- What holds of the parser after a mark, and after the operand of a script.
use Rattle.std.proofs.Common.{◌≡◌, ℕ, zero, suc, ◌+◌, ◌<◌, ◌≤◌, Bool, true, false, List, [], ◌∷◌, Option, Some, None, drop, take, length, reverse, refl, sym, ap, ◌∙◌, subst, arith}
use Rattle.latex2mathml_elements.specs.Element.{Element}
use Rattle.latex2mathml_builder.specs.Built.{Built, elements_in}
use Rattle.latex2mathml_attributes.specs.declared.attributes.Side.{Side}
use Rattle.latex2mathml_attributes.specs.declared.attributes.Side.TheVariants as side
use Rattle.latex2mathml_tex_grammar.specs.{Atoms.Atom, Meaning.LimitPlace, Next.past_space, Symbols.Class, Symbols.InScript}
use Rattle.latex2mathml_tex_grammar.specs.Symbols as class
use Rattle.latex2mathml_tex_grammar.specs.Makes.{Scripts, behind_primes, prime_mark}
use Rattle.latex2mathml_tex_grammar.specs.Reading.{Outcome, Read, Refused}
use Rattle.latex2mathml_tex_grammar.specs.Refusal.{Kind, LimitsWithoutOperator, Refusal, SecondSubscript, SecondSuperscript, refusal_at}
use Rattle.latex2mathml_tex_grammar.specs.Rows.{Operand, row_element}
use Rattle.latex2mathml_tex_grammar.specs.Rules.{styled}
use Rattle.latex2mathml_tex_grammar.specs.Starts as starts
use Rattle.latex2mathml_tex_grammar.specs.Starts.{GoesOn, TakesOperand, Forbidden, mark_of, step_of, step_of_mark}
use Rattle.latex2mathml_tex_grammar.specs.Units.{Unit, Units, Next}
use Rattle.latex2mathml_tex.specs.Frames.{RowMade, ScriptMade, Start, Whole, base_of, behind_mark, context_at, element_count, enter, inside, inside_all, primes_put, with_script, within}
use Rattle.latex2mathml_tex_atoms.specs.Models.{has_script}
use Rattle.latex2mathml_tex_units.specs.Errors.{second_on}
use Rattle.latex2mathml_tex.specs.Innermost.{frame_context}
use Rattle.latex2mathml_tex_commands.specs.declared.meaning.Style.TheVariants as code_style
use Rattle.latex2mathml_tex.proofs.Opening.{context_is}
use Rattle.latex2mathml_tex.specs.Levels.{AtomMade, CoreMade, Leads, Level, OperandMade, PartMade, Refuses, ScriptsLead, row, operand, part, words}
use Rattle.latex2mathml_tex.specs.Levels.{core as core_level}
use Rattle.latex2mathml_tex_commands.specs.Meanings.{limit_place_of, style_of}
use Rattle.latex2mathml_tex_atoms.specs.declared.heights.Height.{Height as CodeHeight}
use Rattle.latex2mathml_tex_atoms.specs.Models.{context_of, element_above, element_below, height_of, row_count, script_count, scripts_with, top}
use Rattle.latex2mathml_tex.specs.Steps.{Holds, InnermostIs, TookMark, TookScript, elements_of, left_of, level, level_within, mark_model}
use Rattle.latex2mathml_tex_units.specs.declared.error.TexErrorKind.{TexErrorKind}
use Rattle.latex2mathml_tex_commands.specs.declared.meaning.LimitPlace.{LimitPlace as CodeLimitPlace}
use Rattle.latex2mathml_tex_atoms.specs.declared.{atoms.Context.Context, atoms.Core.Core as CodeCore, atoms.Scripts.Scripts as CodeScripts}
use Rattle.latex2mathml_tex.specs.declared.{parse.Parser.Parser, parse.scripts.Mark.Mark}
use Rattle.latex2mathml_tex_units.specs.declared.error.TexErrorKind.TheVariants as error
use Rattle.latex2mathml_tex.specs.declared.parse.State.TheVariants as state
use Rattle.latex2mathml_tex.specs.declared.parse.endings.Ending.{Ending}
use Rattle.latex2mathml_tex.specs.declared.parse.frames.Frame.{Frame}
use Rattle.latex2mathml_tex.specs.declared.parse.endings.Ending.TheVariants as ending
use Rattle.latex2mathml_tex.specs.declared.parse.frames.Frame.TheVariants as frame
use Rattle.latex2mathml_tex.specs.declared.parse.scripts.Mark.TheVariants as mark
use Rattle.latex2mathml_tex.proofs.Leading.{ScriptLeads, marked, script_due, script_twice}

-- A formula that is refused at any level is refused as a whole

module _ (r : Refusal) where
  pub core_refuses : (l : Level) → CoreMade l (Refused r) → Refuses l r
  core_refuses (row e c xs K) k = k
  core_refuses (operand place c K) k = k
  core_refuses (core_level place c K) k = k
  core_refuses (part K) k = absurd k
  core_refuses (words place a K) k = absurd k

  pub operand_refuses : (l : Level) → OperandMade l (Refused r) → Refuses l r
  operand_refuses (operand place c K) k = k
  operand_refuses l k = absurd k

  pub atom_refuses : (l : Level) → AtomMade l (Refused r) → Refuses l r
  atom_refuses (row e c xs K) k = k
  atom_refuses l k = absurd k

  pub part_refuses : (l : Level) → PartMade l (Refused r) → Refuses l r
  part_refuses (part K) k = k
  part_refuses (words place a K) k = k
  part_refuses l k = absurd k

  module _ (s : Start) (l : Level) (on : Refuses l r → Whole s (Refused r)) where
    row_refuses : (e : Ending) (place : ℕ) (xs : List Element) → RowMade s e place xs l (Refused r) → Whole s (Refused r)
    row_refuses ending.Text place xs k = k
    row_refuses ending.Group place xs k = on (core_refuses l k)
    row_refuses ending.Operand place xs k = on (operand_refuses l k)
    row_refuses ending.Degree place xs k = on (core_refuses l k)
    row_refuses ending.BelowArrow place xs k = on (core_refuses l k)
    row_refuses (ending.Delimiters opening) place xs k = on (core_refuses l k)
    row_refuses (ending.Formula n) place xs k = on (part_refuses l k)
    row_refuses (ending.Cell t) place xs k = on (core_refuses l k)
    row_refuses (ending.FirstLabel labeled) place xs k = on (core_refuses l k)
    row_refuses (ending.SecondLabel labeled) place xs k = on (core_refuses l k)

    frame_refuses : (f : Frame) (xs : List Element) → Refuses (enter s f xs l) r → Whole s (Refused r)
    frame_refuses (frame.Row e place c above) xs k = row_refuses e place (drop (row_count above) xs) k
    frame_refuses (frame.Last made place c) xs k = on (core_refuses l k)
    frame_refuses (frame.First one place c) xs k = on (core_refuses l k)
    frame_refuses (frame.Negation place c) xs k = on (core_refuses l k)
    frame_refuses (frame.Script base scripts side place c) xs k = on (atom_refuses l k)
    frame_refuses frame.Text xs k = on (core_refuses l k)
    frame_refuses (frame.Words place c) xs k = on (part_refuses l k)
    frame_refuses (frame.Resized n size c) xs k = on (part_refuses l k)
    frame_refuses (frame.AtomInWords n place c) xs k = on (part_refuses l k)

  pub all_refuse : (s : Start) (fs : List Frame) (xs : List Element) → Refuses (inside_all s fs xs) r → Whole s (Refused r)
  all_refuse s [] xs k = k
  all_refuse s (f ∷ fs) xs k = frame_refuses s (inside_all s fs (drop (element_count f) xs)) (λ h. all_refuse s fs (drop (element_count f) xs) h) f xs k

-- A mark at any level; scripts are only in rows

module _ (base : Atom) (scripts : Scripts) (before m : Units) (u : Unit) (p : past_space before ≡ Next u m) where
  pub goes_on : (l : Level) {more : Scripts} → step_of_mark scripts (mark_of u.piece) ≡ Some (GoesOn more) → ScriptsLead l base scripts before → ScriptsLead l base more m
  goes_on (row e c xs K) h k = marked e c xs K p h k
  goes_on l h k = absurd k

  pub comes_twice : (l : Level) {kind : Kind} → step_of_mark scripts (mark_of u.piece) ≡ Some (Forbidden kind) → ScriptsLead l base scripts before → Refuses l (refusal_at kind u.place)
  comes_twice (row e c xs K) h k = script_twice e c xs K p h k
  comes_twice l h k = absurd k

  pub takes_operand : (l : Level) (with_operand : Operand → Scripts) → step_of_mark scripts (mark_of u.piece) ≡ Some (TakesOperand with_operand) → ScriptsLead l base scripts before → (K : Outcome Operand → Type 0) → ((o : Outcome Operand) → ScriptLeads l base with_operand o → K o) → Leads (operand u.place (styled (context_at l) InScript) K) m
  takes_operand (row e c xs K) w h k L on = λ o d. on o (script_due e c xs K p h k o d)
  takes_operand l w h k L on = absurd k

-- What a mark does after these scripts

limits_step : (scripts : Scripts) (place : LimitPlace) (below above : Option Element) → scripts.takes_limits ≡ true → step_of scripts below above (starts.LimitsAt place) ≡ GoesOn (record scripts { limits = place })
limits_step scripts place None None e = rw e refl
limits_step scripts place None (Some y) e = rw e refl
limits_step scripts place (Some x) None e = rw e refl
limits_step scripts place (Some x) (Some y) e = rw e refl

no_limits_step : (scripts : Scripts) (place : LimitPlace) (below above : Option Element) → scripts.takes_limits ≡ false → step_of scripts below above (starts.LimitsAt place) ≡ Forbidden LimitsWithoutOperator
no_limits_step scripts place None None e = rw e refl
no_limits_step scripts place None (Some y) e = rw e refl
no_limits_step scripts place (Some x) None e = rw e refl
no_limits_step scripts place (Some x) (Some y) e = rw e refl

none_above : (below exchanged : Bool) (xs : List Element) → element_above below false exchanged xs ≡ None
none_above true exchanged xs = refl
none_above false exchanged xs = refl

prime_step : (scripts : Scripts) (below : Option Element) → step_of scripts below None starts.Prime ≡ GoesOn (record scripts { primes = suc scripts.primes })
prime_step scripts None = refl
prime_step scripts (Some x) = refl

below_step : (scripts : Scripts) (above : Option Element) → step_of scripts None above starts.Below ≡ TakesOperand (λ x. record scripts { below = Some x.element; height = x.height })
below_step scripts None = refl
below_step scripts (Some y) = refl

above_step : (scripts : Scripts) (below : Option Element) → step_of scripts below None starts.Above ≡ TakesOperand (λ x. record scripts { above = Some (behind_primes scripts.primes x.element) })
above_step scripts None = refl
above_step scripts (Some x) = refl

second_prime : (scripts : Scripts) (o : Option Element) (below exchanged : Bool) (xs : List Element) → step_of scripts o (element_above below true exchanged xs) starts.Prime ≡ Forbidden SecondSuperscript
second_prime scripts None false exchanged xs = refl
second_prime scripts None true false xs = refl
second_prime scripts None true true xs = refl
second_prime scripts (Some x) false exchanged xs = refl
second_prime scripts (Some x) true false xs = refl
second_prime scripts (Some x) true true xs = refl

second_above : (scripts : Scripts) (o : Option Element) (below exchanged : Bool) (xs : List Element) → step_of scripts o (element_above below true exchanged xs) starts.Above ≡ Forbidden SecondSuperscript
second_above scripts None false exchanged xs = refl
second_above scripts None true false xs = refl
second_above scripts None true true xs = refl
second_above scripts (Some x) false exchanged xs = refl
second_above scripts (Some x) true false xs = refl
second_above scripts (Some x) true true xs = refl

second_below : (scripts : Scripts) (o : Option Element) (above exchanged : Bool) (xs : List Element) → step_of scripts (element_below true above exchanged xs) o starts.Below ≡ Forbidden SecondSubscript
second_below scripts None false exchanged xs = refl
second_below scripts None true false xs = refl
second_below scripts None true true xs = refl
second_below scripts (Some y) false exchanged xs = refl
second_below scripts (Some y) true false xs = refl
second_below scripts (Some y) true true xs = refl

-- The mark of primes before a script above

put_none : (primes : ℕ) → primes ≡ 0 → primes_put side.Above primes ≡ 0
put_none zero e = refl
put_none (suc n) e = absurd (omega (arith, e))

put_some : (primes : ℕ) → 0 < primes → primes_put side.Above primes ≡ 1
put_some zero h = absurd (omega (arith, h))
put_some (suc n) h = refl

none_before : (primes : ℕ) (xs : List Element) (x : Element) → primes ≡ 0 → behind_primes primes x ≡ behind_mark primes xs x
none_before zero xs x e = refl
none_before (suc n) xs x e = absurd (omega (arith, e))

primes_before : (primes : ℕ) (xs : List Element) (x : Element) → 0 < primes → behind_primes primes x ≡ behind_mark primes (prime_mark primes ∷ xs) x
primes_before zero xs x h = absurd (omega (arith, h))
primes_before (suc n) xs x h = refl

-- After a mark

module _ (s : Start) (p : Parser) (c : CodeCore) (scripts : CodeScripts) (m : Mark) (place : ℕ) where
  -- the elements, and the scripts that were read
  abbrev pub here : List Element
  here = elements_of p

  abbrev pub read : Scripts
  read = scripts_with scripts here

  abbrev pub at_row : Level
  at_row = level (script_count scripts + 1) s p

  -- the mark was taken
  abbrev pub TookIt : Type 0
  TookIt = TookMark m place at_row (base_of c scripts here).atom read s p

  abbrev refused_for : TexErrorKind → Parser
  refused_for kind = record p { refusal = record { kind = kind; place = place } }

  -- what the unit that was taken does
  step_is : (g : TookIt) (k : starts.Mark) → mark_model m ≡ k → step_of_mark read (mark_of g.unit.piece) ≡ Some (step_of read read.below read.above k)
  step_is g k e = ap (λ o. step_of_mark read o) (g.is ∙ ap (λ k. Some k) e)

  pub limits_taken : (limits : CodeLimitPlace) → m ≡ mark.Limits limits → scripts.takes_limits ≡ true → TookIt → Holds s p (state.Atom c (record scripts { limits = limits }))
  limits_taken limits e some g = record {
    style = g.style;
    claims = goes_on _ read g.before _ g.unit g.next at_row (step_is g (starts.LimitsAt (limit_place_of limits)) (ap mark_model e) ∙ ap (λ x. Some x) (limits_step read (limit_place_of limits) read.below read.above some)) g.leads;
  }

  -- there is no script above
  none_there : scripts.above ≡ false → read.above ≡ None
  none_there e = ap (λ b. element_above scripts.below b scripts.is_exchanged here) e ∙ none_above scripts.below scripts.is_exchanged here

  pub prime_taken : (primes : ℕ) → m ≡ mark.Prime → scripts.above ≡ false → primes ≡ suc scripts.primes → TookIt → Holds s p (state.Atom c (record scripts { primes = primes }))
  prime_taken primes e none more g =
      let same : step_of read read.below read.above starts.Prime ≡ GoesOn (record read { primes = primes }) = ap (λ o. step_of read read.below o starts.Prime) (none_there none) ∙ prime_step read read.below ∙ ap (λ n. GoesOn (record read { primes = n })) (sym more) in
      record { style = g.style; claims = goes_on _ read g.before _ g.unit g.next at_row (step_is g starts.Prime (ap mark_model e) ∙ ap (λ x. Some x) same) g.leads }

  -- a second script is refused
  second : (k : starts.Mark) (kind : Kind) → mark_model m ≡ k → step_of read read.below read.above k ≡ Forbidden kind → TookIt → Whole s (Refused (refusal_at kind place))
  second k kind e same g = subst (λ at. Whole s (Refused (refusal_at kind at))) g.at (all_refuse (refusal_at kind g.unit.place) s (reverse p.frames.stack.items) _ (comes_twice _ read g.before _ g.unit g.next at_row (step_is g k e ∙ ap (λ x. Some x) same) g.leads))

  pub limits_refused : (limits : CodeLimitPlace) → m ≡ mark.Limits limits → scripts.takes_limits ≡ false → TookIt → Holds s (refused_for error.LimitsWithoutOperator) state.Refused
  limits_refused limits e none g = record {
    style = g.style;
    claims = second (starts.LimitsAt (limit_place_of limits)) LimitsWithoutOperator (ap mark_model e) (no_limits_step read (limit_place_of limits) read.below read.above none) g;
  }

  pub prime_refused : m ≡ mark.Prime → scripts.above ≡ true → TookIt → Holds s (refused_for error.SecondSuperscript) state.Refused
  prime_refused e one g = record {
    style = g.style;
    claims = second starts.Prime SecondSuperscript (ap mark_model e) (ap (λ b. step_of read read.below (element_above scripts.below b scripts.is_exchanged here) starts.Prime) one ∙ second_prime read read.below scripts.below scripts.is_exchanged here) g;
  }

  pub above_refused : m ≡ mark.Script side.Above → scripts.above ≡ true → TookIt → Holds s (refused_for error.SecondSuperscript) state.Refused
  above_refused e one g = record {
    style = g.style;
    claims = second starts.Above SecondSuperscript (ap mark_model e) (ap (λ b. step_of read read.below (element_above scripts.below b scripts.is_exchanged here) starts.Above) one ∙ second_above read read.below scripts.below scripts.is_exchanged here) g;
  }

  pub below_refused : m ≡ mark.Script side.Below → scripts.below ≡ true → TookIt → Holds s (refused_for error.SecondSubscript) state.Refused
  below_refused e one g = record {
    style = g.style;
    claims = second starts.Below SecondSubscript (ap mark_model e) (ap (λ b. step_of read (element_below b scripts.above scripts.is_exchanged here) read.above starts.Below) one ∙ second_below read read.above scripts.above scripts.is_exchanged here) g;
  }

  pub script_refused : (on : Side) → m ≡ mark.Script on → has_script on scripts ≡ true → TookIt → Holds s (refused_for (second_on on)) state.Refused
  script_refused side.Below e one g = below_refused e one g
  script_refused side.Above e one g = above_refused e one g

  -- the scripts with an operand
  abbrev pub script_read : Side → Operand → Scripts
  script_read side.Below x = record read { below = Some x.element; height = x.height }
  script_read side.Above x = record read { above = Some (behind_primes scripts.primes x.element) }

  -- these elements are those that were there, with a mark above them of the primes that precede a script on this side
  abbrev pub MarkPut : Side → List Element → Type 0
  MarkPut on ys =
      (drop (primes_put on scripts.primes + (script_count scripts + 1)) ys ≡ drop (script_count scripts + 1) here)
      × (drop (primes_put on scripts.primes) ys ≡ here)
      × ((x : Operand) → script_read on x ≡ with_script on read ys x.element x.height)

  abbrev frame_level : Side → List Element → Level
  frame_level on ys = inside s p.frames.stack.items (drop (primes_put on scripts.primes + (script_count scripts + 1)) ys)

  read_made : (on : Side) (ys : List Element) → has_script on scripts ≡ false → MarkPut on ys → (o : Outcome Operand) → ScriptLeads at_row (base_of c scripts here).atom (script_read on) o → ScriptMade (frame_level on ys) c scripts on ys o
  read_made on ys none put (Read x n) k = (none, rw (put.0, put.1, sym (put.2 x)) k)
  read_made on ys none put (Refused r) k = rw put.0 k

  takes : (on : Side) → has_script on scripts ≡ false → step_of read read.below read.above (mark_model (mark.Script on)) ≡ TakesOperand (script_read on)
  takes side.Below none = ap (λ b. step_of read (element_below b scripts.above scripts.is_exchanged here) read.above starts.Below) none ∙ below_step read read.above
  takes side.Above none = ap (λ o. step_of read read.below o starts.Above) (none_there none) ∙ above_step read read.below

  frame_opened : (on : Side) (ys : List Element) (context : Context) → m ≡ mark.Script on → has_script on scripts ≡ false → context_of context ≡ styled (context_at at_row) InScript → MarkPut on ys → TookIt → Leads (within s p.frames.stack.items (frame.Script c scripts on place context) ys) (left_of p)
  frame_opened on ys context e none same put g =
      rw (same, sym g.at) (takes_operand _ read g.before _ g.unit g.next at_row (script_read on) (step_is g _ (ap mark_model e) ∙ ap (λ x. Some x) (takes on none)) g.leads (ScriptMade (frame_level on ys) c scripts on ys) (λ o k. read_made on ys none put o k))

  -- the operand of a script is due within its frame, for a parser that has put the mark of primes
  pub script_opened : (q : Parser) (b : Built) → q ≡ record p { builder = b } → (on : Side) (f : Frame) (context : Context) → m ≡ mark.Script on → has_script on scripts ≡ false → context ≡ record (frame_context f) { style = code_style.InScript } → MarkPut on (elements_in b) → TookIt → InnermostIs f q → (s.style ≡ style_of q.style) × Leads (level_within (frame.Script c scripts on place context) 0 s q) (left_of q)
  script_opened q b same on f context e none styled_so put g i =
      let inner : InnermostIs f p = subst (λ q. InnermostIs f q) same i in
      let outer = context_is s p.style p.frames.stack.items f (drop (script_count scripts + 1) here) g.style inner in
      let in_script = ap context_of styled_so ∙ ap (λ k. styled k InScript) outer in
      subst (λ q. (s.style ≡ style_of q.style) × Leads (level_within (frame.Script c scripts on place context) 0 s q) (left_of q)) (sym same) (g.style, frame_opened on (elements_in b) context e none in_script put g)

  pub below_put : MarkPut side.Below here
  below_put = (ap (λ k. drop k here) (omega arith), refl, λ x. refl)

  pub above_put : scripts.primes ≡ 0 → MarkPut side.Above here
  above_put none =
      let zero_put = put_none scripts.primes none in
      (ap (λ k. drop k here) (omega (arith, zero_put)), ap (λ k. drop k here) zero_put, λ x. ap (λ y. record read { above = Some y }) (none_before scripts.primes here x.element none))

  pub primes_are_put : (ys : List Element) → 0 < scripts.primes → ys ≡ prime_mark scripts.primes ∷ here → MarkPut side.Above ys
  primes_are_put ys some e =
      let one_put = put_some scripts.primes some in
      let all : List Element = prime_mark scripts.primes ∷ here in
      let count : primes_put side.Above scripts.primes + (script_count scripts + 1) ≡ suc (script_count scripts + 1) = omega (arith, one_put) in
      subst (λ ys. MarkPut side.Above ys) (sym e) (ap (λ k. drop k all) count, ap (λ k. drop k all) one_put, λ x. ap (λ y. record read { above = Some y }) (primes_before scripts.primes here x.element some))

-- After the operand of a script

-- these scripts
abbrev scripts_of : Bool → ℕ → Bool → Bool → Bool → CodeLimitPlace → CodeHeight → CodeScripts
scripts_of takes primes below above exchanged limits height = record { primes = primes; below = below; above = above; is_exchanged = exchanged; limits = limits; takes_limits = takes; height = height }

module _ (s : Start) (fs : List Frame) (c : CodeCore) (takes : Bool) (limits : CodeLimitPlace) (before height : CodeHeight) (m : Units) where
  -- what follows these scripts leads on; their elements are uppermost
  abbrev AllLead : CodeScripts → List Element → Type 0
  AllLead scripts xs = ScriptsLead (inside s fs (drop (script_count scripts + 1) xs)) (base_of c scripts xs).atom (scripts_with scripts xs) m

  -- the uppermost element is that of an operand, which is a script in addition to them
  abbrev ScriptLeadsOn : CodeScripts → Side → List Element → Type 0
  ScriptLeadsOn scripts on xs = (class : Class) → ScriptMade (inside s fs (drop (primes_put on scripts.primes + (script_count scripts + 2)) xs)) c scripts on (drop 1 xs) (Read (record { element = top xs; class = class; height = height_of height }) m)

  below_read : (primes : ℕ) (below above exchanged : Bool) (xs : List Element) → ScriptLeadsOn (scripts_of takes primes below above exchanged limits before) side.Below xs → AllLead (scripts_of takes primes true above above limits height) xs
  below_read primes true above exchanged xs k = cc (k class.Ordinary).0
  below_read primes false true exchanged [] k = (k class.Ordinary).1
  below_read primes false true exchanged (x ∷ []) k = (k class.Ordinary).1
  below_read primes false true exchanged (x ∷ y ∷ xs) k = (k class.Ordinary).1
  below_read primes false false exchanged [] k = (k class.Ordinary).1
  below_read primes false false exchanged (x ∷ xs) k = (k class.Ordinary).1

  above_read : (below above exchanged : Bool) (xs : List Element) → ScriptLeadsOn (scripts_of takes 0 below above exchanged limits before) side.Above xs → AllLead (scripts_of takes 0 below true false limits before) xs
  above_read below true exchanged xs k = cc (k class.Ordinary).0
  above_read true false exchanged [] k = (k class.Ordinary).1
  above_read true false exchanged (x ∷ []) k = (k class.Ordinary).1
  above_read true false exchanged (x ∷ y ∷ xs) k = (k class.Ordinary).1
  above_read false false exchanged [] k = (k class.Ordinary).1
  above_read false false exchanged (x ∷ xs) k = (k class.Ordinary).1

  -- what follows these scripts leads on, with a superscript after a mark of primes
  behind_read : (primes : ℕ) (below above exchanged : Bool) (xs : List Element) → 2 ≤ length xs → ScriptLeadsOn (scripts_of takes (suc primes) below above exchanged limits before) side.Above xs → AllLead (scripts_of takes (suc primes) below true false limits before) (row_element (take 2 xs) ∷ drop 2 xs)
  behind_read primes below true exchanged xs enough k = cc (k class.Ordinary).0
  behind_read primes below above exchanged [] enough k = absurd (omega arith)
  behind_read primes below above exchanged (x ∷ []) enough k = absurd (omega arith)
  behind_read primes true false exchanged (x ∷ y ∷ xs) enough k = (k class.Ordinary).1
  behind_read primes false false exchanged (x ∷ y ∷ xs) enough k = (k class.Ordinary).1

  any_above_read : (primes : ℕ) (below above exchanged : Bool) (xs : List Element) → primes ≡ 0 → ScriptLeadsOn (scripts_of takes primes below above exchanged limits before) side.Above xs → AllLead (scripts_of takes primes below true false limits before) xs
  any_above_read zero below above exchanged xs none k = above_read below above exchanged xs k
  any_above_read (suc primes) below above exchanged xs none k = absurd (omega (arith, none))

  any_behind_read : (primes : ℕ) (below above exchanged : Bool) (xs ys : List Element) → 0 < primes → 2 ≤ length xs → ys ≡ row_element (take 2 xs) ∷ drop 2 xs → ScriptLeadsOn (scripts_of takes primes below above exchanged limits before) side.Above xs → AllLead (scripts_of takes primes below true false limits before) ys
  any_behind_read zero below above exchanged xs ys some enough e k = absurd (omega (arith, some))
  any_behind_read (suc primes) below above exchanged xs ys some enough e k = rw e (behind_read primes below above exchanged xs enough k)

module _ (s : Start) (p : Parser) (c : CodeCore) (scripts : CodeScripts) (height : CodeHeight) where
  pub script_below : (on : Side) → on ≡ side.Below → TookScript c scripts on height s p → Holds s p (state.Atom c (record scripts { below = true; is_exchanged = scripts.above; height = height }))
  script_below side.Below e g = record { style = g.style; claims = below_read s p.frames.stack.items c scripts.takes_limits scripts.limits scripts.height height (left_of p) scripts.primes scripts.below scripts.above scripts.is_exchanged (elements_of p) g.leads }
  script_below side.Above e g = cc e

  pub script_above : (on : Side) → on ≡ side.Above → scripts.primes ≡ 0 → TookScript c scripts on height s p → Holds s p (state.Atom c (record scripts { above = true; is_exchanged = false }))
  script_above side.Above e none g = record { style = g.style; claims = any_above_read s p.frames.stack.items c scripts.takes_limits scripts.limits scripts.height height (left_of p) scripts.primes scripts.below scripts.above scripts.is_exchanged (elements_of p) none g.leads }
  script_above side.Below e none g = cc e

  pub script_behind : (b : Built) (on : Side) → on ≡ side.Above → 0 < scripts.primes → 2 ≤ length (elements_of p) → elements_in b ≡ row_element (take 2 (elements_of p)) ∷ drop 2 (elements_of p) → TookScript c scripts on height s p → Holds s (record p { builder = b }) (state.Atom c (record scripts { above = true; is_exchanged = false }))
  script_behind b side.Above e some enough put g = record { style = g.style; claims = any_behind_read s p.frames.stack.items c scripts.takes_limits scripts.limits scripts.height height (left_of p) scripts.primes scripts.below scripts.above scripts.is_exchanged (elements_of p) (elements_in b) some enough put g.leads }
  script_behind b side.Below e some enough put g = cc e
