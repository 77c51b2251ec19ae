use Rattle.std.proofs.Common.{◌≡◌, ◌∙◌, ◌+◌, Some, ap, arith, refl, suc, sym}
use Rattle.latex2mathml_tex_grammar.specs.Refusal.{UnclosedBrace, refusal_at}
use Rattle.latex2mathml_tex_grammar.specs.Starts.{is_close}
use Rattle.latex2mathml_tex_grammar.specs.Units.{End, Next, Stop}
use Rattle.latex2mathml_tex_grammar.proofs.BoxedWords.{box_no_start}
use Rattle.latex2mathml_tex_units.specs.{Errors.refusal_of, Left.put_back, Left.unit_count, Left.units_at, Left.units_behind, Taking.kind_of, Taking.piece_of, Taking.unit_of}
use Rattle.latex2mathml_tex_units.proofs.Nexts.{passed}
use Rattle.latex2mathml_tex_atoms.specs.Models.{context_of}
use Rattle.latex2mathml_tex.specs.WordCommands.{boxed_in, is_changed, word_box_of, word_of}
use Rattle.latex2mathml_tex.specs.Steps.{left_of}
use Rattle.latex2mathml_tex.specs.declared.parse.frames.Frame.TheVariants as frame
use Rattle.latex2mathml_tex.proofs.Rows.{step_within, weighed}
use Rattle.latex2mathml_tex.proofs.WordStarts.{other_piece, taken_innermost}
use Rattle.latex2mathml_tex.proofs.Taken.{resized_taken, taken_can, taken_step, text_taken}
use Rattle.latex2mathml_tex.proofs.Wording.{box_behind, braces_closed, braces_unended, change_taken, joined_behind, word_behind, word_stops}
use Rattle.latex2mathml_tex.proofs.parse.Parser.deliver_words.Goals as goal

pub end_accent-requires : goal.end_accent-requires
end_accent-requires c = omega (arith, c.requires.elements)

pub end_text-requires : goal.end_text-requires
end_text-requires c =
    let p = c.args.self.now in
    let inner = taken_innermost p.style p.frames.stack.items c.in-Text.ensures.0 c.take.new.self.stack.items frame.Text c.take.result c.in-Text.ensures.1 c.take.ensures in
    let can = taken_can p c.take.new.self frame.Text inner c.args.words.count (c.args.words.count + 0) c.requires.elements c.requires.may_come.nested (omega arith) in
    record { elements = omega (arith, can.elements, c.in_ok-words-in-Text.ensures.grown); awaits = record { accepted = can.awaits.accepted; nested = can.awaits.nested } }

pub returns-in_ok-words-in-Text-clause-holds : goal.returns-in_ok-words-in-Text-clause-holds
returns-in_ok-words-in-Text-clause-holds c = λ s h.
    let p = c.args.self.now in
    let inner = taken_innermost p.style p.frames.stack.items c.in-Text.ensures.0 c.take.new.self.stack.items frame.Text c.take.result c.in-Text.ensures.1 c.take.ensures in
    c.end_text.ensures.holds s (text_taken p c.take.new.self frame.Text inner s c.end_accent.new.builder c.args.words c.in_ok-words-in-Text.words refl c.in_ok-words-in-Text.ensures h)

pub returns-in_ok-words-in-Text-clause-step : goal.returns-in_ok-words-in-Text-clause-step
returns-in_ok-words-in-Text-clause-step c =
    let p = c.args.self.now in
    let b = c.end_accent.new.builder in
    let inner = taken_innermost p.style p.frames.stack.items c.in-Text.ensures.0 c.take.new.self.stack.items frame.Text c.take.result c.in-Text.ensures.1 c.take.ensures in
    taken_step (record p { builder = b }) c.take.new.self frame.Text inner 6 2 c.end_text.new.self c.end_text.new.next c.end_text.result (omega arith) c.end_text.ensures.step

pub end_group-requires : goal.end_group-requires
end_group-requires c =
    let p = c.args.self.now in
    let frames = c.take-in-Close.new.self in
    let braces = frame.Words c.in-Words.place c.in-Words.context in
    let inner = taken_innermost p.style p.frames.stack.items c.in-Words.ensures.0 frames.stack.items braces c.take-in-Close.result c.in-Words.ensures.1 c.take-in-Close.ensures in
    let can = taken_can p frames braces inner c.args.words.count (c.args.words.count + 0) c.requires.elements c.requires.may_come.nested (omega arith) in
    record { elements = omega (arith, can.elements); awaits = record { accepted = can.awaits.accepted; nested = can.awaits.nested } }

pub returns-in-Close : goal.returns-in-Close
returns-in-Close c =
    let p = c.args.self.now in
    let i = c.advance.new.self in
    let frames = c.take-in-Close.new.self in
    let braces = frame.Words c.in-Words.place c.in-Words.context in
    let inner = taken_innermost p.style p.frames.stack.items c.in-Words.ensures.0 frames.stack.items braces c.take-in-Close.result c.in-Words.ensures.1 c.take-in-Close.ensures in
    let stands : left_of p ≡ Next (unit_of c.in-Unit.unit) (units_at i) = passed c.peek.result p.input i c.peek.ensures c.advance.ensures.left ∙ ap (λ n. put_back n (units_at i)) c.in-Unit.is in
    let left : unit_count (left_of p) ≡ suc (unit_count (units_at i)) = ap unit_count stands in
    let close = ap (λ piece. is_close (piece_of piece)) c.in-Close.is in
    let step = taken_step (record p { input = i }) frames braces inner 6 2 c.end_group.new.self c.end_group.new.next c.end_group.result (omega arith) c.end_group.ensures.step in
    record {
      holds = λ s h. c.end_group.ensures.holds s (braces_closed s p c.args.words c.in-Words.place c.in-Words.context frames.stack.items inner h i frames (unit_of c.in-Unit.unit) refl stands close);
      step = step_within p (record p { input = i }) c.end_group.new.self c.end_group.new.next c.end_group.result 2 2 (omega (arith, left)) step;
    }

pub change_words-requires : goal.change_words-requires
change_words-requires c =
    let p = c.args.self.now in
    let frames = c.take-in-Change.new.self in
    let braces = frame.Words c.in-Words.place c.in-Words.context in
    let inner = taken_innermost p.style p.frames.stack.items c.in-Words.ensures.0 frames.stack.items braces c.take-in-Change.result c.in-Words.ensures.1 c.take-in-Change.ensures in
    let can = taken_can p frames braces inner c.args.words.count (c.args.words.count + 0) c.requires.elements c.requires.may_come.nested (omega arith) in
    record { elements = omega (arith, can.elements); awaits = record { accepted = can.awaits.accepted; nested = can.awaits.nested } }

pub returns-in-Change : goal.returns-in-Change
returns-in-Change c =
    let p = c.args.self.now in
    let i = c.advance-in-Change.new.self in
    let frames = c.take-in-Change.new.self in
    let braces = frame.Words c.in-Words.place c.in-Words.context in
    let inner = taken_innermost p.style p.frames.stack.items c.in-Words.ensures.0 frames.stack.items braces c.take-in-Change.result c.in-Words.ensures.1 c.take-in-Change.ensures in
    let u = c.in-Unit.unit in
    let stands : left_of p ≡ Next (unit_of u) (units_at i) = passed c.peek.result p.input i c.peek.ensures c.advance-in-Change.ensures.left ∙ ap (λ n. put_back n (units_at i)) c.in-Unit.is in
    let left : unit_count (left_of p) ≡ suc (unit_count (units_at i)) = ap unit_count stands in
    let other = other_piece u.piece c.in_default-piece.not-Close in
    let change = c.in_braces.ensures.changed c.in-Change.change c.in-Change.is (context_of c.in-Words.context).alphabet in
    let step = taken_step (record p { input = i }) frames braces inner 17 13 c.change_words.new.self c.change_words.new.next c.change_words.result (omega arith) c.change_words.ensures.step in
    record {
      holds = λ s h. c.change_words.ensures.holds s (change_taken s p c.args.words c.in-Words.place c.in-Words.context frames.stack.items inner h i frames (unit_of u) (word_of c.in-Change.change) refl stands other change);
      step = step_within p (record p { input = i }) c.change_words.new.self c.change_words.new.next c.change_words.result 13 2 (omega (arith, left)) step;
    }

pub returns-in-Box : goal.returns-in-Box
returns-in-Box c =
    let p = c.args.self.now in
    let i = c.advance-in-Box.new.self in
    let u = c.in-Unit.unit in
    let a = (context_of c.in-Words.context).alphabet in
    let stands : left_of p ≡ Next (unit_of u) (units_at i) = passed c.peek.result p.input i c.peek.ensures c.advance-in-Box.ensures.left ∙ ap (λ n. put_back n (units_at i)) c.in-Unit.is in
    let left : unit_count (left_of p) ≡ suc (unit_count (units_at i)) = ap unit_count stands in
    let other = other_piece u.piece c.in_default-piece.not-Close in
    let kept = c.in_braces.ensures.kept (ap is_changed c.in-Box.is) a in
    let is = c.in_braces.ensures.boxed ∙ ap boxed_in c.in-Box.is in
    record {
      holds = λ s h. c.begin_box.ensures.holds s (box_behind s p c.args.words c.in-Words.place c.in-Words.context c.in-Words.ensures.0 c.in-Words.ensures.1 h i (unit_of u) (word_box_of c.in-Box.word_box) stands other kept.size (box_no_start c.args.words.accent a (piece_of u.piece) is) is kept.alphabet);
      step = step_within p (record p { input = i }) c.begin_box.new.self c.begin_box.new.next c.begin_box.result 13 2 (omega (arith, left)) c.begin_box.ensures.step;
    }

pub put_resized-requires : goal.put_resized-requires
put_resized-requires c =
    let p = c.args.self.now in
    let resized = frame.Resized c.in-Resized.before c.in-Resized.size c.in-Resized.context in
    let inner = taken_innermost p.style p.frames.stack.items c.in-Resized.ensures.0 c.take-in-Resized.new.self.stack.items resized c.take-in-Resized.result c.in-Resized.ensures.1 c.take-in-Resized.ensures in
    let can = taken_can p c.take-in-Resized.new.self resized inner c.args.words.count (c.args.words.count + c.in-Resized.before) c.requires.elements c.requires.may_come.nested (omega arith) in
    omega (arith, can.elements)

pub returns-in_ok-words-in-Resized : goal.returns-in_ok-words-in-Resized
returns-in_ok-words-in-Resized c =
    let p = c.args.self.now in
    let frames = c.take-in-Resized.new.self in
    let b = c.put_resized.new.builder in
    let after = c.in_ok-words-in-Resized.words in
    let says = c.in_ok-words-in-Resized.ensures in
    let resized = frame.Resized c.in-Resized.before c.in-Resized.size c.in-Resized.context in
    let inner = taken_innermost p.style p.frames.stack.items c.in-Resized.ensures.0 frames.stack.items resized c.take-in-Resized.result c.in-Resized.ensures.1 c.take-in-Resized.ensures in
    let can = taken_can p frames resized inner c.args.words.count (c.args.words.count + c.in-Resized.before) c.requires.elements c.requires.may_come.nested (omega arith) in
    let brought = weighed p.style p.frames.stack.items frames.stack.items resized inner in
    record {
      holds = λ s h. resized_taken p frames resized inner s b c.args.words after c.in-Resized.before c.in-Resized.size c.in-Resized.context refl says.words says.below h;
      step = record {
        ready = record { elements = omega (arith, can.elements, says.grown); may_come = record { accepted = can.awaits.accepted; nested = can.awaits.nested } };
        falls = omega (arith, brought);
      };
    }

pub returns-in-Some : goal.returns-in-Some
returns-in-Some c =
    let p = c.args.self.now in
    let i = c.advance-in-Some.new.self in
    let u = c.in-Unit.unit in
    let first = c.in-Some.first in
    let stands : left_of p ≡ Next (unit_of u) (units_at i) = passed c.peek.result p.input i c.peek.ensures c.advance-in-Some.ensures.left ∙ ap (λ n. put_back n (units_at i)) c.in-Unit.is in
    let left : unit_count (left_of p) ≡ suc (unit_count (units_at i)) = ap unit_count stands in
    record {
      holds = λ s h. c.join.ensures.holds s (joined_behind s p c.args.words c.in-Words.place c.in-Words.context c.in-Words.ensures.0 c.in-Words.ensures.1 h i (unit_of u) first stands (sym c.ligature_start.ensures ∙ c.in-Some.is));
      step = step_within p (record p { input = i }) c.join.new.self c.join.new.next c.join.result 13 2 (omega (arith, left)) c.join.ensures.step;
    }

pub returns-in-None : goal.returns-in-None
returns-in-None c =
    let p = c.args.self.now in
    let u = c.in-Unit.unit in
    let others = units_behind p.input in
    let stands : left_of p ≡ Next (unit_of u) others = c.peek.ensures ∙ ap (λ n. put_back n others) c.in-Unit.is in
    let other = other_piece u.piece c.in_default-piece.not-Close in
    let a = (context_of c.in-Words.context).alphabet in
    let none = sym c.ligature_start.ensures ∙ c.in-None.is in
    let kept = c.in_braces.ensures.kept (ap is_changed c.in-Word.is) a in
    let no_box = c.in_braces.ensures.boxed ∙ ap boxed_in c.in-Word.is in
    record {
      holds = λ s h. c.word.ensures.holds s (word_behind s p c.args.words c.in-Words.place c.in-Words.context c.in-Words.ensures.0 c.in-Words.ensures.1 h (unit_of u) others stands other kept.size none no_box kept.alphabet);
      step = step_within p p c.word.new.self c.word.new.next c.word.result 1 2 (omega arith) c.word.ensures.step;
    }

pub returns-in-End-clause-holds : goal.returns-in-End-clause-holds
returns-in-End-clause-holds c = λ s h.
    let p = c.args.self.now in
    let q = c.refuse.new.self in
    let reason : refusal_of q.refusal ≡ Some (refusal_at UnclosedBrace c.in-Words.place) = rw c.refuse.ensures.parser refl in
    let stands : left_of p ≡ End c.in-End.field-0 = c.peek.ensures ∙ ap (λ n. put_back n (units_behind p.input)) c.in-End.is in
    rw c.refuse.ensures.state
    (braces_unended s p c.args.words c.in-Words.place c.in-Words.context c.in-Words.ensures.0 c.in-Words.ensures.1 h q c.in-End.field-0 stands (rw c.refuse.ensures.parser refl) reason)

pub returns-in-Fault-clause-holds : goal.returns-in-Fault-clause-holds
returns-in-Fault-clause-holds c = λ s h.
    let p = c.args.self.now in
    let r = refusal_at (kind_of c.in-Fault.field-0) c.in-Fault.field-1 in
    let stands : left_of p ≡ Stop r = c.peek.ensures ∙ ap (λ n. put_back n (units_behind p.input)) c.in-Fault.is in
    word_stops s p c.args.words c.in-Words.place c.in-Words.context c.in-Words.ensures.0 c.in-Words.ensures.1 h r stands
