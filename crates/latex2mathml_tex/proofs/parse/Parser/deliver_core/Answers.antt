use Rattle.std.proofs.Common.{◌+◌, arith, refl}
use Rattle.latex2mathml_tex.specs.declared.parse.frames.Frame.TheVariants as frame
use Rattle.latex2mathml_tex.proofs.{Rows.weighed, Taken.atom_taken, Taken.negation_taken, Taken.taken_can, Taken.taken_step, WordStarts.taken_innermost}
use Rattle.latex2mathml_tex.proofs.Operands.{PutAlone, WaitsIn, core_as_operand, core_in_row, operand_step, others_wait}
use Rattle.latex2mathml_tex.proofs.parse.Parser.deliver_core.Goals as goal

pub returns-in-Row-clause-holds : goal.returns-in-Row-clause-holds
returns-in-Row-clause-holds c = λ s g.
    c.go_on.ensures.holds s (core_in_row s c.args.self.now c.args.core c.none.result c.innermost.result c.in-Row.field-0 c.in-Row.field-1 c.in-Row.field-2 c.in-Row.field-3 c.innermost.ensures c.in-Row.is c.none.ensures g)

put_alone : (c : goal.In_ok-row-in_default) → PutAlone c.args.self.now c.with_atom.new.builder c.args.core c.innermost.result c.context-context.result c.in_ok-row-in_default.row
put_alone c =
    let put = c.in_ok-row-in_default.ensures in
    (rw c.empty.ensures at put.row, rw c.empty.ensures at put.below, put.count)

waits_there : (c : goal.In_ok-row-in_default) → WaitsIn c.context-context.result c.innermost.result
waits_there c = rw c.context-context.ensures (others_wait c.innermost.result c.in_default.not-Row c.in_default.not-Negation c.in_default.not-Text c.in_default.not-Words c.in_default.not-Resized c.in_default.not-AtomInWords)

pub returns-in_ok-row-in_default-clause-holds : goal.returns-in_ok-row-in_default-clause-holds
returns-in_ok-row-in_default-clause-holds c = λ s g.
    core_as_operand c.args.self.now c.with_atom.new.builder c.args.core c.innermost.result c.context-context.result c.in_ok-row-in_default.row s c.innermost.ensures (waits_there c) (put_alone c) g

pub returns-in_ok-row-in_default-clause-step : goal.returns-in_ok-row-in_default-clause-step
returns-in_ok-row-in_default-clause-step c =
    operand_step c.args.self.now c.with_atom.new.builder c.args.core c.innermost.result c.context-context.result c.in_ok-row-in_default.row c.innermost.ensures (waits_there c) (put_alone c) c.requires

pub negate-requires : goal.negate-requires
negate-requires c =
    let p = c.args.self.now in
    let fr = c.take.new.self in
    let f = frame.Negation c.in-Negation.place c.in-Negation.field-1 in
    let inner = taken_innermost p.style p.frames.stack.items c.in-Negation.ensures.0 fr.stack.items f c.take.result c.in-Negation.ensures.1 c.take.ensures in
    taken_can p fr f inner 1 1 c.requires.elements c.requires.may_come.nested (omega arith)

pub returns-in-Negation-clause-holds : goal.returns-in-Negation-clause-holds
returns-in-Negation-clause-holds c = λ s g.
    let p = c.args.self.now in
    let fr = c.take.new.self in
    let f = frame.Negation c.in-Negation.place c.in-Negation.field-1 in
    let inner = taken_innermost p.style p.frames.stack.items c.in-Negation.ensures.0 fr.stack.items f c.take.result c.in-Negation.ensures.1 c.take.ensures in
    c.negate.ensures.holds s (negation_taken p fr f inner s c.in-Negation.place c.in-Negation.field-1 c.args.core refl g)

pub returns-in-Negation-clause-step : goal.returns-in-Negation-clause-step
returns-in-Negation-clause-step c =
    let p = c.args.self.now in
    let fr = c.take.new.self in
    let f = frame.Negation c.in-Negation.place c.in-Negation.field-1 in
    let inner = taken_innermost p.style p.frames.stack.items c.in-Negation.ensures.0 fr.stack.items f c.take.result c.in-Negation.ensures.1 c.take.ensures in
    taken_step p fr f inner 4 3 c.negate.new.self c.negate.new.next c.negate.result (omega arith) c.negate.ensures.step

pub returns-in-AtomInWords : goal.returns-in-AtomInWords
returns-in-AtomInWords c =
    let p = c.args.self.now in
    let fr = c.take-in-AtomInWords.new.self in
    let f = frame.AtomInWords c.in-AtomInWords.count c.in-AtomInWords.field-1 c.in-AtomInWords.field-2 in
    let inner = taken_innermost p.style p.frames.stack.items c.in-AtomInWords.ensures.0 fr.stack.items f c.take-in-AtomInWords.result c.in-AtomInWords.ensures.1 c.take-in-AtomInWords.ensures in
    let can = taken_can p fr f inner 1 (1 + c.in-AtomInWords.count) c.requires.elements c.requires.may_come.nested (omega arith) in
    let brought = weighed p.style p.frames.stack.items fr.stack.items f inner in
    record {
      holds = λ s g. rw c.of.ensures (atom_taken p fr f inner s c.in-AtomInWords.count c.in-AtomInWords.field-1 c.in-AtomInWords.field-2 c.args.core refl (omega (arith, can.elements)) g);
      step = rw c.of.ensures (record {
        ready = record { elements = omega (arith, can.elements); may_come = record { accepted = can.awaits.accepted; nested = can.awaits.nested } };
        falls = omega (arith, brought);
      });
    }
