use Rattle.latex2mathml_tex.proofs.parse.Parser.step.Goals as goal

pub next-requires : goal.next-requires
next-requires c = rw c.in-Next.is at c.requires.ready

pub returns-in-Next : goal.returns-in-Next
returns-in-Next c = record { holds = λ s g. c.next.ensures.holds s (rw c.in-Next.is at g); step = rw c.in-Next.is c.next.ensures.step }

pub deliver_core-requires : goal.deliver_core-requires
deliver_core-requires c = rw c.in-Core.is at c.requires.ready

pub returns-in-Core : goal.returns-in-Core
returns-in-Core c = record { holds = λ s g. c.deliver_core.ensures.holds s (rw c.in-Core.is at g); step = rw c.in-Core.is c.deliver_core.ensures.step }

pub go_on-requires : goal.go_on-requires
go_on-requires c = rw c.in-Atom.is at c.requires.ready

pub returns-in-Atom : goal.returns-in-Atom
returns-in-Atom c = record { holds = λ s g. c.go_on.ensures.holds s (rw c.in-Atom.is at g); step = rw c.in-Atom.is c.go_on.ensures.step }

pub deliver_operand-requires : goal.deliver_operand-requires
deliver_operand-requires c = rw c.in-Operand.is at c.requires.ready

pub returns-in-Operand : goal.returns-in-Operand
returns-in-Operand c = record { holds = λ s g. c.deliver_operand.ensures.holds s (rw c.in-Operand.is at g); step = rw c.in-Operand.is c.deliver_operand.ensures.step }

pub word-requires : goal.word-requires
word-requires c = rw c.in-Word.is at c.requires.ready

pub returns-in-Word : goal.returns-in-Word
returns-in-Word c = record { holds = λ s g. c.word.ensures.holds s (rw c.in-Word.is at g); step = rw c.in-Word.is c.word.ensures.step }

pub deliver_words-requires : goal.deliver_words-requires
deliver_words-requires c = rw c.in-Words.is at c.requires.ready

pub returns-in-Words : goal.returns-in-Words
returns-in-Words c = record { holds = λ s g. c.deliver_words.ensures.holds s (rw c.in-Words.is at g); step = rw c.in-Words.is c.deliver_words.ensures.step }
