use Rattle.std.proofs.Common.{◌≡◌, ◌++◌, ◌-◌, List, take}
use Rattle.latex2mathml.specs.{Files.Answer, Files.Answered, Files.ListsEach, declared.files.Unconverted.Unconverted}
use Rattle.latex2mathml.proofs.files.+walk.Given as goal

abbrev pub decreases-walk : goal.decreases-walk
decreases-walk g l = l.levels

-- the entries so far were walked, and the list has what is due for their answers
abbrev pub invariant-loop-name : goal.invariant-loop-name
invariant-loop-name g l =
    (answers : List Answer)
    × (walked : List Unconverted)
    × Answered (g.S.Site.answers l.initial.site) (g.S.Site.answers l.site) answers
    × (l.unconverted.items ≡ l.initial.unconverted.items ++ walked)
    × ListsEach (l.levels - 1) l.path (take l.name-index l.name-items) answers walked
