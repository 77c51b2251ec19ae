use Rattle.std.proofs.Common.{◌≡◌, List, [], ◌∷◌, ℕ, ap, arith, subst, sym}
use Rattle.latex2mathml_elements.specs.Columns.{Alike, Centered, Columns, LeftAligned, RightAligned, Usual}
use Rattle.latex2mathml_tex_grammar.specs.Rules.{Rule, in_brackets, rows_rule, takes_if}
use Rattle.latex2mathml_tex_units.specs.{Left.unit_count, Left.units_at, Environments.environment_of}
use Rattle.latex2mathml_tex.specs.Frames.{Start, context_at}
use Rattle.latex2mathml_tex_atoms.specs.Models.{context_of}
use Rattle.latex2mathml_tex.specs.Steps.{Begins, BeginsIn, left_of, level}
use Rattle.latex2mathml_tex_units.specs.declared.environments.Environment.{Environment}
use Rattle.latex2mathml_tex_atoms.specs.declared.atoms.Context.{Context}
use Rattle.latex2mathml_tex.specs.declared.parse.Parser.{Parser}
use Rattle.latex2mathml_tex_units.proofs.Nexts.{no_more_taken}
use Rattle.latex2mathml_tex.proofs.{Putting.past_none, Putting.past_units, Rows.step_within, RuleSteps.begun}
use Rattle.latex2mathml_tex.proofs.parse.Parser.begin_aligned.Goals as goal

-- the rows of the environment, in these columns
abbrev rows : ℕ → Context → Environment → Columns → Rule
rows place context e columns = rows_rule place (context_of context) e.name.now (environment_of e) columns

-- the rows of the environment, where all cells are aligned as a letter in brackets says
abbrev in_line : ℕ → Context → Environment → Columns → List ℕ → Rule
in_line place context e columns letter = rows place context e columns

abbrev unless_middle : ℕ → Context → Environment → Rule
unless_middle place context e = takes_if (in_brackets 114) (in_line place context e (Alike Usual RightAligned)) (rows place context e (environment_of e).columns)

abbrev unless_left : ℕ → Context → Environment → Rule
unless_left place context e = takes_if (in_brackets 99) (in_line place context e (Alike Usual Centered)) (unless_middle place context e)

-- the same columns, as the code has them
in_these : (s : Start) (q : Parser) (context : Context) (place : ℕ) (e : Environment) {these those : Columns} → these ≡ those → context_of context ≡ context_at (level 0 s q) → Begins (rows place context e those) 0 s q → BeginsIn context (rows place context e these) 0 s q
in_these s q context place e same there found =
    let begins = subst (λ k. Begins (rows place context e k) 0 s q) (sym same) found in record { style = begins.style; context = there; leads = begins.leads }

pub returns-then-take_in_brackets-clause-holds : goal.returns-then-take_in_brackets-clause-holds
returns-then-take_in_brackets-clause-holds c = λ s g.
    let p = c.args.self.now in
    let i = c.take_in_brackets.new.self in
    let e = c.args.environment.now in
    let found = past_units s p i (in_line c.args.place c.args.context e (Alike Usual LeftAligned)) (91 ∷ 108 ∷ 93 ∷ []) c.if-take_in_brackets.ensures (begun g) in
    c.begin_rows.ensures.holds s (in_these s (record p { input = i }) c.args.context c.args.place e c.alike-columns.ensures g.context found)

pub returns-then-take_in_brackets-clause-step : goal.returns-then-take_in_brackets-clause-step
returns-then-take_in_brackets-clause-step c =
    let p = c.args.self.now in
    let i = c.take_in_brackets.new.self in
    let less = no_more_taken (in_brackets 108) (left_of p) (units_at i) (91 ∷ 108 ∷ 93 ∷ []) c.if-take_in_brackets.ensures in
    step_within p (record p { input = i }) c.begin_rows.new.self c.begin_rows.new.next c.begin_rows.result 12 13 (omega (arith, less)) c.begin_rows.ensures.step

pub returns-then-take_in_brackets-2-clause-holds : goal.returns-then-take_in_brackets-2-clause-holds
returns-then-take_in_brackets-2-clause-holds c = λ s g.
    let p = c.args.self.now in
    let i = c.take_in_brackets.new.self in
    let j = c.take_in_brackets-2.new.self in
    let e = c.args.environment.now in
    let place = c.args.place in
    let context = c.args.context in
    let behind = past_none s p i (unless_left place context e) c.if-take_in_brackets.ensures.0 c.if-take_in_brackets.ensures.1 (begun g) in
    let found = past_units s (record p { input = i }) j (in_line place context e (Alike Usual Centered)) (91 ∷ 99 ∷ 93 ∷ []) c.if-take_in_brackets-2.ensures behind in
    c.begin_rows-then-take_in_brackets-2.ensures.holds s (in_these s (record p { input = j }) context place e c.alike-columns-then-take_in_brackets-2.ensures g.context found)

pub returns-then-take_in_brackets-2-clause-step : goal.returns-then-take_in_brackets-2-clause-step
returns-then-take_in_brackets-2-clause-step c =
    let p = c.args.self.now in
    let i = c.take_in_brackets.new.self in
    let j = c.take_in_brackets-2.new.self in
    let same = ap unit_count c.if-take_in_brackets.ensures.1 in
    let less = no_more_taken (in_brackets 99) (units_at i) (units_at j) (91 ∷ 99 ∷ 93 ∷ []) c.if-take_in_brackets-2.ensures in
    step_within p (record p { input = j }) c.begin_rows-then-take_in_brackets-2.new.self c.begin_rows-then-take_in_brackets-2.new.next c.begin_rows-then-take_in_brackets-2.result 12 13 (omega (arith, less, same)) c.begin_rows-then-take_in_brackets-2.ensures.step

pub returns-then-take_in_brackets-3-clause-holds : goal.returns-then-take_in_brackets-3-clause-holds
returns-then-take_in_brackets-3-clause-holds c = λ s g.
    let p = c.args.self.now in
    let i = c.take_in_brackets.new.self in
    let j = c.take_in_brackets-2.new.self in
    let k = c.take_in_brackets-3.new.self in
    let e = c.args.environment.now in
    let place = c.args.place in
    let context = c.args.context in
    let not_left = past_none s p i (unless_left place context e) c.if-take_in_brackets.ensures.0 c.if-take_in_brackets.ensures.1 (begun g) in
    let not_middle = past_none s (record p { input = i }) j (unless_middle place context e) c.if-take_in_brackets-2.ensures.0 c.if-take_in_brackets-2.ensures.1 not_left in
    let found = past_units s (record p { input = j }) k (in_line place context e (Alike Usual RightAligned)) (91 ∷ 114 ∷ 93 ∷ []) c.if-take_in_brackets-3.ensures not_middle in
    c.begin_rows-then-take_in_brackets-3.ensures.holds s (in_these s (record p { input = k }) context place e c.alike-columns-then-take_in_brackets-3.ensures g.context found)

pub returns-then-take_in_brackets-3-clause-step : goal.returns-then-take_in_brackets-3-clause-step
returns-then-take_in_brackets-3-clause-step c =
    let p = c.args.self.now in
    let j = c.take_in_brackets-2.new.self in
    let k = c.take_in_brackets-3.new.self in
    let first = ap unit_count c.if-take_in_brackets.ensures.1 in
    let second = ap unit_count c.if-take_in_brackets-2.ensures.1 in
    let less = no_more_taken (in_brackets 114) (units_at j) (units_at k) (91 ∷ 114 ∷ 93 ∷ []) c.if-take_in_brackets-3.ensures in
    step_within p (record p { input = k }) c.begin_rows-then-take_in_brackets-3.new.self c.begin_rows-then-take_in_brackets-3.new.next c.begin_rows-then-take_in_brackets-3.result 12 13 (omega (arith, less, first, second)) c.begin_rows-then-take_in_brackets-3.ensures.step

pub returns-clause-holds : goal.returns-clause-holds
returns-clause-holds c = λ s g.
    let p = c.args.self.now in
    let i = c.take_in_brackets.new.self in
    let j = c.take_in_brackets-2.new.self in
    let k = c.take_in_brackets-3.new.self in
    let e = c.args.environment.now in
    let place = c.args.place in
    let context = c.args.context in
    let not_left = past_none s p i (unless_left place context e) c.if-take_in_brackets.ensures.0 c.if-take_in_brackets.ensures.1 (begun g) in
    let not_middle = past_none s (record p { input = i }) j (unless_middle place context e) c.if-take_in_brackets-2.ensures.0 c.if-take_in_brackets-2.ensures.1 not_left in
    let not_right = past_none s (record p { input = j }) k (rows place context e (environment_of e).columns) c.if-take_in_brackets-3.ensures.0 c.if-take_in_brackets-3.ensures.1 not_middle in
    c.begin_rows-2.ensures.holds s (in_these s (record p { input = k }) context place e c.columns.ensures g.context not_right)

pub returns-clause-step : goal.returns-clause-step
returns-clause-step c =
    let p = c.args.self.now in
    let k = c.take_in_brackets-3.new.self in
    step_within p (record p { input = k }) c.begin_rows-2.new.self c.begin_rows-2.new.next c.begin_rows-2.result 12 13
    (rw (c.if-take_in_brackets-3.ensures.1, c.if-take_in_brackets-2.ensures.1, c.if-take_in_brackets.ensures.1) (omega arith)) c.begin_rows-2.ensures.step
