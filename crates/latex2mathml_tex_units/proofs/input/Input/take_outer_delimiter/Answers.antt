use Rattle.std.proofs.Common.{[], ◌∷◌}
use Rattle.latex2mathml_tex_grammar.specs.Delimiters.{delimiter_of}
use Rattle.latex2mathml_tex_commands.specs.Delimiters.{delimiter_text}
use Rattle.latex2mathml_tex_units.specs.Left.{units_at}
use Rattle.latex2mathml_tex_units.proofs.Bracing.{bare_hands, braced_fewer, braced_hands, empty_fewer, empty_hands, no_delimiter_hands}
use Rattle.latex2mathml_tex_units.proofs.Nexts.{no_more_taken}
use Rattle.latex2mathml_tex_units.proofs.input.Input.take_outer_delimiter.Goals as goal

pub returns-in-Some : goal.returns-in-Some
returns-in-Some c =
    let l = units_at c.args.self.now in
    let m = units_at c.take_delimiter.new.self in
    let text = delimiter_text c.in-Some.delimiter in
    (no_more_taken (delimiter_of ∷ []) l m text c.in-Some.ensures.next, bare_hands l m text c.in-Some.ensures.next)

pub returns-in-Some-take_braced_delimiter : goal.returns-in-Some-take_braced_delimiter
returns-in-Some-take_braced_delimiter c =
    let l = units_at c.args.self.now in
    let a = units_at c.take_delimiter.new.self in
    let m = units_at c.take_braced_delimiter.new.self in
    let text = delimiter_text c.in-Some-take_braced_delimiter.delimiter in
    let taken = c.in-Some-take_braced_delimiter.ensures in
    let none = c.in_default.ensures.next in
    (braced_fewer l a none.0 none.1 m text taken, braced_hands l a none.0 none.1 m text taken)

pub returns-then-take_empty_braces : goal.returns-then-take_empty_braces
returns-then-take_empty_braces c =
    let l = units_at c.args.self.now in
    let a = units_at c.take_delimiter.new.self in
    let b = units_at c.take_braced_delimiter.new.self in
    let m = units_at c.take_empty_braces.new.self in
    let none = c.in_default.ensures.next in
    let unbraced = c.in_default-take_braced_delimiter.ensures in
    let taken = c.if-take_empty_braces.ensures in
    (empty_fewer l a none.0 none.1 b unbraced.0 unbraced.1 m taken, empty_hands l a none.0 none.1 b unbraced.0 unbraced.1 m taken)

pub returns : goal.returns
returns c =
    let l = units_at c.args.self.now in
    let a = units_at c.take_delimiter.new.self in
    let b = units_at c.take_braced_delimiter.new.self in
    let none = c.in_default.ensures.next in
    let unbraced = c.in_default-take_braced_delimiter.ensures in
    let missing = c.if-take_empty_braces.ensures in
    (rw (missing.1, unbraced.1) none.1, no_delimiter_hands l a none.0 none.1 b unbraced.0 unbraced.1 missing.0)
