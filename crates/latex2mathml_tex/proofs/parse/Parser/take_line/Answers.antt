use mir.Val.{SFits}
use Rattle.std.proofs.Common.{ℤ, Option, [], refl, rules, subst, w32}
use Rattle.latex2mathml_tex_grammar.specs.Lengths as lengths
use Rattle.latex2mathml_tex_grammar.specs.Reading.{units_taken}
use Rattle.latex2mathml_tex_grammar.specs.Refusal.{LengthTooLarge, refusal_at}
use Rattle.latex2mathml_tex_grammar.specs.Rules.{empty_braces}
use Rattle.latex2mathml_tex_grammar.specs.Scanning.{BeforeLengthInBraces}
use Rattle.latex2mathml_tex_units.specs.Left.{units_at}
use Rattle.latex2mathml_tex.specs.Steps.{TookValue, left_of}
use Rattle.latex2mathml_tex.specs.declared.parse.Parser.{Parser}
use Rattle.latex2mathml_tex_units.proofs.Nexts.{no_more_taken}
use Rattle.latex2mathml_tex.proofs.{Outlining.line_refused, Outlining.line_taken, Widths.width_tested}
use Rattle.latex2mathml_tex.proofs.parse.Parser.take_line.Goals as goal

pub returns-then-take_empty_braces : goal.returns-then-take_empty_braces
returns-then-take_empty_braces c =
    let l = left_of c.args.self.now in
    let m = units_at c.take_empty_braces.new.self in
    let taken = c.if-take_empty_braces.ensures in
    (refl, (no_more_taken empty_braces l m [] taken, λ more o d. units_taken taken d))

pub returns-in_default : goal.returns-in_default
returns-in_default c =
    let p = c.args.self.now in
    let i = c.take_empty_braces.new.self in
    let p_in : Parser = record p { input = i } in
    let q = c.take_length.new.self in
    let place = c.args.place in
    let took = subst (λ (x : Option ℤ). TookValue place BeforeLengthInBraces lengths.width_of (λ text. refusal_at LengthTooLarge place) p_in q x) c.in_default.is c.in_ok-width.ensures in
    line_refused place p q i c.if-take_empty_braces.ensures.0 c.if-take_empty_braces.ensures.1 took

pub returns : goal.returns
returns c =
    let p = c.args.self.now in
    let i = c.take_empty_braces.new.self in
    let p_in : Parser = record p { input = i } in
    let q = c.take_length.new.self in
    let place = c.args.place in
    let width = c.in-Some.width in
    let took = subst (λ (x : Option ℤ). TookValue place BeforeLengthInBraces lengths.width_of (λ text. refusal_at LengthTooLarge place) p_in q x) c.in-Some.is c.in_ok-width.ensures in
    let fits : SFits w32 width = search rules in
    rw (width_tested width fits) (line_taken place p q i c.if-take_empty_braces.ensures.0 c.if-take_empty_braces.ensures.1 width took)
