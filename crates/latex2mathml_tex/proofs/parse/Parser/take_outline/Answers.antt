use Rattle.std.proofs.Common.{Bool, Option, option_map, subst}
use Rattle.latex2mathml_tex_grammar.specs.Rules.{a_line}
use Rattle.latex2mathml_tex_commands.specs.{Delimiters.delimiter_text, Meanings.style_of}
use Rattle.latex2mathml_tex.specs.TakenBy.{TookBy}
use Rattle.latex2mathml_tex_commands.specs.declared.meaning.Style.{Style}
use Rattle.latex2mathml_tex.proofs.Outlining.{TookStyle, line_stops, outline_taken, style_stops}
use Rattle.latex2mathml_tex.proofs.parse.Parser.take_outline.Goals as goal

pub returns-in_default-2 : goal.returns-in_default-2
returns-in_default-2 c =
    let p = c.args.self.now in
    let a = c.take_outer_delimiter.new.self in
    let b = c.take_outer_delimiter-2.new.self in
    let q = c.take_line.new.self in
    let place = c.args.place in
    let opening = delimiter_text c.in-Some.opening in
    let closing = delimiter_text c.in-Some-take_outer_delimiter.closing in
    line_stops place p a q opening c.in-Some.ensures b closing c.in-Some-take_outer_delimiter.ensures
    (subst (λ (x : Option Bool). TookBy (a_line place) b q x) c.in_default-2.is c.in_ok-has_line.ensures)

pub returns-in_default-3 : goal.returns-in_default-3
returns-in_default-3 c =
    let p = c.args.self.now in
    let a = c.take_outer_delimiter.new.self in
    let b = c.take_outer_delimiter-2.new.self in
    let d = c.take_line.new.self in
    let q = c.take_style.new.self in
    let place = c.args.place in
    let opening = delimiter_text c.in-Some.opening in
    let closing = delimiter_text c.in-Some-take_outer_delimiter.closing in
    let third = subst (λ (x : Option Bool). TookBy (a_line place) b d x) c.in-Some-2.is c.in_ok-has_line.ensures in
    style_stops place p a q opening c.in-Some.ensures b closing c.in-Some-take_outer_delimiter.ensures d c.in-Some-2.has_line third
    (subst (λ (x : Option (Option Style)). TookStyle place d q (option_map (option_map style_of) x)) c.in_default-3.is c.in_ok-own.ensures)

pub returns : goal.returns
returns c =
    let p = c.args.self.now in
    let a = c.take_outer_delimiter.new.self in
    let b = c.take_outer_delimiter-2.new.self in
    let d = c.take_line.new.self in
    let q = c.take_style.new.self in
    let place = c.args.place in
    let opening = delimiter_text c.in-Some.opening in
    let closing = delimiter_text c.in-Some-take_outer_delimiter.closing in
    let third = subst (λ (x : Option Bool). TookBy (a_line place) b d x) c.in-Some-2.is c.in_ok-has_line.ensures in
    outline_taken place p a q opening c.in-Some.ensures b closing c.in-Some-take_outer_delimiter.ensures d c.in-Some-2.has_line third (option_map style_of c.in-Some-3.own)
    (subst (λ (x : Option (Option Style)). TookStyle place d q (option_map (option_map style_of) x)) c.in-Some-3.is c.in_ok-own.ensures)
