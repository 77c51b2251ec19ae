use Rattle.std.proofs.Common.{◌≡◌, ◌∙◌, ap, rules, sym}
use Rattle.latex2mathml_tex_grammar.specs.Units.{Next}
use Rattle.latex2mathml_tex_units.specs.{Left.units_at, Taking.unit_of}
use Rattle.latex2mathml_tex.specs.Steps.{left_of}
use Rattle.latex2mathml_tex.proofs.RowCharacters.{group_begins_there, symbol_begins}
use Rattle.latex2mathml_tex.proofs.parse.Parser.begin_unit.Goals as goal

pub returns-in-Character : goal.returns-in-Character
returns-in-Character c =
    let p = c.args.self.now in
    record {
      holds = λ s h. c.character.ensures.holds s (symbol_begins p c.advance.new.self c.args.unit c.in-Character.c c.requires.next c.in-Character.is c.advance.ensures.left s c.in-Some.context c.in-Some.ensures (sym c.if-not-ends_or_marks.ensures) h);
      step = search rules;
    }

pub returns-in-Open : goal.returns-in-Open
returns-in-Open c =
    let p = c.args.self.now in
    let i = c.advance-in-Open.new.self in
    let u = c.args.unit in
    let there : left_of p ≡ Next (unit_of u) (units_at i) = c.requires.next ∙ ap (Next (unit_of u)) (sym c.advance-in-Open.ensures.left) in
    record {
      holds = λ s h. c.open.ensures.holds s h.style (group_begins_there p i u c.in-Open.is there s c.in-Some.context c.in-Some.ensures h c.empty.result c.empty.ensures);
      step = search rules;
    }
