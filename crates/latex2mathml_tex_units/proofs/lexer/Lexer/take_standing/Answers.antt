use Rattle.std.proofs.Common.{◌+◌, ◌-◌, ◌≤◌, [], ◌∷◌, ap, arith, length, refl, rules}
use Rattle.std.specs.Str.{IsUtf8}
use Rattle.latex2mathml_tex_grammar.specs.Macros.{unit_count}
use Rattle.latex2mathml_tex_units.specs.{Left.units_left, Taking.piece_of}
use Rattle.latex2mathml_tex_units.specs.declared.unit.Piece.TheVariants as piece
use Rattle.latex2mathml_tex_units.proofs.{Plain.plain_before, Standing.moved_on, Taken.end_within, Taken.piece_before}
use Rattle.latex2mathml_tex_units.proofs.lexer.Lexer.take_standing.Goals as goal

pub units-smaller-in-Some : goal.units-smaller-in-Some
units-smaller-in-Some c =
    let behind : IsUtf8 c.in-Some.behind.now = search rules in
    let end = c.args.self.now.place + length c.args.self.now.rest.now in
    let is = plain_before end c.units.rest.now c.in-Some.behind.now c.in-Some.c c.units.invariant.utf8 behind c.units.invariant.within c.in-Some.ensures.0 c.in-Some.ensures.1 in
    omega (arith, ap unit_count is)

pub units-preserved-in-Some : goal.units-preserved-in-Some
units-preserved-in-Some c =
    let behind : IsUtf8 c.in-Some.behind.now = search rules in
    let end = c.args.self.now.place + length c.args.self.now.rest.now in
    let shorter : length c.in-Some.behind.now ≤ length c.units.rest.now = end_within c.units.rest.now c.in-Some.behind.now c.units.invariant.utf8 behind (c.in-Some.c ∷ [], c.in-Some.ensures.1) in
    let is = plain_before end c.units.rest.now c.in-Some.behind.now c.in-Some.c c.units.invariant.utf8 behind c.units.invariant.within c.in-Some.ensures.0 c.in-Some.ensures.1 in
    record {
      utf8 = behind;
      within = omega (arith, shorter, c.units.invariant.within);
      moved = moved_on c.args.usual c.args.units.now.items c.units.units.items c.push.new.self.items (record { piece = piece.Character c.in-Some.c; place = end - length c.units.rest.now }) (units_left c.args.self.now) _ _ c.units.invariant.moved c.in_ok-push.ensures.items is (λ table holds. refl);
    }

pub units-smaller : goal.units-smaller
units-smaller c =
    let behind : IsUtf8 c.in-Piece.behind.now = search rules in
    let end = c.args.self.now.place + length c.args.self.now.rest.now in
    let (w, e, spells) = c.in-Piece.ensures.start in
    let is = piece_before end c.units.rest.now c.in-Piece.behind.now w (piece_of c.in-Piece.piece) c.units.invariant.utf8 behind c.units.invariant.within e spells in
    omega (arith, ap unit_count is)

pub units-preserved : goal.units-preserved
units-preserved c =
    let behind : IsUtf8 c.in-Piece.behind.now = search rules in
    let end = c.args.self.now.place + length c.args.self.now.rest.now in
    let (w, e, spells) = c.in-Piece.ensures.start in
    let shorter : length c.in-Piece.behind.now ≤ length c.units.rest.now = end_within c.units.rest.now c.in-Piece.behind.now c.units.invariant.utf8 behind (w, e) in
    let is = piece_before end c.units.rest.now c.in-Piece.behind.now w (piece_of c.in-Piece.piece) c.units.invariant.utf8 behind c.units.invariant.within e spells in
    record {
      utf8 = behind;
      within = omega (arith, shorter, c.units.invariant.within);
      moved = moved_on c.args.usual c.args.units.now.items c.units.units.items c.push-in-units.new.self.items (record { piece = c.in-Piece.piece; place = end - length c.units.rest.now }) (units_left c.args.self.now) _ _ c.units.invariant.moved c.in_ok-push-2.ensures.items is (c.if-not-stands.ensures refl);
    }
