use Rattle.std.proofs.Common.{◌≡◌, ◌∙◌, ◌+◌, ◌<◌, ap, arith, false, get_or, length, refl, rules, subst, sym, true}
use Rattle.std.proofs.lemmas.Str.{IsCharBoundary-start}
use Rattle.std.specs.Str.{chars, IsUtf8}
use Rattle.latex2mathml_tex_grammar.specs.{Cutting.units_of, Macros.unit_count}
use Rattle.latex2mathml_tex_units.specs.{Characters.is_plain, Left.units_left, Standing.AreStanding, Standing.Moves, Taking.piece_of}
use Rattle.latex2mathml_tex_units.specs.declared.unit.Piece.TheVariants as piece
use Rattle.latex2mathml_tex_units.proofs.{Plain.in_table, Plain.plain_at, Standing.moved_on, Standing.none_moved, Steps.piece_step, Steps.plain_step, Steps.rest_within}
use Rattle.latex2mathml_tex_units.proofs.lexer.Lexer.take_common.Goals as goal

pub units-init : goal.units-init
units-init c =
    let utf8 : IsUtf8 c.args.self.now.rest.now = search rules in
    let zero : c.args.self.now.place ≡ c.args.self.now.place + 0 = omega arith in
    record {
      within = omega arith;
      cut = IsCharBoundary-start c.args.self.now.rest.now utf8;
      moved = subst (λ p. Moves c.args.units.now.items c.args.units.now.items (λ taken. AreStanding c.args.usual taken (units_left c.args.self.now) (units_of p (chars c.args.self.now.rest.now)))) zero (none_moved c.args.usual c.args.units.now.items (units_left c.args.self.now));
    }

pub bounds-plain_bytes-from : goal.bounds-plain_bytes-from
bounds-plain_bytes-from c = in_table _ _ c.plain_bytes.ensures (omega (arith, c.from.ensures, (c.type_inv.bytes c.units.at).fits))

pub units-smaller-then-plain_bytes-from : goal.units-smaller-then-plain_bytes-from
units-smaller-then-plain_bytes-from c =
    let utf8 : IsUtf8 c.args.self.now.rest.now = search rules in
    let text = c.args.self.now.rest.now in
    let small : c.from.result < 256 = omega (arith, c.from.ensures, (c.type_inv.bytes c.units.at).fits) in
    let plain : is_plain c.from.result ≡ true = sym (plain_at c.plain_bytes.result.now c.from.result false c.plain_bytes.ensures small) ∙ c.if-plain_bytes-from.true in
    let same : c.from-then-plain_bytes-from.result ≡ c.from.result = c.from-then-plain_bytes-from.ensures ∙ sym c.from.ensures in
    let here : get_or text c.units.at 0 ≡ c.from-then-plain_bytes-from.result = ap (λ t. get_or t c.units.at 0) (sym c.as_bytes-bytes.ensures.value) ∙ sym c.from-then-plain_bytes-from.ensures in
    let less : c.units.at < length text = subst (λ t. c.units.at < length t) c.as_bytes-bytes.ensures.value c.units-test.true in
    let step = plain_step text c.args.self.now.place c.units.at c.from-then-plain_bytes-from.result utf8 less c.units.invariant.cut here (ap is_plain same ∙ plain) in
    omega (arith, ap unit_count step.is)

pub units-preserved-then-plain_bytes-from : goal.units-preserved-then-plain_bytes-from
units-preserved-then-plain_bytes-from c =
    let utf8 : IsUtf8 c.args.self.now.rest.now = search rules in
    let text = c.args.self.now.rest.now in
    let small : c.from.result < 256 = omega (arith, c.from.ensures, (c.type_inv.bytes c.units.at).fits) in
    let plain : is_plain c.from.result ≡ true = sym (plain_at c.plain_bytes.result.now c.from.result false c.plain_bytes.ensures small) ∙ c.if-plain_bytes-from.true in
    let same : c.from-then-plain_bytes-from.result ≡ c.from.result = c.from-then-plain_bytes-from.ensures ∙ sym c.from.ensures in
    let here : get_or text c.units.at 0 ≡ c.from-then-plain_bytes-from.result = ap (λ t. get_or t c.units.at 0) (sym c.as_bytes-bytes.ensures.value) ∙ sym c.from-then-plain_bytes-from.ensures in
    let less : c.units.at < length text = subst (λ t. c.units.at < length t) c.as_bytes-bytes.ensures.value c.units-test.true in
    let step = plain_step text c.args.self.now.place c.units.at c.from-then-plain_bytes-from.result utf8 less c.units.invariant.cut here (ap is_plain same ∙ plain) in
    record {
      within = step.within;
      cut = step.cut;
      moved = moved_on c.args.usual c.args.units.now.items c.units.units.items c.push.new.self.items (record { piece = piece.Character c.from-then-plain_bytes-from.result; place = c.args.self.now.place + c.units.at }) (units_left c.args.self.now) _ _ c.units.invariant.moved c.in_ok-push.ensures.items step.is (λ table holds. refl);
    }

pub overflow_sub-at : goal.overflow_sub-at
overflow_sub-at c =
    let utf8 : IsUtf8 c.args.self.now.rest.now = search rules in
    let behind : IsUtf8 c.in-Some.behind.now = search rules in
    let (w, e, spells) = c.in-Some.ensures.begins in
    rest_within c.args.self.now.rest.now c.in-Some.behind.now w c.units.at utf8 c.units.invariant.cut behind (ap chars (sym c.split_at.ensures.back) ∙ e)

pub units-smaller : goal.units-smaller
units-smaller c =
    let utf8 : IsUtf8 c.args.self.now.rest.now = search rules in
    let behind : IsUtf8 c.in-Some.behind.now = search rules in
    let (w, e, spells) = c.in-Some.ensures.begins in
    let step = piece_step c.args.self.now.rest.now c.in-Some.behind.now w c.args.self.now.place c.units.at (piece_of c.in-Some.piece) utf8 c.units.invariant.within c.units.invariant.cut behind (ap chars (sym c.split_at.ensures.back) ∙ e) spells in
    omega (arith, ap unit_count step.is)

pub units-preserved : goal.units-preserved
units-preserved c =
    let utf8 : IsUtf8 c.args.self.now.rest.now = search rules in
    let behind : IsUtf8 c.in-Some.behind.now = search rules in
    let (w, e, spells) = c.in-Some.ensures.begins in
    let step = piece_step c.args.self.now.rest.now c.in-Some.behind.now w c.args.self.now.place c.units.at (piece_of c.in-Some.piece) utf8 c.units.invariant.within c.units.invariant.cut behind (ap chars (sym c.split_at.ensures.back) ∙ e) spells in
    record {
      within = step.within;
      cut = step.cut;
      moved = moved_on c.args.usual c.args.units.now.items c.units.units.items c.push-in-units.new.self.items (record { piece = c.in-Some.piece; place = c.args.self.now.place + c.units.at }) (units_left c.args.self.now) _ _ c.units.invariant.moved c.in_ok-push-2.ensures.items step.is c.in-Some.ensures.stays;
    }
