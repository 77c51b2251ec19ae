use Rattle.std.proofs.Common.{◌∙◌, sym}
use Rattle.latex2mathml_tex_units.specs.{Pending.pending_units, Taking.piece_of}
use Rattle.latex2mathml_tex_units.proofs.Prefixes.{another_follows, nothing_follows, prefix_passed, prefix_smaller}
use Rattle.latex2mathml_tex_units.proofs.macros.pending.Pending.skip_prefixes.Goals as goal

pub returns-in_default : goal.returns-in_default
returns-in_default c = nothing_follows (pending_units c.skip_space.new.self) (pending_units c.prefixes.self) (pending_units c.args.self.now) c.prefixes.invariant c.skip_space.ensures c.in_default.ensures

pub returns-then-not-is_prefix : goal.returns-then-not-is_prefix
returns-then-not-is_prefix c =
    another_follows (pending_units c.skip_space.new.self) (pending_units c.prefixes.self) (pending_units c.args.self.now) (piece_of c.in-Some.piece) c.prefixes.invariant c.skip_space.ensures c.in-Some.ensures (sym c.is_prefix.ensures ∙ c.if-not-is_prefix.true)

pub prefixes-smaller : goal.prefixes-smaller
prefixes-smaller c = prefix_smaller c.take.result (pending_units c.skip_space.new.self) (pending_units c.prefixes.self) (pending_units c.take.new.self) (piece_of c.in-Some.piece) c.skip_space.ensures c.take.ensures c.in-Some.ensures

pub prefixes-preserved : goal.prefixes-preserved
prefixes-preserved c =
    prefix_passed c.take.result (pending_units c.skip_space.new.self) (pending_units c.prefixes.self) (pending_units c.take.new.self) (pending_units c.args.self.now) (piece_of c.in-Some.piece) c.prefixes.invariant c.skip_space.ensures c.take.ensures c.in-Some.ensures (sym c.is_prefix.ensures ∙ c.if-not-is_prefix.false)
