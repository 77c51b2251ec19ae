-- The markup of trees, as it is written: its fixed parts are joined.
use Rattle.std.proofs.Common.{◌≡◌, ℕ, List, append_assoc, arith, refl, None, Some, Result, Ok, Err, OnOk, is_ok, if◌then◌else◌}
use Rattle.std.specs.Fmt.{digits}
use Rattle.latex2mathml_tokens.specs.declared.DisplayStyle.TheVariants.{Block, Inline}
use Rattle.latex2mathml_parts.specs.Shapes.{IsShapeOf}
use Rattle.latex2mathml_parts.specs.declared.kind.Kind.TheVariants as kind
use Rattle.latex2mathml_parts.specs.declared.write.shapes.Operands.TheVariants as operands
use Rattle.latex2mathml_parts.specs.declared.write.shapes.Tag.TheVariants as tag

-- what `push_str` says of a text, where it returns `Ok`
pub appended : {T E : Type 0} (r : Result T E) (new a b : List ℕ) → new ≡ (if is_ok r then a else b) → OnOk r (new ≡ a)
appended (Ok x) new a b h = h
appended (Err e) new a b h = tt

pub binom_shape : IsShapeOf (kind.Binom None) (record { 0 = tag.Binom; 1 = None; 2 = operands.Two })
unfolding digits
binom_shape = record { count = refl; markup = λ ts. simp append_assoc; weighs = λ ts. omega arith }

pub block_shape : IsShapeOf (kind.Binom (Some Block)) (record { 0 = tag.BlockBinom; 1 = None; 2 = operands.Two })
unfolding digits
block_shape = record { count = refl; markup = λ ts. simp append_assoc; weighs = λ ts. omega arith }

pub inline_shape : IsShapeOf (kind.Binom (Some Inline)) (record { 0 = tag.InlineBinom; 1 = None; 2 = operands.Two })
unfolding digits
inline_shape = record { count = refl; markup = λ ts. simp append_assoc; weighs = λ ts. omega arith }

pub ruleset binom_shapes = (binom_shape, block_shape, inline_shape)
