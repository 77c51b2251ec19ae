use Rattle.std.proofs.Common.{◌≡◌, ◌∙◌, ℕ, List, ◌/◌, ◌%◌, ◌++◌, ◌∷◌, ap, append_assoc, arith, string_bytes}
use Rattle.std.specs.Fmt.{decimal}
use Rattle.latex2mathml_trees.proofs.Widths.{three_digits_left, two_digits_left, one_digit_left}
use Rattle.latex2mathml_trees.specs.Width.{thousandths_text}
use Rattle.latex2mathml_attributes.proofs.extent.append_thousandths.Goals as goal

-- the whole ems are appended, and then the decimals
both : (old between new whole decimals : List ℕ) (n : ℕ) → between ≡ old ++ whole → new ≡ between ++ decimals → whole ++ decimals ≡ thousandths_text n → new ≡ old ++ thousandths_text n
both old between new whole decimals n first second is =
    second ∙ ap (λ l. l ++ decimals) first ∙ append_assoc old whole decimals ∙ ap (λ l. old ++ l) is

pub returns-in_ok-write-2 : goal.returns-in_ok-write-2
returns-in_ok-write-2 c =
    let n = c.args.number in
    both (string_bytes c.args.out.now) (string_bytes c.write.new.self) _ (decimal (n / 1000)) (46 ∷ (decimal (n % 1000 / 100 % 10) ++ (decimal (n % 1000 / 10 % 10) ++ decimal (n % 1000 % 10)))) n c.in_ok-write.ensures.bytes c.in_ok-write-2.ensures.bytes (three_digits_left n (omega arith))

pub returns-in_ok-write-3 : goal.returns-in_ok-write-3
returns-in_ok-write-3 c =
    let n = c.args.number in
    both (string_bytes c.args.out.now) (string_bytes c.write.new.self) _ (decimal (n / 1000)) (46 ∷ (decimal (n % 1000 / 100 % 10) ++ decimal (n % 1000 / 10 % 10))) n c.in_ok-write.ensures.bytes c.in_ok-write-3.ensures.bytes (two_digits_left n (omega arith) (omega arith))

pub returns-in_ok-write-4 : goal.returns-in_ok-write-4
returns-in_ok-write-4 c =
    let n = c.args.number in
    both (string_bytes c.args.out.now) (string_bytes c.write.new.self) _ (decimal (n / 1000)) (46 ∷ decimal (n % 1000 / 100 % 10)) n c.in_ok-write.ensures.bytes c.in_ok-write-4.ensures.bytes (one_digit_left n (omega arith) (omega arith) (omega arith))
