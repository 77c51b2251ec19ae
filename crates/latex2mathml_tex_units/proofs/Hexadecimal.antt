-- What `{:04X}` writes.
use Rattle.std.proofs.Common.{◌≡◌, ℕ, ◌-◌, ◌^◌, false, List, [], ◌++◌, length, append-nil, arith}
use Rattle.std.specs.Fmt.{format_spec, padded_integral, char_count, number_padding}
use Rattle.std.specs.Prelude.{replicate}

-- zeros precede the digits, up to a width of four
pub zeros_before : (digits : List ℕ)
    → padded_integral (format_spec 32 0 4 4 (2 ^ 64 - 1)) false [] digits ≡ replicate (4 - length digits) 48 ++ digits
unfolding padded_integral char_count
zeros_before digits =
    let padding : number_padding (format_spec 32 0 4 4 (2 ^ 64 - 1)) false [] (length digits) ≡ 4 - length digits = omega arith in
    rw (append-nil digits, padding)
