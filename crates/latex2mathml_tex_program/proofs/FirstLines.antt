-- What follows the first line of a text.
use Rattle.std.proofs.Common.{◌≡◌, ◌∙◌, ◌+◌, ◌++◌, ℕ, List, Some, ap, drop, length, sym}
use Rattle.std.specs.Str.Pattern.{FindsTextPrefix}

-- what `strip_prefix` returns if the text begins with the line
pub behind_line : (line text rest : List ℕ) → (n : ℕ) × FindsTextPrefix line text (Some n) × (rest ≡ drop n text) × (length rest + n ≡ length text) → text ≡ line ++ rest
behind_line line text rest (n, found, is, len) = found.1 ∙ ap (λ l. line ++ l) (sym is)
