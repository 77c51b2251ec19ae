use Rattle.std.proofs.Common.{◌≡◌, arith, length, string_bytes}
use Rattle.std.proofs.lemmas.Str.{IsUtf8-string_bytes}
use Rattle.latex2mathml_builder.proofs.Sound.{sound_token}
use Rattle.latex2mathml_builder.proofs.builder.Builder.token.Goals as goal

pub invariant_of-self-2 : goal.invariant_of-self-2
invariant_of-self-2 c =
    let texts = c.self.inside.texts in
    let end : c.len-end.result ≡ length (string_bytes texts) = omega (arith, c.len-end.ensures, texts.bytes.ok) in
    rw c.in_ok-push.ensures.items (sound_token _ _ _ _ _ _ end (IsUtf8-string_bytes texts) c.self.invariant)
