-- Alternative texts: how their characters are escaped, and that they are values of attributes.
use Rattle.std.proofs.Common.{◌≡◌, ◌≢◌, ◌==◌, ℕ, List, [], ◌++◌, sym, append-nil, arith, codes, cond}
use Rattle.std.specs.{Char.encode_utf8}
use Rattle.std.proofs.{lemmas.Bool.Decides.nat_tests, lemmas.Grind.flat_map-append, lemmas.Str.inside_one}
use Rattle.latex2mathml_elements.specs.Annotated.{alternative, alternative_byte}
use Rattle.latex2mathml_tokens.specs.Escape.{content, content_byte}
use Rattle.latex2mathml_trees.specs.Markup.{named, refers}
use Rattle.latex2mathml_trees.proofs.ValueTexts.{IsValue, content_part, escaped_by}
use Rattle.latex2mathml_tokens.proofs.Escapes.{alike}

pub alternative-append : (xs ys : List ℕ) → alternative (xs ++ ys) ≡ alternative xs ++ alternative ys
alternative-append xs ys = flat_map-append alternative_byte xs ys

-- a character that an alternative text holds as contents hold it
pub alternative_char-other : (c : ℕ) → c ≢ 34 → alternative (encode_utf8 c) ≡ content (encode_utf8 c)
alternative_char-other c quote =
    alike alternative_byte content_byte (encode_utf8 c) (λ k lt. grind (arith, nat_tests, inside_one c [] (encode_utf8 c) k (sym (append-nil (encode_utf8 c))) lt))

pub alternative_value : (bs : List ℕ) → IsValue (alternative bs)
alternative_value = escaped_by alternative_byte (λ b. cond (b == 34) (refers (named (codes "quot"))) (content_part b)) (λ b. grind (arith, nat_tests))
