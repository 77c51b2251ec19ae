use Rattle.std.proofs.Common.{◌≡◌, ◌∙◌, ℕ, List, [], ◌∷◌, ◌++◌, ap, map, refl, string_bytes, sym}
use Rattle.std.proofs.lemmas.{Iterator.YieldsList-from_chars, Iterator.Consumers.YieldsList-end, List.flat_map_more}
use Rattle.std.specs.{Char.encode_utf8, List.flat_map}
use Rattle.latex2mathml_elements.specs.Annotated.{alternative}
use Rattle.latex2mathml_elements.proofs.Alternatives.{alternative-append}
use Rattle.latex2mathml_tex_grammar.specs.Formulas.{source_character, source_text}
use Rattle.latex2mathml_tex.proofs.annotation.append_alternative.Goals as goal

by_characters : (cs : List ℕ) → flat_map (λ c. alternative (encode_utf8 (source_character c))) cs ≡ alternative (source_text cs)
by_characters [] = refl
by_characters (c ∷ cs) =
    ap (λ l. alternative (encode_utf8 (source_character c)) ++ l) (by_characters cs)
    ∙ sym (alternative-append (encode_utf8 (source_character c)) (source_text cs))

same : (cs : List ℕ) → map (λ c. c) cs ≡ cs
same [] = refl
same (c ∷ cs) = ap (λ l. c ∷ l) (same cs)

pub returns : goal.returns
returns c =
    let all = YieldsList-end (YieldsList-from_chars c.args.tex.now c.utf8.tex cc) c.loop-c.yielded _ c.loop-c.yielded_by _ _ c.in-None.is c.next.ensures.steps in
    c.loop-c.invariant
    ∙ ap (λ l. string_bytes c.args.out.now ++ l) (by_characters c.loop-c.yielded ∙ ap (λ cs. alternative (source_text cs)) (sym (same c.loop-c.yielded) ∙ all.0))

pub loop-c-preserved : goal.loop-c-preserved
loop-c-preserved c =
    let out = string_bytes c.loop-c.out in
    c.in_ok-append_alternative_char.ensures
    ∙ ap (λ d. out ++ alternative (encode_utf8 d)) c.source_character.ensures
    ∙ ap (λ l. l ++ alternative (encode_utf8 (source_character c.in-Some.c))) c.loop-c.invariant
    ∙ flat_map_more (λ d. alternative (encode_utf8 (source_character d))) (string_bytes c.args.out.now) c.loop-c.yielded c.in-Some.c
