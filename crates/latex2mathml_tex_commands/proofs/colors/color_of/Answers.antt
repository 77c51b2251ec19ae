use Rattle.std.proofs.Common.{◌≡◌, ◌≢◌, ◌∷◌, ℕ, List, MatchOption, arith, refl, subst, sym, ◌∙◌}
use Rattle.std.specs.Str.{byte}
use Rattle.std.proofs.lemmas.Str.Pattern.{strip_prefix_char}
use Rattle.latex2mathml_tex_commands.proofs.Colored.{named_is, only_a_name}
use Rattle.latex2mathml_tex_commands.proofs.colors.color_of.Goals as goal

pub returns-in-Some-strip_prefix : goal.returns-in-Some-strip_prefix
returns-in-Some-strip_prefix c =
    let name = c.args.name.now in
    let is = subst (λ r. MatchOption r ((rest : List ℕ) → name ≢ byte "[" ∷ rest) (λ x. name ≡ byte "[" ∷ x.now)) c.in-Some-strip_prefix.is (strip_prefix_char (byte "[") name c.strip_prefix-2.result c.strip_prefix-2.ensures.cases (omega arith)) in
    rw (c.model_color.ensures, c.around.ensures.before, c.around.ensures.behind, is) refl

pub returns : goal.returns
returns c =
    let name = c.args.name.now in
    let no_digits = subst (λ r. MatchOption r ((rest : List ℕ) → name ≢ byte "#" ∷ rest) (λ x. name ≡ byte "#" ∷ x.now)) c.in_default.is (strip_prefix_char (byte "#") name c.strip_prefix.result c.strip_prefix.ensures.cases (omega arith)) in
    let no_model = subst (λ r. MatchOption r ((rest : List ℕ) → name ≢ byte "[" ∷ rest) (λ x. name ≡ byte "[" ∷ x.now)) c.in_default-strip_prefix.is (strip_prefix_char (byte "[") name c.strip_prefix-2.result c.strip_prefix-2.ensures.cases (omega arith)) in
    c.find.ensures ∙ named_is _ name c.entries.ensures ∙ sym (only_a_name name no_digits no_model)
