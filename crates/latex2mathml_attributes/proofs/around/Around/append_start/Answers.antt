use Rattle.std.proofs.Common.{◌∙◌, ◌++◌, ap, string_bytes, sym}
use Rattle.std.proofs.lemmas.Result.{on_ok_weaker}
use Rattle.latex2mathml_elements.specs.Print.{container_name, start_tag}
use Rattle.latex2mathml_attributes.specs.Arounds.{around_attributes, around_name}
use Rattle.latex2mathml_attributes.proofs.around.Around.append_start.Goals as goal

pub returns-in_ok-push_str-in-Unseen : goal.returns-in_ok-push_str-in-Unseen
returns-in_ok-push_str-in-Unseen c =
    c.in_ok-push_str-in-Unseen.ensures.bytes ∙ sym (ap (λ a. string_bytes c.args.out.now ++ start_tag (container_name (around_name a)) (around_attributes a)) c.in-Unseen.is)

pub returns-in-Colored : goal.returns-in-Colored
returns-in-Colored c =
    on_ok_weaker c.append_colored.result
    (λ h. h ∙ sym (ap (λ a. string_bytes c.args.out.now ++ start_tag (container_name (around_name a)) (around_attributes a)) c.in-Colored.is))
    c.append_colored.ensures

pub returns-in-Before : goal.returns-in-Before
returns-in-Before c =
    on_ok_weaker c.append_colored-in-Before.result
    (λ h. h ∙ sym (ap (λ a. string_bytes c.args.out.now ++ start_tag (container_name (around_name a)) (around_attributes a)) c.in-Before.is))
    c.append_colored-in-Before.ensures
