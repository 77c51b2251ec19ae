use Rattle.std.proofs.Common.{◌≡◌, ◌∙◌, ℕ, List, ◌++◌, ap, append-nil, append_assoc, string_bytes, sym}
use Rattle.latex2mathml_attributes.proofs.attributes.Attributes.append.Goals as goal

-- a text is appended, and the rest after it
then : (old new text part rest whole : List ℕ) → text ≡ part → new ≡ old ++ text → whole ≡ new ++ rest → whole ≡ old ++ (part ++ rest)
then old new text part rest whole is pushed others =
    others ∙ ap (λ l. l ++ rest) (pushed ∙ ap (λ l. old ++ l) is) ∙ append_assoc old part rest

last : (old new text part : List ℕ) → text ≡ part → new ≡ old ++ text → new ≡ old ++ part
last old new text part is pushed = pushed ∙ ap (λ l. old ++ l) is

pub returns : goal.returns
returns c =
    then (string_bytes c.args.out.now) _ _ _ _ _ c.text_if.ensures c.in_ok-append_some.ensures
    (then (string_bytes c.append_some.new.out) _ _ _ _ _ c.form_text.ensures c.in_ok-append_some-2.ensures
    (then (string_bytes c.append_some-2.new.out) _ _ _ _ _ c.stretch_text.ensures c.in_ok-append_some-3.ensures
    (then (string_bytes c.append_some-3.new.out) _ _ _ _ _ c.text_if-2.ensures c.in_ok-append_some-4.ensures
    (then (string_bytes c.append_some-4.new.out) _ _ _ _ _ c.text_if-3.ensures c.in_ok-append_some-5.ensures
    (then (string_bytes c.append_some-5.new.out) _ _ _ _ _ c.size_text.ensures c.in_ok-append_some-6.ensures
    (then (string_bytes c.append_some-6.new.out) _ _ _ _ _ c.space_text.ensures c.in_ok-append_some-7.ensures
    (then (string_bytes c.append_some-7.new.out) _ _ _ _ _ c.text_if-4.ensures c.in_ok-append_some-8.ensures
    (then (string_bytes c.append_some-8.new.out) _ _ _ _ _ c.text_if-5.ensures c.in_ok-append_some-9.ensures
    (then (string_bytes c.append_some-9.new.out) _ _ _ _ _ c.accent_text.ensures c.in_ok-append_some-10.ensures
    (then (string_bytes c.append_some-10.new.out) _ _ _ _ _ c.text_if-6.ensures c.in_ok-append_some-11.ensures
    (then (string_bytes c.append_some-11.new.out) _ _ _ _ _ c.style_text.ensures c.in_ok-append_some-12.ensures
    (c.in_ok-append_boxing.ensures ∙ ap (λ l. string_bytes c.append_some-12.new.out ++ l) (sym (append-nil _))))))))))))))
