use Rattle.std.proofs.Common.{◌≡◌, ◌∙◌, ◌∷◌, ◌+◌, ◌<◌, Some, true, false, ap, arith, drop, length, option_map, refl, sym, take}
use Rattle.latex2mathml_elements.specs.{Attributes.Attributes, Element.Mtext, Element.token}
use Rattle.latex2mathml_builder.specs.{Built.elements_in, Stacks.is_token}
use Rattle.latex2mathml_tex_grammar.specs.{Makes.text, Words.font_attributes, Words.is_in, Words.with_text}
use Rattle.latex2mathml_tex_atoms.specs.Models.{font_of}
use Rattle.latex2mathml_tex_atoms.proofs.Wording.{as_many, below_longer, drop_more, not_longer, replaced, same_font, take_more, text_apart, text_longer}
use Rattle.latex2mathml_tex_atoms.proofs.words.put_text.Goals as goal
use Rattle.latex2mathml_tex_atoms.proofs.words.put_text.Goals.{else-is_in-via-then-is_in+then-words-gt0+in_ok-push+else-branch, else-is_in-via-then-is_in+else-words-gt0, else-is_in-via-else-is_in}

pub returns-then-branch : goal.returns-then-branch
returns-then-branch c =
    let n = c.args.words.count in
    let xs = elements_in c.args.builder.now in
    let more = text c.args.c in
    let font = font_of c.args.font in
    let last = option_map font_of c.args.words.last in
    let some : 0 < n = omega (arith, c.if-words-gt0.true) in
    let joins : is_in font last ≡ true = sym c.is_in.ensures ∙ c.if-is_in.true in
    let is : is_token xs ≡ true = sym c.in_ok-push.ensures.is_token ∙ c.if-branch.true in
    let first = ap (take n) c.in_ok-push.ensures.elements ∙ text_longer (font_attributes font) more n xs some is ∙ ap (λ b. with_text b (font_attributes font) more (take n xs)) (sym joins) in
    let below = ap (drop n) c.in_ok-push.ensures.elements ∙ below_longer more n xs some in
    let grown = ap length c.in_ok-push.ensures.elements ∙ as_many more xs in
    replaced c.args.words c.args.words xs _ font more first (same_font font last joins) refl below (omega (arith, grown))

-- the uppermost element is not a text that could become longer
same : (c : goal.After-struct_known-2-1) → elements_in c.else-is_in.builder ≡ elements_in c.args.builder.now
same c = elim c.else-is_in.branch [
  | else-is_in-via-then-is_in+then-words-gt0+in_ok-push+else-branch w ↦ (
      let is = sym w.in_ok-push.ensures.is_token ∙ w.if-branch.false in
      ap elements_in w.builder-is ∙ w.in_ok-push.ensures.elements ∙ not_longer (text c.args.c) (elements_in c.args.builder.now) is)
  | else-is_in-via-then-is_in+else-words-gt0 w ↦ ap elements_in w.builder-is
  | else-is_in-via-else-is_in w ↦ ap elements_in w.builder-is
]

apart : (c : goal.After-struct_known-2-1) → is_in (font_of c.args.font) (option_map font_of c.args.words.last) ≡ true → 0 < c.args.words.count → is_token (elements_in c.args.builder.now) ≡ false
apart c joins some = elim c.else-is_in.branch [
  | else-is_in-via-then-is_in+then-words-gt0+in_ok-push+else-branch w ↦ sym w.in_ok-push.ensures.is_token ∙ w.if-branch.false
  | else-is_in-via-then-is_in+else-words-gt0 w ↦ absurd (omega (arith, some, w.if-words-gt0.false))
  | else-is_in-via-else-is_in w ↦ (let no : true ≡ false = sym joins ∙ sym c.is_in.ensures ∙ w.if-is_in.false in absurd (cc))
]

pub returns : goal.returns
returns c =
    let n = c.args.words.count in
    let xs = elements_in c.args.builder.now in
    let more = text c.args.c in
    let font = font_of c.args.font in
    let a = font_attributes font in
    let put : elements_in c.character.new.self ≡ token Mtext a more ∷ xs =
    c.in_ok-character.ensures.elements ∙ ap (λ (b : Attributes). token Mtext b more ∷ elements_in c.else-is_in.builder) c.attributes.ensures ∙ ap (λ ys. token Mtext a more ∷ ys) (same c) in
    let first = ap (take (n + 1)) put ∙ take_more n (token Mtext a more) xs ∙ sym (text_apart a more (is_in font (option_map font_of c.args.words.last)) n xs (apart c)) in
    let below = ap (drop (n + 1)) put ∙ drop_more n (token Mtext a more) xs in
    let grown = ap length put in
    replaced c.args.words (record c.args.words { count = n + 1; last = Some c.args.font }) xs _ font more first refl refl below (omega (arith, grown))
