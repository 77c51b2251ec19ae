use Rattle.std.proofs.Common.{◌∙◌, ◌∷◌, ap, drop}
use Rattle.std.proofs.lemmas.Result.{on_ok_weaker}
use Rattle.latex2mathml_builder.specs.{Stacks.around_first, Built.elements_in}
use Rattle.latex2mathml_tex_grammar.specs.Makes.{in_box}
use Rattle.latex2mathml_tex_commands.specs.Meanings.{box_of}
use Rattle.latex2mathml_tex_atoms.proofs.Boxing.{in_one, in_two}
use Rattle.latex2mathml_tex_atoms.proofs.boxes.put_in_box.Goals as goal
use Rattle.latex2mathml_tex_atoms.proofs.boxes.put_in_box.Goals.{in-Some+in_ok-surround, in_default}

pub returns : goal.returns
returns c =
    let xs = elements_in c.args.builder.now in
    let inner = c.boxes-inner.result.0 in
    let outer = c.boxes-inner.result.1 in
    elim c.match-inner.branch [
      | in-Some+in_ok-surround w ↦ on_ok_weaker c.surround-2.result
          (λ h. in_two outer w.in-Some.around inner xs (elements_in c.match-inner.builder) _ (in_box (box_of c.args.operand_box)) c.requires w.in-Some.is c.boxes-inner.ensures (ap elements_in w.builder-is ∙ w.in_ok-surround.ensures.elements) h)
          c.surround-2.ensures.elements
      | in_default w ↦ on_ok_weaker c.surround-2.result
          (λ h. in_one outer inner xs _ (in_box (box_of c.args.operand_box)) c.requires w.in_default.is c.boxes-inner.ensures (h ∙ ap (λ b. around_first outer (elements_in b) ∷ drop 1 (elements_in b)) w.builder-is))
          c.surround-2.ensures.elements
    ]
