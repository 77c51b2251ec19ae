use Rattle.std.proofs.Common.{◌≡◌, drop, take}
use Rattle.latex2mathml_builder.specs.Built.{elements_in}
use Rattle.latex2mathml_tex_grammar.specs.Rows
use Rattle.latex2mathml_tex_atoms.proofs.LikeSigns.{like_sign_after}
use Rattle.latex2mathml_tex_atoms.proofs.rows.are_like_sign.Given as goal

abbrev pub invariant-elements : goal.invariant-elements
invariant-elements l =
    let xs = take l.count (elements_in l.builder) in
    like_sign_after l.has_sign (drop l.depth xs) ≡ Rows.are_like_sign xs
