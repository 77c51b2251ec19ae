use Rattle.std.proofs.Common.{◌≡◌, ◌∙◌, ◌++◌, Some, ap, codes, option_map, rules, string_bytes, sym}
use Rattle.latex2mathml_elements.specs.{Attributes.AtMost, Extents.ems, Print.boxing_text}
use Rattle.latex2mathml_attributes.proofs.Lengths.{kept}
use Rattle.latex2mathml_attributes.proofs.attributes.append_room.Goals as goal

pub returns-in_ok-append_length : goal.returns-in_ok-append_length
returns-in_ok-append_length c =
    let old = string_bytes c.args.out.now in
    let is : c.args.room ≡ Some c.in-Some.width = c.in-Some.is in
    c.in_ok-append_length.ensures
    ∙ ap (λ n. old ++ (codes " style=\"max-width: " ++ (ems n ++ codes "em\""))) (kept c.from.result (search rules) ∙ c.from.ensures)
    ∙ ap (λ room. old ++ boxing_text (option_map AtMost room)) (sym is)
