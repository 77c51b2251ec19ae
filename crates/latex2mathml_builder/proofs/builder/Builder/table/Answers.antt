use Rattle.std.proofs.Common.{◌≡◌, ◌∷◌, ◌∙◌, OnOk, false, ap, drop, length, option_map, subst}
use Rattle.latex2mathml_elements.specs.Attributes.{styled}
use Rattle.latex2mathml_builder.specs.{Built.elements_in, Stacks.table_with}
use Rattle.latex2mathml_attributes.specs.{Columns.columns_of, Names.math_style_of}
use Rattle.latex2mathml_builder.proofs.Sound.{children_back}
use Rattle.latex2mathml_builder.proofs.builder.Builder.table.Goals as goal

pub returns-clause-elements : goal.returns-clause-elements
returns-clause-elements c =
    let b = c.args.self.now in
    let first = ap length c.as_slice-first.ensures.value ∙ ap (λ d. length d.settled) c.self.view_is in
    subst (λ l. OnOk c.wrap.result (elements_in c.wrap.new.self ≡ table_with (styled (option_map math_style_of c.args.style)) (columns_of c.args.columns) l ∷ drop c.args.count (elements_in b)))
    (children_back b.texts b.settled (elements_in b) _ c.args.count false first c.requires.all) c.wrap.ensures.elements
