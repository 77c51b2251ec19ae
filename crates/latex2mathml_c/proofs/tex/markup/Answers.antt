use Rattle.std.proofs.Common.{Result, Ok, Err, IfOk}
use Rattle.latex2mathml_c.proofs.tex.markup.Goals as goal

-- what all clauses say of a result, at once
together : {A E : Type 0} (P Q R S : A → Type 0) (result : Result A E) → IfOk result P → IfOk result Q → IfOk result R → IfOk result S → IfOk result (λ x. (P x × Q x) × R x × S x)
together P Q R S (Ok x) p q r s = ((p, q), r, s)
together P Q R S (Err error) p q r s = p

pub returns-then-is_annotated-clause-markup : goal.returns-then-is_annotated-clause-markup
returns-then-is_annotated-clause-markup c = λ defined table same.
    let said = c.tex_to_mathml_with_source.ensures in
    rw c.if-is_annotated.true (together _ _ _ _ c.tex_to_mathml_with_source.result (said.answer table same) said.element (said.characters defined) said.dollars)

pub returns-else-is_annotated-clause-markup : goal.returns-else-is_annotated-clause-markup
returns-else-is_annotated-clause-markup c = λ defined table same.
    let said = c.tex_to_mathml.ensures in
    rw c.if-is_annotated.false (together _ _ _ _ c.tex_to_mathml.result (said.answer table same) said.element (said.characters defined) said.dollars)
