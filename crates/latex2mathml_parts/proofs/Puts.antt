-- What parts leave of the trees before them.
use Rattle.std.proofs.Common.{◌≡◌, ℕ, ◌+◌, ◌≤◌, List, ◌∷◌, length, length-drop, drop, refl, ap, arith}
use Rattle.latex2mathml_trees.specs.Tree.{Tree}
use Rattle.latex2mathml_parts.specs.{Parts.arity, Parts.put, Forms.arity_of, Forms.put_form, Parts.top, declared.kind.Kind.Kind}
use Rattle.latex2mathml_parts.specs.declared.kind.Kind.TheVariants as kind
use Rattle.latex2mathml_parts.specs.declared.form.Form.{Form}
use Rattle.latex2mathml_parts.specs.declared.form.Form.TheVariants as form

-- a part puts one tree over the trees that are not its operands
put_one : (k : Kind) (ts : List Tree) → put k ts ≡ top (put k ts) ∷ drop (arity k) ts
put_one (kind.Number digits) ts = refl
put_one k ts = refl

-- The same for the parts of the list.

pub form_one : (texts : List (List ℕ)) (f : Form) (ts : List Tree) → put_form texts f ts ≡ top (put_form texts f ts) ∷ drop (arity_of f) ts
form_one texts (form.Of k) ts = put_one k ts
form_one texts f ts = refl

pub below_form : (texts : List (List ℕ)) (f : Form) (ts : List Tree) → drop 1 (put_form texts f ts) ≡ drop (arity_of f) ts
below_form texts f ts = ap (drop 1) (form_one texts f ts)

pub form_length : (texts : List (List ℕ)) (f : Form) (ts : List Tree) → length (put_form texts f ts) ≤ length ts + 1
form_length texts f ts = omega (arith, ap length (form_one texts f ts), length-drop (arity_of f) ts)
