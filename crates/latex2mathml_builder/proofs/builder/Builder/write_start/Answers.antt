use Rattle.std.proofs.Common.{◌||◌, codes, option_map, refl, ◌+◌, ◌<◌, ◌≤◌, ◌∙◌, ◌++◌, ap, arith, length, string_bytes, subst}
use Rattle.std.proofs.lemmas.Result.{IfOk-weaker}
use Rattle.latex2mathml_elements.specs.{Attributes.styled, Columns.are_lined}
use Rattle.latex2mathml_elements.specs.Element.{children}
use Rattle.latex2mathml_elements.specs.Print.{container_name, pair_name, print, prints, start_tag, table_attributes, triple_name}
use Rattle.latex2mathml_attributes.specs.Arounds.{around_attributes, around_name}
use Rattle.latex2mathml_builder.specs.Built.{Fits, element_of, settled_in}
use Rattle.latex2mathml_attributes.specs.Columns.{columns_of}
use Rattle.latex2mathml_builder.specs.Due.{arranged, due, has_line, settled_from, weight}
use Rattle.latex2mathml_attributes.specs.Names.{attributes_if_any, math_style_of, pair_of, triple_of}
use Rattle.latex2mathml_builder.proofs.Parts.{settled_count}
use Rattle.latex2mathml_builder.proofs.Tables.{begun, table_loaded, table_written}
use Rattle.latex2mathml_builder.proofs.Written.{opened, print_around, print_pair, print_triple, run_due, taken_length, weight_pair, weight_triple}
use Rattle.latex2mathml_builder.proofs.builder.Builder.write_start.Goals as goal

pub returns-in_ok-append_start-in-Around-clause-print :
    goal.returns-in_ok-append_start-in-Around-clause-print
returns-in_ok-append_start-in-Around-clause-print c =
    let b = c.args.self.now in
    let found = c.in-Around in
    let inner = prints (children (settled_from b found.first 1)) in
    let rest = due b c.args.works.now.items in
    let fits = subst (λ p. Fits b.texts (length b.settled) p) found.is c.requires.fits in
    let enough : found.first + 1 ≤ length (settled_in b) = omega (arith, settled_count b.texts b.settled, fits) in
    let whole = ap (λ p. print (element_of b.texts (settled_in b) p)) found.is ∙ print_around found.around (settled_in b) found.first enough in
    opened (container_name (around_name found.around)) (around_attributes found.around) (string_bytes c.args.out.now) inner rest _ _ _ _ _ _ refl c.in_ok-append_start-in-Around.ensures c.end.ensures refl (run_due _ inner _ rest c.run-in-Around.ensures.print) whole

pub returns-in_ok-start_pair-in-Pair-clause-print :
    goal.returns-in_ok-start_pair-in-Pair-clause-print
returns-in_ok-start_pair-in-Pair-clause-print c =
    let b = c.args.self.now in
    let found = c.in-Pair in
    let inner = prints (children (settled_from b found.first 2)) in
    let rest = due b c.args.works.now.items in
    let fits = subst (λ p. Fits b.texts (length b.settled) p) found.is c.requires.fits in
    let enough : found.first + 2 ≤ length (settled_in b) = omega (arith, settled_count b.texts b.settled, fits) in
    let whole = ap (λ p. print (element_of b.texts (settled_in b) p)) found.is ∙ print_pair (pair_of found.tag) (attributes_if_any found.attributes) (settled_in b) found.first enough in
    opened (pair_name (pair_of found.tag)) (attributes_if_any found.attributes) (string_bytes c.args.out.now) inner rest _ _ _ _ _ _ refl c.in_ok-start_pair-in-Pair.ensures c.end-in-Pair.ensures refl (run_due _ inner _ rest c.run-in-Pair.ensures.print) whole

pub returns-in_ok-start_pair-in-Pair-clause-weight :
    goal.returns-in_ok-start_pair-in-Pair-clause-weight
returns-in_ok-start_pair-in-Pair-clause-weight c =
    let b = c.args.self.now in
    let found = c.in-Pair in
    let fits = subst (λ p. Fits b.texts (length b.settled) p) found.is c.requires.fits in
    let enough : found.first + 2 ≤ length (settled_in b) = omega (arith, settled_count b.texts b.settled, fits) in
    let whole = ap (λ p. weight (element_of b.texts (settled_in b) p)) found.is ∙ weight_pair (pair_of found.tag) (attributes_if_any found.attributes) (settled_in b) found.first enough in
    omega (arith, whole, c.run-in-Pair.ensures.weight)

pub returns-in_ok-start_triple-in-Triple-clause-print :
    goal.returns-in_ok-start_triple-in-Triple-clause-print
returns-in_ok-start_triple-in-Triple-clause-print c =
    let b = c.args.self.now in
    let found = c.in-Triple in
    let fits = subst (λ p. Fits b.texts (length b.settled) p) found.is c.requires.fits in
    let enough : found.first + 3 ≤ length (settled_in b) = omega (arith, settled_count b.texts b.settled, fits) in
    let whole = ap (λ p. print (element_of b.texts (settled_in b) p)) found.is ∙ print_triple (triple_of found.tag) (attributes_if_any found.attributes) found.is_exchanged (settled_in b) found.first enough in
    IfOk-weaker c.three.result _ _
    (λ run h. opened (triple_name (triple_of found.tag)) (attributes_if_any found.attributes) (string_bytes c.args.out.now) (prints (children (arranged found.is_exchanged (settled_from b found.first 3)))) (due b c.args.works.now.items) _ _ _ _ _ _ refl c.in_ok-start_triple-in-Triple.ensures c.end-in-Triple.ensures refl h whole)
    c.three.ensures.print

pub returns-in_ok-start_triple-in-Triple-clause-weight :
    goal.returns-in_ok-start_triple-in-Triple-clause-weight
returns-in_ok-start_triple-in-Triple-clause-weight c =
    let b = c.args.self.now in
    let found = c.in-Triple in
    let fits = subst (λ p. Fits b.texts (length b.settled) p) found.is c.requires.fits in
    let enough : found.first + 3 ≤ length (settled_in b) = omega (arith, settled_count b.texts b.settled, fits) in
    let whole = ap (λ p. weight (element_of b.texts (settled_in b) p)) found.is ∙ weight_triple (triple_of found.tag) (attributes_if_any found.attributes) found.is_exchanged (settled_in b) found.first enough in
    IfOk-weaker c.three.result _ _ (λ run h. omega (arith, h, whole)) c.three.ensures.weight

pub returns-in_ok-start_table-in-Table-clause-print :
    goal.returns-in_ok-start_table-in-Table-clause-print
returns-in_ok-start_table-in-Table-clause-print c =
    let b = c.args.self.now in
    let found = c.in-Table in
    let columns = columns_of found.columns in
    let a = styled (option_map math_style_of found.style) in
    let xs = settled_from b found.first found.count in
    let fits = subst (λ p. Fits b.texts (length b.settled) p) found.is c.requires.fits in
    let enough : found.first + found.count ≤ length (settled_in b) = omega (arith, settled_count b.texts b.settled, fits.1) in
    let some : 0 < length xs = omega (arith, taken_length (settled_in b) found.first found.count enough, fits.0) in
    let whole = ap (λ p. print (element_of b.texts (settled_in b) p)) found.is ∙ table_written a columns xs some in
    let begins = c.in_ok-start_table-in-Table.ensures ∙ ap (λ k. string_bytes c.args.out.now ++ start_tag (codes "mtable") (table_attributes k a)) c.is_lined.ensures in
    IfOk-weaker c.write_rows.result _ _
    (λ run h. begun (string_bytes c.args.out.now) (due b c.args.works.now.items) (start_tag (codes "mtable") (table_attributes (are_lined columns || has_line xs) a)) _ _ _ _ begins h whole)
    c.write_rows.ensures.print

pub returns-in_ok-start_table-in-Table-clause-weight :
    goal.returns-in_ok-start_table-in-Table-clause-weight
returns-in_ok-start_table-in-Table-clause-weight c =
    let b = c.args.self.now in
    let found = c.in-Table in
    let columns = columns_of found.columns in
    let a = styled (option_map math_style_of found.style) in
    let xs = settled_from b found.first found.count in
    let fits = subst (λ p. Fits b.texts (length b.settled) p) found.is c.requires.fits in
    let enough : found.first + found.count ≤ length (settled_in b) = omega (arith, settled_count b.texts b.settled, fits.1) in
    let some : 0 < length xs = omega (arith, taken_length (settled_in b) found.first found.count enough, fits.0) in
    let whole = ap (λ p. weight (element_of b.texts (settled_in b) p)) found.is ∙ table_loaded a columns xs some in
    IfOk-weaker c.write_rows.result _ _ (λ run h. omega (arith, h, whole)) c.write_rows.ensures.weight
