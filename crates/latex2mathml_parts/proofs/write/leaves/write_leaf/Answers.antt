use Rattle.std.proofs.Common.{◌≡◌, ℕ, List, ◌++◌, append_assoc, codes}
use Rattle.latex2mathml_tokens.specs.{Escape.content, Escape.value, Names.paren_text, Names.size_text}
use Rattle.latex2mathml_parts.proofs.write.leaves.write_leaf.Goals as goal

opened : (a v b c rest : List ℕ) → (a ++ (v ++ (b ++ (v ++ c)))) ++ rest ≡ a ++ (v ++ (b ++ (v ++ (c ++ rest))))
opened a v b c rest = simp append_assoc

pub returns-in-SizedParen : goal.returns-in-SizedParen
returns-in-SizedParen c = rw c.in-SizedParen.is (rw (opened (codes "<mrow><mo maxsize=\"") (value (size_text c.in-SizedParen.size)) (codes "\" minsize=\"") (codes "\">") (content (paren_text c.in-SizedParen.paren) ++ codes "</mo></mrow>")) at (rw (c.size_open.ensures, c.text.ensures) at c.write_text.ensures))
