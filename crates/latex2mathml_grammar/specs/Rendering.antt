-- What a formula is converted to. Here a text is its bytes.
use Rattle.std.specs.Prelude.{◌≡◌, ℕ, List, ◌++◌, None, codes}
use Rattle.std.specs.Str.{chars}
use Rattle.latex2mathml_tokens.specs.{Attributes.display_text, Refusal.Refusal, Tok.Tok, declared.DisplayStyle.DisplayStyle}
use Rattle.latex2mathml_grammar.specs.{Grammar.ReadsFormula, Grammar.Refuses, Spelling.HasTokens}
use Rattle.latex2mathml_trees.specs.{Print.prints, Tree.Tree, Tree.trees_of}

-- trees as one `math` element
abbrev pub math_print : DisplayStyle → List Tree → List ℕ
math_print display xs = codes "<math xmlns=\"http://www.w3.org/1998/Math/MathML\" display=\"" ++ (display_text display ++ (codes "\">" ++ (prints (trees_of xs) ++ codes "</math>")))

-- the markup is that of a reading of the text's tokens
unfoldable pub IsRendering : List ℕ → DisplayStyle → List ℕ → Type 0
IsRendering text display markup =
    (ts : List Tok) × HasTokens None (chars text) ts × ((xs : List Tree) × ReadsFormula ts xs × (markup ≡ math_print display xs))

-- the grammar refuses the text's tokens
unfoldable pub IsFormulaRefusal : List ℕ → Refusal → Type 0
IsFormulaRefusal text refusal = (ts : List Tok) × HasTokens None (chars text) ts × Refuses ts refusal
