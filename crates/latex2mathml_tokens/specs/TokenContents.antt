-- What the text of a token has after the name of its kind.
use Rattle.std.specs.Prelude.{ℕ, List, [], ◌++◌, codes}
use Rattle.std.specs.Fmt.{signed_decimal}
use Rattle.latex2mathml_tokens.specs.{Escape.quoted, Escape.quoted_char, Tok.accent_name, Tok.variant_name}
use Rattle.latex2mathml_tokens.specs.declared.token.text.Contents.{Contents}
use Rattle.latex2mathml_tokens.specs.declared.token.text.Contents.TheVariants as contents

-- what a token contains, in parentheses
abbrev pub contents_text : Contents → List ℕ
contents_text contents.Nothing = []
contents_text (contents.Character c) = codes "(" ++ (quoted_char c ++ codes ")")
contents_text (contents.Text text) = codes "(" ++ (quoted text.now ++ codes ")")
contents_text (contents.Width width) = codes "(" ++ (signed_decimal width ++ codes ")")
contents_text (contents.Style variant) = codes "(" ++ (variant_name variant ++ codes ")")
contents_text (contents.Sign c accent) = codes "(" ++ (quoted_char c ++ (codes ", " ++ (accent_name accent ++ codes ")")))
contents_text (contents.Letter c variant) = codes "(" ++ (quoted_char c ++ (codes ", " ++ (variant_name variant ++ codes ")")))
