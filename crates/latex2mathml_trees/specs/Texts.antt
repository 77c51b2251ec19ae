-- What is appended to a text, and how a text is escaped where it is in the markup.
use Rattle.std.specs.Prelude.{◌≡◌, ℕ, List, ◌++◌, OnOk, Result, String, string_bytes}
use Rattle.std.specs.{List.flat_map, declared.alloc.Global.Global}
use Rattle.latex2mathml_tokens.specs.Escape.{content, quoted_byte, value}
use Rattle.latex2mathml_trees.specs.declared.text.Place.{Place}
use Rattle.latex2mathml_trees.specs.declared.text.Place.TheVariants as place

-- on `Ok`, these bytes were appended
abbrev pub Appends : {A E : Type 0} → String Global → String Global → List ℕ → Result A E → Type 0
Appends old new bytes answer = OnOk answer (string_bytes new ≡ string_bytes old ++ bytes)

-- the text at this place
abbrev pub escaped : Place → List ℕ → List ℕ
escaped place.Content text = content text
escaped place.Value text = value text
escaped place.Quoted text = content (flat_map quoted_byte text)
