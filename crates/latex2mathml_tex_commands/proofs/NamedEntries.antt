-- The first entry decides a look-up, or leaves it to the others.
use Rattle.std.proofs.Common.{◌≡◌, ℕ, true, false, List, ◌∷◌, Some, map, refl}
use Rattle.std.specs.Str.{bytes_eq}
use Rattle.latex2mathml_tex_grammar.specs.Delimiters.{entry_of_name}
use Rattle.latex2mathml_tex_commands.specs.{Named.named_entry, declared.named.Named.Named}

pub entry_named : (e : Named) (es xs : List Named) (name : List ℕ) → xs ≡ e ∷ es → bytes_eq e.name.now name ≡ true → entry_of_name (map named_entry xs) name ≡ Some e.character
entry_named e es xs name p q = rw (p, q) refl

pub entry_other : (e : Named) (es xs : List Named) (name : List ℕ) → xs ≡ e ∷ es → bytes_eq e.name.now name ≡ false → entry_of_name (map named_entry xs) name ≡ entry_of_name (map named_entry es) name
entry_other e es xs name p q = rw (p, q) refl
