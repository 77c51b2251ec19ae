-- The keys of the code's entries.
use Rattle.std.specs.Prelude.{◌≡◌, ℕ, Bool, List, IsTrue, Some}
use Rattle.latex2mathml_tokens.specs.Entries.{is_key}
use Rattle.latex2mathml_tex_grammar.specs.{Commands.entry_meaning, Commands.meaning_of, Meaning.Meaning}
use Rattle.latex2mathml_tex_commands.specs.Meanings as meanings
use Rattle.latex2mathml_tex_commands.specs.declared.meaning.Entry.{Entry}

-- the entry's key is that of its name
abbrev pub has_key : Entry → Bool
has_key entry = is_key entry.key entry.name.now

-- The name has the entry's key. If the name is the entry's, it means in these entries what the entry says.
pub record IsCandidate (entries : List (List ℕ × Meaning)) (entry : Entry) (name : List ℕ) : Type 0 where
  pub key : IsTrue (is_key entry.key name)
  pub keyed : IsTrue (has_key entry)
  pub named : entry.name.now ≡ name → entry_meaning entries name ≡ Some (meanings.meaning_of entry.meaning)

-- if the name is the entry's, it means what the entry says
abbrev pub MeansIfNamed : Entry → List ℕ → Type 0
MeansIfNamed entry name = entry.name.now ≡ name → meaning_of name ≡ Some (meanings.meaning_of entry.meaning)
