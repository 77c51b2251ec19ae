use Rattle.std.proofs.Common.{◌≡◌, ◌≢◌, ℕ, Some, ap, inl, inr, sym, refl}
use Rattle.latex2mathml_elements.specs.{Attributes.plain, Element.Mi, Element.token}
use Rattle.latex2mathml_tex_grammar.specs.Heights.{Low}
use Rattle.latex2mathml_tex_grammar.specs.Makes
use Rattle.latex2mathml_tex_grammar.specs.Makes.{core}
use Rattle.latex2mathml_tex_grammar.specs.{Alphabets.in_alphabet, Atoms.Plain, Atoms.atom, Symbols.Ordinary}
use Rattle.latex2mathml_tex_commands.specs.Meanings.{alphabet_of}
use Rattle.latex2mathml_tex_commands.specs.declared.meaning.Alphabet.{Alphabet}
use Rattle.latex2mathml_tex_commands.specs.declared.meaning.Alphabet.TheVariants as alphabet
use Rattle.latex2mathml_tex.proofs.parse.symbols.put_letter_in.Goals as goal

letter_in : (a : Alphabet) (n : ℕ) → a ≢ alphabet.Upright → a ≢ alphabet.Named → Makes.letter (Some (alphabet_of a)) n ≡ atom (Plain Ordinary) Low (token Mi plain (Makes.text (in_alphabet (alphabet_of a) n)))
letter_in alphabet.Upright n other unnamed = absurd (other refl)
letter_in alphabet.Named n other unnamed = absurd (unnamed refl)
letter_in a n other unnamed = refl

pub returns-in-Upright : goal.returns-in-Upright
returns-in-Upright c = c.put_character.ensures (core (Makes.letter (Some (alphabet_of c.args.alphabet)) c.args.c)) (elim c.in-Upright.is [
  | inl is ↦ rw (c.upright.ensures, c.new-letters.ensures, is) refl
  | inr is ↦ rw (c.upright.ensures, c.new-letters.ensures, is) refl
])

pub returns-in_default : goal.returns-in_default
returns-in_default c = c.put_character-in_default.ensures (core (Makes.letter (Some (alphabet_of c.args.alphabet)) c.args.c)) (rw (c.plain.ensures, c.new-ordinary.ensures, c.in_alphabet-c.ensures) (ap core (sym (letter_in c.args.alphabet c.args.c c.in_default.not-Upright c.in_default.not-Named))))
