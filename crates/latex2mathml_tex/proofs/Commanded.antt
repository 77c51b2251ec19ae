-- The meaning that is found for a command.
use Rattle.std.proofs.Common.{◌≡◌, ◌∙◌, List, ℕ, Option, None, Some, ap, option_map, refl, subst, sym}
use Rattle.std.specs.{Borrow.Bor, Option.MatchOption}
use Rattle.latex2mathml_tex_grammar.specs.{Commands.meaning_of, Meaning.Change, Rules.command_rule, Units.Command}
use Rattle.latex2mathml_tex_grammar.specs.Starts.{change_by, change_meant}
use Rattle.latex2mathml_tex_commands.specs.Meanings as code
use Rattle.latex2mathml_tex_commands.specs.declared.meaning.Meaning.{Meaning}
use Rattle.latex2mathml_tex_units.specs.Taking.{piece_of}
use Rattle.latex2mathml_tex_units.specs.declared.unit.Piece.{Piece}
use Rattle.latex2mathml_tex_units.specs.declared.unit.Piece.TheVariants as piece
use Rattle.latex2mathml_tex_atoms.specs.Models.{context_of}
use Rattle.latex2mathml_tex_atoms.specs.declared.atoms.Context.{Context}
use Rattle.latex2mathml_tex.specs.{Frames.Start, Steps.BeginsIn}
use Rattle.latex2mathml_tex.specs.declared.parse.Parser.{Parser}

-- what is no command changes nothing that follows it
pub no_command : (p : Piece) → ((name : Bor (List ℕ)) → p ≡ piece.Command name → ⊥) → change_by (piece_of p) ≡ None
no_command (piece.Command name) other = absurd (other name refl)
no_command piece.Open other = refl
no_command piece.Close other = refl
no_command piece.Space other = refl
no_command (piece.Character c) other = refl

-- what is found in the table is the meaning of the name
found_meaning : (found : Option Meaning) (name : List ℕ) → MatchOption found (meaning_of name ≡ None) (λ m. meaning_of name ≡ Some (code.meaning_of m)) → option_map code.meaning_of found ≡ meaning_of name
found_meaning None name e = sym e
found_meaning (Some m) name e = sym e

module _ (found : Option Meaning) (name : List ℕ) (e : MatchOption found (meaning_of name ≡ None) (λ m. meaning_of name ≡ Some (code.meaning_of m))) where
  -- what the command changes is what its meaning changes
  pub change_found : (p : Piece) (change : Option Change) → piece_of p ≡ Command name → change ≡ change_meant (option_map code.meaning_of found) → change_by (piece_of p) ≡ change
  change_found p change is same = ap change_by is ∙ ap change_meant (sym (found_meaning found name e)) ∙ sym same

  -- the rule of the command is that of its meaning
  pub rule_found : (s : Start) (p : Parser) (k : Context) (place : ℕ) → BeginsIn k (command_rule place (context_of k) name (meaning_of name)) 0 s p → BeginsIn k (command_rule place (context_of k) name (option_map code.meaning_of found)) 0 s p
  rule_found s p k place g = subst (λ m. BeginsIn k (command_rule place (context_of k) name m) 0 s p) (sym (found_meaning found name e)) g
