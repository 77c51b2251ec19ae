use Rattle.std.proofs.Common.{◌≡◌, ◌++◌, ap, codes, List, ℕ, refl, Some, subst, sym}
use Rattle.std.specs.{Prelude.IfSome, Str.chars}
use Rattle.latex2mathml_tex_grammar.specs.Units.{Spells, closing, is_space, opening}
use Rattle.latex2mathml_tex_units.specs.Taking.{piece_of}
use Rattle.latex2mathml_tex_units.proofs.Starts.{byte_begins, space_begins}
use Rattle.latex2mathml_tex_units.proofs.macros.standing.common_piece.Goals as goal

pub returns-in-32-clause-begins : goal.returns-in-32-clause-begins
returns-in-32-clause-begins c = space_begins c.in_ok-c.c _ _ _ c.in_ok-c.ensures (ap is_space c.in-32.is) c.skip_space.ensures

pub returns-in-123-clause-begins : goal.returns-in-123-clause-begins
returns-in-123-clause-begins c = (codes "{", byte_begins c.in_ok-c.c _ _ _ c.in_ok-c.ensures c.in-123.is, opening refl refl)

pub returns-in-125-clause-begins : goal.returns-in-125-clause-begins
returns-in-125-clause-begins c = (codes "}", byte_begins c.in_ok-c.c _ _ _ c.in_ok-c.ensures c.in-125.is, closing refl refl)

pub returns-in-92-clause-begins : goal.returns-in-92-clause-begins
returns-in-92-clause-begins c =
    subst (λ t. IfSome c.common_command.result (λ found. (w : List ℕ) × (t ≡ w ++ chars found.1.now) × Spells w (chars found.1.now) (Some (piece_of found.0))))
    (sym (byte_begins c.in_ok-c.c _ _ _ c.in_ok-c.ensures c.in-92.is)) c.common_command.ensures.begins
