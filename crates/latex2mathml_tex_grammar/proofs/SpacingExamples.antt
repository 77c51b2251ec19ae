-- Some texts that are alike but for white space and some that are not.
use lib.Utf8.{encode}
use Rattle.std.proofs.Common.{◌≡◌, ℕ, ◌&&◌, not, List, [], ◌∷◌, refl, sym, ap, subst, ◌∙◌, if◌then◌else◌}
use Rattle.latex2mathml_tex_grammar.specs.{Commands.command_entries, Commands.meaning_of, CommandsFromM.commands_from_m, CommandsUpToL.commands_up_to_l, Cutting.units_of, Cutting.units_within, Next.is_space_piece, SpacingExamples.AreSpacingExamples}
use Rattle.latex2mathml_tex_grammar.specs.Spacing.{Standing, InFormula, standing_behind, is_in_words, AreAlike, both_end, both_stop, same_piece, space_before, space_behind, HaveAlikeUnits}
use Rattle.latex2mathml_tex_grammar.specs.Units.{Piece, Units, Next, End, Stop}
use Rattle.latex2mathml_tex_grammar.proofs.OneList.{has_units, units_are}

-- a piece that counts
abbrev counted : Piece → Standing → List Piece → List Piece
counted piece at rest = if is_space_piece piece && not (is_in_words at) then rest else piece ∷ rest

-- the pieces that count
abbrev counting : Standing → Units → List Piece
counting at (Next u l) = counted u.piece at (counting (standing_behind u.piece at) l)
counting at (End place) = []
counting at (Stop r) = []

-- alike units have the same pieces that count
same_pieces : {at : Standing} {l m : Units} → AreAlike at l m → counting at l ≡ counting at m
same_pieces both_end = refl
same_pieces (both_stop e) = refl
same_pieces {at = at} (same_piece {u = u} {v = v} {l = l} {m = m} e h) =
    subst (λ p. counted u.piece at (counting (standing_behind u.piece at) l) ≡ counted p at (counting (standing_behind p at) m)) e (ap (counted u.piece at) (same_pieces h))
same_pieces (space_before w e h) = rw (e, w) (same_pieces h)
same_pieces (space_behind w e h) = rw (e, w) (same_pieces h)

-- so do texts of alike units
same_of_texts : (text other : List ℕ) → HaveAlikeUnits text other → counting InFormula (units_of 0 text) ≡ counting InFormula (units_of 0 other)
same_of_texts text other (l, m, has, there, h) = ap (counting InFormula) (units_are 0 text l has) ∙ same_pieces h ∙ ap (counting InFormula) (sym (units_are 0 other m there))

have : (text other : List ℕ) → AreAlike InFormula (units_of 0 text) (units_of 0 other) → HaveAlikeUnits text other
have text other h = (units_of 0 text, units_of 0 other, has_units 0 text, has_units 0 other, h)

pub are_spacing_examples : AreSpacingExamples
unfolding units_of units_within encode meaning_of command_entries commands_up_to_l commands_from_m
are_spacing_examples = record {
  around_signs = have _ _ (space_behind refl refl (same_piece refl (space_behind refl refl (same_piece refl (space_behind refl refl (same_piece refl (space_behind refl refl (same_piece refl (space_behind refl refl (same_piece refl (space_behind refl refl both_end)))))))))));
  comments = have _ _ (same_piece refl (space_behind refl refl (same_piece refl both_end)));
  signs = λ h. (let same = same_of_texts _ _ h in cc);
  around_words = have _ _ (same_piece refl (space_behind refl refl (same_piece refl (same_piece refl (same_piece refl (space_behind refl refl (same_piece refl both_end)))))));
  in_words = λ h. (let same = same_of_texts _ _ h in cc);
  in_braces = λ h. (let same = same_of_texts _ _ h in cc);
  behind_dollars = λ h. (let same = same_of_texts _ _ h in cc);
  in_dollars = have _ _ (same_piece refl (same_piece refl (same_piece refl (same_piece refl (same_piece refl (same_piece refl (space_before refl refl (same_piece refl (space_behind refl refl (same_piece refl (same_piece refl both_end)))))))))));
  in_groups = have _ _ (same_piece refl (same_piece refl (same_piece refl (space_before refl refl (same_piece refl (same_piece refl both_end))))));
}
