-- No macro that a text defines puts a character that XML forbids, and none of the usual ones does.
use Rattle.std.proofs.Common.{◌≡◌, ℕ, ◌||◌, false, List, [], ◌∷◌, codes, Option, Some, None, refl, subst}
use Rattle.std.specs.Prelude.{⊤}
use Rattle.std.specs.{List.AllByRecursion, Option.unwrap_or, Str.bytes_eq, Str.chars}
use Rattle.latex2mathml_elements.proofs.Characters.{allowed_plain}
use Rattle.latex2mathml_tex_grammar.specs.Bars.{Bars, FirstAsRelation, FirstStretched, EachStretched, divider, double_bar, stretched_bar}
use Rattle.latex2mathml_tex_grammar.specs.DefinitionTexts.{is_prefix, past_prefixes, ReadsDefinitions, no_more, stopped, defines, no_definition, definition_refused, Defines}
use Rattle.latex2mathml_tex_grammar.specs.Definitions.{Word, definition_of, parts_of}
use Rattle.latex2mathml_tex_grammar.specs.ExpansionLaws.{EachFixed, EachInMacro, EachInTable, added_pieces}
use Rattle.latex2mathml_tex_grammar.specs.{Cutting.units_of, Next.is_space_piece, Expansion.Expands, Macros.Macro, Macros.Part, Macros.Split, Macros.Table, Operands.Due}
use Rattle.latex2mathml_tex_grammar.specs.{Reading.Outcome, Reading.Read, Reading.Refused}
use Rattle.latex2mathml_tex_grammar.specs.Units.{Command, Unit, Units, Next, End, Stop}
use Rattle.latex2mathml_tex_grammar.specs.UsualMacros.{Other, Divided, Enclosed, Optional, Starred, body_with, entry_macro, listed, macro_with, other_macro, other_named, other_or, usual_entries, usual_macros}
use Rattle.latex2mathml_tex_grammar.proofs.Adding.{EachOf, fixed_both, IfParts, IsPassed, Passes, behind, of_definition, of_parts, pieces_of}
use Rattle.latex2mathml_tex_grammar.proofs.{Allowed.AreAllowedUnits, Allowed.IsAllowedPiece, AllowedUnits.units_allowed, Choices.of_either, Choices.of_found, OneList.has_units}

-- The usual macros

listed_allowed : (l : Units) → AreAllowedUnits l → EachOf IsAllowedPiece (listed l)
listed_allowed (Next u l) h = (h.0, listed_allowed l h.1)
listed_allowed (End place) h = tt
listed_allowed (Stop r) h = tt

parts_allowed : (parts : Option (List Part)) → IfParts IsAllowedPiece parts → EachFixed IsAllowedPiece (unwrap_or parts [])
parts_allowed (Some parts) h = h
parts_allowed None h = tt

body_allowed : (n : ℕ) (text : List ℕ) → EachFixed IsAllowedPiece (body_with n text)
body_allowed n text =
    let units = units_of 0 (chars text) in
    let each = listed_allowed units (units_allowed (has_units 0 (chars text))) in
    parts_allowed (parts_of n (listed units)) (of_parts IsAllowedPiece false n (listed units) each)

entries_allowed : (entries : List (List ℕ × ℕ × List ℕ)) → EachInTable IsAllowedPiece (entry_macro entries)
entries_allowed [] name m e = cc
entries_allowed (entry ∷ entries) name m e =
    of_found (EachInMacro IsAllowedPiece) (bytes_eq entry.0 name) (macro_with entry.1 entry.2) m (entry_macro entries name) (body_allowed entry.1 entry.2, tt, tt, tt) (entries_allowed entries name) e

stretched_allowed : (space : List ℕ) → IsAllowedPiece (Command space) → AllByRecursion IsAllowedPiece (stretched_bar space double_bar)
stretched_allowed space h = (tt, (h, (allowed_plain (codes "middle") refl, (allowed_plain (codes "|") refl, (h, (tt, tt))))))

-- the pieces that take the place of bars
divider_allowed : (bars : Bars) → AllByRecursion IsAllowedPiece (divider bars double_bar)
divider_allowed FirstAsRelation = (tt, (allowed_plain (codes "mid") refl, (tt, tt)))
divider_allowed FirstStretched = stretched_allowed (codes ";") (allowed_plain (codes ";") refl)
divider_allowed EachStretched = stretched_allowed (codes ",") (allowed_plain (codes ",") refl)

other_allowed : (other : Other) → EachInMacro IsAllowedPiece (other_macro other)
other_allowed (Divided command text) = (body_allowed 2 text, tt, tt, tt)
other_allowed (Starred starred text) = (body_allowed 1 text, tt, body_allowed 1 starred, tt)
other_allowed (Optional n text) = (body_allowed n text, tt, tt, tt)
other_allowed (Enclosed bars left right) =
    (fixed_both IsAllowedPiece (body_with 0 left) (Split bars 0 ∷ body_with 0 right) (body_allowed 0 left) (divider_allowed bars, body_allowed 0 right), tt, tt, tt)

either_allowed : (other : Option Other) (found : Option Macro) → ((m : Macro) → found ≡ Some m → EachInMacro IsAllowedPiece m) → (m : Macro) → other_or other found ≡ Some m → EachInMacro IsAllowedPiece m
either_allowed (Some other) found h m e = (let same : other_macro other ≡ m = cc in subst (EachInMacro IsAllowedPiece) same (other_allowed other))
either_allowed None found h m e = h m e

usual_allowed : EachInTable IsAllowedPiece usual_macros
unfolding usual_macros
usual_allowed name m e = either_allowed (other_named name) (entry_macro usual_entries name) (entries_allowed usual_entries name) m e

-- What a text defines

-- the pieces that definitions add
added_allowed : AllByRecursion IsAllowedPiece added_pieces
added_allowed =
    (tt, (tt, (refl, (allowed_plain (codes "operatorname") refl, (allowed_plain (codes "mathopen") refl, (allowed_plain (codes "mathclose") refl, (allowed_plain (codes "left") refl, (allowed_plain (codes "right") refl, tt))))))))

prefixes_allowed : (l : Units) → AreAllowedUnits l → AreAllowedUnits (past_prefixes l)
prefixes_allowed (Next u l) h = of_either AreAllowedUnits (is_space_piece u.piece || is_prefix u.piece) (prefixes_allowed l h.1) h
prefixes_allowed (End place) h = h
prefixes_allowed (Stop r) h = h

-- what a definition begins with
begun_allowed : (l : Units) {m : Units} {u : Unit} → past_prefixes l ≡ Next u m → AreAllowedUnits l → IsAllowedPiece u.piece × AreAllowedUnits m
begun_allowed l e h = subst AreAllowedUnits e (prefixes_allowed l h)

abbrev IfMacros : Outcome Table → Type 0
IfMacros (Read table l) = EachInTable IsAllowedPiece table
IfMacros (Refused r) = ⊤

definition_allowed : (word : Word) (place : ℕ) (l : Units) → AreAllowedUnits l → Passes IsAllowedPiece (IsPassed IsAllowedPiece) (definition_of word place l)
definition_allowed word place l h = of_definition IsAllowedPiece added_allowed word place l h

read_allowed : {table : Table} {l : Units} {o : Outcome Table} → ReadsDefinitions table l o → EachInTable IsAllowedPiece table → AreAllowedUnits l → IfMacros o
read_allowed (no_more e) t h = t
read_allowed (stopped e) t h = tt
read_allowed (defines {table = table} {l = l} {m = m} {u = u} {word = word} {d = d} e w g ds) t h =
    let read = subst (Passes IsAllowedPiece (IsPassed IsAllowedPiece)) g (definition_allowed word u.place m (begun_allowed l e h).1) in
    read_allowed ds (behind IsAllowedPiece added_allowed word d table read.0 t) read.1
read_allowed (no_definition e w) t h = tt
read_allowed (definition_refused e w g) t h = tt

pub macros_allowed : {text : List ℕ} {macros : Table} → Defines text macros → EachInTable IsAllowedPiece macros
macros_allowed h = read_allowed h.read usual_allowed (units_allowed h.spelled)

-- the pieces of an expansion
pub expansion_allowed : {macros : Table} {uses room : ℕ} {d : Due} {l m : Units} → Expands macros uses room d l m → EachInTable IsAllowedPiece macros → AreAllowedUnits l → AreAllowedUnits m
expansion_allowed e t h = pieces_of IsAllowedPiece added_allowed e t h
