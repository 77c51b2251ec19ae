-- Ligatures: what begins one neither ends words nor changes their size, and what joins it is the same among units that are alike.
use Rattle.std.proofs.Common.{◌≡◌, ◌≤◌, ℕ, suc, Bool, true, false, IsTrue, Option, Some, None, refl, ap, subst, ◌∙◌, arith}
use Rattle.std.specs.{Prelude.if◌then◌else◌}
use Rattle.latex2mathml_tex_grammar.specs.Ligatures.{begins_ligature, behind_joint, first_in, joined, joint, ligature, ligature_start}
use Rattle.latex2mathml_tex_grammar.specs.{Macros.unit_count, Starts.is_close, Symbols.Alphabet, Symbols.TextSize}
use Rattle.latex2mathml_tex_grammar.specs.Spacing.{Standing, InWords, is_in_words, standing_behind, AreAlike, both_end, both_stop, same_piece, space_before, space_behind}
use Rattle.latex2mathml_tex_grammar.specs.Units.{Piece, Space, Open, Close, Command, Character, Unit, Units, Next, End, Stop, is_forbidden}
use Rattle.latex2mathml_tex_grammar.specs.Words.{Changed, Font, IsWord, Usual, Typewriter, font_in, size_after, word_rule}
use Rattle.latex2mathml_tex_grammar.proofs.{Allowed.AreAllowedUnits, Allowed.IsAllowedPiece, AllowedRules.of_word_character, Choices.of_either, Spaces.character_stays, Spaces.no_dollar}

-- What begins a ligature neither ends words nor changes their size

pub begins_none : (accent : Option ℕ) (a : Option Alphabet) (piece : Piece) {first : ℕ} → IsTrue (is_close piece) → ligature_start accent a piece ≡ Some first → ⊥
begins_none accent a Close s e = cc
begins_none accent a Space s e = cc
begins_none accent a Open s e = cc
begins_none accent a (Command name) s e = cc
begins_none accent a (Character c) s e = cc

character_no_size : (a : Option Alphabet) (c : ℕ) → size_after (word_rule a (Character c)) ≡ None
character_no_size a c = of_word_character (λ r. size_after r ≡ None) a c refl refl refl refl

pub start_no_size : (accent : Option ℕ) (a : Option Alphabet) (piece : Piece) {first : ℕ} {size : TextSize} → ligature_start accent a piece ≡ Some first → size_after (word_rule a piece) ≡ Some size → ⊥
start_no_size accent a (Character c) e t = (let none = character_no_size a c in cc)
start_no_size accent a Space e t = cc
start_no_size accent a Open e t = cc
start_no_size accent a Close e t = cc
start_no_size accent a (Command name) e t = cc

character_no_change : {other : Alphabet} (a : Option Alphabet) (c : ℕ) → word_rule a (Character c) ≡ IsWord (Changed other) → ⊥
character_no_change {other} a c = of_word_character (λ r. r ≡ IsWord (Changed other) → ⊥) a c (λ e. cc) (λ e. cc) (λ e. cc) (λ e. cc)

-- nor does a change of the alphabet
pub change_no_start : (accent : Option ℕ) (a : Option Alphabet) (piece : Piece) {other : Alphabet} → word_rule a piece ≡ IsWord (Changed other) → ligature_start accent a piece ≡ None
change_no_start accent a (Character c) e = absurd (character_no_change a c e)
change_no_start accent a Space e = refl
change_no_start accent a Open e = refl
change_no_start accent a Close e = refl
change_no_start accent a (Command name) e = refl

chosen : (b : Bool) (c : ℕ) {first : ℕ} → (if b then Some c else None) ≡ Some first → (b ≡ true) × (c ≡ first)
chosen true c e = (refl, cc)
chosen false c e = cc

begins : (accent : Option ℕ) (f : Font) (c : ℕ) {first : ℕ} → first_in accent f c ≡ Some first → (begins_ligature c ≡ true) × (c ≡ first)
begins (Some accent) f c e = cc
begins None Typewriter c e = cc
begins None Usual c e = chosen (begins_ligature c) c e

pub start_stays : (accent : Option ℕ) (at : Standing) (a : Option Alphabet) (piece : Piece) {first : ℕ} → ligature_start accent a piece ≡ Some first → standing_behind piece (InWords at) ≡ InWords at
start_stays accent at a (Character c) e = character_stays at c (no_dollar begins_ligature refl (λ s. cc) c (begins accent (font_in a) c e).0)
start_stays accent at a Space e = cc
start_stays accent at a Open e = cc
start_stays accent at a Close e = cc
start_stays accent at a (Command name) e = cc

pub start_allowed : (accent : Option ℕ) (a : Option Alphabet) (piece : Piece) {first : ℕ} → ligature_start accent a piece ≡ Some first → IsAllowedPiece piece → is_forbidden first ≡ false
start_allowed accent a (Character c) e h = subst (λ k. is_forbidden k ≡ false) (begins accent (font_in a) c e).1 h
start_allowed accent a Space e h = cc
start_allowed accent a Open e h = cc
start_allowed accent a Close e h = cc
start_allowed accent a (Command name) e h = cc

-- What joins it

abbrev is_some : Option ℕ → Bool
is_some (Some c) = true
is_some None = false

joint_stays : (at : Standing) (c : ℕ) (piece : Piece) {d : ℕ} → joint c piece ≡ Some d → standing_behind piece (InWords at) ≡ InWords at
joint_stays at c (Character d) e = character_stays at d (no_dollar (λ k. is_some (ligature c k)) refl (λ s. cc) d (ap is_some e))
joint_stays at c Space e = cc
joint_stays at c Open e = cc
joint_stays at c Close e = cc
joint_stays at c (Command name) e = cc

-- both are joined into the same character, and the units after it are alike
abbrev pub JoinedAlike : Standing → ℕ × Units → ℕ × Units → Type 0
JoinedAlike at first second = (first.0 ≡ second.0) × AreAlike (InWords at) first.1 second.1

joint_alike : {at : Standing} (c : ℕ) (u v : Unit) {l m : Units} (found : Option ℕ) → joint c u.piece ≡ found → u.piece ≡ v.piece → AreAlike (standing_behind u.piece (InWords at)) l m → ((d : ℕ) → standing_behind u.piece (InWords at) ≡ InWords at → JoinedAlike at (joined d l) (joined d m))
    → JoinedAlike at (behind_joint found (c, Next u l) (λ d. joined d l)) (behind_joint found (c, Next v m) (λ d. joined d m))
joint_alike {at} c u v (Some d) e same h more = more d (joint_stays at c u.piece e)
joint_alike c u v None e same h more = (refl, same_piece same h)

from : {at here : Standing} {l m : Units} (c : ℕ) → here ≡ InWords at → AreAlike here l m → JoinedAlike at (joined c l) (joined c m)
from c s both_end = (refl, both_end)
from c s (both_stop e) = (refl, both_stop e)
from c s (space_before w e h) = absurd (cc (ap is_in_words s, w))
from c s (space_behind w e h) = absurd (cc (ap is_in_words s, w))
from {at} c s (same_piece {u = u} {v = v} {l = l} {m = m} e h) =
    let behind : AreAlike (standing_behind u.piece (InWords at)) l m = subst (λ k. AreAlike (standing_behind u.piece k) l m) s h in
    let both = joint_alike c u v (joint c u.piece) refl e behind (λ d t. from d (ap (standing_behind u.piece) s ∙ t) h) in
    subst (λ found. JoinedAlike at (joined c (Next u l)) (behind_joint found (c, Next v m) (λ d. joined d m))) (ap (joint c) e) both

pub joined_alike : {at : Standing} {l m : Units} (c : ℕ) → AreAlike (InWords at) l m → JoinedAlike at (joined c l) (joined c m)
joined_alike c h = from c refl h

-- What is left

joint_shortens : (c : ℕ) (u : Unit) (l : Units) (found : Option ℕ) → ((d : ℕ) → unit_count (joined d l).1 ≤ unit_count l) → unit_count (behind_joint found (c, Next u l) (λ d. joined d l)).1 ≤ suc (unit_count l)
joint_shortens c u l (Some d) more = (let fewer = more d in omega (arith, fewer))
joint_shortens c u l None more = omega arith

-- no more units are left
pub joined_shortens : (c : ℕ) (l : Units) → unit_count (joined c l).1 ≤ unit_count l
joined_shortens c (Next u l) = joint_shortens c u l (joint c u.piece) (λ d. joined_shortens d l)
joined_shortens c (End place) = omega arith
joined_shortens c (Stop r) = omega arith

-- no character that XML forbids comes about

of_ligature : (P : Option ℕ → Type 0) (c d : ℕ) → P (Some 0x2013) → P (Some 0x2014) → P (Some 0x201C) → P (Some 0x201D) → P None → P (ligature c d)
of_ligature P c d two three opening closing none = of_either P _ two (of_either P _ three (of_either P _ opening (of_either P _ closing none)))

one_allowed : (k : ℕ) {whole : ℕ} → is_forbidden k ≡ false → Some k ≡ Some whole → is_forbidden whole ≡ false
one_allowed k {whole} h e = (let same : k ≡ whole = cc in subst (λ c. is_forbidden c ≡ false) same h)

ligature_allowed : (c d : ℕ) {whole : ℕ} → ligature c d ≡ Some whole → is_forbidden whole ≡ false
ligature_allowed c d {whole} e =
    of_ligature (λ found. found ≡ Some whole → is_forbidden whole ≡ false) c d (one_allowed 0x2013 refl) (one_allowed 0x2014 refl) (one_allowed 0x201C refl) (one_allowed 0x201D refl) (λ h. cc) e

joint_allowed : (c : ℕ) (piece : Piece) {d : ℕ} → joint c piece ≡ Some d → is_forbidden d ≡ false
joint_allowed c (Character d) e = ligature_allowed c d e
joint_allowed c Space e = cc
joint_allowed c Open e = cc
joint_allowed c Close e = cc
joint_allowed c (Command name) e = cc

abbrev pub IsAllowedBehind : ℕ × Units → Type 0
IsAllowedBehind found = (is_forbidden found.0 ≡ false) × AreAllowedUnits found.1

behind_joint_allowed : (c : ℕ) (u : Unit) (l : Units) (found : Option ℕ) → joint c u.piece ≡ found → is_forbidden c ≡ false → AreAllowedUnits (Next u l) → ((d : ℕ) → is_forbidden d ≡ false → AreAllowedUnits l → IsAllowedBehind (joined d l))
    → IsAllowedBehind (behind_joint found (c, Next u l) (λ d. joined d l))
behind_joint_allowed c u l (Some d) e h k more = more d (joint_allowed c u.piece e) k.1
behind_joint_allowed c u l None e h k more = (h, k)

pub joined_allowed : (c : ℕ) (l : Units) → is_forbidden c ≡ false → AreAllowedUnits l → IsAllowedBehind (joined c l)
joined_allowed c (Next u l) h k = behind_joint_allowed c u l (joint c u.piece) refl h k (λ d i j. joined_allowed d l i j)
joined_allowed c (End place) h k = (h, k)
joined_allowed c (Stop r) h k = (h, k)
