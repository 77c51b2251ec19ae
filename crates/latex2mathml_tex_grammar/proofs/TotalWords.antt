-- Words have an outcome, whatever units they are.
use Rattle.std.proofs.Common.{ℕ, suc, ◌-◌, ◌<◌, ◌≡◌, false, inl, inr, Option, Some, None, refl, arith}
use Rattle.std.proofs.lemmas.Bool.{cases_Bool}
use Rattle.latex2mathml_tex_grammar.specs.{Rows.lone, Rows.row_element}
use Rattle.latex2mathml_tex_grammar.specs.Next.{past_space}
use Rattle.latex2mathml_tex_grammar.specs.Reading.{ReadsWord, word_stands, group_of_words, formula_read, formula_refused, words_in_alphabet, no_word, word_missing, word_at_end, word_stopped, ReadsPart, part_of_words, box_in_words, box_refused_in_words, ReadsWords, words_end, words_never_ended, words_stopped, atom_in_words, atom_refused_in_words, word_read, word_refused, ligature_read, words_resized, words_resized_refused}
use Rattle.latex2mathml_tex_grammar.specs.Rests.{with_resized}
use Rattle.latex2mathml_tex_grammar.specs.Rules.{Context, formula_in_words, in_size, in_words, InDollars, begun, rule}
use Rattle.latex2mathml_tex_grammar.specs.Starts.{is_close}
use Rattle.latex2mathml_tex_grammar.specs.Symbols.{TextSize}
use Rattle.latex2mathml_tex_grammar.specs.Units.{Unit, Units, Next, End, Stop}
use Rattle.latex2mathml_tex_grammar.specs.Words.{size_after, Words, no_words, Formula, with_accent_ended, with_word, WordRule, IsWord, BeginsGroup, EndsGroup, BeginsFormula, TakesWords, ShowsAtom, NoWord, alphabet_behind, word_rule, shown_character}
use Rattle.latex2mathml_tex_grammar.specs.Ligatures.{joined, ligature_start}
use Rattle.latex2mathml_tex_grammar.proofs.Ligatures.{joined_shortens}
use Rattle.latex2mathml_tex_grammar.specs.Macros.{unit_count as size}
use Rattle.latex2mathml_tex_grammar.proofs.Outcomes.{Comes, with_outcome, size-past_space, HasOutcomes, comes_to, is_refused}
use Rattle.latex2mathml_tex_grammar.specs.WordBoxes.{WordBox, box_rule, word_box}

begun_word : (k : ℕ) → HasOutcomes k → (place : ℕ) (c : Context) (ws : Words) (u : Unit) (l : Units) → size l < k → (r : WordRule) → word_rule c.alphabet u.piece ≡ r → Comes Words (ReadsWord place c ws (Next u l)) (size l)
begun_word k has place c ws u l h (IsWord w) s = comes_to (with_word ws w) l (omega arith) (word_stands s)
begun_word k has place c ws u l h BeginsGroup s = with_outcome (has.of_words u.place c ws l h) (omega arith) (λ o. group_of_words s)
begun_word k has place c ws u l h EndsGroup s = is_refused _ (word_missing s)
begun_word k has place c ws u l h BeginsFormula s = elim (has.of_atoms (InDollars u.place) (formula_in_words c) (begun (InDollars u.place)) l h) [
  | comes_to row m fits d ↦ comes_to (with_word ws (Formula (row_element (lone row.last row.elements)))) m fits (formula_read s d)
  | is_refused r d ↦ is_refused r (formula_refused s d)
]
begun_word k has place c ws u l h (TakesWords a) s =
    let less = size-past_space l in with_outcome (has.of_word u.place (in_words c a) ws (past_space l) (omega arith)) (omega arith) (λ o. words_in_alphabet s)
begun_word k has place c ws u l h ShowsAtom s = elim (has.of_rule (rule u.place c u.piece) l h) [
  | comes_to x m fits d ↦ comes_to (with_word ws (Formula x.atom.element)) m fits (atom_in_words s d)
  | is_refused r d ↦ is_refused r (atom_refused_in_words s d)
]
begun_word k has place c ws u l h (NoWord kind) s = is_refused _ (no_word s)

pub word_total : (k : ℕ) → HasOutcomes k → (place : ℕ) (c : Context) (ws : Words) (l : Units) → size l < suc k → Comes Words (ReadsWord place c ws l) (size l - 1)
word_total k has place c ws (Next u l) h = with_outcome (begun_word k has place c ws u l (omega arith) (word_rule c.alphabet u.piece) refl) (omega arith) (λ o d. d)
word_total k has place c ws (End at) h = is_refused _ word_at_end
word_total k has place c ws (Stop r) h = is_refused r word_stopped

-- a part of words in braces, which may be a box
part_total : (k : ℕ) → HasOutcomes k → (place : ℕ) (c : Context) (ws : Words) (u : Unit) (l : Units) → size l < k → (box : Option WordBox) → word_box u.piece ≡ box → Comes Words (ReadsPart place c ws (Next u l)) (size l)
part_total k has place c ws u l h None b = with_outcome (begun_word k has place c ws u l h (word_rule c.alphabet u.piece) refl) (omega arith) (λ o. part_of_words b)
part_total k has place c ws u l h (Some box) b = elim (has.of_rule (box_rule u.place c box) l h) [
  | comes_to x m fits d ↦ comes_to (with_word ws (Formula x.atom.element)) m fits (box_in_words b d)
  | is_refused r d ↦ is_refused r (box_refused_in_words b d)
]

-- a part of words that has an outcome, and then the words after it
word_after : (k : ℕ) → HasOutcomes k → (place : ℕ) (c : Context) (ws : Words) (u : Unit) (l : Units) → size l < k → is_close u.piece ≡ false → size_after (word_rule c.alphabet u.piece) ≡ None → ligature_start ws.accent c.alphabet u.piece ≡ None → Comes Words (ReadsPart place c ws (Next u l)) (size l) → Comes Words (ReadsWords place c ws (Next u l)) (size (Next u l))
word_after k has place c ws u l h s z j (is_refused r d) = is_refused r (word_refused s z j d)
word_after k has place c ws u l h s z j (comes_to vs m fits d) = with_outcome (has.of_words place (in_words c (alphabet_behind c.alphabet u.piece)) vs m (omega arith)) (omega arith) (λ o. word_read s z j d)

-- words after a ligature, if one begins
after_start : (k : ℕ) → HasOutcomes k → (place : ℕ) (c : Context) (ws : Words) (u : Unit) (l : Units) → size l < k → is_close u.piece ≡ false → size_after (word_rule c.alphabet u.piece) ≡ None → (start : Option ℕ) → ligature_start ws.accent c.alphabet u.piece ≡ start → Comes Words (ReadsWords place c ws (Next u l)) (size (Next u l))
after_start k has place c ws u l h s z None j = word_after k has place c ws u l h s z j (part_total k has place c ws u l h (word_box u.piece) refl)
after_start k has place c ws u l h s z (Some first) j =
    let fewer = joined_shortens first l in
    with_outcome (has.of_words place c (with_word ws (shown_character c.alphabet (joined first l).0)) (joined first l).1 (omega (arith, fewer, h))) (omega (arith, fewer)) (λ o. ligature_read j)

-- words after a change of size, if there is one
after_size : (k : ℕ) → HasOutcomes k → (place : ℕ) (c : Context) (ws : Words) (u : Unit) (l : Units) → size l < k → is_close u.piece ≡ false → (changed : Option TextSize) → size_after (word_rule c.alphabet u.piece) ≡ changed → Comes Words (ReadsWords place c ws (Next u l)) (size (Next u l))
after_size k has place c ws u l h s None z = after_start k has place c ws u l h s z (ligature_start ws.accent c.alphabet u.piece) refl
after_size k has place c ws u l h s (Some size) z = elim (has.of_words place (in_size c size) no_words l h) [
  | comes_to vs m fits d ↦ comes_to (with_resized size c (with_accent_ended ws).elements vs.elements) m (omega arith) (words_resized z d)
  | is_refused r d ↦ is_refused r (words_resized_refused z d)
]

pub words_total : (k : ℕ) → HasOutcomes k → (place : ℕ) (c : Context) (ws : Words) (l : Units) → size l < suc k → Comes Words (ReadsWords place c ws l) (size l)
words_total k has place c ws (End at) h = is_refused _ words_never_ended
words_total k has place c ws (Stop r) h = is_refused r words_stopped
words_total k has place c ws (Next u l) h = elim (cases_Bool (is_close u.piece)) [
  | inl s ↦ comes_to (with_accent_ended ws) l (omega arith) (words_end s)
  | inr s ↦ after_size k has place c ws u l (omega arith) s (size_after (word_rule c.alphabet u.piece)) refl
]
