-- Definitions have one outcome: a table, or a refusal.
use Rattle.std.proofs.Common.{ℕ, zero, suc, ◌<◌, ◌≤◌, ◌≡◌, ◌||◌, Option, Some, None, refl, sym, ap, subst, ◌∙◌, arith}
use Rattle.latex2mathml_tex_grammar.specs.Definitions.{Word, word_of, Definition, definition_of, behind_definition}
use Rattle.latex2mathml_tex_grammar.specs.DefinitionTexts.{is_prefix, past_prefixes, ReadsDefinitions, no_more, stopped, defines, no_definition, definition_refused}
use Rattle.latex2mathml_tex_grammar.specs.{ExpansionLaws.HaveOneTable, Macros.Table, Macros.unit_count, Next.is_space_piece, Reading.Outcome, Reading.Read, Reading.Refused, Refusal.Refusal}
use Rattle.latex2mathml_tex_grammar.specs.Units.{Unit, Units, Next, End, Stop}
use Rattle.latex2mathml_tex_grammar.proofs.Choices.{of_either}
use Rattle.latex2mathml_tex_grammar.proofs.Shrinking.{Leaves, definition_leaves}

-- what follows a definition is the same, whichever way the definition was found
moved : (table : Table) {p m n k j : Units} {u v : Unit} {word other : Word} {d e : Definition} {o : Outcome Table}
    → p ≡ Next u m → p ≡ Next v n → word_of u.piece ≡ Some word → word_of v.piece ≡ Some other
    → definition_of word u.place m ≡ Read d k → definition_of other v.place n ≡ Read e j
    → ReadsDefinitions (behind_definition other e table) j o → ReadsDefinitions (behind_definition word d table) k o
moved table {m = m} {n = n} {k = k} {j = j} {u = u} {v = v} {word = word} {other = other} {d = d} {e = e} {o = o} p q w x f g h =
    let units : v ≡ u = cc in
    let rest : n ≡ m = cc in
    let words : other ≡ word = cc in
    let outcomes : Read e j ≡ Read d k = sym g ∙ ap (λ y. definition_of other y.place n) units ∙ ap (λ y. definition_of other u.place y) rest ∙ ap (λ y. definition_of y u.place m) words ∙ f in
    let ds : e ≡ d = cc in
    let ks : j ≡ k = cc in
    subst (λ y. ReadsDefinitions (behind_definition word y table) k o) ds (subst (λ y. ReadsDefinitions (behind_definition word e table) y o) ks (subst (λ y. ReadsDefinitions (behind_definition y e table) j o) words h))

read_refused : {p m n k : Units} {u v : Unit} {word other : Word} {d : Definition} {r : Refusal} → p ≡ Next u m → p ≡ Next v n → word_of u.piece ≡ Some word → word_of v.piece ≡ Some other
    → definition_of word u.place m ≡ Read d k → definition_of other v.place n ≡ Refused r → ⊥
read_refused {m = m} {n = n} {k = k} {u = u} {v = v} {word = word} {other = other} {d = d} {r = r} p q w x f g =
    let units : v ≡ u = cc in
    let rest : n ≡ m = cc in
    let words : other ≡ word = cc in
    let outcomes : Refused r ≡ Read d k = sym g ∙ ap (λ y. definition_of other y.place n) units ∙ ap (λ y. definition_of other u.place y) rest ∙ ap (λ y. definition_of y u.place m) words ∙ f in
    cc

refused_same : {p m n : Units} {u v : Unit} {word other : Word} {r q : Refusal} → p ≡ Next u m → p ≡ Next v n → word_of u.piece ≡ Some word → word_of v.piece ≡ Some other
    → definition_of word u.place m ≡ Refused r → definition_of other v.place n ≡ Refused q → r ≡ q
refused_same {m = m} {n = n} {u = u} {v = v} {word = word} {other = other} {r = r} {q = q} p p' w x f g =
    let units : v ≡ u = cc in
    let rest : n ≡ m = cc in
    let words : other ≡ word = cc in
    let outcomes : Refused q ≡ Refused r = sym g ∙ ap (λ y. definition_of other y.place n) units ∙ ap (λ y. definition_of other u.place y) rest ∙ ap (λ y. definition_of y u.place m) words ∙ f in
    cc

word_or_none : {p m n : Units} {u v : Unit} {word : Word} → p ≡ Next u m → p ≡ Next v n → word_of u.piece ≡ Some word → word_of v.piece ≡ None → ⊥
word_or_none {m = m} {n = n} {u = u} {v = v} {word = word} p q w x =
    let units : v ≡ u = cc in
    let clash : Some word ≡ None = sym w ∙ ap (λ y. word_of y.piece) (sym units) ∙ x in
    cc

one_table : {table : Table} {l : Units} {o p : Outcome Table} → ReadsDefinitions table l o → ReadsDefinitions table l p → o ≡ p
one_table {table} (no_more {place = a} e) (no_more {place = b} f) = let same : a ≡ b = cc in ap (λ c. Read table (End c)) same
one_table (no_more e) (stopped f) = cc
one_table (no_more e) (defines f w g d) = cc
one_table (no_more e) (no_definition f w) = cc
one_table (no_more e) (definition_refused f w g) = cc
one_table (stopped e) (no_more f) = cc
one_table (stopped {r = r} e) (stopped {r = q} f) = let same : r ≡ q = cc in ap Refused same
one_table (stopped e) (defines f w g d) = cc
one_table (stopped e) (no_definition f w) = cc
one_table (stopped e) (definition_refused f w g) = cc
one_table (defines e w g d) (no_more f) = cc
one_table (defines e w g d) (stopped f) = cc
one_table {table} (defines e w g d) (defines e' w' g' d') = one_table d (moved table e e' w w' g g' d')
one_table (defines e w g d) (no_definition e' w') = absurd (word_or_none e e' w w')
one_table (defines e w g d) (definition_refused e' w' g') = absurd (read_refused e e' w w' g g')
one_table (no_definition e w) (no_more f) = cc
one_table (no_definition e w) (stopped f) = cc
one_table (no_definition e w) (defines e' w' g' d') = absurd (word_or_none e' e w' w)
one_table (no_definition {u = u} e w) (no_definition {u = v} e' w') = let same : u ≡ v = cc in rw same refl
one_table (no_definition e w) (definition_refused e' w' g') = absurd (word_or_none e' e w' w)
one_table (definition_refused e w g) (no_more f) = cc
one_table (definition_refused e w g) (stopped f) = cc
one_table (definition_refused e w g) (defines e' w' g' d') = absurd (read_refused e' e w' w g' g)
one_table (definition_refused e w g) (no_definition e' w') = absurd (word_or_none e e' w w')
one_table (definition_refused e w g) (definition_refused e' w' g') = ap Refused (refused_same e e' w w' g g')

-- there is an outcome

pub no_more_past_prefixes : (l : Units) → unit_count (past_prefixes l) ≤ unit_count l
no_more_past_prefixes (Next u l) =
    let less = no_more_past_prefixes l in of_either (λ m. unit_count m ≤ suc (unit_count l)) (is_space_piece u.piece || is_prefix u.piece) (omega (arith, less)) (omega arith)
no_more_past_prefixes (End place) = omega arith
no_more_past_prefixes (Stop r) = omega arith

some_behind : (n : ℕ) (table : Table) (l m : Units) (u : Unit) (found : Option Word) (o : Word → Outcome Definition) → past_prefixes l ≡ Next u m → word_of u.piece ≡ found → ((word : Word) → definition_of word u.place m ≡ o word) → ((word : Word) → Leaves n (o word))
    → ((t : Table) (k : Units) → unit_count k ≤ n → (p : Outcome Table) × ReadsDefinitions t k p)
    → (p : Outcome Table) × ReadsDefinitions table l p
some_behind n table l m u None o e w f h more = (_, no_definition e w)
some_behind n table l m u (Some word) o e w f h more = with_outcome (o word) (f word) (h word)
  where
    with_outcome : (x : Outcome Definition) → definition_of word u.place m ≡ x → Leaves n x → (p : Outcome Table) × ReadsDefinitions table l p
    with_outcome (Read d k) g less = (let rest = more (behind_definition word d table) k less in (rest.0, defines e w g rest.1))
    with_outcome (Refused r) g less = (Refused r, definition_refused e w g)

some_seen : (n : ℕ) (table : Table) (l p : Units) → past_prefixes l ≡ p → unit_count p < suc n
    → ((t : Table) (k : Units) → unit_count k < n → (p : Outcome Table) × ReadsDefinitions t k p)
    → (p : Outcome Table) × ReadsDefinitions table l p
some_seen n table l (Next u m) e h more = some_behind (unit_count m) table l m u (word_of u.piece) (λ word. definition_of word u.place m) e refl (λ word. refl) (λ word. definition_leaves word u.place m) (λ t k less. more t k (omega (arith, h, less)))
some_seen n table l (End place) e h more = (_, no_more e)
some_seen n table l (Stop r) e h more = (_, stopped e)

some_table : (n : ℕ) (table : Table) (l : Units) → unit_count l < n → (p : Outcome Table) × ReadsDefinitions table l p
some_table zero table l h = absurd (omega (arith, h))
some_table (suc n) table l h = some_seen n table l (past_prefixes l) refl (omega (arith, h, no_more_past_prefixes l)) (some_table n)

pub have_one_table : HaveOneTable
have_one_table = λ table l. record { some = some_table (suc (unit_count l)) table l (omega arith); one = λ o p d e. one_table d e }
