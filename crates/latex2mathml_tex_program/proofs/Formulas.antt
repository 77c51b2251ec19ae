-- The formulas of an input, and the replies to them.
use Rattle.std.proofs.Common.{◌≡◌, ◌≢◌, ◌∙◌, ◌==◌, ℕ, ◌<◌, ◌≤◌, Bool, false, true, true-eqb, List, [], ◌∷◌, ◌++◌, None, Some, drop, get_or, length, refl, sym, ap, subst, take, arith, append-nil, append_assoc}
use Rattle.std.proofs.lemmas.Bool.{eqb-true}
use Rattle.std.proofs.lemmas.Grind.{common_steps}
use Rattle.std.proofs.lemmas.List.Quantifiers.{position-Some}
use Rattle.std.proofs.lemmas.List.Sums.{fails_before_first}
use Rattle.std.proofs.lemmas.Str.{IsCharBoundary-after_ascii, IsCharBoundary-before_ascii, IsUtf8-drop}
use Rattle.std.specs.List.{position, position_or_len}
use Rattle.std.specs.Str.{IsCharBoundary, IsUtf8}
use Rattle.latex2mathml_tex_grammar.specs.Macros.{Table}
use Rattle.latex2mathml_tex_program.specs.Replies.{AreFormulas, AreReplies, IsReply, IsWithoutNul, no_formula, unended, ended, no_reply, one_more}
use Rattle.latex2mathml_tex_program.specs.Texts.{IsFirstText, before_nul, last}
use Rattle.latex2mathml_tex_program.specs.declared.request.Format.{Format}

abbrev is_nul : ℕ → Bool
is_nul byte = byte == 0

-- a text of which no byte is a NUL
nul_free : (text : List ℕ) → ((i : ℕ) → i < length text → is_nul (get_or text i 0) ≡ false) → IsWithoutNul text
nul_free text other = record { none = λ before after is. holds before after is }
  where
    holds : (before after : List ℕ) → text ≢ before ++ 0 ∷ after
    holds before after is =
        let i = length before in
        let there : get_or (before ++ 0 ∷ after) i 0 ≡ 0 = grind (arith, common_steps) in
        let inside : i < length (before ++ 0 ∷ after) = grind (arith, common_steps) in
        let nul : get_or text i 0 ≡ 0 = rw is there in
        let both : true ≡ false = ap is_nul (sym nul) ∙ other i (rw is inside) in
        absurd (cc)

-- the text before the first NUL, and what follows the NUL
pub split_at_nul : (texts text behind rest : List ℕ) (place : ℕ) → position is_nul texts ≡ Some place
    → text ≡ take place texts → behind ≡ drop place texts → rest ≡ drop 1 behind → IsFirstText texts text rest
split_at_nul texts text behind rest place found front back after =
    let (inside, here, before) = position-Some is_nul texts place 0 found in
    let nul : get_or texts place 0 ≡ 0 = eqb-true _ 0 here in
    let parts : texts ≡ text ++ 0 ∷ rest = rw (after, back, front) (grind (arith, common_steps)) in
    before_nul parts (nul_free text (λ i within.
    let early : i < place = grind (arith, common_steps) in
    let same : get_or text i 0 ≡ get_or texts i 0 = grind (arith, common_steps) in
    rw same (before i early)))

-- a character begins at the NUL
pub begins_at_nul : (texts : List ℕ) (place : ℕ) → position is_nul texts ≡ Some place → IsCharBoundary texts place
begins_at_nul texts place found =
    let (inside, here, before) = position-Some is_nul texts place 0 found in
    let nul : get_or texts place 0 ≡ 0 = eqb-true _ 0 here in
    IsCharBoundary-before_ascii texts place inside (omega arith)

-- a character begins behind the NUL
pub begins_after_nul : (texts behind : List ℕ) (place : ℕ) → IsUtf8 texts → position is_nul texts ≡ Some place
    → behind ≡ drop place texts → IsCharBoundary behind 1
begins_after_nul texts behind place utf8 found back =
    let (inside, here, before) = position-Some is_nul texts place 0 found in
    let nul : get_or texts place 0 ≡ 0 = eqb-true _ 0 here in
    let first : get_or (drop place texts) 0 0 ≡ 0 = grind (arith, common_steps) in
    let some : 0 < length (drop place texts) = grind (arith, common_steps) in
    let text : IsUtf8 (drop place texts) = IsUtf8-drop texts place utf8 (omega arith, λ l high. omega arith) in
    subst (λ l. IsCharBoundary l 1) (sym back) (IsCharBoundary-after_ascii (drop place texts) 0 text some (omega arith))

-- no byte is a NUL
pub all_without_nul : (texts : List ℕ) → position is_nul texts ≡ None → IsFirstText texts texts []
all_without_nul texts none =
    let all : length texts ≤ position_or_len is_nul texts = grind (arith, common_steps) in
    last (nul_free texts (λ i inside. fails_before_first is_nul texts i 0 (omega arith)))

-- a text that is not at its end, and one that is
pub some_left : (rest : List ℕ) → false ≡ (length rest == 0) → rest ≢ []
some_left [] is = absurd (let k : false ≡ true = is in cc)
some_left (b ∷ rest) is = λ e. absurd (let k : length (b ∷ rest) ≡ 0 = ap length e in omega arith)

pub none_left : (rest : List ℕ) → true ≡ (length rest == 0) → rest ≡ []
none_left [] is = refl
none_left (b ∷ rest) is = absurd (let k : length (b ∷ rest) ≡ 0 = true-eqb _ _ is in omega arith)

-- behind the first text fewer bytes are left
pub fewer_left : (texts text rest : List ℕ) → texts ≢ [] → IsFirstText texts text rest → length rest < length texts
fewer_left texts text rest some (before_nul parts free) = let is = ap length parts in grind (arith, common_steps)
fewer_left [] text rest some (last free) = absurd (some refl)
fewer_left (b ∷ texts) text rest some (last free) = omega arith

-- What was replied so far are the replies to the first formulas of the text. After these, the text has whatever formulas the
-- rest of it has.
pub record AreRepliedSoFar (macros : Table) (text : List ℕ) (format : Format) (replies rest : List ℕ) : Type 0 where
  pub formulas : List (List ℕ)
  pub replied : AreReplies macros formulas format replies
  pub others : (more : List (List ℕ)) → AreFormulas rest more → AreFormulas text (formulas ++ more)

-- nothing was replied
pub none_replied : (macros : Table) (text : List ℕ) (format : Format) → AreRepliedSoFar macros text format [] text
none_replied macros text format = record { formulas = []; replied = no_reply; others = λ more is. is }

-- one more reply
one_behind : (macros : Table) (formulas : List (List ℕ)) (format : Format) (replies tex reply : List ℕ)
    → AreReplies macros formulas format replies → IsReply macros tex format reply → AreReplies macros (formulas ++ tex ∷ []) format (replies ++ reply)
one_behind macros [] format [] tex reply no_reply is =
    subst (λ l. AreReplies macros (tex ∷ []) format l) (append-nil reply) (one_more is no_reply)
one_behind macros [] format (_ ∷ _) tex reply none is = elim none [ ]
one_behind macros (first ∷ formulas) format all tex reply (one_more {reply = said} {replies = replies} of_first others) is =
    subst (λ l. AreReplies macros (first ∷ (formulas ++ tex ∷ [])) format l) (sym (append_assoc said replies reply))
    (one_more of_first (one_behind macros formulas format replies tex reply others is))

-- a formula that a NUL ends was replied to
more_replied : (macros : Table) (text : List ℕ) (format : Format) (replies rest tex more reply : List ℕ)
    → AreRepliedSoFar macros text format replies rest
    → rest ≡ tex ++ 0 ∷ more
    → IsWithoutNul tex
    → IsReply macros tex format reply
    → AreRepliedSoFar macros text format (replies ++ reply) more
more_replied macros text format replies rest tex more reply so_far parts free is = record {
  formulas = so_far.formulas ++ tex ∷ [];
  replied = one_behind macros so_far.formulas format replies tex reply so_far.replied is;
  others = λ others are. subst (AreFormulas text) (sym (append_assoc so_far.formulas (tex ∷ []) others))
      (so_far.others (tex ∷ others) (subst (λ l. AreFormulas l (tex ∷ others)) (sym parts) (ended free are)));
}

-- a text that is at its end has no formulas
no_more : (rest : List ℕ) (others : List (List ℕ)) → AreFormulas rest others → rest ≡ [] → others ≡ []
no_more rest others no_formula e = refl
no_more rest others (unended some free) e = absurd (some e)
no_more rest others (ended {tex = tex} {rest = after} free are) e =
    absurd (let k : length (tex ++ 0 ∷ after) ≡ 0 = ap length e in grind (arith, common_steps))

-- the last formula was replied to, which no NUL ends
last_replied : (macros : Table) (text : List ℕ) (format : Format) (replies rest reply : List ℕ)
    → AreRepliedSoFar macros text format replies rest
    → rest ≢ []
    → IsWithoutNul rest
    → IsReply macros rest format reply
    → AreRepliedSoFar macros text format (replies ++ reply) []
last_replied macros text format replies rest reply so_far some free is = record {
  formulas = so_far.formulas ++ rest ∷ [];
  replied = one_behind macros so_far.formulas format replies rest reply so_far.replied is;
  others = λ others are. subst (λ l. AreFormulas text ((so_far.formulas ++ rest ∷ []) ++ l)) (sym (no_more [] others are refl))
      (subst (AreFormulas text) (sym (append-nil (so_far.formulas ++ rest ∷ []))) (so_far.others (rest ∷ []) (unended some free)));
}

-- the first formula of the rest was replied to
pub next_replied : (macros : Table) (text : List ℕ) (format : Format) (replies rest tex more reply : List ℕ)
    → AreRepliedSoFar macros text format replies rest
    → rest ≢ []
    → IsFirstText rest tex more
    → IsReply macros tex format reply
    → AreRepliedSoFar macros text format (replies ++ reply) more
next_replied macros text format replies rest tex more reply so_far some (before_nul parts free) is =
    more_replied macros text format replies rest tex more reply so_far parts free is
next_replied macros text format replies rest tex more reply so_far some (last free) is =
    last_replied macros text format replies rest reply so_far some free is

-- the text is at its end
pub all_replied : (macros : Table) (text : List ℕ) (format : Format) (replies rest : List ℕ)
    → AreRepliedSoFar macros text format replies rest
    → rest ≡ []
    → (formulas : List (List ℕ)) × AreFormulas text formulas × AreReplies macros formulas format replies
all_replied macros text format replies rest so_far is = (
  so_far.formulas,
  subst (AreFormulas text) (append-nil so_far.formulas) (so_far.others [] (subst (λ l. AreFormulas l []) (sym is) no_formula)),
  so_far.replied,
)
