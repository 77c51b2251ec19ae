-- How writing a line may end.
use Rattle.std.proofs.Common.{◌≡◌, ◌==◌, ◌↔◌, ℕ, suc, ◌+◌, ◌<◌, ◌≤◌, Bool, true, false, IsTrue, List, [], ◌∷◌, ◌++◌, Option, None, Some, Result, Ok, Err, IfErr, OnOk, inl, inr, length, true-eqb, map, take, drop, refl, sym, ap, ◌∙◌, subst, append-nil, append_assoc, arith, take-append-drop, slice_index_or}
use Rattle.std.proofs.{KnownBytes.Appends-trans, Math.Seq.drop-cons, lemmas.List.map-append, lemmas.List.take_more}
use Rattle.std.specs.{Io.KnownBytes.Appends, Io.KnownBytes.Keeps, Result.is_ok}
use Rattle.latex2mathml.specs.Streams.{CanGoOn, IsCause, IsStopped, StreamState, Takes}
use Rattle.latex2mathml.specs.{declared.error.FileFault.FileFault, declared.error.WriteCause.WriteCause}
use Rattle.latex2mathml.specs.declared.error.FileFault.TheVariants.{List as Unlisted, Entry, TooDeep, Read, NotText, Refused, Create, Write}
use Rattle.latex2mathml.specs.declared.error.WriteCause.TheVariants.{Failed, TookNothing}
use Rattle.latex2mathml.specs.declared.files.Unconverted.{Unconverted}
use Rattle.latex2mathml_program.specs.Serving.{JoinsSomeOf, LinesPrinted, ExitsWithLines, IsSilent, done, not_done, StoppedAt, LineWritten, LinePrinted, Whole, Found, LeftOut, Stopped, unconverted_line}

-- writing a line ends in one of these ways
pub put : (line : List ℕ) (old new : StreamState) (result : Result Unit FileFault)
    → OnOk result (Takes old new line)
    → OnOk result (CanGoOn new)
    → IfErr result (λ fault. IsStopped fault line old new)
    → LineWritten line old new
put line old new (Ok _) taken ready stopped = Whole ready taken
put line old new (Err (Write written cause)) taken ready stopped = Stopped written cause stopped
put line old new (Err Read) taken ready stopped = absurd stopped
put line old new (Err NotText) taken ready stopped = absurd stopped
put line old new (Err (Refused error)) taken ready stopped = absurd stopped
put line old new (Err Unlisted) taken ready stopped = absurd stopped
put line old new (Err Entry) taken ready stopped = absurd stopped
put line old new (Err TooDeep) taken ready stopped = absurd stopped
put line old new (Err Create) taken ready stopped = absurd stopped

-- memory was found for a line, which is this one
pub put_same : (line text : List ℕ) (old new : StreamState) → line ≡ text → LineWritten line old new → LinePrinted text old new
put_same line text old new same is = Found (subst (λ l. LineWritten l old new) same is)

halted : (cause : WriteCause) (new : StreamState) → IsCause cause new → ¬ CanGoOn new
halted Failed new (failed, _) (unfailed, _) = let k : true ≡ false = sym failed ∙ unfailed in cc
halted TookNothing new (_, ended) (_, unended) = let k : true ≡ false = sym ended ∙ unended in cc

not_told : (told : Bool) (P : Type 0) → told ≡ false → IsTrue told → P
not_told told P is also = absurd (let k : true ≡ false = sym also ∙ is in cc)

-- the result of writing shows whether the stream can take more
pub can_go_on : (line : List ℕ) (old new : StreamState) (result : Result Unit FileFault) (told : Bool)
    → told ≡ is_ok result
    → OnOk result (CanGoOn new)
    → IfErr result (λ fault. IsStopped fault line old new)
    → IsTrue told ↔ CanGoOn new
can_go_on line old new (Ok _) told is ready stopped = (λ _. ready, λ _. is)
can_go_on line old new (Err (Write written cause)) told is ready stopped =
    (not_told told (CanGoOn new) is, λ can. absurd (halted cause new stopped.2 can))
can_go_on line old new (Err Read) told is ready stopped = absurd stopped
can_go_on line old new (Err NotText) told is ready stopped = absurd stopped
can_go_on line old new (Err (Refused error)) told is ready stopped = absurd stopped
can_go_on line old new (Err Unlisted) told is ready stopped = absurd stopped
can_go_on line old new (Err Entry) told is ready stopped = absurd stopped
can_go_on line old new (Err TooDeep) told is ready stopped = absurd stopped
can_go_on line old new (Err Create) told is ready stopped = absurd stopped

-- one more line is written, or left out
said_more : (lines : List (List ℕ)) (line text : List ℕ) → JoinsSomeOf lines text → JoinsSomeOf (lines ++ (line ∷ [])) (text ++ line)
said_more [] line text is = inr ([], ap (λ t. t ++ line) is ∙ sym (append-nil line), refl)
said_more (first ∷ lines) line text (inl is) = inl (said_more lines line text is)
said_more (first ∷ lines) line text (inr (rest, begins, is)) =
    inr (rest ++ line, ap (λ t. t ++ line) begins ∙ append_assoc first rest line, said_more lines line rest is)

said_less : (lines : List (List ℕ)) (line text : List ℕ) → JoinsSomeOf lines text → JoinsSomeOf (lines ++ (line ∷ [])) text
said_less [] line text is = inl is
said_less (first ∷ lines) line text (inl is) = inl (said_less lines line text is)
said_less (first ∷ lines) line text (inr (rest, begins, is)) = inr (rest, begins, said_less lines line rest is)

appends_kept : (a b c : Option (List ℕ)) (text : List ℕ) → Appends a b text → Keeps b c → Appends a c text
appends_kept None b c text p q = tt
appends_kept (Some x) None c text p q = absurd p
appends_kept (Some x) (Some y) None text p q = absurd q
appends_kept (Some x) (Some y) (Some z) text p q = q ∙ p

next_said : (start old new : StreamState) (lines : List (List ℕ)) (line text : List ℕ)
    → JoinsSomeOf lines text → Takes start old text → LinePrinted line old new → CanGoOn new
    → (next : List ℕ) × JoinsSomeOf (lines ++ (line ∷ [])) next × Takes start new next
next_said start old new lines line text said so_far (Found (Whole ready takes)) can =
    (text ++ line, said_more lines line text said, Appends-trans start.bytes old.bytes new.bytes text line so_far takes)
next_said start old new lines line text said so_far (LeftOut (ready, keeps)) can =
    (text, said_less lines line text said, appends_kept start.bytes old.bytes new.bytes text so_far keeps)
next_said start old new lines line text said so_far (Found (Stopped written cause is)) can = absurd (halted cause new is.2 can)

-- one more line was written, and the stream can take more
pub put_next : (start old new : StreamState) (all : List Unconverted) (index : ℕ) (one : Unconverted) (text : List ℕ)
    → index < length all
    → one ≡ slice_index_or all index one
    → JoinsSomeOf (map unconverted_line (take index all)) text
    → Takes start old text
    → LinePrinted (unconverted_line one) old new
    → CanGoOn new
    → (next : List ℕ) × JoinsSomeOf (map unconverted_line (take (index + 1) all)) next × Takes start new next
put_next start old new all index one text inside is said so_far put can =
    let lines = map unconverted_line (take index all) in
    let line = unconverted_line one in
    let more : lines ++ (line ∷ []) ≡ map unconverted_line (take (index + 1) all) = sym (ap (map unconverted_line) (take_more all index one inside ∙ ap (λ x. take index all ++ (x ∷ [])) (sym is)) ∙ map-append unconverted_line (take index all) (one ∷ [])) in
    let next = next_said start old new lines line text said so_far put can in
    (next.0, subst (λ l. JoinsSomeOf l next.0) more next.1, next.2)

-- the stream stopped within a line
pub put_last : (start old new : StreamState) (all : List Unconverted) (index : ℕ) (one : Unconverted) (text : List ℕ)
    → index < length all
    → one ≡ slice_index_or all index one
    → JoinsSomeOf (map unconverted_line (take index all)) text
    → Takes start old text
    → LinePrinted (unconverted_line one) old new
    → ¬ CanGoOn new
    → LinesPrinted (map unconverted_line all) start new
put_last start old new all index one text inside is said so_far (Found (Whole ready takes)) stopped = absurd (stopped ready)
put_last start old new all index one text inside is said so_far (LeftOut (ready, keeps)) stopped = absurd (stopped ready)
put_last start old new all index one text inside is said so_far (Found (Stopped written cause at)) stopped =
    StoppedAt (map unconverted_line (take index all)) (unconverted_line one) (map unconverted_line (drop (suc index) all)) (ap (map unconverted_line) (sym (take-append-drop index all) ∙ ap (λ l. take index all ++ l) (drop-cons all index one inside ∙ ap (λ x. x ∷ drop (suc index) all) (sym is))) ∙ map-append unconverted_line (take index all) (one ∷ drop (suc index) all)) text old said so_far written cause at

-- a list of two
pub two : {A : Type 0} (all : List A) (first second : A) → 2 ≤ length all → length all < 3 → first ≡ slice_index_or all 0 first → second ≡ slice_index_or all 1 second → all ≡ first ∷ second ∷ []
two [] first second least most is also = absurd (omega arith)
two (a ∷ []) first second least most is also = absurd (omega arith)
two (a ∷ b ∷ []) first second least most is also = cc
two (a ∷ b ∷ c ∷ all) first second least most is also = absurd (omega arith)

-- what is reported if nothing was left unconverted, and if something was
pub none_told : (all : List Unconverted) (old new : StreamState) → true ≡ (length all == 0) → IsSilent old new → ExitsWithLines all old new done
none_told [] old new is silent = (refl, silent)
none_told (one ∷ more) old new is silent = absurd (let k : suc (length more) ≡ 0 = true-eqb _ _ is in cc)

pub some_told : (all : List Unconverted) (old new : StreamState) → false ≡ (length all == 0) → LinesPrinted (map unconverted_line all) old new → ExitsWithLines all old new not_done
some_told [] old new is put = absurd (let k : false ≡ true = is in cc)
some_told (one ∷ more) old new is put = (refl, put)
