-- The units of a group are balanced.
use Rattle.std.proofs.Common.{ℕ, zero, suc, ◌≡◌, List, [], ◌∷◌, ◌++◌, refl, sym, ap, subst, ◌∙◌, append_assoc, append-nil}
use Rattle.latex2mathml_tex_grammar.specs.Arguments.{Brace, Opening, Closing, NoBrace, brace_of, with_first, in_group, group}
use Rattle.latex2mathml_tex_grammar.specs.ExpansionLaws.{AreBetweenBraces, IsBalanced, empty, piece, braces}
use Rattle.latex2mathml_tex_grammar.specs.{Macros.before, Reading.Outcome, Reading.Read, Reading.Refused}
use Rattle.latex2mathml_tex_grammar.specs.Units.{Unit, Units, Next, End, Stop}

before-append : (us vs : List Unit) (l : Units) → before (us ++ vs) l ≡ before us (before vs l)
before-append [] vs l = refl
before-append (u ∷ us) vs l = ap (Next u) (before-append us vs l)

-- Balanced units are passed over, with what is read after them

abbrev with_all : List Unit → Outcome (List Unit) → Outcome (List Unit)
with_all us (Read vs l) = Read (us ++ vs) l
with_all us (Refused r) = Refused r

with_all-none : (o : Outcome (List Unit)) → with_all [] o ≡ o
with_all-none (Read vs l) = refl
with_all-none (Refused r) = refl

with_all-first : (u : Unit) (us : List Unit) (o : Outcome (List Unit)) → with_first u (with_all us o) ≡ with_all (u ∷ us) o
with_all-first u us (Read vs l) = refl
with_all-first u us (Refused r) = refl

with_all-append : (us vs : List Unit) (o : Outcome (List Unit)) → with_all us (with_all vs o) ≡ with_all (us ++ vs) o
with_all-append us vs (Read ws l) = ap (λ xs. Read xs l) (sym (append_assoc us vs ws))
with_all-append us vs (Refused r) = refl

passed : (place : ℕ) (us : List Unit) (k : Units) (depth : ℕ) → IsBalanced us → group place (before us k) depth ≡ with_all us (group place k depth)
passed place us k depth empty = sym (with_all-none (group place k depth))
passed place us k depth (piece {u = u} {us = vs} n b) =
    ap (λ x. in_group x u (before vs k) depth (group place (before vs k))) n ∙ ap (with_first u) (passed place vs k depth b) ∙ with_all-first u vs (group place k depth)
passed place us k depth (braces o c vs ws p b q d) =
    let last : group place (before (c ∷ ws) k) (suc depth) ≡ with_all (c ∷ ws) (group place k depth) =
    ap (λ x. in_group x c (before ws k) (suc depth) (group place (before ws k))) q ∙ ap (with_first c) (passed place ws k depth d) ∙ with_all-first c ws (group place k depth) in
    ap (λ x. in_group x o (before (vs ++ c ∷ ws) k) depth (group place (before (vs ++ c ∷ ws) k))) p
    ∙ ap (with_first o) (ap (λ l. group place l (suc depth)) (before-append vs (c ∷ ws) k) ∙ passed place vs (before (c ∷ ws) k) (suc depth) b ∙ ap (with_all vs) last ∙ with_all-append vs (c ∷ ws) (group place k depth))
    ∙ with_all-first o (vs ++ c ∷ ws) (group place k depth)

found : (place : ℕ) (m : Units) (us : List Unit) (c : Unit) → brace_of c.piece ≡ Closing → IsBalanced us → group place (before us (Next c m)) 0 ≡ Read us m
found place m us c q b =
    passed place us (Next c m) 0 b ∙ ap (with_all us) (ap (λ x. in_group x c m 0 (group place m)) q) ∙ ap (λ xs. Read xs m) (append-nil us)

-- What is read is balanced

-- balanced but for this many braces that close what was open before
abbrev Closes : ℕ → List Unit → Type 0
Closes zero us = IsBalanced us
Closes (suc depth) us = (vs : List Unit) × (c : Unit) × (ws : List Unit) × (us ≡ vs ++ c ∷ ws) × IsBalanced vs × (brace_of c.piece ≡ Closing) × Closes depth ws

other_before : (u : Unit) (us : List Unit) (depth : ℕ) → brace_of u.piece ≡ NoBrace → Closes depth us → Closes depth (u ∷ us)
other_before u us zero n b = piece n b
other_before u us (suc depth) n (vs, c, ws, e, b, q, rest) = (u ∷ vs, c, ws, ap (λ xs. u ∷ xs) e, piece n b, q, rest)

-- one more brace is open
open_before : (u : Unit) (us : List Unit) (depth : ℕ) → brace_of u.piece ≡ Opening → Closes (suc depth) us → Closes depth (u ∷ us)
open_before u us zero p (vs, c, ws, e, b, q, rest) = subst (λ xs. IsBalanced (u ∷ xs)) (sym e) (braces u c vs ws p b q rest)
open_before u us (suc depth) p (vs, c, ws, e, b, q, (xs, d, ys, f, a, r, rest)) =
    (u ∷ (vs ++ c ∷ xs), d, ys, ap (λ zs. u ∷ zs) (e ∙ ap (λ zs. vs ++ c ∷ zs) f ∙ sym (append_assoc vs (c ∷ xs) (d ∷ ys))), braces u c vs xs p b q a, r, rest)

-- a brace that was open is closed
close_before : (u : Unit) (us : List Unit) (depth : ℕ) → brace_of u.piece ≡ Closing → Closes depth us → Closes (suc depth) (u ∷ us)
close_before u us depth q rest = ([], u, us, refl, empty, q, rest)

-- how a group in which this many are open was read
abbrev IsRead : Units → ℕ → List Unit → Units → Type 0
IsRead l depth us m = (c : Unit) × (brace_of c.piece ≡ Closing) × Closes depth us × (l ≡ before us (Next c m))

read_first : (u : Unit) (l m : Units) (us : List Unit) (depth inner : ℕ) (o : Outcome (List Unit)) → with_first u o ≡ Read us m
    → ((vs : List Unit) → o ≡ Read vs m → IsRead l inner vs m)
    → ((vs : List Unit) → Closes inner vs → Closes depth (u ∷ vs))
    → IsRead (Next u l) depth us m
read_first u l m us depth inner (Read vs k) e more step =
    let whole : u ∷ vs ≡ us = cc in
    let rest : k ≡ m = cc in
    let (c, q, closes, is) = more vs (ap (Read vs) rest) in
    (c, q, subst (Closes depth) whole (step vs closes), ap (Next u) is ∙ ap (λ xs. before xs (Next c m)) whole)
read_first u l m us depth inner (Refused r) e more step = cc

read_unit : (place : ℕ) (u : Unit) (l m : Units) (us : List Unit) (depth : ℕ) (b : Brace) → brace_of u.piece ≡ b → in_group b u l depth (group place l) ≡ Read us m
    → ((d : ℕ) (vs : List Unit) → group place l d ≡ Read vs m → IsRead l d vs m)
    → IsRead (Next u l) depth us m
read_unit place u l m us depth Opening p e more = read_first u l m us depth (suc depth) (group place l (suc depth)) e (more (suc depth)) (λ vs c. open_before u vs depth p c)
read_unit place u l m us zero Closing p e more =
    let none : [] ≡ us = cc in
    let rest : l ≡ m = cc in
    (u, p, subst IsBalanced none empty, ap (Next u) rest ∙ ap (λ xs. before xs (Next u m)) none)
read_unit place u l m us (suc depth) Closing p e more = read_first u l m us (suc depth) depth (group place l depth) e (more depth) (λ vs c. close_before u vs depth p c)
read_unit place u l m us depth NoBrace p e more = read_first u l m us depth depth (group place l depth) e (more depth) (λ vs c. other_before u vs depth p c)

is_read : (place : ℕ) (l m : Units) (us : List Unit) (depth : ℕ) → group place l depth ≡ Read us m → IsRead l depth us m
is_read place (Next u l) m us depth e = read_unit place u l m us depth (brace_of u.piece) refl e (λ d vs f. is_read place l m vs d f)
is_read place (End at) m us depth e = cc
is_read place (Stop r) m us depth e = cc

pub are_between : AreBetweenBraces
are_between = record { taken = λ place l m us e. is_read place l m us 0 e; found = found }
