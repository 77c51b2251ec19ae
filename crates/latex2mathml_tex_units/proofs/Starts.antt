-- How texts begin: what each branch of the lexer has found agrees with the definitions.
use Rattle.std.proofs.Common.{◌≡◌, ℕ, ◌+◌, ◌==◌, true, false, List, [], ◌∷◌, ◌++◌, codes, refl, sym, ap, subst, ◌∙◌, arith, append_assoc, length, Some, None}
use Rattle.std.proofs.lemmas.{Bool.Decides.nat_tests, Str.encode_ascii}
use Rattle.std.specs.{Char.is_ascii_alphabetic, Str.byte, Str.encode_utf8_all}
use Rattle.latex2mathml_tex_grammar.specs.Refusal.{ForbiddenCharacter, refusal_at}
use Rattle.latex2mathml_tex_grammar.specs.Units.{Space, Command, IsRun, is_space, is_in_line, is_forbidden, symbol_name, head, Stops, Spells, white_space, comment, last_comment, symbol_command, letter_command, IsRefusedAt, forbidden, forbidden_name}
use Rattle.latex2mathml_tex_units.specs.{Runs.IsName, Taking.IsCommentEnd}
use Rattle.latex2mathml_tex_units.proofs.Letters.{is_one_byte}

place_plus_zero : (place : ℕ) → place ≡ place + 0
place_plus_zero place = omega arith

pub forbidden_here : (c : ℕ) (after : List ℕ) → is_forbidden c ≡ true → (place : ℕ) → IsRefusedAt place (c ∷ after) (refusal_at (ForbiddenCharacter c) (place + 0))
forbidden_here c after h place = forbidden c after h refl (ap (refusal_at (ForbiddenCharacter c)) (sym (place_plus_zero place)))

pub forbidden_named : (c : ℕ) (text after : List ℕ) → text ≡ c ∷ after → is_forbidden c ≡ true → (place : ℕ) → IsRefusedAt place (byte "\\" ∷ text) (refusal_at (ForbiddenCharacter c) (place + 1))
forbidden_named c text after e h place = forbidden_name c after h (ap (λ k. byte "\\" ∷ k) e) refl

-- a command whose name is one character that is no letter
pub symbol_named : (c : ℕ) (text after name : List ℕ) → text ≡ c ∷ after → is_ascii_alphabetic c ≡ false → is_forbidden c ≡ false → name ≡ symbol_name c → (w : List ℕ) × (byte "\\" ∷ text ≡ w ++ after) × Spells w after (Some (Command name))
symbol_named c text after name e h f n = (byte "\\" ∷ c ∷ [], ap (λ k. byte "\\" ∷ k) e, symbol_command c h f refl (ap (λ k. Some (Command k)) n))

-- a command of letters, with the white space after it
pub letters_named : (text behind rest name : List ℕ) → (w : List ℕ) × IsName text w name behind → (length name == 0) ≡ false → (space : List ℕ) × ((behind ≡ space ++ rest) × IsRun is_space space rest) → (w : List ℕ) × (byte "\\" ∷ text ≡ w ++ rest) × Spells w rest (Some (Command name))
letters_named text behind rest name ([], named) some spaces = absurd (let none : length name ≡ 0 = ap length named.bytes in grind (arith, nat_tests))
letters_named text behind rest name (c ∷ cs, named) some (space, (spaces, run')) =
    let run : IsRun is_ascii_alphabetic cs behind = record { passes = named.run.passes.1; ends = named.run.ends } in
    let all : byte "\\" ∷ text ≡ (byte "\\" ∷ c ∷ (cs ++ space)) ++ rest = ap (λ k. byte "\\" ∷ k) named.whole ∙ ap (λ k. byte "\\" ∷ c ∷ (cs ++ k)) spaces ∙ ap (λ k. byte "\\" ∷ c ∷ k) (sym (append_assoc cs space rest)) in
    (byte "\\" ∷ c ∷ (cs ++ space), all, letter_command c cs space refl named.run.passes.0 (subst (IsRun is_ascii_alphabetic cs) spaces run) run' (ap (λ k. Some (Command k)) named.bytes))

-- a text that begins with no letters does not begin with a letter
pub no_letters : (text behind after name : List ℕ) (c : ℕ) → (w : List ℕ) × IsName text w name behind → (length name == 0) ≡ true → text ≡ c ∷ after → is_ascii_alphabetic c ≡ false
no_letters text behind after name c ([], named) none e = subst (λ k. Stops is_ascii_alphabetic (head k)) (sym named.whole ∙ e) named.run.ends
no_letters text behind after name c (d ∷ w, named) none e =
    let one : length name ≡ length (d ∷ encode_utf8_all w) = ap length (named.bytes ∙ ap (λ bs. bs ++ encode_utf8_all w) (encode_ascii d (is_one_byte d named.run.passes.0))) in
    absurd (grind (arith, nat_tests))

not_in_line : (c : ℕ) → is_in_line c ≡ false → c ≡ byte "\n"
not_in_line c h = grind (arith, nat_tests)

-- a comment that ends with its line
pub comment_ends : (text end after : List ℕ) (c : ℕ) → (w : List ℕ) × ((text ≡ w ++ end) × IsRun is_in_line w end) → end ≡ c ∷ after → IsCommentEnd text after
comment_ends text end after c (w, (whole, run)) e =
    let stops : Stops is_in_line (head (c ∷ after)) = subst (λ k. Stops is_in_line (head k)) e run.ends in
    let line_feed : c ≡ byte "\n" = not_in_line c stops in
    let all : text ≡ (w ++ codes "\n") ++ after = whole ∙ ap (λ k. w ++ k) (e ∙ ap (λ d. d ∷ after) line_feed) ∙ sym (append_assoc w (codes "\n") after) in
    (byte "%" ∷ (w ++ codes "\n"), ap (λ k. byte "%" ∷ k) all, comment w refl (record { passes = run.passes; ends = refl }) refl)

-- a comment that ends with the text
pub comment_ends_text : (text end : List ℕ) → (w : List ℕ) × ((text ≡ w ++ end) × IsRun is_in_line w end) → end ≡ [] → IsCommentEnd text end
comment_ends_text text end (w, (whole, run)) e = (byte "%" ∷ w, ap (λ k. byte "%" ∷ k) whole, last_comment w refl run e refl)

-- the text begins with this byte
pub byte_begins : (c b : ℕ) (text after : List ℕ) → text ≡ c ∷ after → c ≡ b → text ≡ b ∷ after
byte_begins c b text after e same = e ∙ ap (λ d. d ∷ after) same

pub comment_begins : (text after rest : List ℕ) → text ≡ byte "%" ∷ after → IsCommentEnd after rest → (w : List ℕ) × (text ≡ w ++ rest) × Spells w rest None
comment_begins text after rest e (w, whole, spells) = (w, e ∙ whole, spells)

pub space_begins : (c : ℕ) (text after rest : List ℕ) → text ≡ c ∷ after → is_space c ≡ true → (w : List ℕ) × ((after ≡ w ++ rest) × IsRun is_space w rest) → (w : List ℕ) × (text ≡ w ++ rest) × Spells w rest (Some Space)
space_begins c text after rest e h (w, (whole, run)) = (c ∷ w, e ∙ ap (λ k. c ∷ k) whole, white_space c w refl h run refl)
