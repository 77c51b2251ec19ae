-- Arguments and definitions leave no more units than there were.
use Rattle.std.proofs.Common.{ℕ, zero, suc, ◌+◌, ◌≤◌, ◌≡◌, Bool, true, false, List, [], ◌∷◌, length, Option, Some, None, arith}
use Rattle.std.specs.Prelude.{⊤}
use Rattle.std.specs.Str.{byte}
use Rattle.latex2mathml_tex_grammar.specs.Arguments.{Brace, Opening, Closing, NoBrace, brace_of, and_then, with_first, in_group, group, argument_of, argument_here, argument, is_character, is_sign, is_end, before_sign, up_to, without_braces, behind_first, between_brackets, bracket_here, bracket, behind_bracket, optional, first_sign, argument_before, the_sign, arguments, or_default, arguments_with, macro_arguments}
use Rattle.latex2mathml_tex_grammar.specs.Definitions.{DeclareDelimiters, Let, any_piece, alias_definition, delimiters_definition, Word, NewCommand, ProvideCommand, Def, DeclareOperator, sign_here, sign, digit_of, digit_found, digit_here, digit, name_in, name_read, name_of, number_closed, number_in, number_opened, number_of, is_number, is_brace, in_parameter_text, number_due, parameters_behind, parameter_text, parameter_count, parts_of, body_read, body, default_read, default_given, default_of, command_definition, plain_definition, operator_definition, definition_of}
use Rattle.latex2mathml_tex_grammar.specs.Macros.{Part, Taken, Parameter, Sign, Macro, unit_count, before}
use Rattle.latex2mathml_tex_grammar.specs.{Next.is_space_piece, Next.past_space, Reading.Outcome, Reading.Read, Reading.Refused}
use Rattle.latex2mathml_tex_grammar.specs.Refusal.{Refusal, UnclosedBracket, WrongUse, refusal_at}
use Rattle.latex2mathml_tex_grammar.specs.Units.{Piece, Character, Unit, Units, Next, End, Stop}
use Rattle.latex2mathml_tex_grammar.proofs.Choices.{of_either}
use Rattle.latex2mathml_tex_grammar.specs.Expansion.{starred_form, form_with, form_of}

-- the outcome leaves at most n units
abbrev pub Leaves : {A : Type 0} → ℕ → Outcome A → Type 0
Leaves n (Read x l) = unit_count l ≤ n
Leaves n (Refused r) = ⊤

leaves_more : {A : Type 0} (k n : ℕ) (o : Outcome A) → k ≤ n → Leaves k o → Leaves n o
leaves_more k n (Read x l) h d = omega (arith, h, d)
leaves_more k n (Refused r) h d = tt

leaves_after : {A B : Type 0} (n : ℕ) (o : Outcome A) (more : A → Units → Outcome B) → Leaves n o → ((x : A) (l : Units) → unit_count l ≤ n → Leaves n (more x l)) → Leaves n (and_then o more)
leaves_after n (Read x l) more h f = f x l h
leaves_after n (Refused r) more h f = tt

leaves_first : {A : Type 0} (n : ℕ) (x : A) (o : Outcome (List A)) → Leaves n o → Leaves n (with_first x o)
leaves_first n x (Read xs l) h = h
leaves_first n x (Refused r) h = tt

pub no_more_past_space : (l : Units) → unit_count (past_space l) ≤ unit_count l
no_more_past_space (Next u l) = let less = no_more_past_space l in of_either (λ m. unit_count m ≤ suc (unit_count l)) (is_space_piece u.piece) (omega (arith, less)) (omega arith)
no_more_past_space (End place) = omega arith
no_more_past_space (Stop r) = omega arith

in_group_leaves : (b : Brace) (u : Unit) (l : Units) (depth : ℕ) (more : ℕ → Outcome (List Unit)) → ((d : ℕ) → Leaves (unit_count l) (more d)) → Leaves (suc (unit_count l)) (in_group b u l depth more)
in_group_leaves Opening u l depth more h = leaves_first _ u (more (suc depth)) (leaves_more (unit_count l) _ (more (suc depth)) (omega arith) (h (suc depth)))
in_group_leaves Closing u l zero more h = omega arith
in_group_leaves Closing u l (suc depth) more h = leaves_first _ u (more depth) (leaves_more (unit_count l) _ (more depth) (omega arith) (h depth))
in_group_leaves NoBrace u l depth more h = leaves_first _ u (more depth) (leaves_more (unit_count l) _ (more depth) (omega arith) (h depth))

group_leaves : (place : ℕ) (l : Units) (depth : ℕ) → Leaves (unit_count l) (group place l depth)
group_leaves place (Next u l) depth = in_group_leaves (brace_of u.piece) u l depth (group place l) (group_leaves place l)
group_leaves place (End at) depth = tt
group_leaves place (Stop r) depth = tt

argument_of_leaves : (b : Brace) (place : ℕ) (u : Unit) (l : Units) → Leaves (suc (unit_count l)) (argument_of b place u l)
argument_of_leaves Opening place u l = leaves_more (unit_count l) _ (group u.place l 0) (omega arith) (group_leaves u.place l 0)
argument_of_leaves Closing place u l = tt
argument_of_leaves NoBrace place u l = omega arith

argument_here_leaves : (place : ℕ) (l : Units) → Leaves (unit_count l) (argument_here place l)
argument_here_leaves place (Next u l) = argument_of_leaves (brace_of u.piece) place u l
argument_here_leaves place (End at) = tt
argument_here_leaves place (Stop r) = tt

pub argument_leaves : (place : ℕ) (l : Units) → Leaves (unit_count l) (argument place l)
argument_leaves place l = leaves_more (unit_count (past_space l)) _ (argument place l) (no_more_past_space l) (argument_here_leaves place (past_space l))

-- What ends before a sign

before_sign_leaves : (b : Brace) (sign : Piece) (r : Refusal) (u : Unit) (l : Units) (depth : ℕ) (more : ℕ → Outcome (List Unit)) → ((d : ℕ) → Leaves (unit_count l) (more d)) → Leaves (suc (unit_count l)) (before_sign b sign r u l depth more)
before_sign_leaves Opening sign r u l depth more h = leaves_first _ u (more (suc depth)) (leaves_more (unit_count l) _ (more (suc depth)) (omega arith) (h (suc depth)))
before_sign_leaves Closing sign r u l zero more h = tt
before_sign_leaves Closing sign r u l (suc depth) more h = leaves_first _ u (more depth) (leaves_more (unit_count l) _ (more depth) (omega arith) (h depth))
before_sign_leaves NoBrace sign r u l depth more h =
    of_either (λ (o : Outcome (List Unit)). Leaves (suc (unit_count l)) o) (is_end sign depth u.piece) (omega arith) (leaves_first _ u (more depth) (leaves_more (unit_count l) _ (more depth) (omega arith) (h depth)))

up_to_leaves : (sign : Piece) (r : Refusal) (l : Units) (depth : ℕ) → Leaves (unit_count l) (up_to sign r l depth)
up_to_leaves sign r (Next u l) depth = before_sign_leaves (brace_of u.piece) sign r u l depth (up_to sign r l) (up_to_leaves sign r l)
up_to_leaves sign r (End place) depth = tt
up_to_leaves sign r (Stop q) depth = tt

no_more_behind_first : (l : Units) → unit_count (behind_first l) ≤ unit_count l
no_more_behind_first (Next u l) = omega arith
no_more_behind_first (End place) = omega arith
no_more_behind_first (Stop r) = omega arith

-- What can be left out

brackets_leave : (place : ℕ) (l : Units) → Leaves (unit_count l) (between_brackets place l)
brackets_leave place l =
    leaves_after (unit_count l) (up_to (Character (byte "]")) (refusal_at UnclosedBracket place) l 0) (λ us m. Read (without_braces us) (behind_first m))
    (up_to_leaves (Character (byte "]")) (refusal_at UnclosedBracket place) l 0) (λ us m h. omega (arith, h, no_more_behind_first m))

bracket_here_leaves : (l : Units) → unit_count (bracket_here l).1 ≤ unit_count l
bracket_here_leaves (Next u l) = of_either (λ (p : Option ℕ × Units). unit_count p.1 ≤ suc (unit_count l)) (is_character (byte "[") u.piece) (omega arith) (omega arith)
bracket_here_leaves (End place) = omega arith
bracket_here_leaves (Stop r) = omega arith

behind_bracket_leaves : (k : ℕ) (p : Option ℕ × Units) → unit_count p.1 ≤ k → Leaves k (behind_bracket p)
behind_bracket_leaves k (Some place, l) h =
    leaves_after k (between_brackets place l) (λ us m. Read (Some us) m) (leaves_more (unit_count l) k (between_brackets place l) h (brackets_leave place l)) (λ us m i. i)
behind_bracket_leaves k (None, l) h = h

optional_leaves : (l : Units) → Leaves (unit_count l) (optional l)
optional_leaves l = behind_bracket_leaves (unit_count l) (bracket l) (omega (arith, bracket_here_leaves (past_space l), no_more_past_space l))

-- The other arguments, and signs between them

argument_before_leaves : (sign : Option Piece) (place : ℕ) (l : Units) → Leaves (unit_count l) (argument_before sign place l)
argument_before_leaves (Some sign) place l =
    leaves_after (unit_count l) (up_to sign (refusal_at WrongUse place) l 0) (λ us m. Read (without_braces us) m) (up_to_leaves sign (refusal_at WrongUse place) l 0) (λ us m h. h)
argument_before_leaves None place l = argument_leaves place l

the_sign_leaves : (sign : Piece) (place : ℕ) (l : Units) → Leaves (unit_count l) (the_sign sign place l)
the_sign_leaves sign place (Next u l) = of_either (λ (o : Outcome ⊤). Leaves (suc (unit_count l)) o) (is_sign sign u.piece) (omega arith) tt
the_sign_leaves sign place (End at) = tt
the_sign_leaves sign place (Stop r) = tt

arguments_leave : (place : ℕ) (takes : List Taken) (l : Units) → Leaves (unit_count l) (arguments place takes l)
arguments_leave place [] l = omega arith
arguments_leave place (Parameter ∷ takes) l = leaves_after (unit_count l) (argument_before (first_sign takes) place l) (λ arg rest. with_first arg (arguments place takes rest)) (argument_before_leaves (first_sign takes) place l)
    (λ arg rest h. leaves_first _ arg (arguments place takes rest) (leaves_more (unit_count rest) _ (arguments place takes rest) h (arguments_leave place takes rest)))
arguments_leave place (Sign sign ∷ takes) l = leaves_after (unit_count l) (the_sign sign place l) (λ found rest. arguments place takes rest) (the_sign_leaves sign place l)
    (λ found rest h. leaves_more (unit_count rest) _ (arguments place takes rest) h (arguments_leave place takes rest))

arguments_with_leave : (default : Option (List Part)) (place : ℕ) (takes : List Taken) (l : Units) → Leaves (unit_count l) (arguments_with default place takes l)
arguments_with_leave None place takes l = arguments_leave place takes l
arguments_with_leave (Some default) place takes l =
    leaves_after (unit_count l) (optional l) (λ given m. with_first (or_default place default given) (arguments place takes m)) (optional_leaves l)
    (λ given m h. leaves_first _ (or_default place default given) (arguments place takes m) (leaves_more (unit_count m) _ (arguments place takes m) h (arguments_leave place takes m)))

pub macro_arguments_leave : (m : Macro) (place : ℕ) (l : Units) → Leaves (unit_count l) (macro_arguments m place l)
macro_arguments_leave m place l = arguments_with_leave m.default place m.takes l

-- Definitions

sign_here_leaves : (c : ℕ) (l : Units) → unit_count (sign_here c l).1 ≤ unit_count l
sign_here_leaves c (Next u l) = of_either (λ (p : Bool × Units). unit_count p.1 ≤ suc (unit_count l)) (is_character c u.piece) (omega arith) (omega arith)
sign_here_leaves c (End place) = omega arith
sign_here_leaves c (Stop r) = omega arith

sign_leaves : (c : ℕ) (l : Units) → unit_count (sign c l).1 ≤ unit_count l
sign_leaves c l = omega (arith, sign_here_leaves c (past_space l), no_more_past_space l)

starred_form_leaves : (m : Macro) (parts : List Part) (found : Bool × Units) → unit_count (starred_form m parts found).1 ≤ unit_count found.1
starred_form_leaves m parts (true, l) = omega arith
starred_form_leaves m parts (false, l) = omega arith

form_with_leaves : (m : Macro) (starred : Option (List Part)) (l : Units) → unit_count (form_with m starred l).1 ≤ unit_count l
form_with_leaves m (Some parts) l = omega (arith, starred_form_leaves m parts (sign (byte "*") l), sign_leaves (byte "*") l)
form_with_leaves m None l = omega arith

pub form_leaves : (m : Macro) (l : Units) → unit_count (form_of m l).1 ≤ unit_count l
form_leaves m l = form_with_leaves m m.starred l

digit_found_leaves : (d : Option ℕ) (u : Unit) (l : Units) → unit_count (digit_found d u l).1 ≤ suc (unit_count l)
digit_found_leaves (Some d) u l = omega arith
digit_found_leaves None u l = omega arith

digit_here_leaves : (l : Units) → unit_count (digit_here l).1 ≤ unit_count l
digit_here_leaves (Next u l) = digit_found_leaves (digit_of u.piece) u l
digit_here_leaves (End place) = omega arith
digit_here_leaves (Stop r) = omega arith

digit_leaves : (l : Units) → unit_count (digit l).1 ≤ unit_count l
digit_leaves l = omega (arith, digit_here_leaves (past_space l), no_more_past_space l)

name_read_leaves : (n place : ℕ) (name : Option (List ℕ)) (l : Units) → unit_count l ≤ n → Leaves n (name_read place name l)
name_read_leaves n place (Some name) l h = h
name_read_leaves n place None l h = tt

name_leaves : (place : ℕ) (l : Units) → Leaves (unit_count l) (name_of place l)
name_leaves place l = leaves_after (unit_count l) (argument place l) (λ us m. name_read place (name_in us) m) (argument_leaves place l) (λ us m h. name_read_leaves (unit_count l) place (name_in us) m h)

number_closed_leaves : (k place n : ℕ) (p : Bool × Units) → unit_count p.1 ≤ k → Leaves k (number_closed place n p)
number_closed_leaves k place n (true, l) h = h
number_closed_leaves k place n (false, l) h = tt

number_in_leaves : (k place : ℕ) (p : Option ℕ × Units) → unit_count p.1 ≤ k → Leaves k (number_in place p)
number_in_leaves k place (Some n, l) h = number_closed_leaves k place n (sign (byte "]") l) (omega (arith, h, sign_leaves (byte "]") l))
number_in_leaves k place (None, l) h = tt

number_opened_leaves : (k place : ℕ) (p : Bool × Units) → unit_count p.1 ≤ k → Leaves k (number_opened place p)
number_opened_leaves k place (true, l) h = number_in_leaves k place (digit l) (omega (arith, h, digit_leaves l))
number_opened_leaves k place (false, l) h = h

number_leaves : (place : ℕ) (l : Units) → Leaves (unit_count l) (number_of place l)
number_leaves place l = number_opened_leaves (unit_count l) place (sign (byte "[") l) (sign_leaves (byte "[") l)

in_text_leaves : (behind : Bool) (place n : ℕ) (u : Unit) (l : Units) (more : Bool → ℕ → Outcome (List Taken)) → ((b : Bool) (k : ℕ) → Leaves (unit_count l) (more b k)) → Leaves (suc (unit_count l)) (in_parameter_text behind place n u l more)
in_text_leaves true place n u l more h = of_either (λ (o : Outcome (List Taken)). Leaves (suc (unit_count l)) o) (is_number n u.piece) (leaves_first _ Parameter (more false (suc n)) (leaves_more (unit_count l) _ (more false (suc n)) (omega arith) (h false (suc n)))) tt
in_text_leaves false place n u l more h = of_either (λ (o : Outcome (List Taken)). Leaves (suc (unit_count l)) o) (is_character (byte "#") u.piece) (leaves_more (unit_count l) _ (more true n) (omega arith) (h true n))
    (of_either (λ (o : Outcome (List Taken)). Leaves (suc (unit_count l)) o) (is_brace u.piece) (omega arith) (leaves_first _ (Sign u.piece) (more false n) (leaves_more (unit_count l) _ (more false n) (omega arith) (h false n))))

number_due_leaves : (behind : Bool) (place : ℕ) (l : Units) → Leaves (unit_count l) (number_due behind place l)
number_due_leaves true place l = tt
number_due_leaves false place l = omega arith

parameters_leave : (place : ℕ) (l : Units) (behind : Bool) (n : ℕ) → Leaves (unit_count l) (parameters_behind place l behind n)
parameters_leave place (Next u l) behind n = in_text_leaves behind place n u l (parameters_behind place l) (parameters_leave place l)
parameters_leave place (End at) behind n = number_due_leaves behind place (End at)
parameters_leave place (Stop r) behind n = number_due_leaves behind place (Stop r)

body_read_leaves : (k place : ℕ) (parts : Option (List Part)) (l : Units) → unit_count l ≤ k → Leaves k (body_read place parts l)
body_read_leaves k place (Some parts) l h = h
body_read_leaves k place None l h = tt

body_leaves : (place n : ℕ) (l : Units) → Leaves (unit_count l) (body place n l)
body_leaves place n l = leaves_after (unit_count l) (argument place l) (λ us m. body_read place (parts_of n us) m) (argument_leaves place l) (λ us m h. body_read_leaves (unit_count l) place (parts_of n us) m h)

default_read_leaves : (k place : ℕ) (parts : Option (List Part)) (l : Units) → unit_count l ≤ k → Leaves k (default_read place parts l)
default_read_leaves k place (Some parts) l h = h
default_read_leaves k place None l h = tt

default_given_leaves : (k place n : ℕ) (given : Option (List Unit)) (l : Units) → unit_count l ≤ k → Leaves k (default_given place n given l)
default_given_leaves k place n None l h = h
default_given_leaves k place zero (Some us) l h = tt
default_given_leaves k place (suc n) (Some us) l h = default_read_leaves k place (parts_of 0 us) l h

default_leaves : (place n : ℕ) (l : Units) → Leaves (unit_count l) (default_of place n l)
default_leaves place n l = leaves_after (unit_count l) (optional l) (default_given place n) (optional_leaves l) (λ given m h. default_given_leaves (unit_count l) place n given m h)

command_leaves : (place : ℕ) (l : Units) → Leaves (unit_count l) (command_definition place l)
command_leaves place l =
    let starred = sign_leaves (byte "*") l in
    leaves_after (unit_count l) (name_of place (sign (byte "*") l).1) _ (leaves_more _ _ (name_of place (sign (byte "*") l).1) starred (name_leaves place (sign (byte "*") l).1)) (λ name m h.
    leaves_after (unit_count l) (number_of place m) _ (leaves_more (unit_count m) _ (number_of place m) h (number_leaves place m)) (λ n k i.
    leaves_after (unit_count l) (default_of place n k) _ (leaves_more (unit_count k) _ (default_of place n k) i (default_leaves place n k)) (λ default q g.
    leaves_after (unit_count l) (body place n q) _ (leaves_more (unit_count q) _ (body place n q) g (body_leaves place n q)) (λ parts rest j. j))))

plain_leaves : (place : ℕ) (l : Units) → Leaves (unit_count l) (plain_definition place l)
plain_leaves place l =
    leaves_after (unit_count l) (name_of place l) _ (name_leaves place l) (λ name m h.
    leaves_after (unit_count l) (parameter_text place m) _ (leaves_more (unit_count m) _ (parameter_text place m) h (parameters_leave place m false 0)) (λ takes k i.
    leaves_after (unit_count l) (body place (parameter_count takes) k) _ (leaves_more (unit_count k) _ (body place (parameter_count takes) k) i (body_leaves place (parameter_count takes) k)) (λ parts rest j. j)))

delimiters_leave : (place : ℕ) (l : Units) → Leaves (unit_count l) (delimiters_definition place l)
delimiters_leave place l =
    leaves_after (unit_count l) (name_of place l) _ (name_leaves place l) (λ name m h.
    leaves_after (unit_count l) (body place 0 m) _ (leaves_more (unit_count m) _ (body place 0 m) h (body_leaves place 0 m)) (λ left k i.
    leaves_after (unit_count l) (body place 0 k) _ (leaves_more (unit_count k) _ (body place 0 k) i (body_leaves place 0 k)) (λ right rest j. j)))

operator_leaves : (place : ℕ) (l : Units) → Leaves (unit_count l) (operator_definition place l)
operator_leaves place l =
    let starred = sign_leaves (byte "*") l in
    leaves_after (unit_count l) (name_of place (sign (byte "*") l).1) _ (leaves_more _ _ (name_of place (sign (byte "*") l).1) starred (name_leaves place (sign (byte "*") l).1)) (λ name m h.
    leaves_after (unit_count l) (body place 0 m) _ (leaves_more (unit_count m) _ (body place 0 m) h (body_leaves place 0 m)) (λ parts rest j. j))

any_leaves : (k place : ℕ) (l : Units) → unit_count l ≤ k → Leaves k (any_piece place l)
any_leaves k place (Next u l) h = omega (arith, h)
any_leaves k place (End at) h = tt
any_leaves k place (Stop r) h = tt

alias_leaves : (place : ℕ) (l : Units) → Leaves (unit_count l) (alias_definition place l)
alias_leaves place l =
    leaves_after (unit_count l) (name_of place l) _ (name_leaves place l) (λ name m h.
    leaves_after (unit_count l) (any_piece place (past_space (sign (byte "=") m).1)) _
    (any_leaves (unit_count l) place (past_space (sign (byte "=") m).1) (omega (arith, h, sign_leaves (byte "=") m, no_more_past_space (sign (byte "=") m).1)))
    (λ piece rest j. j))

pub definition_leaves : (word : Word) (place : ℕ) (l : Units) → Leaves (unit_count l) (definition_of word place l)
definition_leaves NewCommand place l = command_leaves place l
definition_leaves ProvideCommand place l = command_leaves place l
definition_leaves Def place l = plain_leaves place l
definition_leaves DeclareOperator place l = operator_leaves place l
definition_leaves DeclareDelimiters place l = delimiters_leave place l
definition_leaves Let place l = alias_leaves place l

pub count-before : (us : List Unit) (l : Units) → unit_count (before us l) ≡ length us + unit_count l
count-before [] l = omega arith
count-before (u ∷ us) l = omega (arith, count-before us l)
