-- What expansion adds to units: nothing but what is in them and in macros.
use Rattle.std.proofs.Common.{ℕ, zero, suc, ◌≡◌, Bool, true, false, List, [], ◌∷◌, ◌++◌, length, codes, Option, Some, None, refl, subst}
use Rattle.std.specs.Prelude.{◌-◌, ◌&&◌, option_map, take, drop, IsTrue, ⊤, nat_lt, if◌then◌else◌}
use Rattle.std.specs.{Option.unwrap_or, Str.byte, Str.bytes_eq}
use Rattle.std.specs.List.{AllByRecursion}
use Rattle.latex2mathml_tex_grammar.specs.Arguments.{Brace, Opening, Closing, NoBrace, brace_of, and_then, with_first, in_group, group, argument_of, argument_here, argument, is_sign, is_end, before_sign, up_to, is_group, without_braces, behind_first, between_brackets, bracket_here, bracket, behind_bracket, optional, first_sign, argument_before, the_sign, arguments, or_default, arguments_with, macro_arguments}
use Rattle.latex2mathml_tex_grammar.specs.Bars.{divider, double_bar, split}
use Rattle.latex2mathml_tex_grammar.specs.Definitions.{DeclareDelimiters, Let, any_piece, alias_definition, meaning_now, resolved, delimiters_definition, stretched_parts, enclosed_parts, sized_parts, Word, NewCommand, ProvideCommand, Def, DeclareOperator, Definition, is_character, sign_here, sign, digit_of, digit_found, digit_here, digit, name_in, name_read, name_of, number_closed, number_in, number_opened, number_of, is_number, is_brace, in_parameter_text, number_due, parameters_behind, parameter_text, parameter_count, argument_part, parameter_part, part_before, parts_behind, parts_of, body_read, body, default_read, default_given, default_of, command_definition, plain_definition, operator_definition, definition_of, operator_parts, provided, behind_definition}
use Rattle.latex2mathml_tex_grammar.specs.Expansion.{form_of, used_form, form_with, starred_form, found_role, macro_role, role_of, word_role, Turn, Stays, Turns, Fails, with_arguments, used, defined, turn_of, role_as, Expands, at_end, at_stop, stays, turns, fails}
use Rattle.latex2mathml_tex_grammar.specs.ExpansionLaws.{added_pieces, EachPiece, EachFixed, EachIfSome, IfPiece, EachInMacro, EachInTable, AddsNothing}
use Rattle.latex2mathml_tex_grammar.specs.Macros.{Part, Fixed, Argument, Split, Taken, Parameter, Sign, Macro, alias, macro_of, macro_with_default, Table, with_macro, argument_at, put, before}
use Rattle.latex2mathml_tex_grammar.specs.{Next.is_space_piece, Next.past_space, Operands.Due, Operands.is_due, Operands.body_as, Operands.needs_braces, Operands.used_as, Reading.Outcome, Reading.Read, Reading.Refused}
use Rattle.latex2mathml_tex_grammar.specs.Refusal.{Refusal, UnclosedBracket, WrongUse, refusal_at}
use Rattle.latex2mathml_tex_grammar.specs.Units.{Piece, Open, Close, Command, Character, Unit, Units, Next, End, Stop}
use Rattle.latex2mathml_tex_grammar.proofs.{Choices.of_either, Choices.of_found, MacrosUsed.of_used_macro, Splitting.EachUnit, Splitting.both, Splitting.of_split}

module _ (P : Piece → Type 0) where
  abbrev pub EachOf : List Unit → Type 0
  EachOf us = EachUnit P us

  abbrev EachList : List (List Unit) → Type 0
  EachList [] = ⊤
  EachList (us ∷ lists) = EachOf us × EachList lists

  -- what is read passes, and so does what is left
  abbrev pub Passes : {A : Type 0} → (A → Type 0) → Outcome A → Type 0
  Passes Q (Read x l) = Q x × EachPiece P l
  Passes Q (Refused r) = ⊤

  abbrev Anything : {A : Type 0} → A → Type 0
  Anything x = ⊤

  after : {A B : Type 0} (Q : A → Type 0) (R : B → Type 0) (o : Outcome A) (more : A → Units → Outcome B) → Passes Q o → ((x : A) (l : Units) → Q x → EachPiece P l → Passes R (more x l)) → Passes R (and_then o more)
  after Q R (Read x l) more h f = f x l h.0 h.1
  after Q R (Refused r) more h f = tt

  first : (u : Unit) (o : Outcome (List Unit)) → P u.piece → Passes EachOf o → Passes EachOf (with_first u o)
  first u (Read us l) p h = ((p, h.0), h.1)
  first u (Refused r) p h = tt

  first_list : (us : List Unit) (o : Outcome (List (List Unit))) → EachOf us → Passes EachList o → Passes EachList (with_first us o)
  first_list us (Read lists l) p h = ((p, h.0), h.1)
  first_list us (Refused r) p h = tt

  past : (l : Units) → EachPiece P l → EachPiece P (past_space l)
  past (Next u l) h = of_either (EachPiece P) (is_space_piece u.piece) (past l h.1) h
  past (End place) h = h
  past (Stop r) h = h

  unit_in_group : (b : Brace) (u : Unit) (l : Units) (depth : ℕ) (more : ℕ → Outcome (List Unit)) → P u.piece → EachPiece P l → ((d : ℕ) → Passes EachOf (more d)) → Passes EachOf (in_group b u l depth more)
  unit_in_group Opening u l depth more p h f = first u (more (suc depth)) p (f (suc depth))
  unit_in_group Closing u l zero more p h f = (tt, h)
  unit_in_group Closing u l (suc depth) more p h f = first u (more depth) p (f depth)
  unit_in_group NoBrace u l depth more p h f = first u (more depth) p (f depth)

  of_group : (place : ℕ) (l : Units) (depth : ℕ) → EachPiece P l → Passes EachOf (group place l depth)
  of_group place (Next u l) depth h = unit_in_group (brace_of u.piece) u l depth (group place l) h.0 h.1 (λ d. of_group place l d h.1)
  of_group place (End at) depth h = tt
  of_group place (Stop r) depth h = tt

  of_brace : (b : Brace) (place : ℕ) (u : Unit) (l : Units) → P u.piece → EachPiece P l → Passes EachOf (argument_of b place u l)
  of_brace Opening place u l p h = of_group u.place l 0 h
  of_brace Closing place u l p h = tt
  of_brace NoBrace place u l p h = ((p, tt), h)

  of_here : (place : ℕ) (l : Units) → EachPiece P l → Passes EachOf (argument_here place l)
  of_here place (Next u l) h = of_brace (brace_of u.piece) place u l h.0 h.1
  of_here place (End at) h = tt
  of_here place (Stop r) h = tt

  of_argument : (place : ℕ) (l : Units) → EachPiece P l → Passes EachOf (argument place l)
  of_argument place l h = of_here place (past_space l) (past l h)

  -- What ends before a sign

  of_before_sign : (b : Brace) (sign : Piece) (r : Refusal) (u : Unit) (l : Units) (depth : ℕ) (more : ℕ → Outcome (List Unit)) → P u.piece → EachPiece P l → ((d : ℕ) → Passes EachOf (more d)) → Passes EachOf (before_sign b sign r u l depth more)
  of_before_sign Opening sign r u l depth more p k h = first u (more (suc depth)) p (h (suc depth))
  of_before_sign Closing sign r u l zero more p k h = tt
  of_before_sign Closing sign r u l (suc depth) more p k h = first u (more depth) p (h depth)
  of_before_sign NoBrace sign r u l depth more p k h = of_either (Passes EachOf) (is_end sign depth u.piece) (tt, (p, k)) (first u (more depth) p (h depth))

  of_up_to : (sign : Piece) (r : Refusal) (l : Units) (depth : ℕ) → EachPiece P l → Passes EachOf (up_to sign r l depth)
  of_up_to sign r (Next u l) depth h = of_before_sign (brace_of u.piece) sign r u l depth (up_to sign r l) h.0 h.1 (λ d. of_up_to sign r l d h.1)
  of_up_to sign r (End place) depth h = tt
  of_up_to sign r (Stop q) depth h = tt

  of_behind_first : (l : Units) → EachPiece P l → EachPiece P (behind_first l)
  of_behind_first (Next u l) h = h.1
  of_behind_first (End place) h = h
  of_behind_first (Stop r) h = h

  of_taken : (n : ℕ) (us : List Unit) → EachOf us → EachOf (take n us)
  of_taken zero us h = tt
  of_taken (suc n) [] h = tt
  of_taken (suc n) (u ∷ us) h = (h.0, of_taken n us h.1)

  of_dropped : (us : List Unit) → EachOf us → EachOf (drop 1 us)
  of_dropped [] h = tt
  of_dropped (u ∷ us) h = h.1

  of_unbraced : (us : List Unit) → EachOf us → EachOf (without_braces us)
  of_unbraced us h = of_either EachOf (is_group us) (of_taken (length us - 2) (drop 1 us) (of_dropped us h)) h

  -- The other arguments, and signs between them

  of_argument_before : (sign : Option Piece) (place : ℕ) (l : Units) → EachPiece P l → Passes EachOf (argument_before sign place l)
  of_argument_before (Some sign) place l h =
      after EachOf EachOf (up_to sign (refusal_at WrongUse place) l 0) (λ us m. Read (without_braces us) m) (of_up_to sign (refusal_at WrongUse place) l 0 h) (λ us m p q. (of_unbraced us p, q))
  of_argument_before None place l h = of_argument place l h

  of_the_sign : (sign : Piece) (place : ℕ) (l : Units) → EachPiece P l → Passes Anything (the_sign sign place l)
  of_the_sign sign place (Next u l) h = of_either (Passes (λ (found : ⊤). ⊤)) (is_sign sign u.piece) (tt, h.1) tt
  of_the_sign sign place (End at) h = tt
  of_the_sign sign place (Stop r) h = tt

  of_arguments : (place : ℕ) (takes : List Taken) (l : Units) → EachPiece P l → Passes EachList (arguments place takes l)
  of_arguments place [] l h = (tt, h)
  of_arguments place (Parameter ∷ takes) l h = after EachOf EachList (argument_before (first_sign takes) place l) (λ arg rest. with_first arg (arguments place takes rest)) (of_argument_before (first_sign takes) place l h)
      (λ arg rest p q. first_list arg (arguments place takes rest) p (of_arguments place takes rest q))
  of_arguments place (Sign sign ∷ takes) l h = after Anything EachList (the_sign sign place l) (λ found rest. arguments place takes rest) (of_the_sign sign place l h) (λ found rest p q. of_arguments place takes rest q)

  -- What can be left out

  of_brackets : (place : ℕ) (l : Units) → EachPiece P l → Passes EachOf (between_brackets place l)
  of_brackets place l h =
      after EachOf EachOf (up_to (Character (byte "]")) (refusal_at UnclosedBracket place) l 0) (λ us m. Read (without_braces us) (behind_first m))
      (of_up_to (Character (byte "]")) (refusal_at UnclosedBracket place) l 0 h) (λ us m p q. (of_unbraced us p, of_behind_first m q))

  -- units, where there are some
  abbrev IfUnits : Option (List Unit) → Type 0
  IfUnits (Some us) = EachOf us
  IfUnits None = ⊤

  of_bracket_here : (l : Units) → EachPiece P l → EachPiece P (bracket_here l).1
  of_bracket_here (Next u l) h = of_either (λ (p : Option ℕ × Units). EachPiece P p.1) (is_character (byte "[") u.piece) h.1 h
  of_bracket_here (End place) h = h
  of_bracket_here (Stop r) h = h

  of_behind_bracket : (p : Option ℕ × Units) → EachPiece P p.1 → Passes IfUnits (behind_bracket p)
  of_behind_bracket (Some place, l) h = after EachOf IfUnits (between_brackets place l) (λ us m. Read (Some us) m) (of_brackets place l h) (λ us m p q. (p, q))
  of_behind_bracket (None, l) h = (tt, h)

  of_optional : (l : Units) → EachPiece P l → Passes IfUnits (optional l)
  of_optional l h = of_behind_bracket (bracket l) (of_bracket_here (past_space l) (past l h))

  -- Definitions

  of_sign_here : (c : ℕ) (l : Units) → EachPiece P l → EachPiece P (sign_here c l).1
  of_sign_here c (Next u l) h = of_either (λ (p : Bool × Units). EachPiece P p.1) (is_character c u.piece) h.1 h
  of_sign_here c (End place) h = h
  of_sign_here c (Stop r) h = h

  of_sign : (c : ℕ) (l : Units) → EachPiece P l → EachPiece P (sign c l).1
  of_sign c l h = of_sign_here c (past_space l) (past l h)

  of_digit_found : (d : Option ℕ) (u : Unit) (l : Units) → EachPiece P (Next u l) → EachPiece P (digit_found d u l).1
  of_digit_found (Some d) u l h = h.1
  of_digit_found None u l h = h

  of_digit_here : (l : Units) → EachPiece P l → EachPiece P (digit_here l).1
  of_digit_here (Next u l) h = of_digit_found (digit_of u.piece) u l h
  of_digit_here (End place) h = h
  of_digit_here (Stop r) h = h

  of_digit : (l : Units) → EachPiece P l → EachPiece P (digit l).1
  of_digit l h = of_digit_here (past_space l) (past l h)

  of_name_read : (place : ℕ) (name : Option (List ℕ)) (l : Units) → EachPiece P l → Passes Anything (name_read place name l)
  of_name_read place (Some name) l h = (tt, h)
  of_name_read place None l h = tt

  of_name : (place : ℕ) (l : Units) → EachPiece P l → Passes Anything (name_of place l)
  of_name place l h = after EachOf Anything (argument place l) (λ us m. name_read place (name_in us) m) (of_argument place l h) (λ us m p q. of_name_read place (name_in us) m q)

  of_closed : (place n : ℕ) (p : Bool × Units) → EachPiece P p.1 → Passes Anything (number_closed place n p)
  of_closed place n (true, l) h = (tt, h)
  of_closed place n (false, l) h = tt

  of_number_in : (place : ℕ) (p : Option ℕ × Units) → EachPiece P p.1 → Passes Anything (number_in place p)
  of_number_in place (Some n, l) h = of_closed place n (sign (byte "]") l) (of_sign (byte "]") l h)
  of_number_in place (None, l) h = tt

  of_opened : (place : ℕ) (p : Bool × Units) → EachPiece P p.1 → Passes Anything (number_opened place p)
  of_opened place (true, l) h = of_number_in place (digit l) (of_digit l h)
  of_opened place (false, l) h = (tt, h)

  of_number : (place : ℕ) (l : Units) → EachPiece P l → Passes Anything (number_of place l)
  of_number place l h = of_opened place (sign (byte "[") l) (of_sign (byte "[") l h)

  first_taken : (x : Taken) (o : Outcome (List Taken)) → Passes Anything o → Passes Anything (with_first x o)
  first_taken x (Read xs l) h = h
  first_taken x (Refused r) h = tt

  of_in_text : (behind : Bool) (place n : ℕ) (u : Unit) (l : Units) (more : Bool → ℕ → Outcome (List Taken)) → EachPiece P (Next u l) → ((b : Bool) (k : ℕ) → Passes Anything (more b k)) → Passes Anything (in_parameter_text behind place n u l more)
  of_in_text true place n u l more h p = of_either (Passes (λ (takes : List Taken). ⊤)) (is_number n u.piece) (first_taken Parameter (more false (suc n)) (p false (suc n))) tt
  of_in_text false place n u l more h p = of_either (Passes (λ (takes : List Taken). ⊤)) (is_character (byte "#") u.piece) (p true n)
      (of_either (Passes (λ (takes : List Taken). ⊤)) (is_brace u.piece) (tt, h) (first_taken (Sign u.piece) (more false n) (p false n)))

  of_number_due : (behind : Bool) (place : ℕ) (l : Units) → EachPiece P l → Passes Anything (number_due behind place l)
  of_number_due true place l h = tt
  of_number_due false place l h = (tt, h)

  of_parameters : (place : ℕ) (l : Units) (behind : Bool) (n : ℕ) → EachPiece P l → Passes Anything (parameters_behind place l behind n)
  of_parameters place (Next u l) behind n h = of_in_text behind place n u l (parameters_behind place l) h (λ b k. of_parameters place l b k h.1)
  of_parameters place (End at) behind n h = of_number_due behind place (End at) h
  of_parameters place (Stop r) behind n h = of_number_due behind place (Stop r) h

  -- parts, where there are some
  abbrev pub IfParts : Option (List Part) → Type 0
  IfParts (Some parts) = EachFixed P parts
  IfParts None = ⊤

  abbrev IfPart : Option Part → Type 0
  IfPart (Some (Fixed p)) = P p
  IfPart (Some (Argument k)) = ⊤
  IfPart (Some (Split bars k)) = AllByRecursion P (divider bars double_bar)
  IfPart None = ⊤

  of_before : (x : Option Part) (o : Option (List Part)) → IfPart x → IfParts o → IfParts (part_before x o)
  of_before (Some (Fixed p)) (Some parts) h k = (h, k)
  of_before (Some (Argument n)) (Some parts) h k = k
  of_before (Some (Split bars n)) (Some parts) h k = (h, k)
  of_before (Some part) None h k = tt
  of_before None o h k = tt

  of_argument_part : (n : ℕ) (d : Option ℕ) → IfPart (argument_part n d)
  of_argument_part n (Some zero) = tt
  of_argument_part n (Some (suc k)) = of_either IfPart (nat_lt k n) tt tt
  of_argument_part n None = tt

  pub of_parts : (b : Bool) (n : ℕ) (us : List Unit) → EachOf us → IfParts (parts_behind b n us)
  of_parts true n [] h = tt
  of_parts false n [] h = tt
  of_parts true n (u ∷ us) h = of_before (parameter_part n u.piece) (parts_behind false n us) (of_either IfPart (is_character (byte "#") u.piece) h.0 (of_argument_part n (digit_of u.piece))) (of_parts false n us h.1)
  of_parts false n (u ∷ us) h = of_either IfParts (is_character (byte "#") u.piece) (of_parts true n us h.1) (of_before (Some (Fixed u.piece)) (parts_behind false n us) h.0 (of_parts false n us h.1))

  of_body_read : (place : ℕ) (parts : Option (List Part)) (l : Units) → IfParts parts → EachPiece P l → Passes (EachFixed P) (body_read place parts l)
  of_body_read place (Some parts) l h k = (h, k)
  of_body_read place None l h k = tt

  of_body : (place n : ℕ) (l : Units) → EachPiece P l → Passes (EachFixed P) (body place n l)
  of_body place n l h = after EachOf (EachFixed P) (argument place l) (λ us m. body_read place (parts_of n us) m) (of_argument place l h) (λ us m p q. of_body_read place (parts_of n us) m (of_parts false n us p) q)

  of_default_read : (place : ℕ) (parts : Option (List Part)) (l : Units) → IfParts parts → EachPiece P l → Passes (EachIfSome P) (default_read place parts l)
  of_default_read place (Some parts) l h k = (h, k)
  of_default_read place None l h k = tt

  of_default_given : (place n : ℕ) (given : Option (List Unit)) (l : Units) → IfUnits given → EachPiece P l → Passes (EachIfSome P) (default_given place n given l)
  of_default_given place n None l h k = (tt, k)
  of_default_given place zero (Some us) l h k = tt
  of_default_given place (suc n) (Some us) l h k = of_default_read place (parts_of 0 us) l (of_parts false 0 us h) k

  of_default : (place n : ℕ) (l : Units) → EachPiece P l → Passes (EachIfSome P) (default_of place n l)
  of_default place n l h = after IfUnits (EachIfSome P) (optional l) (default_given place n) (of_optional l h) (λ given m p q. of_default_given place n given m p q)

  of_macro : (default : Option (List Part)) (n : ℕ) (parts : List Part) → EachIfSome P default → EachFixed P parts → EachInMacro P (macro_with_default default n parts)
  of_macro None n parts h k = (k, tt, tt, tt)
  of_macro (Some default) n parts h k = (k, h, tt, tt)

  -- a definition whose macro passes
  abbrev pub IsPassed : Definition → Type 0
  IsPassed d = EachInMacro P d.stands_for

  of_command : (place : ℕ) (l : Units) → EachPiece P l → Passes IsPassed (command_definition place l)
  of_command place l h =
      after Anything IsPassed (name_of place (sign (byte "*") l).1) _ (of_name place (sign (byte "*") l).1 (of_sign (byte "*") l h)) (λ name m t k.
      after Anything IsPassed (number_of place m) _ (of_number place m k) (λ n j s i.
      after (EachIfSome P) IsPassed (default_of place n j) _ (of_default place n j i) (λ default g d e.
      after (EachFixed P) IsPassed (body place n g) _ (of_body place n g e) (λ parts rest p q. (of_macro default n parts d p, q)))))

  of_plain : (place : ℕ) (l : Units) → EachPiece P l → Passes IsPassed (plain_definition place l)
  of_plain place l h =
      after Anything IsPassed (name_of place l) _ (of_name place l h) (λ name m t k.
      after Anything IsPassed (parameter_text place m) _ (of_parameters place m false 0 k) (λ takes j s i.
      after (EachFixed P) IsPassed (body place (parameter_count takes) j) _ (of_body place (parameter_count takes) j i) (λ parts rest p q. ((p, tt, tt, tt), q))))

  of_any : (place : ℕ) (l : Units) → EachPiece P l → Passes P (any_piece place l)
  of_any place (Next u l) h = h
  of_any place (End at) h = tt
  of_any place (Stop r) h = tt

  of_alias : (place : ℕ) (l : Units) → EachPiece P l → Passes IsPassed (alias_definition place l)
  of_alias place l h =
      after Anything IsPassed (name_of place l) _ (of_name place l h) (λ name m t k.
      after P IsPassed (any_piece place (past_space (sign (byte "=") m).1)) _ (of_any place (past_space (sign (byte "=") m).1) (past (sign (byte "=") m).1 (of_sign (byte "=") m k))) (λ piece rest p q. ((tt, tt, tt, p), q)))

  pub fixed_both : (xs ys : List Part) → EachFixed P xs → EachFixed P ys → EachFixed P (xs ++ ys)
  fixed_both [] ys h k = k
  fixed_both (Fixed p ∷ xs) ys h k = (h.0, fixed_both xs ys h.1 k)
  fixed_both (Argument n ∷ xs) ys h k = fixed_both xs ys h k
  fixed_both (Split bars n ∷ xs) ys h k = (h.0, fixed_both xs ys h.1 k)

  module _ (added : AllByRecursion P added_pieces) where
    opening : P Open
    opening = added.0

    closing : P Close
    closing = added.1.0

    star_sign : P (Character (byte "*"))
    star_sign = added.1.1.0

    operator_name : P (Command (codes "operatorname"))
    operator_name = added.1.1.1.0

    as_opening : P (Command (codes "mathopen"))
    as_opening = added.1.1.1.1.0

    as_closing : P (Command (codes "mathclose"))
    as_closing = added.1.1.1.1.1.0

    at_left : P (Command (codes "left"))
    at_left = added.1.1.1.1.1.1.0

    at_right : P (Command (codes "right"))
    at_right = added.1.1.1.1.1.1.1.0

    of_operator_parts : (star : Bool) (parts : List Part) → EachFixed P parts → EachFixed P (operator_parts star parts)
    of_operator_parts true parts h = (operator_name, (star_sign, (opening, fixed_both parts (Fixed Close ∷ []) h (closing, tt))))
    of_operator_parts false parts h = (operator_name, (opening, fixed_both parts (Fixed Close ∷ []) h (closing, tt)))

    of_body_as : (whole : Bool) (parts : List Part) → EachFixed P parts → EachFixed P (body_as whole parts)
    of_body_as whole parts h = of_either (EachFixed P) (whole && needs_braces parts) (opening, fixed_both parts (Fixed Close ∷ []) h (closing, tt)) h

    of_starred_as : (whole : Bool) (parts : Option (List Part)) → EachIfSome P parts → EachIfSome P (option_map (body_as whole) parts)
    of_starred_as whole (Some parts) h = of_body_as whole parts h
    of_starred_as whole None h = tt

    of_used_as : (whole : Bool) (m : Macro) → EachInMacro P m → EachInMacro P (used_as whole m)
    of_used_as whole m h = (of_body_as whole m.body h.0, h.1, of_starred_as whole m.starred h.2, h.3)

    of_operator : (place : ℕ) (l : Units) → EachPiece P l → Passes IsPassed (operator_definition place l)
    of_operator place l h =
        after Anything IsPassed (name_of place (sign (byte "*") l).1) _ (of_name place (sign (byte "*") l).1 (of_sign (byte "*") l h)) (λ name m t k.
        after (EachFixed P) IsPassed (body place 0 m) _ (of_body place 0 m k) (λ parts rest p q. ((of_operator_parts (sign (byte "*") l).0 parts p, tt, tt, tt), q)))

    of_sized : (name : List ℕ) (parts : List Part) → P (Command name) → EachFixed P parts → EachFixed P (sized_parts name parts)
    of_sized name parts n h = (n, (opening, fixed_both parts (Fixed Close ∷ []) h (closing, tt)))

    of_enclosed : (left right : List Part) → EachFixed P left → EachFixed P right → EachFixed P (enclosed_parts left right)
    of_enclosed left right h k =
        fixed_both (sized_parts (codes "mathopen") left) (Argument 1 ∷ sized_parts (codes "mathclose") right) (of_sized (codes "mathopen") left as_opening h) (of_sized (codes "mathclose") right as_closing k)

    of_stretched : (left right : List Part) → EachFixed P left → EachFixed P right → EachFixed P (stretched_parts left right)
    of_stretched left right h k = (
      as_opening,
      (
        opening,
        (
          closing,
          (
            as_closing,
            (
              opening,
              (
                at_left,
                fixed_both left (Argument 0 ∷ Fixed (Command (codes "right")) ∷ (right ++ Fixed Close ∷ [])) h (at_right, fixed_both right (Fixed Close ∷ []) k (closing, tt)),
              ),
            ),
          ),
        ),
      ),
    )

    of_delimiters : (place : ℕ) (l : Units) → EachPiece P l → Passes IsPassed (delimiters_definition place l)
    of_delimiters place l h =
        after Anything IsPassed (name_of place l) _ (of_name place l h) (λ name m t k.
        after (EachFixed P) IsPassed (body place 0 m) _ (of_body place 0 m k) (λ left j p q.
        after (EachFixed P) IsPassed (body place 0 j) _ (of_body place 0 j q) (λ right rest r s. ((of_enclosed left right p r, tt, of_stretched left right p r, tt), s))))

    pub of_definition : (word : Word) (place : ℕ) (l : Units) → EachPiece P l → Passes IsPassed (definition_of word place l)
    of_definition NewCommand place l h = of_command place l h
    of_definition ProvideCommand place l h = of_command place l h
    of_definition Def place l h = of_plain place l h
    of_definition DeclareOperator place l h = of_operator place l h
    of_definition DeclareDelimiters place l h = of_delimiters place l h
    of_definition Let place l h = of_alias place l h

    in_table : (name : List ℕ) (m : Macro) (table : Table) → EachInMacro P m → EachInTable P table → EachInTable P (with_macro name m table)
    in_table name m table h t other found e = of_found (EachInMacro P) (bytes_eq name other) m found (table other) h (t other) e

    of_provided : (d : Definition) (found : Option Macro) (table : Table) → IsPassed d → EachInTable P table → EachInTable P (provided d found table)
    of_provided d (Some m) table h t = t
    of_provided d None table h t = in_table d.name d.stands_for table h t

    of_found_macro : (piece : Piece) (found : Option Macro) → P piece → ((m : Macro) → found ≡ Some m → EachInMacro P m) → EachInMacro P (unwrap_or found (alias piece))
    of_found_macro piece (Some m) p h = h m refl
    of_found_macro piece None p h = (tt, tt, tt, p)

    of_meaning : (piece : Piece) (table : Table) → P piece → EachInTable P table → EachInMacro P (meaning_now table piece)
    of_meaning piece table p t = of_found_macro piece (macro_of table piece) p (of_used_macro (EachInMacro P) piece table t)

    of_resolved : (m : Macro) (piece : Option Piece) (table : Table) → EachInMacro P m → IfPiece P piece → EachInTable P table → EachInMacro P (resolved table m piece)
    of_resolved m (Some piece) table h p t = of_meaning piece table p t
    of_resolved m None table h p t = h

    pub behind : (word : Word) (d : Definition) (table : Table) → IsPassed d → EachInTable P table → EachInTable P (behind_definition word d table)
    behind ProvideCommand d table h t = of_provided d (table d.name) table h t
    behind NewCommand d table h t = in_table d.name d.stands_for table h t
    behind Def d table h t = in_table d.name d.stands_for table h t
    behind DeclareOperator d table h t = in_table d.name d.stands_for table h t
    behind DeclareDelimiters d table h t = in_table d.name d.stands_for table h t
    behind Let d table h t = in_table d.name (resolved table d.stands_for d.stands_for.alias) table (of_resolved d.stands_for d.stands_for.alias table h h.3 t) t

    -- Expansion

    of_number_at : (args : List (List Unit)) (k : ℕ) → EachList args → EachOf (argument_at args k)
    of_number_at [] k h = tt
    of_number_at (arg ∷ args) zero h = h.0
    of_number_at (arg ∷ args) (suc k) h = of_number_at args k h.1

    of_put : (args : List (List Unit)) (place : ℕ) (parts : List Part) → EachList args → EachFixed P parts → EachOf (put args place parts)
    of_put args place [] h k = tt
    of_put args place (Fixed p ∷ parts) h k = (k.0, of_put args place parts h k.1)
    of_put args place (Argument n ∷ parts) h k = both P (argument_at args n) (put args place parts) (of_number_at args n h) (of_put args place parts h k)
    of_put args place (Split bars n ∷ parts) h k =
        both P (split bars (argument_at args n)) (put args place parts) (of_split P bars k.0 (argument_at args n) (of_number_at args n h)) (of_put args place parts h k.1)

    of_units_before : (us : List Unit) (l : Units) → EachOf us → EachPiece P l → EachPiece P (before us l)
    of_units_before [] l h k = k
    of_units_before (u ∷ us) l h k = (h.0, of_units_before us l h.1 k)

    abbrev TurnPasses : Turn → Type 0
    TurnPasses (Stays piece) = P piece
    TurnPasses (Turns table uses room l) = EachInTable P table × EachPiece P l
    TurnPasses (Fails r) = ⊤

    of_or_default : (place : ℕ) (default : List Part) (given : Option (List Unit)) → EachFixed P default → IfUnits given → EachOf (or_default place default given)
    of_or_default place default (Some us) h k = k
    of_or_default place default None h k = of_put [] place default tt h

    of_arguments_with : (default : Option (List Part)) (place : ℕ) (takes : List Taken) (l : Units) → EachIfSome P default → EachPiece P l → Passes EachList (arguments_with default place takes l)
    of_arguments_with None place takes l d h = of_arguments place takes l h
    of_arguments_with (Some default) place takes l d h =
        after IfUnits EachList (optional l) (λ given m. with_first (or_default place default given) (arguments place takes m)) (of_optional l h)
        (λ given m p q. first_list (or_default place default given) (arguments place takes m) (of_or_default place default given d p) (of_arguments place takes m q))

    of_arguments_read : (table : Table) (uses room : ℕ) (u : Unit) (parts : List Part) (x : Outcome (List (List Unit))) → EachInTable P table → EachFixed P parts → Passes EachList x → TurnPasses (with_arguments table uses room u parts x)
    of_arguments_read table uses room u parts (Read args l) t b h = either (nat_lt room (length (put args u.place parts))) _ _ _ table (before (put args u.place parts) l) (t, of_units_before (put args u.place parts) l (of_put args u.place parts h.0 b) h.1)
      where
        either : (b : Bool) (r : Refusal) (uses room : ℕ) (table : Table) (l : Units) → EachInTable P table × EachPiece P l → TurnPasses (if b then Fails r else Turns table uses room l)
        either true r uses room table l h = tt
        either false r uses room table l h = h
    of_arguments_read table uses room u parts (Refused r) t b h = tt

    of_starred_form : (m : Macro) (parts : List Part) (found : Bool × Units) → EachInMacro P m → EachFixed P parts → EachPiece P found.1
        → EachInMacro P (starred_form m parts found).0 × EachPiece P (starred_form m parts found).1
    of_starred_form m parts (true, l) b s h = ((s, tt, tt, tt), h)
    of_starred_form m parts (false, l) b s h = (b, h)

    of_form_with : (m : Macro) (starred : Option (List Part)) (l : Units) → EachInMacro P m → EachIfSome P starred → EachPiece P l
        → EachInMacro P (form_with m starred l).0 × EachPiece P (form_with m starred l).1
    of_form_with m (Some parts) l b s h = of_starred_form m parts (sign (byte "*") l) b s (of_sign (byte "*") l h)
    of_form_with m None l b s h = (b, h)

    of_used_form : (table : Table) (uses room : ℕ) (u : Unit) (f : Macro × Units) → EachInTable P table → EachInMacro P f.0 × EachPiece P f.1 → TurnPasses (used_form table uses room u f)
    of_used_form table uses room u (m, l) t (b, h) = of_arguments_read table uses room u m.body (macro_arguments m u.place l) t b.0 (of_arguments_with m.default u.place m.takes l b.1 h)

    of_used : (table : Table) (uses room : ℕ) (u : Unit) (m : Macro) (l : Units) → EachInTable P table → EachInMacro P m → EachPiece P l → TurnPasses (used table uses room u m l)
    of_used table zero room u m l t b h = tt
    of_used table (suc uses) room u m l t b h = of_used_form table uses room u (form_of m l) t (of_form_with m m.starred l b b.2 h)

    of_defined : (table : Table) (uses room : ℕ) (word : Word) (x : Outcome Definition) → EachInTable P table → Passes IsPassed x → TurnPasses (defined table uses room word x)
    of_defined table uses room word (Read d l) t h = (behind word d table h.0 t, h.1)
    of_defined table uses room word (Refused r) t h = tt

    of_word : (whole : Bool) (table : Table) (uses room : ℕ) (u : Unit) (l : Units) (w : Option Word) (piece : Piece) → P piece → EachInTable P table → EachPiece P l → TurnPasses (turn_of (role_as whole (word_role w piece)) table uses room u l)
    of_word whole table uses room u l (Some word) piece p t h = of_defined table uses room word (definition_of word u.place l) t (of_definition word u.place l h)
    of_word whole table uses room u l None piece p t h = p

    of_macro_turn : (whole : Bool) (table : Table) (uses room : ℕ) (u : Unit) (l : Units) (m : Macro) (named : Option Piece) → EachInMacro P m → IfPiece P named → EachInTable P table → EachPiece P l → TurnPasses (turn_of (role_as whole (macro_role m named)) table uses room u l)
    of_macro_turn whole table uses room u l m (Some piece) b p t h = of_word whole table uses room u l _ piece p t h
    of_macro_turn whole table uses room u l m None b p t h = of_used table uses room u (used_as whole m) l t (of_used_as whole m b) h

    of_found_turn : (whole : Bool) (table : Table) (uses room : ℕ) (u : Unit) (l : Units) (piece : Piece) (found : Option Macro) → P piece → ((m : Macro) → found ≡ Some m → EachInMacro P m) → EachInTable P table → EachPiece P l → TurnPasses (turn_of (role_as whole (found_role found piece)) table uses room u l)
    of_found_turn whole table uses room u l piece (Some m) p b t h = (let each = b m refl in of_macro_turn whole table uses room u l m m.alias each each.3 t h)
    of_found_turn whole table uses room u l piece None p b t h = of_word whole table uses room u l _ piece p t h

    of_turn : (whole : Bool) (piece : Piece) (table : Table) (uses room : ℕ) (u : Unit) (l : Units) → P piece → EachInTable P table → EachPiece P l → TurnPasses (turn_of (role_as whole (role_of table piece)) table uses room u l)
    of_turn whole piece table uses room u l p t h = of_found_turn whole table uses room u l piece (macro_of table piece) p (of_used_macro (EachInMacro P) piece table t) t h

    pub pieces_of : {table : Table} {uses room : ℕ} {d : Due} {l m : Units} → Expands table uses room d l m → EachInTable P table → EachPiece P l → EachPiece P m
    pieces_of at_end t h = h
    pieces_of at_stop t h = h
    pieces_of (stays {table = table} {uses = uses} {room = room} {d = d} {u = u} {l = l} e x) t h =
        let turned = subst TurnPasses e (of_turn (is_due d) u.piece table uses room u l h.0 t h.1) in (turned, pieces_of x t h.1)
    pieces_of (turns {table = table} {uses = uses} {room = room} {d = d} {u = u} {l = l} e x) t h =
        let turned = subst TurnPasses e (of_turn (is_due d) u.piece table uses room u l h.0 t h.1) in pieces_of x turned.0 turned.1
    pieces_of (fails e) t h = tt

pub adds_nothing : AddsNothing
adds_nothing = λ test table uses room d l m marks t h x. pieces_of (λ p. IsTrue (test p)) marks x t h
