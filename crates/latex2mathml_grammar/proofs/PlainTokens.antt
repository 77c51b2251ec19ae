-- The tokens of slices: a slice is one character that is a token by itself, or its token is plain. So sizes in tokens hold
-- no dollar sign.
use Rattle.std.proofs.Common.{◌≡◌, ◌⊎◌, ℕ, Bool, true, false, not, ◌==◌, List, [], ◌∷◌, codes, Option, unwrap_or, refl, sym, subst, arith, map}
use Rattle.std.specs.{Char.encode_utf8, List.list_all, Str.byte, Str.bytes_eq}
use Rattle.latex2mathml_tokens.specs.Commands.{command_entries, command_token, entry_token}
use Rattle.latex2mathml_grammar.specs.Dollars.{is_other}
use Rattle.latex2mathml_grammar.specs.Spelling.{SpellsAt, character_token, Slice, HasSlices, HasTokens}
use Rattle.latex2mathml_tokens.specs.Tok.{Tok, EOF, Paren, Underscore, Circumflex, Big, Operator, Command, takes_digit}
use Rattle.std.proofs.{lemmas.Bool.Decides.nat_tests}

-- the token is not the end of a formula, a prime, a sign, an opening bracket, or a size with a dollar sign
abbrev pub is_plain : Tok → Bool
is_plain EOF = false
is_plain Underscore = false
is_plain Circumflex = false
is_plain (Operator c) = not (c == byte "'")
is_plain (Paren text) = not (bytes_eq text (codes "["))
is_plain (Big size) = list_all is_other size
is_plain t = true

abbrev pub IsPlain : Tok → Type 0
IsPlain t = is_plain t ≡ true

-- computed over the whole table
plain-command_entries : list_all (λ r. is_plain r.1) command_entries ≡ true
unfolding command_entries encode_utf8
plain-command_entries = refl

plain_entry : (rs : List (List ℕ × Tok)) (name : List ℕ) → list_all (λ r. is_plain r.1) rs ≡ true → IsPlain (unwrap_or (entry_token rs name) (Command name))
plain_entry [] name h = refl
plain_entry (r ∷ rs) name h = grind (arith, plain_entry rs name)

-- the token of a command is plain
plain_command : (name : List ℕ) → IsPlain (command_token name)
unfolding command_token
plain_command name = plain_entry command_entries name plain-command_entries

-- a slice is one character that is a token by itself, or its token is plain
abbrev pub IsKnown : List ℕ → Tok → Type 0
IsKnown w t = ((c : ℕ) × (w ≡ c ∷ []) × (t ≡ character_token c)) ⊎ IsPlain t

pub known : (alone : Bool) (w : List ℕ) (next : Option ℕ) (t : Tok) → SpellsAt alone w next t → IsKnown w t
known alone w next t spells = grind (arith, plain_command)

-- the size of the token, if it is one, holds no dollar sign
abbrev pub IsFree : Tok → Type 0
IsFree (Big size) = list_all is_other size ≡ true
IsFree t = Unit {0}

abbrev pub AreFree : List Tok → Type 0
AreFree [] = Unit {0}
AreFree (t ∷ ts) = IsFree t × AreFree ts

free_known : (w : List ℕ) (t : Tok) → IsKnown w t → IsFree t
free_known w t known = grind (arith, nat_tests)

-- the tokens of slices
free_slices : (takes : Bool) (text : List ℕ) (ss : List Slice) → HasSlices takes text ss → AreFree (map (λ s. s.token) ss)
free_slices takes text [] d = tt
free_slices takes text (s ∷ ss) (rest, step, later) = (free_known s.text s.token (known _ s.text _ s.token step.3), free_slices _ rest ss later)

-- the tokens of a text
pub free_tokens : (previous : Option Tok) (text : List ℕ) (ts : List Tok) → HasTokens previous text ts → AreFree ts
free_tokens previous text ts (ss, d, e) = subst AreFree (sym e) (free_slices (takes_digit previous) text ss d)
