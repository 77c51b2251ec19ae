-- What comes next in a list of tokens: marks, which continue what was read, and names.
use Rattle.std.specs.Prelude.{◌≡◌, ◌≢◌, ◌↔◌, ℕ, List, [], ◌∷◌, Option, Some, None}
use Rattle.std.specs.Str.{byte, encode_utf8_all}
use Rattle.latex2mathml_grammar.specs.{Grammar.AreLetters, Grammar.first, Grammar.prime, Spelling.character_token}
use Rattle.latex2mathml_tokens.specs.Tok.{Tok, Underscore, Circumflex}
use Rattle.latex2mathml_parser.specs.declared.lexer.mark.Mark.{Mark}
use Rattle.latex2mathml_parser.specs.declared.lexer.mark.Mark.TheVariants.{Prime, Script}
use Rattle.latex2mathml_parser.specs.declared.lexer.mark.Sign.{Sign}
use Rattle.latex2mathml_parser.specs.declared.lexer.mark.Sign.TheVariants.{Sub, Sup}

-- the tokens after the first
abbrev pub rest_of : List Tok → List Tok
rest_of [] = []
rest_of (t ∷ ts) = ts

abbrev pub sign_token : Sign → Tok
sign_token Sub = Underscore
sign_token Sup = Circumflex

abbrev pub mark_token : Mark → Tok
mark_token Prime = prime
mark_token (Script sign) = sign_token sign

-- the next token, if there is one, is this mark; `None` says that it is no mark
abbrev pub MarkStands : Option Mark → Option Tok → Type 0
MarkStands (Some mark) t = t ≡ Some (mark_token mark)
MarkStands None t = (t ≢ Some prime) × (t ≢ Some Underscore) × (t ≢ Some Circumflex)

-- the next token is that of the character d exactly where its first character c is d
abbrev pub Shows : ℕ → ℕ → List Tok → Type 0
Shows d c ts = (c ≡ d) ↔ (first ts ≡ Some (character_token d))

-- what the first character of the text that is not white space, if there is one, shows of the tokens
abbrev pub IsSeen : Option ℕ → List Tok → Type 0
IsSeen None ts = ts ≡ []
IsSeen (Some c) ts = (ts ≢ [])
    × Shows (byte "'") c ts
    × Shows (byte "_") c ts
    × Shows (byte "^") c ts
    × Shows (byte "[") c ts

-- letters come next, whose characters have these bytes, and the other tokens are left after them
abbrev pub LettersStand : List ℕ → List Tok → List Tok → Type 0
LettersStand bytes ts rest = (cs : List ℕ) × AreLetters cs ts rest × (bytes ≡ encode_utf8_all cs)

-- letters of these bytes follow the next token, and the tokens after them, without the first, are left
abbrev pub NameStands : List ℕ → List Tok → List Tok → Type 0
NameStands bytes ts rest = (ms : List Tok) × LettersStand bytes (rest_of ts) ms × (rest ≡ rest_of ms)
