-- What the lexer's functions return, in terms of the definitions of units.
use Rattle.std.specs.Prelude.{◌≡◌, ℕ, ◌+◌, ◌≤◌, List, [], ◌∷◌, ◌++◌, Some, None, ⊤}
use Rattle.std.specs.Str.{byte, chars}
use Rattle.latex2mathml_tex_grammar.specs.Refusal.{Kind, LoneBackslash, ForbiddenCharacter, refusal_at}
use Rattle.latex2mathml_tex_grammar.specs.Refusal as refusal
use Rattle.latex2mathml_tex_grammar.specs.Units as units
use Rattle.latex2mathml_tex_grammar.specs.Units.{Units, Spells, IsRefusedAt}
use Rattle.latex2mathml_tex_units.specs.declared.lexer.slices.Start.{Start}
use Rattle.latex2mathml_tex_units.specs.declared.lexer.slices.Start.TheVariants as start
use Rattle.latex2mathml_tex_units.specs.declared.unit.{Fault.Fault, Next.Next, Piece.Piece, Unit.Unit}
use Rattle.latex2mathml_tex_units.specs.declared.unit.Fault.TheVariants as fault
use Rattle.latex2mathml_tex_units.specs.declared.unit.Next.TheVariants as next
use Rattle.latex2mathml_tex_units.specs.declared.unit.Piece.TheVariants as piece

-- the piece that a value of the code is
abbrev pub piece_of : Piece → units.Piece
piece_of piece.Space = units.Space
piece_of piece.Open = units.Open
piece_of piece.Close = units.Close
piece_of (piece.Command name) = units.Command name.now
piece_of (piece.Character c) = units.Character c

abbrev pub unit_of : Unit → units.Unit
unit_of u = units.unit (piece_of u.piece) u.place

-- why a fault is refused
abbrev pub kind_of : Fault → Kind
kind_of fault.LoneBackslash = LoneBackslash
kind_of (fault.Forbidden c) = ForbiddenCharacter c
kind_of fault.MissingArgument = refusal.MissingArgument
kind_of fault.UnclosedBrace = refusal.UnclosedBrace
kind_of fault.UnclosedBracket = refusal.UnclosedBracket
kind_of fault.TooManyExpansions = refusal.TooManyExpansions
kind_of fault.MissingMacroName = refusal.MissingMacroName
kind_of fault.WrongParameters = refusal.WrongParameters
kind_of fault.WrongUse = refusal.WrongUse
kind_of fault.UnknownParameter = refusal.UnknownParameter
kind_of fault.NoDefinition = refusal.NoDefinition

-- what comes next was taken from the units `old`, and the units `new` are left
abbrev pub Takes : Next → Units → Units → Type 0
Takes (next.Unit u) old new = old ≡ units.Next (unit_of u) new
Takes (next.End place) old new = (old ≡ units.End place) × (new ≡ old)
Takes (next.Fault kind place) old new = (old ≡ units.Stop (refusal_at (kind_of kind) place)) × (new ≡ old)

-- this is how the text begins
abbrev pub IsStart : List ℕ → Start → Type 0
IsStart text start.Empty = text ≡ []
IsStart text (start.Piece p rest) = (w : List ℕ) × (text ≡ w ++ chars rest.now) × Spells w (chars rest.now) (Some (piece_of p))
IsStart text (start.Comment rest) = (w : List ℕ) × (text ≡ w ++ chars rest.now) × Spells w (chars rest.now) None
IsStart text (start.Fault kind bytes) = (place : ℕ) → IsRefusedAt place text (refusal_at (kind_of kind) (place + bytes))

-- a fault is at most one byte after the start
abbrev pub IsNear : Start → Type 0
IsNear (start.Fault kind bytes) = bytes ≤ 1
IsNear start.Empty = ⊤
IsNear (start.Piece p rest) = ⊤
IsNear (start.Comment rest) = ⊤

-- after its `%`, the text is the rest of a comment, followed by `rest`
abbrev pub IsCommentEnd : List ℕ → List ℕ → Type 0
IsCommentEnd text rest = (w : List ℕ) × (byte "%" ∷ text ≡ w ++ rest) × Spells w rest None
