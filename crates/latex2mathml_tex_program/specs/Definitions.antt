-- Definitions in a file: what is read from it, and why it may define no macros. Here a text is its bytes.
use Rattle.std.specs.Prelude.{◌≡◌, ℕ, List, Option, Some, None, IfSome, IsUtf8, ⊤}
use Rattle.std.specs.{Borrow.Bor, Str.chars}
use Rattle.latex2mathml.specs.declared.error.FileFault.{FileFault}
use Rattle.latex2mathml.specs.declared.error.FileFault.TheVariants as file
use Rattle.latex2mathml_tokens.specs.Refusal as tokens
use Rattle.latex2mathml_tex_units.specs.{Errors.refusal_of, Positions.column_of, Positions.line_of}
use Rattle.latex2mathml_tex_grammar.specs.{DefinitionTexts.AreRefused, DefinitionTexts.Defines, Macros.Table, UsualMacros.usual_macros}
use Rattle.latex2mathml_tex_program.specs.declared.fault.Fault.{Fault}
use Rattle.latex2mathml_tex_program.specs.declared.fault.Fault.TheVariants.{Refused, RefusedDefinition, UnreadDefinitions}

-- what is known of the bytes of a file agrees with these
abbrev pub IsKnownAs : Option (List ℕ) → List ℕ → Type 0
IsKnownAs None bytes = ⊤
IsKnownAs (Some known) bytes = known ≡ bytes

-- why no text was read from a file, by what is known of its bytes
abbrev pub IsUnread : Option (List ℕ) → FileFault → Type 0
IsUnread known file.Read = ⊤
IsUnread known file.NotText = (bytes : List ℕ) × IsKnownAs known bytes × (¬ IsUtf8 bytes)
-- memory ran out for the text
IsUnread known (file.Refused error) = tokens.refusal_of error ≡ None
IsUnread known fault = ⊥

-- the fault of the file with this name if no text was read from it
abbrev pub IsFaultOf : List ℕ → Option (List ℕ) → Fault → Type 0
IsFaultOf name known (UnreadDefinitions told fault) = (told.now ≡ name) × IsUnread known fault
IsFaultOf name known fault = ⊥

-- the fault of the file with this name and this text if the text defines no macros
abbrev pub IsFaultIn : List ℕ → List ℕ → Fault → Type 0
IsFaultIn name text (RefusedDefinition told position error) =
    (told.now ≡ name)
    × (position.line ≡ line_of error.place text)
    × (position.column ≡ column_of error.place text)
    × IfSome (refusal_of error) (AreRefused (chars text))
-- memory ran out for the macros
IsFaultIn name text (Refused error) = refusal_of error ≡ None
IsFaultIn name text fault = ⊥

-- Where the name of a file may be given, by what is known of the bytes of files

-- this is the text of the file
abbrev pub IsTextAsked : (List ℕ → Option (List ℕ)) → Option (Bor (List ℕ)) → List ℕ → Type 0
IsTextAsked bytes_of None text = ⊤
IsTextAsked bytes_of (Some name) text = IsKnownAs (bytes_of name.now) text

-- these macros hold if the file has this text: those that it defines, or the usual ones if no file is asked for
abbrev pub Hold : Option (Bor (List ℕ)) → List ℕ → Table → Type 0
Hold None text macros = macros ≡ usual_macros
Hold (Some name) text macros = Defines (chars text) macros

-- the fault if no text was read
abbrev pub IsUnreadFault : (List ℕ → Option (List ℕ)) → Option (Bor (List ℕ)) → Fault → Type 0
IsUnreadFault bytes_of None fault = ⊥
IsUnreadFault bytes_of (Some name) fault = IsFaultOf name.now (bytes_of name.now) fault

-- the fault if the file has this text, and the text defines no macros
abbrev pub IsRefusedFault : Option (Bor (List ℕ)) → List ℕ → Fault → Type 0
IsRefusedFault None text fault = ⊥
IsRefusedFault (Some name) text fault = IsFaultIn name.now text fault
