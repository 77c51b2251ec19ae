-- The macros that hold, in the code and in the grammar.
use Rattle.std.proofs.Common.{◌≡◌, ◌∙◌, ℕ, Bool, true, false, List, [], ◌∷◌, Option, Some, None, refl, ap}
use Rattle.std.specs.Prelude.{option_map, if◌then◌else◌}
use Rattle.std.specs.{Option.is_some, Str.bytes_eq}
use Rattle.latex2mathml_tex_grammar.specs.{Macros.Macro, UsualMacros.entry_macro, UsualMacros.macro_with, UsualMacros.usual_entries, UsualMacros.usual_macros}
use Rattle.latex2mathml_tex_grammar.specs.UsualMacros.{Other, Divided, Enclosed, Optional, Starred, other_named, other_or}
use Rattle.latex2mathml_tex_grammar.proofs.Choices.{of_found}
use Rattle.latex2mathml_tex_units.specs.{MacroTables.or_else, MacroTables.or_usual}

pub usual_is : (name : List ℕ) → other_or (other_named name) (entry_macro usual_entries name) ≡ usual_macros name
unfolding usual_macros
usual_is name = refl

-- no usual macro is only another name

entry_no_name : (entries : List (List ℕ × ℕ × List ℕ)) (name : List ℕ) (m : Macro) → entry_macro entries name ≡ Some m → m.alias ≡ None
entry_no_name [] name m e = cc
entry_no_name (entry ∷ entries) name m e = of_found (λ y. y.alias ≡ None) (bytes_eq entry.0 name) (macro_with entry.1 entry.2) m (entry_macro entries name) refl (entry_no_name entries name) e

other_no_name : (other : Option Other) (found : Option Macro) (m : Macro) → ((y : Macro) → found ≡ Some y → y.alias ≡ None) → other_or other found ≡ Some m → m.alias ≡ None
other_no_name (Some (Divided command text)) found m h e = cc
other_no_name (Some (Starred starred text)) found m h e = cc
other_no_name (Some (Optional n text)) found m h e = cc
other_no_name (Some (Enclosed bars left right)) found m h e = cc
other_no_name None found m h e = h m e

pub usual_no_name : (name : List ℕ) (m : Macro) → usual_macros name ≡ Some m → m.alias ≡ None
usual_no_name name m e = other_no_name (other_named name) (entry_macro usual_entries name) m (entry_no_name usual_entries name) (usual_is name ∙ e)

-- a name that was put into the map
pub put_there : {X : Type 0} (f : X → Macro) (b : Bool) (m : X) (x : Option X) (found : Option X) (outer : Option Macro) (name : List ℕ) → found ≡ (if b then Some m else x)
    → or_usual (or_else (option_map f found) outer) name ≡ (if b then Some (f m) else or_usual (or_else (option_map f x) outer) name)
put_there f true m x found outer name e = ap (λ y. or_usual (or_else (option_map f y) outer) name) e
put_there f false m x found outer name e = ap (λ y. or_usual (or_else (option_map f y) outer) name) e

pub none_defined : (x : Option Macro) (name : List ℕ) → is_some x ≡ false → is_some (or_usual x name) ≡ is_some (usual_macros name)
none_defined (Some m) name e = cc
none_defined None name e = refl
