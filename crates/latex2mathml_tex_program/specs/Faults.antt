-- The texts of faults.
use Rattle.std.specs.Prelude.{ℕ, List, ◌++◌, codes, decimal}
use Rattle.latex2mathml.specs.Faults as files
use Rattle.latex2mathml_tex_units.specs.{ErrorTexts.error_kind_text, ErrorTexts.error_text, declared.position.Position.Position}
use Rattle.latex2mathml_tex_program.specs.declared.fault.Fault.{Fault}
use Rattle.latex2mathml_tex_program.specs.declared.fault.Fault.TheVariants.{File, Refused, RefusedDefinition, UnreadDefinitions}

-- the position in the file with this name
abbrev pub position_text : List ℕ → Position → List ℕ
position_text name position = name ++ (codes ":" ++ (decimal position.line ++ (codes ":" ++ decimal position.column)))

abbrev pub fault_text : Fault → List ℕ
fault_text (File fault) = files.fault_text fault
fault_text (Refused error) = error_text error
fault_text (UnreadDefinitions name fault) = name.now ++ (codes ": " ++ files.fault_text fault)
fault_text (RefusedDefinition name position error) = position_text name.now position ++ (codes ": " ++ error_kind_text error.kind)

-- the line that reports a fault
abbrev pub fault_line : Fault → List ℕ
fault_line fault = codes "tex2mathml: " ++ (fault_text fault ++ codes "\n")
