-- The texts of faults.
use Rattle.std.specs.Prelude.{ℕ, List, ◌++◌, codes, decimal}
use Rattle.latex2mathml_tokens.specs.Refusal.{error_text, refusal_of}
use Rattle.latex2mathml.specs.declared.error.FileFault.{FileFault}
use Rattle.latex2mathml.specs.declared.error.FileFault.TheVariants.{List as Unlisted, Entry, TooDeep, Read, NotText, Refused, Create, Write}

abbrev pub fault_text : FileFault → List ℕ
fault_text Unlisted = codes "The directory could not be listed."
fault_text Entry = codes "An entry of the directory could not be read."
fault_text TooDeep = codes "The directory lies deeper than 64 levels."
fault_text Read = codes "The input could not be read."
fault_text NotText = codes "The input is not UTF-8 text."
fault_text (Refused error) = error_text (refusal_of error)
fault_text Create = codes "The file could not be created anew."
fault_text (Write written cause) = codes "The output stopped after " ++ (decimal written ++ codes " bytes.")
