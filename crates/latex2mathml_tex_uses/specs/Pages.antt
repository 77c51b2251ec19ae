-- Formulas of pages whose preamble may define macros. Here a text is its bytes.
use Rattle.std.specs.Prelude.{◌≡◌, ℕ, List, Option, Some, None, IfSome}
use Rattle.std.specs.{Borrow.Bor, Str.chars}
use Rattle.latex2mathml_tex_units.specs.Errors.{refusal_of}
use Rattle.latex2mathml_tex.specs.Answers.{IsRefusal}
use Rattle.latex2mathml_tex_grammar.specs.{DefinitionTexts.AreRefused, DefinitionTexts.Defines, Macros.Table, Refusal.Refusal, Symbols.Style, UsualMacros.usual_macros}
use Rattle.latex2mathml_tex_uses.specs.declared.page.PageError.{PageError}
use Rattle.latex2mathml_tex_uses.specs.declared.page.PageError.TheVariants.{Formula, Preamble}

-- the macros that hold on a page with this preamble, or without a preamble
abbrev pub HoldOnPage : Option (Bor (List ℕ)) → Table → Type 0
HoldOnPage None table = table ≡ usual_macros
HoldOnPage (Some preamble) table = Defines (chars preamble.now) table

-- why a preamble is refused
abbrev pub IsPreambleRefusal : Option (Bor (List ℕ)) → Refusal → Type 0
IsPreambleRefusal None refusal = ⊥
IsPreambleRefusal (Some preamble) refusal = AreRefused (chars preamble.now) refusal

-- why a formula of a page is not shown; if memory runs out, the error reports no refusal
abbrev pub IsUnshown : Option (Bor (List ℕ)) → List ℕ → Style → PageError → Type 0
IsUnshown preamble tex style (Preamble error) = IfSome (refusal_of error) (IsPreambleRefusal preamble)
IsUnshown preamble tex style (Formula error) =
    (table : Table) × HoldOnPage preamble table × IfSome (refusal_of error) (IsRefusal table tex style)
