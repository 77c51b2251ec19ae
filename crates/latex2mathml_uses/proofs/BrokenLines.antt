-- A formula that is broken over two lines is read as the formula on one line.
use Rattle.std.proofs.Common.{◌≡◌, ◌++◌, ℕ, List, [], Result, Ok, Err, refl, codes, lit<, subst, sym}
use Rattle.std.proofs.lemmas.{List.Sums.AllPass-from_list_all, Option.IfSome_then}
use Rattle.std.proofs.lemmas.Str.{chars-IsAscii, Ascii.IsAscii-cons, Ascii.IsAscii-nil}
use Rattle.std.specs.{List.AllPass, Str.chars}
use Rattle.latex2mathml.specs.Formulas.{IfRefused, Refusal, SpaceChangesNothing, refusal_of}
use Rattle.latex2mathml.specs.{Characters.is_space, Places.IsReadAlike, declared.LatexError.LatexError}
use Rattle.latex2mathml_uses.specs.Lines.{IsBreak}

line_end_is_space : AllPass is_space (chars (codes "\n"))
line_end_is_space =
    subst (AllPass is_space) (sym (chars-IsAscii (codes "\n") (IsAscii-cons 10 [] (lit< tt) IsAscii-nil))) (AllPass-from_list_all is_space (codes "\n") refl)

pub alike : (first second formula : List ℕ) → SpaceChangesNothing first (codes "\n") second → formula ≡ first ++ (codes "\n" ++ second) → IsBreak first second → IsReadAlike (first ++ second) formula
alike first second formula law is (place, plain) =
    subst (IsReadAlike (first ++ second)) (sym is) (law place plain line_end_is_space)

pub refused_so : {A : Type 0} {P Q : Refusal → Type 0} (r : Result A LatexError) → ((refusal : Refusal) → P refusal → Q refusal) → IfRefused r P → IfRefused r Q
refused_so (Ok x) so h = tt
refused_so (Err error) so h = IfSome_then (refusal_of error) h so
