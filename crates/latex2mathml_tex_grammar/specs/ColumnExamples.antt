-- The columns of some texts.
use Rattle.std.specs.Prelude.{ℕ, ◌≡◌, List, [], codes}
use Rattle.latex2mathml_tex_grammar.specs.{Cutting.units_of, Environments.written_out}
use Rattle.latex2mathml_tex_grammar.specs.Refusal.{UnknownColumn, MissingArgument, refusal_at}
use Rattle.latex2mathml_tex_grammar.specs.Scanning.{BeforeArgument, ColumnList, Found, Given, Missing, scan}
use Rattle.latex2mathml_tex_grammar.specs.Units.{End}

-- what is found where the columns of a table are taken from a text
abbrev pub columns_in : List ℕ → Found
columns_in text = scan 0 (units_of 0 text) (BeforeArgument ColumnList)

-- columns with repetitions
pub record AreColumnExamples : Type 0 where
  pub alone : written_out (codes "*3{c}") ≡ codes "ccc"
  pub two_digits : written_out (codes "*12{l}") ≡ codes "llllllllllll"
  pub between : written_out (codes "l*2{r|}c") ≡ codes "lr|r|c"
  pub none : written_out (codes "*0{c}l") ≡ codes "l"
  pub nothing : written_out (codes "*9{}") ≡ []
  pub several : written_out (codes "|*2{cr:}*2{l}|") ≡ codes "|cr:cr:ll|"
  -- white space among columns, and what is in braces there, is ignored
  pub taken : columns_in (codes "{l *{2} {p{1em} @{*}|}c}") ≡ Given (codes "l*2{l|}c") (End 24)
  -- a repetition needs a number of one or two digits, and braces, and none is within another
  pub no_number : columns_in (codes "{*{}{c}}") ≡ Missing (refusal_at UnknownColumn 3)
  pub three_digits : columns_in (codes "{*{100}{c}}") ≡ Missing (refusal_at UnknownColumn 5)
  pub number_without_braces : columns_in (codes "{*3{c}}") ≡ Missing (refusal_at UnknownColumn 2)
  pub columns_without_braces : columns_in (codes "{*{2}c}") ≡ Missing (refusal_at UnknownColumn 5)
  pub nested : columns_in (codes "{*{2}{c*{2}{c}}}") ≡ Missing (refusal_at UnknownColumn 7)
  pub not_closed : columns_in (codes "{*{2}{c") ≡ Missing (refusal_at MissingArgument 0)
