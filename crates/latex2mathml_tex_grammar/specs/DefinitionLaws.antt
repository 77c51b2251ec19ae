-- Laws of texts of definitions. Here a text is given as its characters.
use Rattle.std.specs.Prelude.{◌≡◌, ◌⊎◌, ℕ, List}
use Rattle.latex2mathml_tex_grammar.specs.{DefinitionTexts.AreRefused, DefinitionTexts.Defines, Macros.Table, Refusal.Refusal}

-- the text defines exactly one table of macros, or has exactly one refusal
pub record HasOneTableOrRefusal (text : List ℕ) : Type 0 where
  -- it defines a table or is refused
  pub some : ((table : Table) × Defines text table) ⊎ ((r : Refusal) × AreRefused text r)
  -- two tables are the same table
  pub one_table : (table other : Table) → Defines text table → Defines text other → table ≡ other
  -- two refusals are the same refusal
  pub one_refusal : (r q : Refusal) → AreRefused text r → AreRefused text q → r ≡ q
  -- what defines a table is not refused
  pub never_both : (table : Table) (r : Refusal) → Defines text table → AreRefused text r → ⊥

-- so it is for every text
abbrev pub HaveOneTableOrRefusal : Type 0
HaveOneTableOrRefusal = (text : List ℕ) → HasOneTableOrRefusal text
