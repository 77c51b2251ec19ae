-- What is due while a formula is read, and where its outcome leads. These definitions serve the contracts of the
-- parser's functions, and do not mention frames. A continuation K says what each outcome leads to.
use Rattle.std.specs.Prelude.{ℕ, List}
use Rattle.latex2mathml_elements.specs.Element.{Element}
use Rattle.latex2mathml_tex_grammar.specs.Atoms.{Atom}
use Rattle.latex2mathml_tex_grammar.specs.Makes.{Core, Scripts, no_scripts}
use Rattle.latex2mathml_tex_grammar.specs.Meaning.{Change}
use Rattle.latex2mathml_tex_grammar.specs.Reading.{Outcome, Read, Refused, ReadsAtoms, ReadsOperand, ReadsRule, ReadsScripts, ReadsWord, ReadsWords}
use Rattle.latex2mathml_tex_grammar.specs.Refusal.{Refusal}
use Rattle.latex2mathml_tex_grammar.specs.Rests.{Rest, GoesOnIn, NoRest, rest_of, with_resized}
use Rattle.latex2mathml_tex_grammar.specs.Rows.{Operand, Row, operand_of, lone, row_element, single, with_atom}
use Rattle.latex2mathml_tex_grammar.specs.Rules.{Context, Ending, Rule, gives, reads_core}
use Rattle.latex2mathml_tex_grammar.specs.Symbols.{TextSize}
use Rattle.latex2mathml_tex_grammar.specs.Units.{Units}
use Rattle.latex2mathml_tex_grammar.specs.Words.{Words, with_formula}

-- What is due, and where its outcome leads. What cannot be made at a level leads nowhere.
pub data Level : Type 1 where
  -- atoms after a row, up to an ending
  row : Ending → Context → Row → (Outcome Row → Type 0) → Level
  -- an operand, which this place takes
  operand : ℕ → Context → (Outcome Operand → Type 0) → Level
  -- an atom without scripts, which this place takes
  core : ℕ → Context → (Outcome Core → Type 0) → Level
  -- one part of words
  part : (Outcome Words → Type 0) → Level
  -- words up to a brace, which began at this place
  words : ℕ → Context → (Outcome Words → Type 0) → Level

-- whatever the outcome of the rule from here, it leads to K
pub record RuleLeads (r : Rule) (K : Outcome Core → Type 0) (l : Units) : Type 0 where
  pub to : (o : Outcome Core) → ReadsRule r l o → K o

-- where the outcome of a part of a rule leads, if the rule goes on like this
abbrev pub Then : {A : Type 0} → (A → Rule) → (Outcome Core → Type 0) → Outcome A → Type 0
Then then K (Read x l) = RuleLeads (then x) K l
Then then K (Refused r) = K (Refused r)

-- where the outcome of an atom leads: to the atoms after it
abbrev pub AtomMade : Level → Outcome Atom → Type 0
AtomMade (row ending c xs K) (Read x l) = (o : Outcome Row) → ReadsAtoms ending c (with_atom c.style xs x) l o → K o
AtomMade (row ending c xs K) (Refused r) = K (Refused r)
AtomMade level o = ⊥

-- whatever the outcome of what follows an atom with these scripts, it leads on
abbrev pub ScriptsLead : Level → Atom → Scripts → Units → Type 0
ScriptsLead (row ending c xs K) base scripts l = (o : Outcome Atom) → ReadsScripts c xs.before base scripts l o → AtomMade (row ending c xs K) o
ScriptsLead level base scripts l = ⊥

-- where the outcome of an atom without scripts leads
abbrev pub CoreMade : Level → Outcome Core → Type 0
CoreMade (row ending c xs K) (Read x l) = ScriptsLead (row ending c xs K) x.atom (no_scripts x.atom.kind x.limits) l
CoreMade (row ending c xs K) (Refused r) = K (Refused r)
CoreMade (operand place c K) (Read x l) = K (Read (single c.style x.atom) l)
CoreMade (operand place c K) (Refused r) = K (Refused r)
CoreMade (core place c K) o = K o
CoreMade (part K) o = ⊥
CoreMade (words place c K) o = ⊥

-- a row as an operand
abbrev pub as_operand : Outcome Row → Outcome Operand
as_operand (Read xs l) = Read (operand_of xs) l
as_operand (Refused r) = Refused r

-- elements of words that are followed by a row, as a formula
abbrev pub as_words : List Element → Outcome Row → Outcome Words
as_words before (Read xs l) = Read (with_formula before (row_element (lone xs.last xs.elements))) l
as_words before (Refused r) = Refused r

-- elements of words in this context, followed by those behind a change of size
abbrev pub as_resized : TextSize → Context → List Element → Outcome Words → Outcome Words
as_resized size c before (Read ws l) = Read (with_resized size c before ws.elements) l
as_resized size c before (Refused r) = Refused r

-- elements of words that are followed by an atom
abbrev pub as_atom_in_words : List Element → Outcome Core → Outcome Words
as_atom_in_words before (Read x l) = Read (with_formula before x.atom.element) l
as_atom_in_words before (Refused r) = Refused r

-- where the outcome of an operand leads
abbrev pub OperandMade : Level → Outcome Operand → Type 0
OperandMade (operand place c K) o = K o
OperandMade level o = ⊥

-- where the outcome of a part of words leads
abbrev pub PartMade : Level → Outcome Words → Type 0
PartMade (part K) o = K o
PartMade (words place c K) (Read ws l) = (o : Outcome Words) → ReadsWords place c ws l o → K o
PartMade (words place c K) (Refused r) = K (Refused r)
PartMade level o = ⊥

-- whatever the outcome of what is due from here, it leads where the level says
abbrev pub Leads : Level → Units → Type 0
Leads (row ending c xs K) l = (o : Outcome Row) → ReadsAtoms ending c xs l o → K o
Leads (operand place c K) l = (o : Outcome Operand) → ReadsOperand place c l o → K o
Leads (core place c K) l = RuleLeads (reads_core place c (λ x. gives x)) K l
Leads (part K) l = ⊥
Leads (words place c K) l = ⊥

-- whatever the outcome of what follows a change, it leads to K
abbrev pub FollowsChange : Ending → (Outcome Row → Type 0) → Rest → Type 0
FollowsChange ending K (GoesOnIn c xs l) = (o : Outcome Row) → ReadsAtoms ending c xs l o → K o
FollowsChange ending K (NoRest r) = K (Refused r)

abbrev pub RestLeads : Change → ℕ → Level → Units → Type 0
RestLeads change place (row ending c xs K) l = FollowsChange ending K (rest_of change c xs place l)
RestLeads change place level l = ⊥

-- whatever the outcome of one part of words after these, it leads on
abbrev pub WordLeads : Level → ℕ → Context → Words → Units → Type 0
WordLeads level place c ws l = (o : Outcome Words) → ReadsWord place c ws l o → PartMade level o

-- the formula is refused at the level
abbrev pub Refuses : Level → Refusal → Type 0
Refuses (row ending c xs K) r = K (Refused r)
Refuses (operand place c K) r = K (Refused r)
Refuses (core place c K) r = K (Refused r)
Refuses (part K) r = K (Refused r)
Refuses (words place c K) r = K (Refused r)

-- the outcome of an atom whose core was read
abbrev pub as_atom : Outcome Core → Outcome Atom
as_atom (Read x l) = Read x.atom l
as_atom (Refused r) = Refused r
