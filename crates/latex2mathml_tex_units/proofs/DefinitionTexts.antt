-- The definitions of a text, one after another.
use Rattle.std.proofs.Common.{◌≡◌, ℕ, suc, ◌<◌, ◌≤◌, Some, None, sym, ap, subst, ◌∙◌, arith}
use Rattle.std.specs.Prelude.{Ok, Err}
use Rattle.latex2mathml_tex_grammar.specs.Definitions.{Definition, behind_definition, definition_of, word_of}
use Rattle.latex2mathml_tex_grammar.specs.Definitions as definitions
use Rattle.latex2mathml_tex_grammar.specs.DefinitionTexts.{ReadsDefinitions, past_prefixes, defines, definition_refused, no_definition, no_more, stopped}
use Rattle.latex2mathml_tex_grammar.specs.{Macros.SameMacros, Macros.Table, Macros.unit_count, Reading.Outcome, Reading.Read, Reading.Refused, Refusal.NoDefinition, Refusal.Refusal, Refusal.refusal_at, UsualMacros.usual_macros}
use Rattle.latex2mathml_tex_grammar.specs.Units as units
use Rattle.latex2mathml_tex_grammar.specs.Units.{Units}
use Rattle.latex2mathml_tex_grammar.proofs.SameTables.{behind_same}
use Rattle.latex2mathml_tex_grammar.proofs.{DefinitionTexts.no_more_past_prefixes, Shrinking.Leaves, Shrinking.definition_leaves}
use Rattle.latex2mathml_tex_units.specs.{MacroTables.table_of, Texts.ReadsTo, Taking.kind_of}
use Rattle.latex2mathml_tex_units.specs.declared.macros.{halt.Halt.Halt, scope.Scope.Scope}
use Rattle.latex2mathml_tex_units.specs.declared.macros.halt.Halt.TheVariants as halt
use Rattle.latex2mathml_tex_units.specs.{Defined.definition_in, Pending.Comes}

-- the outcome of the units that are left is that of the whole text
abbrev pub Leads : Units → Scope → Units → Type 0
Leads start scope l = (table : Table) × SameMacros table (table_of scope) × (scope.outer ≡ None) × ((o : Outcome Table) → ReadsDefinitions table l o → ReadsDefinitions usual_macros start o)

pub leads_first : (start l : Units) (scope : Scope) → SameMacros (table_of scope) usual_macros → scope.outer ≡ None → l ≡ start → Leads start scope l
leads_first start l scope same own e = (usual_macros, λ name. sym (same name), own, λ o d. subst (λ k. ReadsDefinitions usual_macros k o) e d)

pub all_defined : (start l k : Units) (scope : Scope) (place : ℕ) → Leads start scope l → k ≡ past_prefixes l → k ≡ units.End place → ReadsTo (Ok scope) start
all_defined start l k scope place (table, same, own, leads) s e = (table, place, leads _ (no_more (sym s ∙ e)), same, own)

pub text_stopped : (start l k : Units) (scope : Scope) (r : Refusal) → Leads start scope l → k ≡ past_prefixes l → k ≡ units.Stop r → ReadsDefinitions usual_macros start (Refused r)
text_stopped start l k scope r (table, same, own, leads) s e = leads _ (stopped (sym s ∙ e))

pub not_defined : (start l k m : Units) (scope : Scope) (u : units.Unit) → Leads start scope l → k ≡ past_prefixes l → k ≡ units.Next u m → None ≡ word_of u.piece → ReadsDefinitions usual_macros start (Refused (refusal_at NoDefinition u.place))
not_defined start l k m scope u (table, same, own, leads) s e none = leads _ (no_definition (sym s ∙ e) (sym none))

pub text_refused : (start l k m : Units) (scope : Scope) (u : units.Unit) (word : definitions.Word) (r : Refusal) → Leads start scope l → k ≡ past_prefixes l → k ≡ units.Next u m → Some word ≡ word_of u.piece → definition_of word u.place m ≡ Refused r → ReadsDefinitions usual_macros start (Refused r)
text_refused start l k m scope u word r (table, same, own, leads) s e w d = leads _ (definition_refused (sym s ∙ e) (sym w) d)

-- whatever ends a definition ends the text
pub text_halted : (h : Halt) (start l k m n : Units) (scope : Scope) (u : units.Unit) (word : definitions.Word) → Leads start scope l → k ≡ past_prefixes l → k ≡ units.Next u m → Some word ≡ word_of u.piece → Comes (Err h) definition_in (definition_of word u.place m) n → ReadsTo (Err h) start
text_halted (halt.Refused fault place) start l k m n scope u word leads s e w d = text_refused start l k m scope u word (refusal_at (kind_of fault) place) leads s e w d
text_halted halt.OutOfMemory start l k m n macros u word leads s e w d = tt

pub text_defines : (start l k m n : Units) (scope new : Scope) (u : units.Unit) (word : definitions.Word) (d : Definition)
    → Leads start scope l → k ≡ past_prefixes l → k ≡ units.Next u m → Some word ≡ word_of u.piece → definition_of word u.place m ≡ Read d n
    → SameMacros (table_of new) (behind_definition word d (table_of scope)) → new.outer ≡ scope.outer → Leads start new n
text_defines start l k m n scope new u word d (table, same, own, leads) s e w read held kept =
    (behind_definition word d table, λ name. behind_same word d table (table_of scope) same name ∙ sym (held name), kept ∙ own, λ o r. leads o (defines (sym s ∙ e) (sym w) read r))

pub text_smaller : (l k m n : Units) (u : units.Unit) (word : definitions.Word) (d : Definition) → k ≡ past_prefixes l → k ≡ units.Next u m → definition_of word u.place m ≡ Read d n → unit_count n < unit_count l
text_smaller l k m n u word d s e read =
    let taken : unit_count n ≤ unit_count m = subst (Leaves (unit_count m)) read (definition_leaves word u.place m) in
    let seen : unit_count k ≡ suc (unit_count m) = ap unit_count e in
    let passed : unit_count k ≤ unit_count l = subst (λ x. unit_count x ≤ unit_count l) (sym s) (no_more_past_prefixes l) in
    omega (arith, taken, seen, passed)
