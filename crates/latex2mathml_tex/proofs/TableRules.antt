-- What holds of the parser where tables begin and end.
use Rattle.std.specs.Prelude.{⊤}
use Rattle.std.proofs.Common.{◌≡◌, ℕ, ◌+◌, ◌<◌, ◌≤◌, List, [], ◌∷◌, Option, Some, None, true, false, drop, option_map, reverse, sum_by, take, Result, refl, sym, ap, subst, ◌∙◌, arith}
use Rattle.std.specs.{Borrow.Bor, declared.alloc.AllocError.AllocError}
use Rattle.std.specs.Str.{bytes_eq}
use mathlib.Core.List.{reverse_aux}
use Rattle.latex2mathml_elements.specs.Attributes as attributes
use Rattle.latex2mathml_elements.specs.Attributes.{Attributes}
use Rattle.latex2mathml_elements.specs.Columns.{Columns, Alike, Centered, Dense, InDiagram}
use Rattle.latex2mathml_elements.specs.{Element.Element, Element.table, Tables.attributes_in}
use Rattle.latex2mathml_builder.specs.{Built.Built, Built.elements_in, Stacks.table_with}
use Rattle.latex2mathml_attributes.specs.Columns.{are_in_diagram, columns_of}
use Rattle.latex2mathml_attributes.specs.declared.columns.Columns.{Columns as CodeColumns}
use Rattle.latex2mathml_attributes.specs.{Names.math_style_of, declared.attributes.MathStyle.MathStyle}
use Rattle.latex2mathml_tex_grammar.specs.{Atoms.Plain, Atoms.atom, Makes.core, Refusal.Refusal}
use Rattle.latex2mathml_tex_grammar.specs.Rules.{ByBrace, ByName, ByText, TableEnd, Context as RuleContext, end_in, Rule, ended_table, gives, passes_over, reads_rows, rows_of_text, rows_rule, styled, takes_found}
use Rattle.latex2mathml_tex_grammar.specs.Scanning.{BeforeArgument, BeforeRow, Name, Spot, past, past_break}
use Rattle.latex2mathml_tex_grammar.specs.Symbols as symbols
use Rattle.latex2mathml_tex_grammar.specs.Tables.{Lines, a_table, between_any, height_of, rows_of, rows_onto, said_style, table_class}
use Rattle.latex2mathml_tex.specs.Frames.{Start, context_at}
use Rattle.latex2mathml_tex.specs.Levels.{CoreMade, Refuses, RuleLeads}
use Rattle.latex2mathml_tex_units.specs.{Errors.refusal_of, Left.unit_count, Left.units_at}
use Rattle.latex2mathml_tex_commands.specs.Meanings.{style_of}
use Rattle.latex2mathml_tex_atoms.specs.Models.{context_of}
use Rattle.latex2mathml_tex.specs.Steps.{Begins, BeginsIn, BeginsTable, EndsRows, Follows, HasElements, Holds, InnermostIs, Advances, MakesTable, TookText, elements_of, frame_weight, left_of, level, to_do}
use Rattle.latex2mathml_tex_units.specs.Environments.{delimiter_texts, environment_of}
use Rattle.latex2mathml_tex.specs.Tables.{after_rows, behind_environment}
use Rattle.latex2mathml_tex.specs.Innermost.{frame_context}
use Rattle.latex2mathml_tex_atoms.specs.Models.{core_with}
use Rattle.latex2mathml_tex_units.specs.declared.{environments.Environment.Environment, error.TexError.TexError, input.Input.Input}
use Rattle.latex2mathml_tex_commands.specs.declared.meaning.Style.{Style}
use Rattle.latex2mathml_tex_atoms.specs.declared.{atoms.Context.Context, atoms.Core.Core as CodeCore}
use Rattle.latex2mathml_tex.specs.declared.{parse.Parser.Parser, parse.State.State}
use Rattle.latex2mathml_tex.specs.declared.parse.frames.Frame.{Frame}
use Rattle.latex2mathml_tex.specs.declared.parse.State.TheVariants as state
use Rattle.latex2mathml_tex.proofs.Leading.{found, given, not_found, passed, rows_due}
use Rattle.latex2mathml_tex_units.proofs.Scanned.{no_more_past, no_more_past_break, no_more_scanned}
use Rattle.latex2mathml_tex.proofs.{Marks.all_refuse, Marks.core_refuses, Rows.refused_within, Rows.step_within, Opening.context_is}
use Rattle.latex2mathml_tex.specs.declared.parse.endings.TableKind.TheVariants as kind

-- A formula that is refused without the n uppermost elements
pub refused_at : (s : Start) (p q : Parser) (n : ℕ) (r : Refusal) → q.style ≡ p.style → refusal_of q.refusal ≡ Some r → s.style ≡ style_of p.style → Refuses (level n s p) r → Holds s q state.Refused
refused_at s p q n r same reported style k =
    record { style = style ∙ ap style_of (sym same); claims = rw reported (all_refuse r s (reverse p.frames.stack.items) (drop n (elements_of p)) k) }

-- Texts that are taken

pub took_none : {A : Type 0} (bytes : A → List ℕ) (place : ℕ) (spot : Spot) (p q : Parser) (text : Option A) → text ≡ None → TookText place spot p q (option_map bytes text) → TookText place spot p q None
took_none bytes place spot p q text is h = subst (λ t. TookText place spot p q (option_map bytes t)) is h

pub took_some : {A : Type 0} (bytes : A → List ℕ) (place : ℕ) (spot : Spot) (p q : Parser) (text : Option A) (taken : A) → text ≡ Some taken → TookText place spot p q (option_map bytes text) → TookText place spot p q (Some (bytes taken))
took_some bytes place spot p q text taken is h = subst (λ t. TookText place spot p q (option_map bytes t)) is h

module _ (p q : Parser) (place : ℕ) (spot : Spot) where
  pub text_refused : (s : Start) (n : ℕ) (then : List ℕ → Rule) → TookText place spot p q None → s.style ≡ style_of p.style → RuleLeads (takes_found spot place then) (CoreMade (level n s p)) (left_of p) → Holds s q state.Refused
  text_refused s n then (r, (same, (reported, (fewer, missing)))) style k =
      refused_at s p q n r (ap (λ (x : Parser). x.style) same) reported style (core_refuses r (level n s p) (not_found missing k))

  module _ (text : List ℕ) (took : TookText place spot p q (Some text)) where
    fewer : unit_count (left_of q) ≤ unit_count (left_of p)
    fewer = no_more_scanned place (left_of p) (left_of q) spot text took.1

    pub text_taken : (s : Start) (c : Context) (then : List ℕ → Rule) → BeginsIn c (takes_found spot place then) 0 s p → BeginsIn c (then text) 0 s q
    text_taken s c then g =
        subst (λ x. BeginsIn c (then text) 0 s x) (sym took.0) (record { style = g.style; context = g.context; leads = found then took.1 g.leads })

    pub text_within : (n m : ℕ) (new : Parser) (st : State) (answer : Result ⊤ AllocError) → n ≤ m → Advances n q new st answer → Advances m p new st answer
    text_within n m new st answer h step =
        let frames : sum_by frame_weight q.frames.stack.items ≡ sum_by frame_weight p.frames.stack.items = ap (λ (x : Parser). sum_by frame_weight x.frames.stack.items) took.0 in
        step_within p q new st answer n m (omega (arith, frames, fewer, h)) step

    pub text_step : (n : ℕ) (new : Parser) (st : State) (answer : Result ⊤ AllocError) → n ≤ 13 → Advances n q new st answer → Advances 13 p new st answer
    text_step n = text_within n 13

    -- the formula is refused after the text

    module _ (new : Parser) (st : State) (error : TexError) (same : new ≡ record q { refusal = error }) (is : st ≡ state.Refused) where
      pub refused_behind : (s : Start) (n : ℕ) (r : Refusal) → refusal_of error ≡ Some r → s.style ≡ style_of p.style → Refuses (level n s p) r → Holds s new st
      refused_behind s n r reported style k =
          subst (λ t. Holds s new t) (sym is)
          (refused_at s p new n r (ap (λ (x : Parser). x.style) same ∙ ap (λ (x : Parser). x.style) took.0) (ap (λ (x : Parser). refusal_of x.refusal) same ∙ reported) style k)

      pub refused_behind_within : (m : ℕ) → 0 < m → HasElements 0 p → Follows (to_do p + m) new st
      refused_behind_within m some enough =
          refused_within p new q.input error st (same ∙ ap (λ (x : Parser). record x { refusal = error }) took.0) is m some fewer enough

      pub refused_behind_step : HasElements 0 p → Follows (to_do p + 13) new st
      refused_behind_step = refused_behind_within 13 (omega arith)

-- What is passed over

pub passed_begins : (s : Start) (p : Parser) (i : Input) (c : Context) (spot : Spot) (then : Rule) → units_at i ≡ past spot (left_of p) → BeginsIn c (passes_over spot then) 0 s p → BeginsIn c then 0 s (record p { input = i })
passed_begins s p i c spot then units g = record { style = g.style; context = g.context; leads = subst (λ l. RuleLeads then (CoreMade (level 0 s p)) l) (sym units) (passed g.leads) }

pub passed_step : (p : Parser) (i : Input) (spot : Spot) (n m : ℕ) (new : Parser) (st : State) (answer : Result ⊤ AllocError) → units_at i ≡ past spot (left_of p) → n ≤ m → Advances n (record p { input = i }) new st answer → Advances m p new st answer
passed_step p i spot n m new st answer units h step =
    let fewer : unit_count (units_at i) ≤ unit_count (left_of p) = rw units (no_more_past spot (left_of p)) in
    step_within p (record p { input = i }) new st answer n m (omega (arith, fewer, h)) step

-- Rows begin

-- columns are those of a diagram, or they are not
the_columns : (columns : Columns) → are_in_diagram columns ≡ true → columns ≡ InDiagram
the_columns InDiagram h = refl
the_columns columns h = cc

name_ends : (columns : Columns) → are_in_diagram columns ≡ false → end_in columns ≡ ByName
name_ends InDiagram h = cc
name_ends columns h = refl

module _ (s : Start) (p : Parser) (e : Bor Environment) (columns : CodeColumns) (place : ℕ) (c : Context) (g : BeginsIn c (rows_rule place (context_of c) e.now.name.now (environment_of e.now) (columns_of columns)) 0 s p) where
  abbrev rows_by : TableEnd → Columns → Rule
  rows_by end columns = reads_rows end place columns (styled (context_at (level 0 s p)) (environment_of e.now).style) (behind_environment e.now columns (context_at (level 0 s p)))

  rows_lead : RuleLeads (rows_by (end_in (columns_of columns)) (columns_of columns)) (CoreMade (level 0 s p)) (left_of p)
  rows_lead = subst (λ c. RuleLeads (rows_rule place c e.now.name.now (environment_of e.now) (columns_of columns)) (CoreMade (level 0 s p)) (left_of p)) g.context g.leads

  pub rows_begin : are_in_diagram (columns_of columns) ≡ false → BeginsTable (kind.Environment e columns) place s p
  rows_begin none =
      let k = subst (λ end. RuleLeads (rows_by end (columns_of columns)) (CoreMade (level 0 s p)) (left_of p)) (name_ends (columns_of columns) none) rows_lead in
      record { style = g.style; leads = λ o d. rows_due (after_rows (kind.Environment e columns) (context_at (level 0 s p))) k o d }

  pub diagram_begins : are_in_diagram (columns_of columns) ≡ true → BeginsTable (kind.Diagram e) place s p
  diagram_begins some =
      let k = subst (λ d. RuleLeads (rows_by (end_in d) d) (CoreMade (level 0 s p)) (left_of p)) (the_columns (columns_of columns) some) rows_lead in
      record { style = g.style; leads = λ o d. rows_due (after_rows (kind.Diagram e) (context_at (level 0 s p))) k o d }

pub substack_begins : (s : Start) (p : Parser) (place : ℕ) (c : Context) → BeginsIn c (reads_rows ByBrace place (Alike Dense Centered) (styled (context_of c) symbols.InScript) (λ lines end. gives (a_table None (Alike Dense Centered) symbols.InScript (context_of c).style lines))) 0 s p → BeginsTable kind.Braces place s p
substack_begins s p place c g =
    let around = context_at (level 0 s p) in
    let k = subst (λ c. RuleLeads (reads_rows ByBrace place (Alike Dense Centered) (styled c symbols.InScript) (λ lines end. gives (a_table None (Alike Dense Centered) symbols.InScript c.style lines))) (CoreMade (level 0 s p)) (left_of p)) g.context g.leads in
    record { style = g.style; leads = λ o d. rows_due (after_rows kind.Braces around) k o d }

-- rows of a whole text
pub text_begins : (s : Start) (p : Parser) (columns : CodeColumns) (place : ℕ) (d : Columns) → columns_of columns ≡ d → place ≡ 0 → Begins (rows_of_text d (context_at (level 0 s p))) 0 s p → BeginsTable (kind.Text columns) place s p
text_begins s p columns place d is first g =
    let around = context_at (level 0 s p) in
    let k = subst (λ e. RuleLeads (reads_rows ByText 0 e (styled around symbols.InDisplay) (λ lines end. gives (a_table None e symbols.InDisplay around.style lines))) (CoreMade (level 0 s p)) (left_of p)) (sym is) g.leads in
    let j = subst (λ n. RuleLeads (reads_rows ByText n (columns_of columns) (styled around symbols.InDisplay) (λ lines end. gives (a_table None (columns_of columns) symbols.InDisplay around.style lines))) (CoreMade (level 0 s p)) (left_of p)) (sym first) k in
    record { style = g.style; leads = λ o d. rows_due (after_rows (kind.Text columns) around) j o d }

-- An environment ends with its own name

pub ended_well : (p q : Parser) (e : Bor Environment) (columns : CodeColumns) (rows at : ℕ) (text : List ℕ) → TookText at (BeforeArgument Name) p q (Some text) → (s : Start) → bytes_eq text e.now.name.now ≡ true → EndsRows (kind.Environment e columns) rows at s p → MakesTable e.now.delimiters columns e.now.style rows s q
ended_well p q e columns rows at text took s same g =
    let around = context_at (level rows s p) in
    let then : List ℕ → Rule = λ other. ended_table at around (environment_of e.now) (columns_of columns) g.lines (bytes_eq other e.now.name.now) in
    subst (λ x. MakesTable e.now.delimiters columns e.now.style rows s x) (sym took.0) (record {
      style = g.style;
      lines = g.lines;
      are = g.are;
      leads = subst (λ b. RuleLeads (ended_table at around (environment_of e.now) (columns_of columns) g.lines b) (CoreMade (level rows s p)) (left_of q)) same (found then took.1 g.leads);
    })

-- A table is made of its rows

rows_reversed : (a : Attributes) (columns : Columns) (ys : List Element) (x : Element) (xs : List Element) → table_with a columns (reverse_aux ys (x ∷ xs)) ≡ table (attributes_in columns a) (rows_onto columns ys x xs)
rows_reversed a columns [] x xs = refl
rows_reversed a columns (y ∷ ys) x xs = rows_reversed a columns ys y (x ∷ xs)

table_of_lines : (a : Attributes) (columns : Columns) (lines : Lines) (xs : List Element) → xs ≡ lines.last ∷ lines.others → table_with a columns (reverse xs) ≡ table (attributes_in columns a) (rows_of columns lines)
table_of_lines a columns lines xs e = ap (λ k. table_with a columns (reverse k)) e ∙ rows_reversed a columns lines.others lines.last []

pub table_made : (s : Start) (p : Parser) (b : Built) (delimiters : Option (Option ℕ × Option ℕ)) (columns : CodeColumns) (own : Style) (rows : ℕ) (f : Frame) (around : Context) (said : Option MathStyle) (c : CodeCore) → around ≡ frame_context f → InnermostIs f p → option_map math_style_of said ≡ said_style (style_of own) (style_of around.style) → elements_in b ≡ between_any (option_map delimiter_texts delimiters) (height_of (take rows (elements_of p))) (table_with (attributes.styled (option_map math_style_of said)) (columns_of columns) (reverse (take rows (elements_of p)))) ∷ drop rows (elements_of p) → ((x : Element) → core_with c x ≡ core (atom (Plain (table_class (option_map delimiter_texts delimiters))) (height_of (take rows (elements_of p))) x)) → MakesTable delimiters columns own rows s p → Holds s (record p { builder = b }) (state.Core c)
table_made s p b delimiters columns own rows f around said c is inner says put core_is g =
    let outer : context_of around ≡ context_at (level rows s p) = ap context_of is ∙ context_is s p.style p.frames.stack.items f (drop rows (elements_of p)) g.style inner in
    let style : option_map math_style_of said ≡ said_style (style_of own) (context_at (level rows s p)).style = says ∙ ap (λ (k : RuleContext). said_style (style_of own) k.style) outer in
    let texts = option_map delimiter_texts delimiters in
    let a = attributes.styled (said_style (style_of own) (context_at (level rows s p)).style) in
    let made = table (attributes_in (columns_of columns) a) (rows_of (columns_of columns) g.lines) in
    let height = height_of (take rows (elements_of p)) in
    let x = between_any texts (height_of (g.lines.last ∷ g.lines.others)) made in
    let one : elements_in b ≡ x ∷ drop rows (elements_of p) =
    put
    ∙ ap (λ k. between_any texts height (table_with (attributes.styled k) (columns_of columns) (reverse (take rows (elements_of p)))) ∷ drop rows (elements_of p)) style
    ∙ ap (λ y. between_any texts height y ∷ drop rows (elements_of p)) (table_of_lines a (columns_of columns) g.lines (take rows (elements_of p)) g.are)
    ∙ ap (λ ys. between_any texts (height_of ys) made ∷ drop rows (elements_of p)) g.are in
    record { style = g.style; claims = rw (one, core_is x ∙ ap (λ ys. core (atom (Plain (table_class texts)) (height_of ys) x)) g.are) (given g.leads) }

-- less is left to do after the lines before the first row
pub begun_step : (p : Parser) (b : Built) (i : Input) (new : Parser) (st : State) (answer : Result ⊤ AllocError) → units_at i ≡ past BeforeRow (left_of p) → Advances 6 (record p { builder = b; input = i }) new st answer → Advances 12 p new st answer
begun_step p b i new st answer units step =
    let fewer : unit_count (units_at i) ≤ unit_count (left_of p) = rw units (no_more_past BeforeRow (left_of p)) in
    step_within p (record p { builder = b; input = i }) new st answer 6 12 (omega (arith, fewer)) step

-- less is left to do after the sign that ends a row
pub broken_step : (p : Parser) (b : Built) (i : Input) (new : Parser) (st : State) (answer : Result ⊤ AllocError) → units_at i ≡ past_break (left_of p) → Advances 6 (record p { builder = b; input = i }) new st answer → Advances 13 p new st answer
broken_step p b i new st answer units step =
    let fewer : unit_count (units_at i) ≤ unit_count (left_of p) = rw units (no_more_past_break (left_of p)) in
    step_within p (record p { builder = b; input = i }) new st answer 6 13 (omega (arith, fewer)) step
