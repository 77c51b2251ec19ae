-- What holds of the parser where a row ends whose elements are put as one.
use Rattle.std.proofs.Common.{◌≡◌, ◌∙◌, ℕ, ◌+◌, ◌∷◌, drop, take, None, ap, arith}
use Rattle.std.proofs.lemmas.List.{drop-drop, length-drop}
use Rattle.latex2mathml_elements.specs.Element.{Element}
use Rattle.latex2mathml_builder.specs.Built.{Built, elements_in}
use Rattle.latex2mathml_tex_grammar.specs.{Makes.arrow_label, Makes.core, Makes.ordinary, Makes.root, Rows.lone, Rows.row_element}
use Rattle.latex2mathml_tex_grammar.specs.{Rules.gives, Symbols.InScript}
use Rattle.latex2mathml_tex_grammar.specs.Rules as rules
use Rattle.latex2mathml_tex.specs.{Frames.Start, Frames.context_at, Frames.labeled_arrow, Innermost.frame_context, Levels.Leads}
use Rattle.latex2mathml_tex_atoms.specs.Models.{context_of, core_with, height_of, kind_of, top}
use Rattle.latex2mathml_tex_commands.specs.declared.meaning.Style.TheVariants as style
use Rattle.latex2mathml_tex.specs.Steps.{CanMake, ClosesRow, Follows, Holds, InnermostIs, Made, core_made, elements_of, left_of, level, level_within, operand_made, to_do, words_made}
use Rattle.latex2mathml_tex_atoms.specs.declared.{atoms.Context.Context, atoms.Core.Core as CodeCore, atoms.Operand.Operand as CodeOperand, atoms.Row.Row as CodeRow}
use Rattle.latex2mathml_tex.specs.declared.parse.Parser.{Parser}
use Rattle.latex2mathml_tex.specs.declared.parse.State.TheVariants as state
use Rattle.latex2mathml_tex.specs.declared.parse.frames.Frame.{Frame}
use Rattle.latex2mathml_tex.specs.declared.parse.endings.Ending.TheVariants as ending
use Rattle.latex2mathml_tex.specs.declared.parse.frames.Frame.TheVariants as frame
use Rattle.latex2mathml_tex.specs.declared.parse.frames.Last.TheVariants as last
use Rattle.latex2mathml_tex.proofs.Leading.{given, operand_due}
use Rattle.latex2mathml_tex_atoms.proofs.Wording.{drop_more, take_more}
use Rattle.latex2mathml_tex.proofs.Opening.{context_is}

-- the elements of the row are one element
abbrev pub IsOne : CodeRow → Parser → Built → Type 0
IsOne row p b = elements_in b ≡ row_element (take row.count (elements_of p)) ∷ drop row.count (elements_of p)

module _ (p : Parser) (b : Built) (row : CodeRow) {x : Element} (one : elements_in b ≡ x ∷ drop row.count (elements_of p)) where
  -- one element is there in place of those of the row
  pub closed_can : (m : Made) (n : ℕ) → CanMake m (row.count + n) p → CanMake m (n + 1) (record p { builder = b })
  closed_can m n can = record {
    elements = rw one (omega (arith, can.elements, length-drop row.count (elements_of p)));
    awaits = record { accepted = can.awaits.accepted; nested = can.awaits.nested };
  }

  pub core_closed_step : (c : CodeCore) → CanMake core_made (row.count + 0) p → Follows (to_do p + 13) (record p { builder = b }) (state.Core c)
  core_closed_step c can = let made = closed_can core_made 0 can in record { ready = record { elements = made.elements; may_come = made.awaits }; falls = omega arith }

  pub operand_closed_step : (o : CodeOperand) → CanMake operand_made (row.count + 0) p → Follows (to_do p + 13) (record p { builder = b }) (state.Operand o)
  operand_closed_step o can = let made = closed_can operand_made 0 can in record { ready = record { elements = made.elements; may_come = made.awaits }; falls = omega arith }

  pub words_closed_step : (n : ℕ) → CanMake words_made (row.count + n) p → Follows (to_do p + 13) (record p { builder = b }) (state.Words (record { count = n + 1; last = None; accent = None }))
  words_closed_step n can = let made = closed_can words_made n can in record { ready = record { elements = made.elements; may_come = made.awaits }; falls = omega arith }

module _ (s : Start) (p : Parser) (b : Built) (place : ℕ) (row : CodeRow) where
  none_beside : row.count + 0 ≡ row.count
  none_beside = omega arith

  -- the atom of a row in braces
  abbrev pub group : Element
  group = row_element (lone (kind_of row.last) (take row.count (elements_of p)))

  pub group_closed : elements_in b ≡ group ∷ drop row.count (elements_of p) → (c : CodeCore) → core_with c group ≡ core (ordinary (height_of row.height) group) → ClosesRow ending.Group place row s p → Holds s (record p { builder = b }) (state.Core c)
  group_closed one c is g = record { style = g.style; claims = rw (one, is) (rw none_beside at (given g.leads)) }

  pub formula_closed : elements_in b ≡ group ∷ drop row.count (elements_of p) → (n : ℕ) → ClosesRow (ending.Formula n) place row s p → Holds s (record p { builder = b }) (state.Words (record { count = n + 1; last = None; accent = None }))
  formula_closed one n g =
      let behind = drop row.count (elements_of p) in
      let first : take (n + 1) (elements_in b) ≡ group ∷ take n behind = ap (take (n + 1)) one ∙ take_more n group behind in
      let others : drop (n + 1) (elements_in b) ≡ drop (row.count + n) (elements_of p) =
      ap (drop (n + 1)) one ∙ drop_more n group behind ∙ drop-drop n row.count (elements_of p) in
      record { style = g.style; claims = rw (first, others) g.leads }

module _ (s : Start) (p : Parser) (b : Built) (place : ℕ) (row : CodeRow) (one : IsOne row p b) where
  -- the operand of the root is due, in the context of the level
  pub degree_closed : (f : Frame) (c : Context) → InnermostIs f p → c ≡ frame_context f → ClosesRow ending.Degree place row s p → Leads (level_within (frame.Last last.Root place c) 0 s (record p { builder = b })) (left_of p)
  degree_closed f c inner is g =
      let same = ap context_of is ∙ context_is s p.style p.frames.stack.items f (drop row.count (elements_of p)) g.style inner in
      let x = row_element (take row.count (elements_of p)) in
      rw (one, same) (operand_due (λ y. gives (root x y)) (rw (none_beside s p b place row) at g.leads))

-- the elements of the row are the label of an arrow
abbrev pub IsLabel : CodeRow → Parser → Built → Type 0
IsLabel row p b = elements_in b ≡ arrow_label (row_element (take row.count (elements_of p))) ∷ drop row.count (elements_of p)

module _ (s : Start) (p : Parser) (b : Built) (place : ℕ) (row : CodeRow) (label : IsLabel row p b) where
  -- the label above the arrow is due, in a script of the context of the level
  pub arrow_closed : (f : Frame) (c small : Context) → InnermostIs f p → c ≡ frame_context f → small ≡ record c { style = style.InScript } → ClosesRow ending.BelowArrow place row s p → Leads (level_within (frame.Last last.OverAndUnderArrow place small) 0 s (record p { builder = b })) (left_of p)
  arrow_closed f c small inner is smaller g =
      let same = ap context_of is ∙ context_is s p.style p.frames.stack.items f (drop (row.count + 1) (elements_of p)) g.style inner in
      let within : context_of small ≡ rules.styled (context_at (level (row.count + 1) s p)) InScript = ap context_of smaller ∙ ap (λ (d : rules.Context). rules.styled d InScript) same in
      let x = arrow_label (row_element (take row.count (elements_of p))) in
      let behind = drop row.count (elements_of p) in
      let others : drop 1 behind ≡ drop (row.count + 1) (elements_of p) = drop-drop 1 row.count (elements_of p) in
      rw (label, within, others) (operand_due (λ y. gives (labeled_arrow (top behind) x y.element)) g.leads)
