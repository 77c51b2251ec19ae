-- The input of a call results in one text.
use Rattle.std.proofs.Common.{◌≡◌, ◌==◌, ◌<◌, ◌≤◌, inl, inr, ℕ, Bool, true, false, List, arith, codes, sym, ap, ◌∙◌, subst}
use Rattle.std.specs.Str.{chars}
use Rattle.latex2mathml.specs.Formulas.{DisplayStyle}
use Rattle.latex2mathml_tex_units.specs.ErrorTexts.{refusal_text}
use Rattle.latex2mathml_tex.specs.Answers.{style_in}
use Rattle.latex2mathml_tex_grammar.specs.{DefinitionLaws.HaveOneTableOrRefusal, DefinitionTexts.Defines, Formulas.IsReading, Formulas.IsRefusal, Formulas.row_print, Formulas.row_print_with_source}
use Rattle.latex2mathml_tex_grammar.specs.{Laws.HaveOneReading, Macros.Table, Rows.Row, Symbols.Style}
use Rattle.latex2mathml_c.specs.TexTexts.{Given, HasTexText, IsMarkup, IsNoText, IsRead, IsReadable, IsTexText, annotation}
use Rattle.latex2mathml_c.specs.declared.Status.{Status}
use Rattle.latex2mathml_c.specs.declared.Status.TheVariants.{Done, Refused, NotUtf8, TooSmall, OutOfMemory, DefinitionRefused, UnknownFlags}
use Rattle.latex2mathml_c.proofs.Calls.{AreTexts}

pub are_tex_texts : (given : Given) (place : ℕ) → AreTexts (IsTexText given place)
are_tex_texts given place = record { roomy = λ text is. is.1; found = λ text is. is.1 }

-- what is read is a text of the call
readable_text : (given : Given) (place : ℕ) (status : Status) (text : List ℕ) → IsReadable given → IsRead (given.flags == annotation) given.definitions given.tex given.display place status text → IsTexText given place status text
readable_text given place Done text readable is = (readable, is)
readable_text given place Refused text readable is = (readable, is)
readable_text given place DefinitionRefused text readable is = (readable, is)
readable_text given place NotUtf8 text readable is = absurd is
readable_text given place TooSmall text readable is = absurd is
readable_text given place OutOfMemory text readable is = absurd is
readable_text given place UnknownFlags text readable is = absurd is

-- the same where the texts have other names
pub read_text : (given : Given) (definitions tex : List ℕ) (place : ℕ) (status : Status) (text said : List ℕ) → definitions ≡ given.definitions → tex ≡ given.tex → said ≡ text → IsReadable given → IsRead (given.flags == annotation) definitions tex given.display place status text → IsTexText given place status said
read_text given definitions tex place status text said d t s readable is =
    let there = subst (λ x. IsRead (given.flags == annotation) x tex given.display place status text) d is in
    let is' = subst (λ x. IsRead (given.flags == annotation) given.definitions x given.display place status text) t there in
    subst (IsTexText given place status) (sym s) (readable_text given place status text readable is')

-- only one sentence says which of the two texts is not UTF-8
no_text : (given : Given) (text again : List ℕ) → IsNoText given text → IsNoText given again → text ≡ again
no_text given text again (inl (broken, told)) (inl (broken', told')) = told ∙ sym told'
no_text given text again (inl (broken, told)) (inr (utf8, broken', told')) = absurd (broken utf8)
no_text given text again (inr (utf8, broken, told)) (inl (broken', told')) = absurd (broken' utf8)
no_text given text again (inr (utf8, broken, told)) (inr (utf8', broken', told')) = told ∙ sym told'

unreadable : (given : Given) (text : List ℕ) → IsReadable given → IsNoText given text → ⊥
unreadable given text readable (inl (broken, told)) = broken readable.definitions
unreadable given text readable (inr (utf8, broken, told)) = broken readable.tex

-- where a text comes from: from the flags, from bytes that are not text, or from what was read
data Seen (given : Given) (status : Status) (text : List ℕ) : Type 0 where
  flagged : annotation < given.flags → text ≡ codes "The flags must be 0 or LATEX2MATHML_ANNOTATION." → Seen given status text
  coded : given.flags ≤ annotation → IsNoText given text → Seen given status text
  readable : (place : ℕ) → IsReadable given → IsRead (given.flags == annotation) given.definitions given.tex given.display place status text → Seen given status text

seen : (given : Given) (place : ℕ) (status : Status) (text : List ℕ) → IsTexText given place status text → Seen given status text
seen given place UnknownFlags text is = flagged is.1 is.2
seen given place NotUtf8 text is = coded is.1 is.2
seen given place Done text is = readable place is.0 is.1
seen given place Refused text is = readable place is.0 is.1
seen given place DefinitionRefused text is = readable place is.0 is.1
seen given place TooSmall text is = absurd is.1
seen given place OutOfMemory text is = absurd is.1

-- a row as it is written, with an annotation or without
abbrev print_of : Bool → Style → List ℕ → Row → List ℕ
print_of false style tex row = row_print style row
print_of true style tex row = row_print_with_source style tex row

printed : (is_annotated : Bool) (macros : Table) (tex : List ℕ) (display : DisplayStyle) (text : List ℕ) → IsMarkup is_annotated macros tex display text → (row : Row) × IsReading macros (chars tex) (style_in display) row × (text ≡ print_of is_annotated (style_in display) (chars tex) row)
printed false macros tex display text markup = markup.0.0
printed true macros tex display text markup = markup.0.0

-- by the laws of formulas and of definitions
module _ (readings : HaveOneReading) (tables : HaveOneTableOrRefusal) where
  -- what holds under macros that definitions define holds under any others that they define
  moved : (definitions : List ℕ) (macros others : Table) (P : Table → Type 0) → Defines (chars definitions) macros → Defines (chars definitions) others → P others → P macros
  moved definitions macros others P defines also p =
      subst P ((tables (chars definitions)).one_table others macros also defines) p

  -- two texts of a formula are the same text
  one_read : (is_annotated : Bool) (definitions tex : List ℕ) (display : DisplayStyle) (place : ℕ) (status : Status) (text : List ℕ) (elsewhere : ℕ) (other : Status) (again : List ℕ) → IsRead is_annotated definitions tex display place status text → IsRead is_annotated definitions tex display elsewhere other again → text ≡ again
  one_read is_annotated definitions tex display place Done text elsewhere Done again (p, (macros, defines, markup)) (q, (others, also, markup')) =
      let (row, reading, e) = printed is_annotated macros tex display text markup in
      let (row', reading', e') = printed is_annotated others tex display again markup' in
      let reading'' = moved definitions macros others (λ m. IsReading m (chars tex) (style_in display) row') defines also reading' in
      e ∙ ap (print_of is_annotated (style_in display) (chars tex)) ((readings macros (chars tex) (style_in display)).one_reading row row' reading reading'') ∙ sym e'
  one_read is_annotated definitions tex display place Done text elsewhere Refused again (p, (macros, defines, markup)) (others, also, (r, refused, told)) =
      let (row, reading, e) = printed is_annotated macros tex display text markup in
      absurd ((readings macros (chars tex) (style_in display)).never_both row r reading (moved definitions macros others (λ m. IsRefusal m (chars tex) (style_in display) r) defines also refused))
  one_read is_annotated definitions tex display place Done text elsewhere DefinitionRefused again (p, (macros, defines, markup)) (r, refused, told) =
      absurd ((tables (chars definitions)).never_both macros r defines refused)
  one_read is_annotated definitions tex display place Refused text elsewhere Done again (others, also, (r, refused, told)) (q, (macros, defines, markup)) =
      let (row, reading, e) = printed is_annotated macros tex display again markup in
      absurd ((readings macros (chars tex) (style_in display)).never_both row r reading (moved definitions macros others (λ m. IsRefusal m (chars tex) (style_in display) r) defines also refused))
  one_read is_annotated definitions tex display place Refused text elsewhere Refused again (macros, defines, (r, refused, told)) (others, also, (r', refused', told')) =
      let refused'' = moved definitions macros others (λ m. IsRefusal m (chars tex) (style_in display) r') defines also refused' in
      told.1 ∙ ap refusal_text ((readings macros (chars tex) (style_in display)).one_refusal r r' refused refused'') ∙ sym told'.1
  one_read is_annotated definitions tex display place Refused text elsewhere DefinitionRefused again (macros, defines, refusal) (r, refused, told) =
      absurd ((tables (chars definitions)).never_both macros r defines refused)
  one_read is_annotated definitions tex display place DefinitionRefused text elsewhere Done again (r, refused, told) (q, (macros, defines, markup)) =
      absurd ((tables (chars definitions)).never_both macros r defines refused)
  one_read is_annotated definitions tex display place DefinitionRefused text elsewhere Refused again (r, refused, told) (macros, defines, refusal) =
      absurd ((tables (chars definitions)).never_both macros r defines refused)
  one_read is_annotated definitions tex display place DefinitionRefused text elsewhere DefinitionRefused again (r, refused, told) (r', refused', told') =
      told.1 ∙ ap refusal_text ((tables (chars definitions)).one_refusal r r' refused refused') ∙ sym told'.1
  one_read is_annotated definitions tex display place NotUtf8 text elsewhere other again is also = absurd is
  one_read is_annotated definitions tex display place TooSmall text elsewhere other again is also = absurd is
  one_read is_annotated definitions tex display place OutOfMemory text elsewhere other again is also = absurd is
  one_read is_annotated definitions tex display place UnknownFlags text elsewhere other again is also = absurd is
  one_read is_annotated definitions tex display place status text elsewhere NotUtf8 again is also = absurd also
  one_read is_annotated definitions tex display place status text elsewhere TooSmall again is also = absurd also
  one_read is_annotated definitions tex display place status text elsewhere OutOfMemory again is also = absurd also
  one_read is_annotated definitions tex display place status text elsewhere UnknownFlags again is also = absurd also

  -- two texts of a call are the same text
  one_seen : (given : Given) (status other : Status) (text again : List ℕ) → Seen given status text → Seen given other again → text ≡ again
  one_seen given status other text again (flagged flags told) (flagged flags' told') = told ∙ sym told'
  one_seen given status other text again (flagged flags told) (coded none told') = absurd (omega (arith, flags, none))
  one_seen given status other text again (flagged flags told) (readable place fine is) = absurd (omega (arith, flags, fine.known_flags))
  one_seen given status other text again (coded none told) (flagged flags told') = absurd (omega (arith, flags, none))
  one_seen given status other text again (coded none told) (coded none' told') = no_text given text again told told'
  one_seen given status other text again (coded none told) (readable place fine is) = absurd (unreadable given text fine told)
  one_seen given status other text again (readable place fine is) (flagged flags told) = absurd (omega (arith, flags, fine.known_flags))
  one_seen given status other text again (readable place fine is) (coded none told) = absurd (unreadable given again fine told)
  one_seen given status other text again (readable place fine is) (readable place' fine' is') =
      one_read (given.flags == annotation) given.definitions given.tex given.display place status text place' other again is is'

  pub one_tex_text : (given : Given) (status : Status) (text : List ℕ) (other : Status) (again : List ℕ) → HasTexText given status text → HasTexText given other again → text ≡ again
  one_tex_text given status text other again is also =
      one_seen given status other text again (seen given is.0 status text is.1) (seen given also.0 other again also.1)
