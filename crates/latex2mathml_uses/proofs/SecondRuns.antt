-- A second run of a build reads a page without a dollar sign, so it changes nothing and refuses nothing.
use Rattle.std.proofs.Common.{◌≡◌, ℕ, List, ◌++◌, Option, Some, None, Ok, Err, IsTrue, sym, ap, ◌∙◌, subst, append-nil}
use Rattle.std.specs.{Io.KnownBytes.Consumes, Io.KnownBytes.IsAtEnd, Prelude.IfSome, Prelude.IsUtf8}
use Rattle.latex2mathml.specs.{Documents.IsRefusal, Dollars.IsDollarFree, Inputs.IsReadingOf, Inputs.IsWholeText, Streams.StreamState}
use Rattle.latex2mathml.specs.{declared.error.FileFault.FileFault, declared.input.Reading.Reading}
use Rattle.latex2mathml.specs.declared.error.FileFault.TheVariants.{List as Unlisted, Entry, TooDeep, Read, NotText, Refused, Create, Write}
use Rattle.latex2mathml.specs.declared.input.Reading.TheVariants.{Changed, Unchanged}
use Rattle.latex2mathml.specs.Formulas.{Refusal, refusal_of}
use Rattle.latex2mathml_uses.specs.Builds.{IsFaultOf, page_text}

-- the page of a reading is the answer, and holds no dollar sign
pub page_free : (bytes : List ℕ) (state : StreamState) (reading : Reading) → IsReadingOf bytes state (Ok reading) → IsDollarFree (page_text reading)
page_free bytes state (Changed answer) is = is.2.1
page_free bytes state (Unchanged page) is = subst IsDollarFree (sym is.3) is.1

-- what was read to its end is all of it
all_of : (page : List ℕ) (left : Option (List ℕ)) (bytes : List ℕ) → Consumes (Some page) left bytes → IsAtEnd left → bytes ≡ page
all_of page None bytes gave at_end = absurd gave
all_of page (Some rest) bytes gave at_end = sym (gave ∙ ap (λ l. bytes ++ l) at_end ∙ append-nil bytes)

pub refuses_nothing : (document page : List ℕ) (left : Option (List ℕ)) (bytes : List ℕ) (state : StreamState) (fault : FileFault) → Consumes (Some page) left bytes → (IsTrue state.ended → IsAtEnd left) → IsDollarFree page → IsUtf8 page → IsReadingOf bytes state (Err fault) → IsFaultOf document fault
refuses_nothing document page left bytes state (Refused error) gave at_end free text is = by (refusal_of error) is.0.1 is.1
  where
    by : (told : Option Refusal) → IfSome told (λ refusal. IsWholeText bytes state × IsRefusal bytes refusal) → (IsDollarFree bytes → told ≡ None) → IfSome told (IsRefusal document)
    by None is none = tt
    by (Some refusal) is none = absurd (let k : Some refusal ≡ None = none (subst IsDollarFree (sym (all_of page left bytes gave (at_end (is.0).is_ended))) free) in cc)
refuses_nothing document page left bytes state Read gave at_end free text is = tt
refuses_nothing document page left bytes state NotText gave at_end free text is = absurd (is.0.1 (subst IsUtf8 (sym (all_of page left bytes gave (at_end is.0.0.1))) text))
refuses_nothing document page left bytes state Unlisted gave at_end free text is = is.0
refuses_nothing document page left bytes state Entry gave at_end free text is = is.0
refuses_nothing document page left bytes state TooDeep gave at_end free text is = is.0
refuses_nothing document page left bytes state Create gave at_end free text is = is.0
refuses_nothing document page left bytes state (Write written cause) gave at_end free text is = is.0
