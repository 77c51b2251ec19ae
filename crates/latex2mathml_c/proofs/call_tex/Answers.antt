use Rattle.std.proofs.Common.{inl, inr, refl}
use Rattle.latex2mathml_c.specs.TexTexts.{Given, IsReadable, IsTexText, given_by}
use Rattle.latex2mathml_c.specs.declared.Status.TheVariants.{NotUtf8, UnknownFlags}
use Rattle.latex2mathml_c.proofs.{Calls.put_outcome, TexTexts.are_tex_texts, TexTexts.read_text}
use Rattle.latex2mathml_c.proofs.call_tex.Goals as goal

-- a sentence says what is wrong
pub returns-then-request-gt-ANNOTATION-clause-outcome : goal.returns-then-request-gt-ANNOTATION-clause-outcome
returns-then-request-gt-ANNOTATION-clause-outcome c =
    let given : Given = given_by c.args.request in
    put_outcome (IsTexText given 0) (are_tex_texts given 0) UnknownFlags c.put.result _ (record { old = c.args.out.now; new = c.put.new.out; needed = c.put.new.needed }) (refl, c.if-request-gt-ANNOTATION.true, refl) c.put.ensures

pub returns-in_default-clause-outcome : goal.returns-in_default-clause-outcome
returns-in_default-clause-outcome c =
    let given : Given = given_by c.args.request in
    put_outcome (IsTexText given 0) (are_tex_texts given 0) NotUtf8 c.put-in_default.result _ (record { old = c.args.out.now; new = c.put-in_default.new.out; needed = c.put-in_default.new.needed }) (refl, c.if-request-gt-ANNOTATION.false, inl (c.in_default.ensures.cases.0, refl)) c.put-in_default.ensures

pub returns-in_default-from_utf8-clause-outcome : goal.returns-in_default-from_utf8-clause-outcome
returns-in_default-from_utf8-clause-outcome c =
    let given : Given = given_by c.args.request in
    put_outcome (IsTexText given 0) (are_tex_texts given 0) NotUtf8 c.put-in_default-from_utf8.result _ (record { old = c.args.out.now; new = c.put-in_default-from_utf8.new.out; needed = c.put-in_default-from_utf8.new.needed }) (refl, c.if-request-gt-ANNOTATION.false, inr (c.in-Ok.ensures.cases.1, c.in_default-from_utf8.ensures.cases.0, refl)) c.put-in_default-from_utf8.ensures

-- both are texts, and what is read of them is reported
pub returns-in-Ok-read-clause-outcome : goal.returns-in-Ok-read-clause-outcome
returns-in-Ok-read-clause-outcome c =
    let given : Given = given_by c.args.request in
    let told = c.in-Ok-read.told in
    let readable : IsReadable given = record { known_flags = c.if-request-gt-ANNOTATION.false; definitions = c.in-Ok.ensures.cases.1; tex = c.in-Ok-from_utf8.ensures.cases.1 } in
    let text = read_text given _ _ told.place told.status _ _ c.in-Ok.ensures.cases.0 c.in-Ok-from_utf8.ensures.cases.0 c.as_str.ensures.value readable c.in-Ok-read.ensures in
    put_outcome (IsTexText given told.place) (are_tex_texts given told.place) told.status c.put-in-Ok-read.result _ (record { old = c.args.out.now; new = c.put-in-Ok-read.new.out; needed = c.put-in-Ok-read.new.needed }) text c.put-in-Ok-read.ensures
