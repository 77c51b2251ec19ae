use Rattle.std.proofs.Common.{refl}
use Rattle.latex2mathml_uses.proofs.refusal.in_document.Goals as goal

pub returns-in-Ok-clause-dollars : goal.returns-in-Ok-clause-dollars
returns-in-Ok-clause-dollars c =
    (λ e cut. cc, λ none. absurd (none ((c.answers.ensures.for_dollars c.args.document.now).answered _ c.in-Ok.ensures.answer)))

-- a refusal of another kind comes only if there is a cut
pub returns-in-Err-UnexpectedToken-clause-dollars :
    goal.returns-in-Err-UnexpectedToken-clause-dollars
returns-in-Err-UnexpectedToken-clause-dollars c =
    let refused = (c.answers.ensures.for_dollars c.args.document.now).refused _ (rw c.in-Err-UnexpectedToken.field-0-is at c.in-Err-UnexpectedToken.ensures.refusal) in
    (λ e cut. cc, λ none. let same = refused.1 none in cc)

pub returns-in-Err-MissingParensethis-clause-dollars :
    goal.returns-in-Err-MissingParensethis-clause-dollars
returns-in-Err-MissingParensethis-clause-dollars c =
    let refused = (c.answers.ensures.for_dollars c.args.document.now).refused _ (rw c.in-Err-MissingParensethis.field-0-is at c.in-Err-MissingParensethis.ensures.refusal) in
    (λ e cut. cc, λ none. let same = refused.1 none in cc)

pub returns-in-Err-UnknownEnvironment-clause-dollars :
    goal.returns-in-Err-UnknownEnvironment-clause-dollars
returns-in-Err-UnknownEnvironment-clause-dollars c =
    let refused = (c.answers.ensures.for_dollars c.args.document.now).refused _ (rw c.in-Err-UnknownEnvironment.field-0-is at c.in-Err-UnknownEnvironment.ensures.refusal) in
    (λ e cut. cc, λ none. let same = refused.1 none in cc)

pub returns-in-Err-InvalidNumberOfDollarSigns-clause-dollars :
    goal.returns-in-Err-InvalidNumberOfDollarSigns-clause-dollars
returns-in-Err-InvalidNumberOfDollarSigns-clause-dollars c =
    let refused = (c.answers.ensures.for_dollars c.args.document.now).refused _ (rw c.in-Err-InvalidNumberOfDollarSigns.field-0-is at c.in-Err-InvalidNumberOfDollarSigns.ensures.refusal) in
    (λ e. refused.0 refl, λ none. refl)
