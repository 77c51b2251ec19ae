use Rattle.latex2mathml_tokens.proofs.error.LatexErrorDisplay.fmt.Goals as goal

pub returns-in-UnexpectedToken-clause-writes : goal.returns-in-UnexpectedToken-clause-writes
returns-in-UnexpectedToken-clause-writes g c = rw c.in-UnexpectedToken.is c.write.ensures.writes

pub returns-in-MissingParensethis-clause-writes : goal.returns-in-MissingParensethis-clause-writes
returns-in-MissingParensethis-clause-writes g c =
    rw c.in-MissingParensethis.is c.write-in-MissingParensethis.ensures.writes
