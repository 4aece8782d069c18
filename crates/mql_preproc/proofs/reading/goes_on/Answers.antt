use Rattle.mql_preproc.proofs.Resuming.{on_added}
use Rattle.mql_preproc.proofs.Advancing.{fits_added}
use Rattle.mql_preproc.proofs.reading.goes_on.Goals as goal

pub returns-clause-stands : goal.returns-clause-stands
returns-clause-stands c = λ entry sources added reading h. on_added entry sources added reading h

pub returns-clause-fits : goal.returns-clause-fits
returns-clause-fits c = λ sources added reading h. fits_added sources added reading h
