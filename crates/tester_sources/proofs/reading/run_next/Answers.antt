use Rattle.tester_sources.proofs.SourceLemmas.{fault_told}
use Rattle.tester_sources.proofs.reading.run_next.Goals as goal

pub returns-in-Err-clause-refused : goal.returns-in-Err-clause-refused
returns-in-Err-clause-refused c = fault_told _ _ _ _ (c.in-Err.ensures.exact c.args.entry.now c.requires.stands) c.fault_status.ensures

pub returns-in-Made-clause-found : goal.returns-in-Made-clause-found
returns-in-Made-clause-found c =
    let e = rw c.in-Made.is at (c.in-Ok.ensures.exact c.args.entry.now c.requires.stands) in
    let f = rw c.in-Made.is at (c.in-Ok.ensures.few c.args.entry.now c.requires.stands) in (e, f)

pub returns-in-Needs-clause-found : goal.returns-in-Needs-clause-found
returns-in-Needs-clause-found c =
    let e = rw c.in-Needs.is at (c.in-Ok.ensures.exact c.args.entry.now c.requires.stands) in
    let f = rw c.in-Needs.is at c.in-Ok.ensures.fits in (e.0, (e.1, f))
