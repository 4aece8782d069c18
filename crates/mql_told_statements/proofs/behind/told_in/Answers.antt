use Rattle.mql_told_statements.proofs.behind.told_in.Goals as goal

pub returns : goal.returns
returns g c =
    let labelled = rw c.in_ok-labels.ensures at c.told_ruled.ensures in
    let inner = rw c.in_ok-parted.ensures.inner at labelled in
    let statics = rw c.in_ok-parted.ensures.statics at inner in
    let broken = rw c.in_ok-parted.ensures.broken at statics in
    let used = rw c.in_ok-parted.ensures.used at broken in
    rw c.line-line.ensures at used
