use Rattle.std.proofs.Common.{ap, ℤ}
use Rattle.account.specs.Positions.{open_positions}
use Rattle.account.specs.StopOut.{equity_of}
use Rattle.account.proofs.Kept.{balance_kept}
use Rattle.account.proofs.ledger.equity.Goals as goal

pub equity_of-requires-clause-fits : goal.equity_of-requires-clause-fits
equity_of-requires-clause-fits c =
    rw c.as_slice.ensures.value (rw c.requires.books.held (rw (balance_kept c.args.spec.now c.args.books.now c.requires.books) c.requires.priced.equity))

pub returns : goal.returns
returns c =
    rw c.equity_of.ensures (rw c.as_slice.ensures.value (rw c.requires.books.held
    (ap (λ (z : ℤ). equity_of c.args.spec.now.specs c.args.prices.now z (open_positions c.args.books.now.events.items)) (balance_kept c.args.spec.now c.args.books.now c.requires.books))))
