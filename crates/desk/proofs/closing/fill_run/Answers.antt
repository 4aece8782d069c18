use Rattle.std.proofs.Common.{rules}
use Rattle.positions.proofs.Lengths.{of_ok}
use Rattle.desk.proofs.Closed.{fill_runs}
use Rattle.desk.proofs.closing.fill_run.Goals as goal

pub returns : goal.returns
returns g c = fill_runs c.args.books.now c.deal.new.self c.args.fill.now tt (c.is_full.ensures.room (search rules)) (of_ok c.deal.result _ (search rules) c.deal.ensures.ok)
