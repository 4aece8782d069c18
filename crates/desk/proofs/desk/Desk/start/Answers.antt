use Rattle.std.proofs.Common.{arith}
use Rattle.desk.proofs.Paying.{begun_last}
use Rattle.desk.proofs.desk.Desk.start.Goals as goal

pub invariant_of-result : goal.invariant_of-result
invariant_of-result g c = (omega arith, λ w. begun_last c.args.spec c.in_ok-books.books.quoted.events c.in_ok-books.ensures.events)
